-- The calls Begin and Write, and how an edit changes. Rests on Outcomes.
use Rattle.std.specs.Prelude.{ℕ, suc, true, cond, List, [], ◌∷◌, map, length, leb, eqb}
use Rattle.types.specs.Limits.{FREE, OPEN}
use Rattle.meaning.specs.Store.{Val, Access, Edit, Store, handle, slot_of, next_generation, edit_at, with_edit, is_of}
use Rattle.meaning.specs.Store.{access_of, names}
use Rattle.types.specs.Replies.{ok, edit}
use Rattle.meaning.specs.Outcomes.{Outcome, replies, Verdict, pass, needs, unless, for_open, has_record, access_room}
use Rattle.types.specs.declared.Pending.TheVariants.{Written}

-- "names an existing record at most once": an access takes the place of the edit's access of that record, or stands
-- first where it has none
unfoldable pub with_access : Edit → Access → Edit
with_access e a =
    record {
      state = e.state;
      generation = e.generation;
      accesses = cond (names e a.rec) (map (λ b. cond (is_of a.rec b) a b) e.accesses) (a ∷ e.accesses);
      point = e.point;
    }

-- "the lowest free slot", where the list starts at slot k, or one more than the last; for free_slot
abbrev pub free_from : ℕ → List Edit → ℕ
free_from k [] = k
free_from k (e ∷ es) = cond (eqb e.state FREE) k (free_from (suc k) es)

-- "each begin takes the lowest free slot": that slot, or one more than there are
abbrev pub free_slot : Store → ℕ
free_slot s = free_from 1 s.edits

-- "raises its generation by one": the slot's edit after a begin, open and with no access
abbrev pub opened_edit : Edit → Edit
opened_edit e = record { state = OPEN; generation = next_generation e.generation; accesses = []; point = 0 }

-- Begin: the store after it, where k is the lowest free slot
unfoldable pub begun : Store → ℕ → Store
begun s k = with_edit s k (opened_edit (edit_at s k))

-- Begin: 13 "no free slot"
unfoldable pub begin_checks : Store → Verdict
begin_checks s = needs (leb (free_slot s) (length s.edits)) 13 pass

-- "Begin gives a handle."
unfoldable pub beginning : Store → Outcome
beginning s =
    let k : ℕ = free_slot s in
    unless s (begin_checks s) (replies (begun s k) (edit (handle (next_generation (edit_at s k).generation) k)))

-- "a second write of the record replaces it": its access after a write; what was read stays
abbrev pub written_access : Edit → ℕ → Val → Access
written_access e r v = record { rec = r; from = (access_of e r).from; value = Written v }

-- Write: the store after it. "No lock."
unfoldable pub written : Store → ℕ → ℕ → Val → Store
written s k r v = with_edit s k (with_access (edit_at s k) (written_access (edit_at s k) r v))

-- Write: 2, 3, 5, 10
unfoldable pub write_checks : Store → ℕ → ℕ → Verdict
write_checks s h r = for_open s h (needs (has_record s r) 5 (needs (access_room s (slot_of h) r) 10 pass))

-- "Write stores a pending value (any 64 bits)", reply `ok`
unfoldable pub writing : ℕ → ℕ → Val → Store → Outcome
writing h r v s = unless s (write_checks s h r) (replies (written s (slot_of h) r v) ok)
