-- Demand 3 for the calls of the crate meaning (`store_serializable`): every list of calls on a fresh store is a run of
-- the serial core, and the newest value there is the one that View at LAST replies. Rests on the files of calls and on
-- the theorems of the crate serial.
use Prim.Native.Nat.{ℕ, zero, suc, ◌≤◌, ◌<◌}
use native.Mathlib.Omega.{arith}
use mathlib.Core.Path.{◌≡◌, refl, ap, ◌∙◌, subst}
use mathlib.Core.Bool.{true}
use mathlib.Core.Option.{Option, some, none}
use mathlib.Core.List.Memᴰ
use mathlib.Core.List.{List, [], ◌∷◌}
use lib.ListN.{length, replicate, length-replicate}
use Rattle.meaning.specs.Lists.{◌∈◌}
use Rattle.types.specs.Limits.{LAST}
use Rattle.meaning.specs.Store.{Rec, Edit, Store, fresh, fresh_rec, fresh_edit, edit_of, rec_of, rec_at, newest_at}
use Rattle.types.specs.Values.{Val}
use Rattle.types.specs.Replies.{at}
use Rattle.meaning.specs.Records.{good_counts, viewing}
use Rattle.meaning.specs.Calls.{act, act_by, run, run_by, after, after_by}
use Rattle.meaning.specs.Pointwise.{NewestIs, none, one}
use Rattle.types.specs.Values.{Value}
use Rattle.types.specs.declared.Version.{Version}
use Rattle.types.specs.declared.Counts.{Counts}
use Rattle.types.specs.declared.Call.{Call}
use Rattle.types.specs.declared.Call.TheVariants as C
use Rattle.meaning.proofs.Newest.{newest_at_is, falls_once}
use Rattle.meaning.proofs.SoundParts.{get_d_replicate}
use Rattle.meaning.proofs.Laws.{fresh_is_sound, calls_keep_sound}
use Rattle.serial.specs.Serializable.{ε, ◌▸◌, History, plain_end, Newest}
use Rattle.serial.proofs.Slots.{SoundSlots}
use Rattle.serial.proofs.Slots as Slots
use Rattle.serial.proofs.SlotRuns.{by_edit, slot_runs}
use Rattle.serial.proofs.Serializability.{serializable, point_is_one}
use Rattle.serial.proofs.Order.{order_exists}
use Rattle.history.specs.Heard.{shown_value, heard, heard_after}
use Rattle.history.specs.Statement.{replied, StoreSerializable, StoreOrderExists, StorePointIsOne}
use Rattle.history.proofs.StoreSlots.{slots}
use Rattle.history.proofs.EveryCall.{call_keeps}
use Rattle.history.proofs.Valued.{fresh_valued, valued_kept, Records, records_kept}
use Rattle.history.proofs.CallRuns.{Runs, Good, good_facts, good_slots, Continues}
use Rattle.history.proofs.Viewing.{view_granted}
use Rattle.history.proofs.Simple.{begin_continues, write_continues, lock_continues, view_continues}
use Rattle.history.proofs.Reading.{read_continues}
use Rattle.history.proofs.Ending.{commit_continues, abort_continues, settle_continues}
use Rattle.history.proofs.Purging.{purge_continues}

call_good : (c : Call) (s : Store) → Good s → Good (act c s).store
call_good c s g =
    record { holds = calls_keep_sound c s g.holds; valued = call_keeps valued_kept c s (λ r b e. tt) g.valued }

-- every call goes on with the run
call_continues : {l : History Val} (c : Call) (s : Store) → Good s → Runs l s → SoundSlots (slots (act c s).store)
    → Continues l c (act c s)
unfolding act_by
call_continues C.Begin s g r S = begin_continues s r S
call_continues (C.Write h k v) s g r S = write_continues h k v s r S
call_continues (C.Lock h k low high w) s g r S = lock_continues h k low high w s r S
call_continues (C.Read h k m w) s g r S = read_continues h k m w s g r S
call_continues (C.Commit h pick f) s g r S = commit_continues h s g r pick f S
call_continues (C.Abort h f) s g r S = abort_continues h s g r f S
call_continues (C.Settle h) s g r S = settle_continues h s g r S
call_continues (C.Purge k b) s g r S = purge_continues k b s r S
call_continues (C.View k p) s g r S = view_continues k p s r S

-- the store that a list of calls leaves
pub record Left (n : ℕ) (l : History Val) (s : Store) : Type 1 where
  pub good : Good s
  pub count : Records n s
  pub runs : Runs l s

pub call_left : {n : ℕ} {l : History Val} (c : Call) (s : Store) → Left n l s
    → Left n (l ▸ heard c (act c s).reply) (act c s).store
call_left {n} c s g =
    let h = call_good c s g.good in
    record {
      good = h;
      count = call_keeps (records_kept n) c s (λ r b e. tt) g.count;
      runs = call_continues c s g.good g.runs (good_slots h);
    }

list_left : {n : ℕ} {l : History Val} (cs : List Call) (s : Store) → Left n l s
    → Left n (heard_after l cs (run cs s)) (after cs s)
unfolding run_by after_by
list_left [] s g = g
list_left {l = l} (c ∷ cs) s g =
    list_left {l = l ▸ heard c (act c s).reply} cs (act c s).store (call_left c s g)

pub fresh_left : (c : Counts) → good_counts c ≡ true → Left c.records ε (fresh c)
unfolding rec_of edit_of
fresh_left c g =
    record { good = h; count = length-replicate c.records fresh_rec; runs = Slots.fresh free empty (good_slots h) }
  where
    h : Good (fresh c)
    h = record { holds = fresh_is_sound c g; valued = fresh_valued c }

    free : (k : ℕ) → (edit_of (replicate c.edits fresh_edit) k).state ≡ 0
    free zero = refl
    free (suc i) = ap (λ (e : Edit). e.state) (get_d_replicate c.edits i fresh_edit)

    empty : (r p : ℕ) (v : Val) → ¬ (slots (fresh c)).version r p v
    empty r p v w =
        Memᴰ.not-nil
        (subst (λ (x : Rec). w.version ∈ x.versions) (get_d_replicate c.records r fresh_rec) w.member)

-- View at LAST
module _ (l : History Val) (s : Store) (good : Good s) (r : ℕ) where
  abbrev newest : Version
  newest = newest_at (rec_at s r).versions LAST

  abbrev Stands : ℕ → Val → Type 0
  Stands p v = (slots s).version r p v

  below : (w : Version) → w ∈ (rec_at s r).versions → w.point < suc LAST
  below w m = omega (arith, ((good_facts good).recs r).high w m)

  floor_below : (rec_at s r).floor ≤ LAST
  floor_below = go (rec_at s r).floor refl
    where
      go : (f : ℕ) → (rec_at s r).floor ≡ f → (rec_at s r).floor ≤ LAST
      go zero q = omega (arith, q)
      go (suc f) q =
          let b = ((good_facts good).recs r).base (omega (arith, q)) in
          omega (arith, b.stands, ((good_facts good).recs r).high b.version b.member)

  view_last : r < length s.records → (viewing r LAST s).reply ≡ at newest.point newest.value
  view_last h = view_granted s r LAST h (omega arith) floor_below

  -- the newest value of the core is the value of the newest version
  value_is : (x : Option Val) → Newest (by_edit l (slots s)) r x → NewestIs (rec_at s r).versions (suc LAST) newest
      → newest.value ≡ shown_value x
  value_is none f (none q g) = ap (λ (v : Version). v.value) q
  value_is none f (one m b g) =
      let v = good.valued r newest m in
      absurd (f newest.point v.0 (record { version = newest; member = m; stands = refl; value = v.1 }))
  value_is (some y) (p, w, top) (none q g) =
      absurd (omega (arith, g w.version w.member, below w.version w.member))
  value_is (some y) (p, w, top) (one m b g) =
      let v = good.valued r newest m in
      let a = top newest.point v.0 (record { version = newest; member = m; stands = refl; value = v.1 }) in
      let c = g w.version w.member (below w.version w.member) in
      let same =
      falls_once (rec_at s r) ((good_facts good).recs r).falls m w.member (omega (arith, a, c, w.stands)) in
      ap (λ (u : Version). u.value) same ∙ w.value

  view_newest : (x : Option Val) → Newest (by_edit l (slots s)) r x → r < length s.records
      → (p : ℕ) × ((viewing r LAST s).reply ≡ at p (shown_value x))
  view_newest x f h = (
    newest.point,
    view_last h ∙ ap (λ (v : Value). at newest.point v)
        (value_is x f (newest_at_is (rec_at s r) LAST ((good_facts good).recs r).falls)),
  )

abbrev end_of : (counts : Counts) → List Call → Store
end_of counts cs = after cs (fresh counts)

left_at : (counts : Counts) (cs : List Call) → good_counts counts ≡ true
    → Left counts.records (replied counts cs) (end_of counts cs)
left_at counts cs g = list_left cs (fresh counts) (fresh_left counts g)

pub store_serializable : StoreSerializable
store_serializable counts cs g o order =
    let e = left_at counts cs g in
    let p =
    serializable Val (replied counts cs) (by_edit (replied counts cs) (slots (end_of counts cs))) (slot_runs e.runs) o
    order in
    record {
      reads = p.reads;
      newest =
          λ r h. view_newest (replied counts cs) (end_of counts cs) e.good r (plain_end (replied counts cs) o r)
          (p.newest r) (omega (arith, e.count));
    }

pub store_order_exists : StoreOrderExists
store_order_exists counts cs g =
    order_exists Val (replied counts cs) (by_edit (replied counts cs) (slots (end_of counts cs)))
    (slot_runs (left_at counts cs g).runs)

pub store_point_is_one : StorePointIsOne
store_point_is_one counts cs g =
    point_is_one Val (replied counts cs) (by_edit (replied counts cs) (slots (end_of counts cs)))
    (slot_runs (left_at counts cs g).runs)
