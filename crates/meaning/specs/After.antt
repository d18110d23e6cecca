-- What a granted call leaves to the calls after it, for layers that make one after another: statements. The theorem of
-- each is in proofs/After, under the same name. Rests on Outcomes, Edits, Locking, Ending and Sound.
use Rattle.std.specs.Prelude.{ℕ, ◌≤◌, ◌≡◌, true, false, ◌⊎◌, List}
use Rattle.types.specs.Values.{Val}
use Rattle.types.specs.Replies.{ok, locked, read, commit, nopoint, refusing, refused}
use Rattle.types.specs.declared.Extent.{Extent}
use Rattle.types.specs.declared.Finish.{Finish}
use Rattle.types.specs.declared.Finish.TheVariants.{Settle}
use Rattle.types.specs.declared.Pick.{Pick}
use Rattle.types.specs.declared.Pick.TheVariants.{Named}
use Rattle.types.specs.declared.Point.{Point}
use Rattle.types.specs.Values.{Value}
use Rattle.meaning.specs.Store.{Store}
use Rattle.meaning.specs.Outcomes.{knows, is_open, has_record}
use Rattle.meaning.specs.Edits.{writing}
use Rattle.meaning.specs.Locking.{locking, reading}
use Rattle.meaning.specs.Ending.{committing, aborting}
use Rattle.meaning.specs.Sound.{sound_store}

-- the handle names an edit, and it is open
pub record OpenEdit (s : Store) (h : ℕ) : Type 0 where
  pub known : knows s h ≡ true
  pub still : is_open s h ≡ true

-- after a granted Lock the edit is open, and the record is there
abbrev pub LockLeavesOpen : Type 0
LockLeavesOpen = (s : Store) (h r low high : ℕ) (w : Extent) (a b : ℕ)
    → (locking h r low high w s).reply ≡ locked a b
    → OpenEdit (locking h r low high w s).store h × (has_record (locking h r low high w s).store r ≡ true)

-- a Lock is granted or refused: it has no other reply
abbrev pub LockGrantsOrRefuses : Type 0
LockGrantsOrRefuses = (s : Store) (h r low high : ℕ) (w : Extent)
    → ((n : ℕ) × (more : List ℕ) × ((locking h r low high w s).reply ≡ refusing n more))
    ⊎ ((a : ℕ) × (b : ℕ) × ((locking h r low high w s).reply ≡ locked a b))

-- what was locked lies within what was asked for, and is never nothing
abbrev pub LockIsInside : Type 0
LockIsInside = (s : Store) (h r low high : ℕ) (w : Extent) (a b : ℕ) → sound_store s ≡ true
    → (locking h r low high w s).reply ≡ locked a b
    → (low ≤ a) × (a ≤ b) × (b ≤ high)

-- an open edit's Write of a record that is there lacks nothing but an access row
abbrev pub WriteLacksARow : Type 0
WriteLacksARow = (s : Store) (h r : ℕ) (v : Val) (n : ℕ) (more : List ℕ) → OpenEdit s h → has_record s r ≡ true
    → (writing h r v s).reply ≡ refusing n more
    → n ≡ 10

-- after a new read the edit is open
abbrev pub ReadLeavesOpen : Type 0
ReadLeavesOpen = (s : Store) (h r m : ℕ) (w : Extent) (tr end : ℕ) (v : Value)
    → (reading h r m w s).reply ≡ read tr end v
    → OpenEdit (reading h r m w s).store h

-- the Abort of an open edit is granted; settled, its handle names no edit
abbrev pub AbortEnds : Type 0
AbortEnds = (s : Store) (h : ℕ) → OpenEdit s h
    → ((aborting h Settle s).reply ≡ ok) × (knows (aborting h Settle s).store h ≡ false)

-- a Commit that is not refused, with S, finds a point or none; its handle then names no edit
abbrev pub CommitEnds : Type 0
CommitEnds = (s : Store) (h : ℕ) (pick : Pick) → refused (committing h pick Settle s).reply ≡ false
    → (((committing h pick Settle s).reply ≡ nopoint) ⊎ ((t : ℕ) × ((committing h pick Settle s).reply ≡ commit t)))
    × (knows (committing h pick Settle s).store h ≡ false)

-- a Commit at a named point is made there
abbrev pub CommitsWhereNamed : Type 0
CommitsWhereNamed = (s : Store) (h : ℕ) (p : Point) (f : Finish) (t : ℕ) → (committing h (Named p) f s).reply ≡ commit t
    → t ≡ p.0
