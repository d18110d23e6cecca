-- Document 02, M-105: "Prove the new table equal to the old in meaning". The old table is the calls over the way
-- `plain` to keep locks, the new one the store's calls; the theorem is in proofs/OldTable, under the same name. Rests
-- on Calls and Pointwise.
use Rattle.std.specs.Prelude.{ℕ, ◌≡◌, ◌↔◌, true, List, [], ◌∷◌}
use Rattle.types.specs.Replies.{Reply, purged, refusing}
use Rattle.types.specs.declared.Call.{Call}
use Rattle.meaning.specs.Store.{Counts, Store, rec_at, fresh}
use Rattle.meaning.specs.Points.{plain}
use Rattle.meaning.specs.Outcomes.{Outcome}
use Rattle.meaning.specs.Records.{good_counts}
use Rattle.meaning.specs.Calls.{act_by, act}
use Rattle.meaning.specs.Pointwise.{LockOn}

-- a call on the old table
abbrev pub old_act : Call → Store → Outcome
old_act = act_by plain

-- "every record, point and owner has the same modes"
abbrev pub SameModes : Store → Store → Type 0
SameModes old new = (r o m p : ℕ) → LockOn (rec_at old r).locks o m p ↔ LockOn (rec_at new r).locks o m p

-- "Replies there are equal except that purge counts rows of the joined table."
pub data SameReply : Reply → Reply → Type 0 where
  same : (q : Reply) → SameReply q q
  counts : (v a b : ℕ) → SameReply (purged v a) (purged v b)

-- "after each call": of the old table's reply and store, the new table's, and what holds of the calls after it
pub record Alike (q p : Reply) (old new : Store) (Rest : Type 0) : Type 0 where
  pub reply : SameReply q p
  pub modes : SameModes old new
  pub rest : Rest

-- "run both on the same calls ..., up to but without the first call that the old one refuses with 11"
abbrev pub AlikeAlong : List Call → Store → Store → Type 0
AlikeAlong [] old new = Unit {0}
AlikeAlong (c ∷ cs) old new = ((old_act c old).reply ≡ refusing 11 [] → ⊥)
    → Alike (old_act c old).reply (act c new).reply (old_act c old).store (act c new).store
    (AlikeAlong cs (old_act c old).store (act c new).store)

-- "from the same Format"
abbrev pub NewTableIsOld : Type 0
NewTableIsOld = (c : Counts) → good_counts c ≡ true → (cs : List Call) → AlikeAlong cs (fresh c) (fresh c)
