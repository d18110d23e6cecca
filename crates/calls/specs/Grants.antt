-- What Lock and Read get of the points that they want: a run of points, or the judgement of the first that is blocked.
-- Rests on Locking of `meaning` and Search of `blocking`.
use Rattle.std.specs.Prelude.{ℕ, ◌≤◌, cond, [], ◌∷◌, Ok, Err, ⊤}
use Rattle.types.specs.Limits.{READ, WRITE, SLOTS}
use Rattle.meaning.specs.Store.{Rec, Store, rec_at}
use Rattle.meaning.specs.Outcomes.{Verdict, refuse, handle_at}
use Rattle.meaning.specs.Locking.{grant_end, lock_from, lock_end, lock_granted, read_granted}
use Rattle.types.specs.declared.Extent.{Extent}
use Rattle.blocking.specs.Search.{Grant, judged}
use Rattle.blocking.specs.declared.Judgement.{Judgement}
use Rattle.blocking.specs.declared.Judgement.TheVariants.{Frozen, Held}

-- Lock, by slot k on record r
unfoldable pub lock_grant : Extent → Store → ℕ → ℕ → ℕ → ℕ → Grant
lock_grant e s k r low high =
    let x : Rec = rec_at s r in
    cond (lock_granted e k x low high) (Ok (lock_from e k x low high, lock_end e k x low high))
    (Err (judged s r WRITE k low high))

-- Read, by slot k on record r
unfoldable pub read_grant : Extent → Store → ℕ → ℕ → ℕ → ℕ → Grant
read_grant e s k r low high =
    let x : Rec = rec_at s r in
    cond (read_granted e k x low high) (Ok (low, grant_end e READ k x low high))
    (Err (judged s r READ k low high))

-- the refusal of a judgement: 9 where the point is frozen, else 8 with the handle of the slot that holds it
unfoldable pub refusal_by : Store → Judgement → Verdict
refusal_by s Frozen = refuse 9 []
refusal_by s (Held o) = refuse 8 (handle_at s o ∷ [])

-- the slot that it names is one
abbrev pub Small : Judgement → Type 0
Small Frozen = ⊤
Small (Held o) = o ≤ SLOTS
