-- What is left of a call once its first tests have passed. Rests on the definitions of `meaning`.
use Rattle.std.specs.Prelude.{ℕ, ◌-◌, ◌≡◌, true, Bool, not, ◌&&◌, List, leb, length, Option, None, Some, ⊤}
use Rattle.meaning.specs.Lists.{any}
use Rattle.types.specs.Limits.{SETTLED}
use Rattle.types.specs.declared.Lock.{Lock}
use Rattle.meaning.specs.Store.{Rec, Store, rec_at, with_rec, edit_at}
use Rattle.meaning.specs.Points.{is_owned, in_common}
use Rattle.meaning.specs.Records.{purged_rec}
use Rattle.types.specs.Replies.{commit, nopoint, purged}
use Rattle.meaning.specs.Outcomes.{Outcome, replies, pass, needs, unless, version_room}
use Rattle.meaning.specs.Ending.{finished, committed, aborted}
use Rattle.types.specs.declared.Finish.{Finish}

-- Commit, by the open edit of slot k, at the point t of its common set: 12
unfoldable pub commit_at : Store → ℕ → ℕ → Finish → Outcome
commit_at s k t f = unless s (needs (version_room s k) 12 pass) (replies (finished f (committed s k t) k) (commit t))

-- Commit, by the open edit of slot k, at a point of its common set, or without one: the edit is then aborted
abbrev pub CommonAt : Store → ℕ → Option ℕ → Type 0
CommonAt s k None = ⊤
CommonAt s k (Some t) = in_common s.records k (edit_at s k) t ≡ true

abbrev pub commit_at_or_none : Store → ℕ → Option ℕ → Finish → Outcome
commit_at_or_none s k None f = replies (finished f (aborted s k) k) nopoint
commit_at_or_none s k (Some t) f = commit_at s k t f

-- Purge: 15, "an unsettled edit has a lock on the record at or below v", and the store after it
unfoldable pub locked_below : ℕ → List Lock → Bool
locked_below v ls = any (λ l. not (is_owned SETTLED l) && leb l.low v) ls

unfoldable pub purged_to : Store → ℕ → ℕ → Store
purged_to s r v = with_rec s r (purged_rec (rec_at s r) v)

-- Purge with no lock in the way: "The reply counts version rows and lock rows freed"
unfoldable pub purge_all : Store → ℕ → ℕ → Outcome
purge_all s r v =
    let x : Rec = rec_at s r in
    let y : Rec = purged_rec x v in
    replies (purged_to s r v)
    (purged (length x.versions - length y.versions) (length x.locks - length y.locks))
