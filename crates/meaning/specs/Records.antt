-- The calls Purge and View on a record, and Format, which needs no sound store. Rests on Outcomes.
use Rattle.std.specs.Prelude.{ℕ, ◌-◌, Bool, not, cond, ◌&&◌, [], ◌∷◌, length, leb}
use Rattle.meaning.specs.Lists.{any, keep, every}
use Rattle.types.specs.Limits.{LAST, SETTLED, MAX_RECORDS, MAX_EDITS, MAX_ROWS}
use Rattle.meaning.specs.Store.{Version, Counts, Rec, Store, fresh, rec_at, with_rec, newest_at}
use Rattle.meaning.specs.Points.{is_owned, trim_to}
use Rattle.types.specs.Replies.{ok, purged, at, point}
use Rattle.meaning.specs.Outcomes.{Outcome, replies, Verdict, pass, needs, unless, has_record}

-- "versions below v go, settled locks lose their points up to v, rows left empty go, and the floor is v"
unfoldable pub purged_rec : Rec → ℕ → Rec
purged_rec x v =
    record { versions = keep (λ w. leb v w.point) x.versions; locks = trim_to v x.locks; floor = v }

-- 15: "an unsettled edit has a lock on the record at or below v"
unfoldable pub purge_verdict : Rec → ℕ → Verdict
purge_verdict x v = needs (not (any (λ l. not (is_owned SETTLED l) && leb l.low v) x.locks)) 15 pass

-- "If there is none [v is then 0], or v is the floor, the reply is 0 and 0. ... The reply counts version rows and lock
-- rows freed."
unfoldable pub purge_to : Store → ℕ → ℕ → Outcome
purge_to s r v =
    let x : Rec = rec_at s r in
    let y : Rec = purged_rec x v in
    cond (leb v x.floor) (replies s (purged 0 0))
    (unless s (purge_verdict x v)
    (replies (with_rec s r y)
    (purged (length x.versions - length y.versions) (length x.locks - length y.locks))))

-- Purge: 5, 6
unfoldable pub purge_checks : Store → ℕ → ℕ → Verdict
purge_checks s r b = needs (has_record s r) 5 (needs (leb b LAST) 6 pass)

-- "Purge a record to b: v is its newest version at or below b."
unfoldable pub purging : ℕ → ℕ → Store → Outcome
purging r b s = unless s (purge_checks s r b) (purge_to s r (newest_at (rec_at s r).versions b).point)

-- View: 5, 6, 7
unfoldable pub view_checks : Store → ℕ → ℕ → Verdict
view_checks s r p = needs (has_record s r) 5 (needs (leb p LAST) 6 (needs (leb (rec_at s r).floor p) 7 pass))

-- "View a record at p: the newest version at or below p."
unfoldable pub viewing : ℕ → ℕ → Store → Outcome
viewing r p s =
    let v : Version = newest_at (rec_at s r).versions p in
    unless s (view_checks s r p) (replies s (at v.point v.value))

-- 16: "count out of range": a count is from 1 to top
abbrev pub in_range : ℕ → ℕ → Bool
in_range n top = leb 1 n && leb n top

-- "they are in range": the five counts
unfoldable pub good_counts : Counts → Bool
good_counts c =
    every
    (in_range c.records MAX_RECORDS
    ∷ in_range c.edits MAX_EDITS
    ∷ in_range c.versions MAX_ROWS
    ∷ in_range c.locks MAX_ROWS
    ∷ in_range c.accesses MAX_ROWS
    ∷ [])

-- "Format gives 16 alone, whatever the slice held before": "count out of range, or slice length not the sum". Whether
-- the length is the sum is for the words to say: fits
unfoldable pub formatting : Bool → Counts → Store → Outcome
formatting fits c s = unless s (needs (good_counts c && fits) 16 pass) (replies (fresh c) ok)
