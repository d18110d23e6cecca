-- Searches over a record's locks, as the code makes them: which locks a search is about, own ones or those that block,
-- what one walk of them finds, and where it may stop because the locks rise. Rests on Points of the crate `meaning` and
-- on Decode of the crate `tables`.
use Rattle.std.specs.Prelude.{ℕ, suc, ◌<◌, min, max, ◌≡◌, Bool, true, cond, ◌&&◌, ◌||◌, List, [], ◌∷◌, leb, ltb}
use Rattle.std.specs.Prelude.{Option, None, Some, Result, Ok, Err}
use Rattle.std.specs.Bool.{then_some}
use Rattle.types.specs.Limits.{SLOTS}
use Rattle.meaning.specs.Lists.{keep, pairwise}
use Rattle.meaning.specs.Points.{is_write, is_owned, meets, blocks, first_blocked, frozen, holder, no_later}
use Rattle.meaning.specs.Store.{Rec, Store, rec_at}
use Rattle.meaning.specs.Locking.{grant_end}
use Rattle.types.specs.declared.Lock.{Lock}
use Rattle.types.specs.declared.Counts.{Counts}
use Rattle.types.specs.declared.Extent.{Extent}
use Rattle.types.specs.declared.Extent.TheVariants.{All, Part}
use Rattle.tables.specs.Decode.{record_at}
use Rattle.tables.specs.declared.views.Record.{Record}
use Rattle.blocking.specs.declared.Which.{Which}
use Rattle.blocking.specs.declared.Which.TheVariants.{Own, Against}
use Rattle.blocking.specs.declared.Judgement.{Judgement}
use Rattle.blocking.specs.declared.Judgement.TheVariants.{Frozen, Held}
use Rattle.blocking.specs.declared.Blocked.{Blocked}
use Rattle.blocking.specs.declared.Start.{Start}

-- record r's locks rise, and those of every record: what the searches that stop early ask for
abbrev pub Rises : Counts → List ℕ → ℕ → Type 0
Rises c w r = pairwise no_later (record_at c w r).locks ≡ true

abbrev pub AllRise : Counts → List ℕ → Type 0
AllRise c w = (r : ℕ) → r < c.records → Rises c w r

abbrev pub Rising : Record → Type 0
Rising r = Rises r.tables.counts r.tables.words.now r.number

-- the locks of a slot, or those of others that are in the way of an asker
unfoldable pub counts : Which → Lock → Bool
counts (Own k) l = is_owned k l
counts (Against a) l = blocks a.mode a.slot l

unfoldable pub counted : Which → List Lock → List Lock
counted which ls = keep (counts which) ls

-- a point up to high, from the functions of `meaning` that answer one more for none
abbrev pub upto : ℕ → ℕ → Option ℕ
upto high p = then_some (leb p high) p

-- the write locks of slot k
abbrev pub owns_write : ℕ → Lock → Bool
owns_write k l = is_owned k l && is_write l

-- one turn of the search for a free point up to high, every point before end under a lock and l started by end: if l
-- counts and the end lies in it, the end goes to just after it
unfoldable pub further : Which → ℕ → ℕ → Lock → ℕ
further which high end l = cond (counts which l && leb end l.high) (suc (min high l.high)) end

-- the walk for a free point stops at l: no point is left, or l, and with it each later lock, starts beyond the end
abbrev pub stops : ℕ → ℕ → Lock → Bool
stops high end l = ltb high end || ltb end l.low

unfoldable pub reach : Which → ℕ → ℕ → List Lock → ℕ
reach which high end [] = end
reach which high end (l ∷ ls) = cond (stops high end l) end (reach which high (further which high end l) ls)

-- one turn of the search for the first blocked point: of the best start so far and the next the nearer one, of those as
-- near the one of the lowest owner
abbrev pub joined : Option Start → Start → Start
joined None n = n
joined (Some b) n =
    cond (ltb b.point n.point) b (cond (ltb n.point b.point) n (cond (ltb b.owner n.owner) b n))

-- where a lock starts among the points from low on
abbrev pub start : ℕ → Lock → Start
start low l = record { point = max low l.low; owner = min SLOTS l.owner }

unfoldable pub nearer : ℕ → ℕ → ℕ → ℕ → Option Start → Lock → Option Start
nearer mode k low high b l = cond (blocks mode k l && meets low high l) (Some (joined b (start low l))) b

-- the walk of the locks with b so far, which stops at a lock that starts beyond the point found: no later one is nearer
-- or as near; where none is found, at one that starts beyond the points up to high: no later one meets them
abbrev pub beyond : ℕ → Option Start → Lock → Bool
beyond high None l = ltb high l.low
beyond high (Some b) l = ltb b.point l.low

unfoldable pub nearest : ℕ → ℕ → ℕ → ℕ → Option Start → List Lock → Option Start
nearest mode k low high b [] = b
nearest mode k low high b (l ∷ ls) =
    cond (beyond high b l) b (nearest mode k low high (nearer mode k low high b l) ls)

-- why slot k is blocked at p: p is frozen, or held by the lowest slot
unfoldable pub judgement_at : Store → ℕ → ℕ → ℕ → ℕ → Judgement
judgement_at s r mode k p = cond (frozen s r mode p) Frozen (Held (holder mode k (rec_at s r) p))

-- the least blocked point of low..high with its judgement, where there is one
abbrev pub judged : Store → ℕ → ℕ → ℕ → ℕ → ℕ → Blocked
judged s r mode k low high =
    let p : ℕ = first_blocked mode k (rec_at s r) low high in
    record { point = p; judgement = judgement_at s r mode k p }

unfoldable pub first_judged : Store → ℕ → ℕ → ℕ → ℕ → ℕ → Option Blocked
first_judged s r mode k low high =
    then_some (leb (first_blocked mode k (rec_at s r) low high) high) (judged s r mode k low high)

-- what is had of low..high from low on: a run of points, its first and its last, or the judgement of the first blocked
-- one. All points or none; or those before the first blocked one, if low is not
abbrev pub Grant : Type 0
Grant = Result (ℕ × ℕ) Blocked

abbrev pub run_granted : Extent → ℕ → ℕ → Rec → ℕ → ℕ → Bool
run_granted All mode k x low high = ltb high (first_blocked mode k x low high)
run_granted Part mode k x low high = ltb low (first_blocked mode k x low high)

unfoldable pub run_grant : Extent → Store → ℕ → ℕ → ℕ → ℕ → ℕ → Grant
run_grant e s r mode k low high =
    cond (run_granted e mode k (rec_at s r) low high) (Ok (low, grant_end e mode k (rec_at s r) low high))
    (Err (judged s r mode k low high))
