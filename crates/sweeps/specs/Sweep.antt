-- One pass along the locks of a record: what it keeps of those behind it, and what it tests at each lock. Rests on
-- Points of the crate `meaning`.
use Rattle.std.specs.Prelude.{ℕ, ◌-◌, max, Bool, true, not, cond, ◌&&◌, ◌||◌, List, [], ◌∷◌, leb, ltb, eqb}
use Rattle.std.specs.Prelude.{Option, None, Some}
use Rattle.std.specs.Option.{option_map_or}
use Rattle.types.specs.declared.Lock.{Lock}
use Rattle.meaning.specs.Points.{is_write, is_settled_read}
use Rattle.sweeps.specs.declared.End.{End}
use Rattle.sweeps.specs.declared.Reach.{Reach}
use Rattle.sweeps.specs.declared.Swept.{Swept}

-- the higher of an end, if there is one, and another; and whether it lies below a point
abbrev pub later : Option ℕ → ℕ → ℕ
later end high = option_map_or (λ x. max x high) end high

abbrev pub below : Option ℕ → ℕ → Bool
below end p = option_map_or (λ x. ltb x p) end true

-- how far the locks of owners other than k reach
abbrev pub beside : Option End → Option ℕ → ℕ → Option ℕ
beside None other k = other
beside (Some end) other k = cond (eqb end.owner k) other (Some end.high)

unfoldable pub others : Reach → ℕ → Option ℕ
others s k = beside s.last s.other k

-- with one lock more, of owner k and up to high
abbrev pub with_end : Option End → Option ℕ → ℕ → ℕ → Reach
with_end None other k high = record { last = Some (record { high = high; owner = k }); other = other }
with_end (Some end) other k high =
    cond (eqb end.owner k)
    (record { last = Some (record { high = max end.high high; owner = end.owner }); other = other })
    (cond (ltb end.high high)
    (record { last = Some (record { high = high; owner = k }); other = Some end.high })
    (record { last = Some end; other = Some (later other high) }))

unfoldable pub reached : Reach → ℕ → ℕ → Reach
reached s k high = with_end s.last s.other k high

-- before the first lock
abbrev pub no_reach : Reach
no_reach = record { last = None; other = None }

abbrev pub no_swept : Swept
no_swept = record { low = 0; joined = None; all = no_reach; writes = no_reach }

-- a lock after those that were passed: it starts no earlier than the last of them
abbrev pub rises_now : Swept → Lock → Bool
rises_now s l = leb s.low l.low

-- a settled read lock leaves a gap of at least one point after the settled read locks that were passed, and point 0
-- is before all of them
unfoldable pub joined_now : Swept → Lock → Bool
joined_now s l = not (is_settled_read l) || (ltb 0 l.low && below s.joined (l.low - 1))

-- a write lock starts after all locks of other owners, a read lock after their write locks
unfoldable pub agrees_now : Swept → Lock → Bool
agrees_now s l = below (others (cond (is_write l) s.all s.writes) l.owner) l.low

abbrev pub swept_now : Swept → Lock → Bool
swept_now s l = rises_now s l && (joined_now s l && agrees_now s l)

-- what is kept after one lock more
abbrev pub passed_writes : Reach → Lock → Reach
passed_writes s l = cond (is_write l) (reached s l.owner l.high) s

abbrev pub passed_joined : Option ℕ → Lock → Option ℕ
passed_joined end l = cond (is_settled_read l) (Some (later end l.high)) end

unfoldable pub passed : Swept → Lock → Swept
passed s l =
    record {
      low = l.low;
      joined = passed_joined s.joined l;
      all = reached s.all l.owner l.high;
      writes = passed_writes s.writes l;
    }

-- every lock from here on passes this test
unfoldable pub passing : (Swept → Lock → Bool) → Swept → List Lock → Bool
passing now s [] = true
passing now s (l ∷ ls) = now s l && passing now (passed s l) ls
