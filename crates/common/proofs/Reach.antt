-- The least distance at or above one of a point that one access allows, as an end sees it. Rests on CommonSet and Spans
-- of the crate `meaning`.
use Prim.Native.Nat.{ℕ, suc, ◌-◌, ◌≤◌, ◌<◌, min, max}
use mathlib.Core.Path.{◌≡◌, refl, sym, ap, ◌∙◌}
use mathlib.Core.Logic.{◌⊎◌, inl, inr}
use mathlib.Core.Bool.{Bool, true, false, cond, ◌&&◌}
use mathlib.Core.List.Memᴰ
use mathlib.Core.List.{List, [], ◌∷◌, map}
use native.Mathlib.Omega.{arith}
use lib.Dec.{leb}
use borrow.Author.Tests.{leb-true, leb-false, le-leb, lt-ltb}
use Rattle.std.specs.List.{fold}
use Rattle.std.specs.Prelude.{Option, None, Some}
use Rattle.std.specs.Bool.{then_some}
use Rattle.std.specs.Option.{unwrap_or}
use Rattle.types.specs.Limits.{LAST}
use Rattle.meaning.specs.Lists.{◌∈◌, keep, least}
use Rattle.meaning.specs.Points.{own, writes, first_free, own_on, allows}
use Rattle.meaning.specs.Store.{Rec, has_read}
use Rattle.types.specs.declared.Lock.{Lock}
use Rattle.types.specs.declared.Access.{Access}
use Rattle.meaning.proofs.Lists.{and_right, keep_in, keep_out, least_default, least_le, least_out, test}
use Rattle.meaning.proofs.Tests.{Covered, unread_in}
use Rattle.meaning.proofs.Spans.{first_free_top, first_free_low}
use Rattle.meaning.proofs.CommonSet.{Parts, parts_out, parts_in}
use Rattle.blocking.specs.Search.{owns_write, upto}
use Rattle.common.specs.Commit.{LeastFrom, NextFrom, allows_at, read_end, start_from, starts_after, first_under}
use Rattle.common.specs.Commit.{nearer, up_from, written_from}
use Rattle.common.specs.Ends.{Sees}
use Rattle.blocking.proofs.Answered.{upto_some, upto_none}
use Rattle.blocking.proofs.Extremes.{fold_least}
use Rattle.blocking.proofs.Free.{own_writes}
use Rattle.meaning.specs.Store.{has_written}

-- the least distance under one of the locks
module _ (point : ℕ → ℕ) (near far : ℕ → ℕ → ℕ) (sees : Sees point near far) where
  module _ (ls : List Lock) (d : ℕ) where
    abbrev starts : List ℕ
    starts = map (start_from near far d) (keep (starts_after near far d) ls)

    record Start : Type 0 where
      pub lock : Lock
      pub member : lock ∈ ls
      pub fits : start_from near far d lock ≤ far lock.low lock.high
      pub starting : start_from near far d lock ≡ first_under near far ls d

    start_out : (first_under near far ls d ≡ suc LAST) ⊎ Start
    unfolding first_under
    start_out = go (least_out (suc LAST) starts)
      where
        go : (first_under near far ls d ≡ suc LAST) ⊎ (first_under near far ls d ∈ starts)
            → (first_under near far ls d ≡ suc LAST) ⊎ Start
        go (inl e) = inl e
        go (inr m) =
            let w = Memᴰ.of_map (start_from near far d) (keep (starts_after near far d) ls) m in
            let k = keep_out (starts_after near far d) ls w.1 in
            inr (record {
              lock = w.0;
              member = k.0;
              fits = leb-true (start_from near far d w.0) (far w.0.low w.0.high) k.1;
              starting = w.2;
            })

    first_under_top : first_under near far ls d ≤ suc LAST
    unfolding first_under
    first_under_top = least_default (suc LAST) starts

    first_under_low : first_under near far ls d ≤ LAST → d ≤ first_under near far ls d
    first_under_low h = go start_out
      where
        go : (first_under near far ls d ≡ suc LAST) ⊎ Start → d ≤ first_under near far ls d
        go (inl e) = absurd (omega arith)
        go (inr w) = omega (arith, w.starting)

    first_under_is : 1 ≤ d → first_under near far ls d ≤ LAST → Covered ls (point (first_under near far ls d))
    first_under_is pos h = go start_out
      where
        go : (first_under near far ls d ≡ suc LAST) ⊎ Start → Covered ls (point (first_under near far ls d))
        go (inl e) = absurd (omega arith)
        go (inr w) =
            let o =
            sees.out w.lock.low w.lock.high (first_under near far ls d) (omega (arith, w.starting)) h
            (omega (arith, w.starting)) (omega (arith, w.starting, w.fits)) in
            record { lock = w.lock; member = w.member; under = record { from = o.0; upto = o.1 } }

    first_under_least : 1 ≤ d → (x : ℕ) → d ≤ x → x < first_under near far ls d → Covered ls (point x) → ⊥
    unfolding first_under
    first_under_least pos x h g b =
        let t = first_under_top in
        let i = sees.into b.lock.low b.lock.high x (omega arith) (omega arith) b.under.from b.under.upto in
        let s : starts_after near far d b.lock ≡ true =
        le-leb (start_from near far d b.lock) (far b.lock.low b.lock.high) (omega (arith, i.0, i.1)) in
        let m : start_from near far d b.lock ∈ starts =
        Memᴰ.map (start_from near far d) (keep_in (starts_after near far d) b.member s) in
        omega (arith, i.0, least_le (suc LAST) m)

  -- over the write locks of slot k, as the code walks them
  module _ (k d : ℕ) where
    abbrev asked : Lock → Bool
    asked l = owns_write k l && starts_after near far d l

    abbrev value : Lock → ℕ
    value l = start_from near far d l

    turn : (b : ℕ) (l : Lock) → nearer near far k d (upto LAST b) l ≡ upto LAST (cond (asked l) (min b (value l)) b)
    turn b l = go (test (asked l)) (test (leb b LAST))
      where
        go : (asked l ≡ true) ⊎ (asked l ≡ false) → (leb b LAST ≡ true) ⊎ (leb b LAST ≡ false)
            → nearer near far k d (upto LAST b) l ≡ upto LAST (cond (asked l) (min b (value l)) b)
        go (inr e) t = rw e refl
        go (inl e) (inl t) =
            let below = leb-true b LAST t in
            rw (e, t, le-leb (min b (value l)) LAST (omega arith)) refl
        go (inl e) (inr t) =
            let above = leb-false b LAST t in
            let top = sees.top l.low l.high in
            let in-it =
            leb-true (value l) (far l.low l.high) (and_right (owns_write k l) (starts_after near far d l) e) in
            let m : min b (value l) ≡ value l = omega arith in
            rw (e, t, m, le-leb (value l) LAST (omega arith)) refl

    fold_turns : (b : ℕ) (ls : List Lock)
        → fold (nearer near far k d) (upto LAST b) ls
        ≡ upto LAST (fold (λ b l. cond (asked l) (min b (value l)) b) b ls)
    fold_turns b [] = refl
    fold_turns b (l ∷ ls) =
        ap (λ y. fold (nearer near far k d) y ls) (turn b l) ∙ fold_turns (cond (asked l) (min b (value l)) b) ls

    none_past : None ≡ upto LAST (suc LAST)
    none_past = refl

    pub first_under_own : (ls : List Lock)
        → fold (nearer near far k d) None ls ≡ upto LAST (first_under near far (writes (own k ls)) d)
    unfolding first_under
    first_under_own ls =
        ap (λ y. fold (nearer near far k d) y ls) none_past ∙ fold_turns (suc LAST) ls
        ∙ ap (upto LAST) (fold_least (starts_after near far d) (owns_write k) value (suc LAST) ls
        ∙ ap (λ ys. least (suc LAST) (map value (keep (starts_after near far d) ys))) (sym (own_writes k ls)))

pub has_read_lem : (a : Access) → (a.from ≡ 0 → ⊥) → has_read a ≡ true
has_read_lem a n = lt-ltb 0 a.from (omega arith)

-- the end of what was read
module _ (ls : List Lock) (a : Access) where
  pub read_end_none : a.from ≡ 0 → suc LAST ≡ read_end ls a
  unfolding read_end
  read_end_none e = rw (unread_in a e) refl

  pub read_end_is : {q : ℕ} → (a.from ≡ 0 → ⊥) → q ≡ first_free ls a.from LAST → q ≡ read_end ls a
  unfolding read_end
  read_end_is n d = rw (has_read_lem a n) d

  end_in : {x : ℕ} → x < read_end ls a → has_read a ≡ true → x < first_free ls a.from LAST
  unfolding read_end
  end_in l h = rw h at l

  end_by : {x : ℕ} → x ≤ LAST → Parts ls a x → x < read_end ls a
  unfolding read_end
  end_by {x} l w = go (has_read a) refl
    where
      go : (b : Bool) → has_read a ≡ b → x < cond b (first_free ls a.from LAST) (suc LAST)
      go true e = w.upto e
      go false e = omega arith

-- the last point that was read, from the first free one
module _ (ls : List Lock) (a : Access) (read : a.from ≡ 0 → ⊥) (early : a.from ≤ LAST) where
  -- the point found, or LAST + 1 where there is none
  read_free : (o : Option ℕ) → o ≡ upto LAST (first_free ls a.from LAST) → (1 ≤ unwrap_or o (suc LAST))
      × (unwrap_or o (suc LAST) ≡ read_end ls a)
  read_free None e = (
    omega arith,
    read_end_is ls a read
        (omega (arith, upto_none LAST (first_free ls a.from LAST) e, first_free_top ls a.from LAST)),
  )
  read_free (Some f) e =
      let s = upto_some LAST (first_free ls a.from LAST) e in (
        omega (arith, read, s.0, first_free_low ls a.from LAST (omega arith)),
        read_end_is ls a read (omega (arith, s.0)),
      )

  pub read_up : {q : ℕ} {o : Option ℕ} → q ≡ unwrap_or o (suc LAST) → o ≡ upto LAST (first_free ls a.from LAST)
      → (1 ≤ q) × (suc (q - 1) ≡ read_end ls a)
  read_up d e = let i = read_free _ e in (omega (arith, d, i.0), omega (arith, d, i.0, i.1))

-- written to or not: the point at the distance that up_from leads to is allowed as written, and none before it
module _ (point : ℕ → ℕ) (near far : ℕ → ℕ → ℕ) (sees : Sees point near far) (ls : List Lock) (a : Access) (d : ℕ) where
  abbrev led : ℕ
  led = up_from near far ls a d

  up_low : led ≤ LAST → d ≤ led
  up_low h = go (has_written a) h
    where
      go : (b : Bool) → cond b (first_under near far (writes ls) d) d ≤ LAST
          → d ≤ cond b (first_under near far (writes ls) d) d
      go true l = first_under_low point near far sees (writes ls) d l
      go false l = omega arith

  up_written : 1 ≤ d → led ≤ LAST → has_written a ≡ true → Covered (writes ls) (point led)
  up_written pos h e = rw e (first_under_is point near far sees (writes ls) d pos (rw e at h))

  up_none : 1 ≤ d → (x : ℕ) → d ≤ x → x < led → Parts ls a (point x) → ⊥
  up_none pos x h g w = go (has_written a) refl g
    where
      go : (b : Bool) → has_written a ≡ b → x < cond b (first_under near far (writes ls) d) d → ⊥
      go true e y = first_under_least point near far sees (writes ls) d pos x h y (w.written e)
      go false e y = omega arith

  -- the answer of the code, and what is asked where a is written
  pub led_to : {q : ℕ} → Some q ≡ written_from near far ls a d → q ≡ led
  led_to {q} e = go (has_written a) e
    where
      go : (b : Bool) → Some q ≡ cond {A = Option ℕ} b (upto LAST (first_under near far (writes ls) d)) (Some d)
          → q ≡ cond b (first_under near far (writes ls) d) d
      go true f = (upto_some LAST (first_under near far (writes ls) d) f).0
      go false f = cc

  pub led_nowhere : None ≡ written_from near far ls a d → LAST < led
  led_nowhere e = go (has_written a) e
    where
      go : (b : Bool) → None ≡ cond {A = Option ℕ} b (upto LAST (first_under near far (writes ls) d)) (Some d)
          → LAST < cond b (first_under near far (writes ls) d) d
      go true f = upto_none LAST (first_under near far (writes ls) d) f
      go false f = absurd (let z : ◌≡◌ {A = ℕ} 0 1 = cc in omega arith)

-- one access
module _ (point : ℕ → ℕ) (near far : ℕ → ℕ → ℕ) (sees : Sees point near far) (rs : List Rec) (k : ℕ) (a : Access)
    (d : ℕ) (pos : 1 ≤ d) (top : d ≤ LAST) where
  abbrev ls : List Lock
  ls = own_on rs k a

  abbrev set : ℕ → Bool
  set x = allows_at point rs k x a

  parts : {x : ℕ} → set x ≡ true → Parts ls a (point x)
  unfolding allows
  parts {x} e = parts_out ls a (point x) e

  allowed : {x : ℕ} → Parts ls a (point x) → set x ≡ true
  unfolding allows
  allowed {x} w = parts_in ls a (point x) w

  none_from : ((x : ℕ) → d ≤ x → x ≤ LAST → Parts ls a (point x) → ⊥) → LeastFrom set d (suc LAST)
  none_from f =
      record {
        from = omega arith;
        top = omega arith;
        inside = λ g. absurd (omega arith);
        least = λ x g h e. f x g (omega arith) (parts e);
      }

  pub read_late : LAST < a.from → LeastFrom set d (suc LAST)
  read_late h = none_from (λ x f g w. omega (arith, w.from, sees.within x (omega arith) g))

  -- no point from its start on is as far away
  pub read_past : far a.from LAST < d → LeastFrom set d (suc LAST)
  read_past h =
      none_from (λ x f g w. omega
      (arith, (sees.into a.from LAST x (omega arith) g w.from (sees.within x (omega arith) g)).1))

  module _ (early : a.from ≤ LAST) (last : ℕ) (r : suc last ≡ read_end ls a) {low : ℕ}
      (m : low ≡ max d (near a.from last)) where
    -- a point that it allows is one that its reads allow
    seen : (x : ℕ) → d ≤ x → x ≤ LAST → Parts ls a (point x) → (low ≤ x) × (x ≤ far a.from last)
    seen x f g w =
        let e = end_by ls a {x = point x} (sees.within x (omega arith) g) w in
        let i = sees.into a.from last x (omega arith) g w.from (omega (arith, r)) in
        (omega (arith, i.0), i.1)

    abbrev q : ℕ
    q = up_from near far ls a low

    pub reads_miss : far a.from last < q → LeastFrom set d (suc LAST)
    reads_miss h =
        none_from (λ x f g w. (let i = seen x f g w in
        up_none point near far sees ls a low (omega arith) x i.0 (omega (arith, i.1)) w))

    pub reads_hit : q ≤ far a.from last → LeastFrom set d q × (q ≤ LAST)
    reads_hit h =
        let t = sees.top a.from last in
        let lower : low ≤ q = up_low point near far sees ls a low (omega arith) in
        let o = sees.out a.from last q (omega arith) (omega arith) (omega arith) h in (
          record {
            from = omega arith;
            top = omega arith;
            inside = λ g. allowed (record {
              written = up_written point near far sees ls a low (omega arith) (omega arith);
              from = o.0;
              upto = end_in ls a (omega (arith, o.1, r));
            });
            least = λ x f g e.
                let w = parts e in
                up_none point near far sees ls a low (omega arith) x (seen x f (omega arith) w).0 g w;
          },
          omega arith,
        )

    pub reads_led : {x : ℕ} → Some x ≡ written_from near far ls a low
        → NextFrom set d (then_some (leb x (far a.from last)) x)
    reads_led {x} e = let s = led_to point near far sees ls a low e in go s (test (leb x (far a.from last)))
      where
        go : x ≡ q → (leb x (far a.from last) ≡ true) ⊎ (leb x (far a.from last) ≡ false)
            → NextFrom set d (then_some (leb x (far a.from last)) x)
        go s (inl t) = rw (t, s) (reads_hit (omega (arith, leb-true x (far a.from last) t)))
        go s (inr t) = rw t (reads_miss (omega (arith, leb-false x (far a.from last) t)))

    pub reads_nowhere : None ≡ written_from near far ls a low → LeastFrom set d (suc LAST)
    reads_nowhere e =
        let t = sees.top a.from last in
        reads_miss (omega (arith, led_nowhere point near far sees ls a low e))
