-- The judgement of the first blocked point, from what one walk of the locks found there: frozen, or held by the lowest
-- slot. Rests on Near and on Points of the crate `meaning`.
use Prim.Native.Nat.{ℕ, suc, ◌≤◌, ◌<◌, min, max}
use mathlib.Core.Path.{◌≡◌, refl, sym, ap, ◌∙◌}
use mathlib.Core.Logic.{◌⊎◌, inl, inr}
use mathlib.Core.Bool.{Bool, true, false, ◌||◌}
use mathlib.Core.List.Memᴰ
use mathlib.Core.List.{List, map}
use native.Mathlib.Omega.{arith}
use lib.Dec.{eqb}
use borrow.Author.Tests.{le-leb, lt-leb, eqb-true, eq-eqb}
use Rattle.std.specs.Prelude.{Option, None, Some}
use Rattle.types.specs.Limits.{SLOTS, SETTLED}
use Rattle.meaning.specs.Lists.{◌∈◌, any, keep, least, pairwise}
use Rattle.meaning.specs.Points.{covers, meets, blocks, blockers, first_covered, first_blocked, frozen, holder}
use Rattle.meaning.specs.Points.{no_later}
use Rattle.meaning.specs.Pointwise.{Proper, SettledOn}
use Rattle.meaning.specs.Pointwise.{Frozen as FrozenAt}
use Rattle.meaning.specs.Store.{Rec, Store, rec_at}
use Rattle.types.specs.declared.Lock.{Lock}
use Rattle.types.specs.declared.Counts.{Counts}
use Rattle.meaning.proofs.Lists.{or_out, or_left, or_right, false_in, not_both}
use Rattle.meaning.proofs.Lists.{keep_in, keep_out, least_le, least_out, least_default}
use Rattle.meaning.proofs.Points.{version_out, version_in, frozen_is}
use Rattle.meaning.proofs.Tests.{covers_out, covers_in, meets_out, meets_in, blockers_out, blockers_in}
use Rattle.tables.specs.Decode.{record_at, decode_at}
use Rattle.tables.proofs.Decoded.{rec_at_lem}
use Rattle.blocking.specs.declared.Blocked.{Blocked}
use Rattle.blocking.specs.declared.Judgement.TheVariants.{Frozen, Held}
use Rattle.blocking.specs.declared.Start.{Start}
use Rattle.blocking.specs.Search.{Rises, nearest, judgement_at, first_judged}
use Rattle.blocking.proofs.Near.{Blocking, StartOf, First, none_found, start_found}

-- where no lock that blocks meets the points none is blocked, and else the first start is the first blocked point, held
-- by the lowest owner that starts there
module _ (mode k low high : ℕ) (x : Rec) where
  abbrev first : ℕ
  first = first_blocked mode k x low high

  abbrev begins : Lock → ℕ
  begins l = max low l.low

  abbrev all_begin : List ℕ
  all_begin = map begins (keep (meets low high) (blockers mode k x))

  begin_in : (l : Lock) → l ∈ x.locks → Blocking mode k low high l → begins l ∈ all_begin
  unfolding blockers
  begin_in l m b = Memᴰ.map begins (keep_in (meets low high) (keep_in (blocks mode k) m b.blocks) b.meets)

  begin_out : {p : ℕ} → p ∈ all_begin
      → (l : Lock) × (l ∈ x.locks) × Blocking mode k low high l × (begins l ≡ p)
  unfolding blockers
  begin_out m =
      let w = Memᴰ.of_map begins (keep (meets low high) (blockers mode k x)) m in
      let n = keep_out (meets low high) (blockers mode k x) w.1 in
      let b = keep_out (blocks mode k) x.locks n.0 in
      (w.0, b.0, record { blocks = b.1; meets = n.1 }, w.2)

  none_first : ((l : Lock) → l ∈ x.locks → Blocking mode k low high l → ⊥) → first ≡ suc high
  unfolding first_covered
  none_first none = go (least_out (suc high) all_begin)
    where
      go : (first ≡ suc high) ⊎ (first ∈ all_begin) → first ≡ suc high
      go (inl e) = e
      go (inr m) = let w = begin_out m in absurd (none w.0 w.1 w.2)

  module _ (order : low ≤ high) (q : Start) (i : StartOf mode k low high x.locks q)
      (f : First mode k low high x.locks q) where
    begun : q.point ≡ begins i.lock
    begun = ap (λ (y : Start). y.point) i.is

    inside : q.point ≤ high
    inside = let m = meets_out low high i.lock i.blocking.meets in omega (arith, begun, m.starts)

    point_is : first ≡ q.point
    unfolding first_covered
    point_is =
        let upper = least_le (suc high) (begin_in i.lock i.member i.blocking) in
        let lower = go (least_out (suc high) all_begin) in
        omega (arith, begun)
      where
        go : (first ≡ suc high) ⊎ (first ∈ all_begin) → q.point ≤ first
        go (inl e) = omega (arith, inside)
        go (inr m) = let w = begin_out m in omega (arith, f w.0 w.1 w.2, w.3)

    module _ (proper : Proper x) where
      abbrev on_it : List Lock
      on_it = keep (covers q.point) (blockers mode k x)

      abbrev holders : List ℕ
      holders = map (λ (l : Lock). l.owner) on_it

      owner : q.owner ≡ min SLOTS i.lock.owner
      owner = ap (λ (y : Start). y.owner) i.is

      holds : i.lock.owner ∈ holders
      unfolding blockers
      holds =
          let m = meets_out low high i.lock i.blocking.meets in
          let span = proper i.lock i.member in
          let b = keep_in (blocks mode k) i.member i.blocking.blocks in
          Memᴰ.map (λ (l : Lock). l.owner) (keep_in (covers q.point) b
          (covers_in q.point i.lock (record { from = omega (arith, begun); upto = omega (arith, begun, m.ends) })))

      none_lower : least SLOTS holders ∈ holders → q.owner ≤ least SLOTS holders
      unfolding blockers
      none_lower m =
          let w = Memᴰ.of_map (λ (l : Lock). l.owner) on_it m in
          let n = keep_out (covers q.point) (blockers mode k x) w.1 in
          let b = keep_out (blocks mode k) x.locks n.0 in
          let u = covers_out q.point w.0 n.1 in
          let t =
          meets_in low high w.0
          (record { starts = omega (arith, u.from, inside); ends = omega (arith, u.upto, begun) }) in
          omega (arith, f w.0 b.0 (record { blocks = b.1; meets = t }), w.2, u.from, begun, owner)

      holder_is : holder mode k x q.point ≡ q.owner
      unfolding holder
      holder_is =
          let upper = least_le SLOTS holds in
          let top = least_default SLOTS holders in
          let lower = go (least_out SLOTS holders) in
          omega (arith, owner)
        where
          go : (least SLOTS holders ≡ SLOTS) ⊎ (least SLOTS holders ∈ holders) → q.owner ≤ least SLOTS holders
          go (inl e) = omega (arith, owner)
          go (inr m) = none_lower m

-- a point is frozen where the lowest owner is no slot or a version stands, and else it is not
module _ (s : Store) (r mode k p : ℕ) where
  abbrev x : Rec
  x = rec_at s r

  abbrev held : List Lock
  held = keep (covers p) (blockers mode k x)

  settled_on : holder mode k x p ≡ SETTLED → SettledOn mode x p
  unfolding holder
  settled_on e = go (least_out SLOTS (map (λ (l : Lock). l.owner) held))
    where
      go : (holder mode k x p ≡ SLOTS) ⊎ (holder mode k x p ∈ map (λ (l : Lock). l.owner) held) → SettledOn mode x p
      go (inl f) = absurd (omega arith)
      go (inr m) =
          let w = Memᴰ.of_map (λ (l : Lock). l.owner) held m in
          let n = keep_out (covers p) (blockers mode k x) w.1 in
          let b = blockers_out mode k x n.0 in
          let u = covers_out p w.0 n.1 in
          record {
            lock = w.0;
            member = b.0;
            owned = w.2 ∙ e;
            against = b.1.against;
            from = u.from;
            upto = u.upto;
          }

  lowest_settled : 1 ≤ k → SettledOn mode x p → holder mode k x p ≡ SETTLED
  unfolding holder
  lowest_settled slot b =
      let other : b.lock.owner ≡ k → ⊥ = λ e. omega (arith, b.owned) in
      let m = blockers_in mode k x b.member (record { other = other; against = b.against }) in
      let n = keep_in (covers p) m (covers_in p b.lock (record { from = b.from; upto = b.upto })) in
      omega (arith, least_le SLOTS (Memᴰ.map (λ (l : Lock). l.owner) n), b.owned)

  pub not_settled : frozen s r mode p ≡ false → holder mode k x p ≡ SETTLED → ⊥
  not_settled f e = not_both ((frozen_is s r mode p).1 (inl (settled_on e))) f

  by_settled : holder mode k x p ≡ SETTLED → Frozen ≡ judgement_at s r mode k p
  unfolding judgement_at
  by_settled e = rw ((frozen_is s r mode p).1 (inl (settled_on e))) refl

  abbrev stood : Bool
  stood = any (λ v. eqb v.point p) x.versions

  by_version : stood ≡ true → Frozen ≡ judgement_at s r mode k p
  unfolding judgement_at
  by_version e = rw ((frozen_is s r mode p).1 (inr (version_out p x e))) refl

  by_holder : 1 ≤ k → (holder mode k x p ≡ SETTLED → ⊥) → stood ≡ false
      → Held (holder mode k x p) ≡ judgement_at s r mode k p
  unfolding judgement_at
  by_holder slot n e = rw (false_in (frozen s r mode p) (λ f. go ((frozen_is s r mode p).0 f))) refl
    where
      go : FrozenAt s r mode p → ⊥
      go (inl b) = n (lowest_settled slot b)
      go (inr v) = not_both (version_in p x v) e

-- what the walk found is the first blocked point: the returns of first_blocked
module _ (c : Counts) (w : List ℕ) (r mode k low high : ℕ) (l : r < c.records) (order : low ≤ high)
    (rises : Rises c w r) where
  abbrev s : Store
  s = decode_at c w

  abbrev here : Rec
  here = rec_at (decode_at c w) r

  abbrev Judged : Option Blocked → Type 0
  Judged b = b ≡ first_judged s r mode k low high

  abbrev Walked : Option Start → Type 0
  Walked q = q ≡ nearest mode k low high None (record_at c w r).locks

  walked : {q : Option Start} → Walked q → q ≡ nearest mode k low high None here.locks
  walked e = e ∙ ap (λ (y : Rec). nearest mode k low high None y.locks) (sym (rec_at_lem c w r l))

  here_rises : pairwise no_later here.locks ≡ true
  here_rises = ap (λ (y : Rec). pairwise no_later y.locks) (rec_at_lem c w r l) ∙ rises

  pub judged_nobody : Walked None → Judged None
  unfolding first_judged
  judged_nobody e =
      let f = none_first mode k low high here (none_found mode k low high here.locks here_rises (walked e)) in
      rw (lt-leb (first_blocked mode k here low high) high (omega (arith, f))) refl

  module _ (slot : 1 ≤ k) (proper : Proper here) (q : Start) (e : Walked (Some q)) where
    abbrev f : StartOf mode k low high here.locks q × First mode k low high here.locks q
    f = start_found mode k low high here.locks here_rises q (walked e)

    at_point : first_blocked mode k here low high ≡ q.point
    at_point = point_is mode k low high here order q f.0 f.1

    held_by : holder mode k here q.point ≡ q.owner
    held_by = holder_is mode k low high here order q f.0 f.1 proper

    judged_as : (j : _) → j ≡ judgement_at s r mode k q.point
        → Judged (Some (record { point = q.point; judgement = j }))
    unfolding first_judged
    judged_as j g = rw (at_point, le-leb q.point high (inside mode k low high here order q f.0 f.1), g) refl

    module _ {t : Bool}
        (v : t ≡ (eqb q.owner SETTLED || any (λ v. eqb v.point q.point) (record_at c w r).versions)) where
      abbrev settled : Bool
      settled = eqb q.owner SETTLED

      abbrev stands : Bool
      stands = any (λ v. eqb v.point q.point) here.versions

      say : t ≡ (settled || stands)
      say = v ∙ rw (rec_at_lem c w r l) refl

      pub judged_frozen : t ≡ true → Judged (Some (record { point = q.point; judgement = Frozen }))
      judged_frozen g = judged_as Frozen (go (or_out settled stands (sym say ∙ g)))
        where
          go : (settled ≡ true) ⊎ (stands ≡ true) → Frozen ≡ judgement_at s r mode k q.point
          go (inl e) = by_settled s r mode k q.point (held_by ∙ eqb-true q.owner SETTLED e)
          go (inr e) = by_version s r mode k q.point e

      pub judged_held : t ≡ false → Judged (Some (record { point = q.point; judgement = Held q.owner }))
      judged_held g =
          let neither : settled || stands ≡ false = sym say ∙ g in
          let other : q.owner ≡ SETTLED → ⊥ =
          λ e. not_both (or_left stands (eq-eqb q.owner SETTLED e)) neither in
          let none : stands ≡ false = false_in stands (λ e. not_both (or_right settled e) neither) in
          judged_as (Held q.owner)
          (ap Held (sym held_by) ∙ by_holder s r mode k q.point slot (λ h. other (sym held_by ∙ h)) none)
