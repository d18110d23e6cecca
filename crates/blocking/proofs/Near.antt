-- The walk for the first blocked point: what it finds is the start of a lock that blocks, none is nearer, and of those
-- as near it has the lowest owner. It stops early on rising locks. Rests on Rising.
use Prim.Native.Nat.{ℕ, ◌+◌, ◌*◌, ◌≤◌, ◌<◌, min, max}
use mathlib.Core.Path.{◌≡◌, refl, sym, ◌∙◌}
use mathlib.Core.Logic.{◌⊎◌, inl, inr}
use mathlib.Core.Bool.{Bool, true, false, ◌&&◌}
use mathlib.Core.List.Memᴰ
use mathlib.Core.List.{List, [], ◌∷◌}
use native.Mathlib.Omega.{arith}
use lib.Dec.{ltb}
use borrow.Author.Tests.{ltb-true, ltb-false}
use Rattle.std.specs.Prelude.{Option, None, Some}
use Rattle.types.specs.Limits.{SLOTS}
use Rattle.types.specs.declared.Lock.{Lock}
use Rattle.meaning.specs.Lists.{◌∈◌, pairwise}
use Rattle.meaning.specs.Points.{meets, blocks, no_later}
use Rattle.meaning.proofs.Lists.{test, and_in, and_left, and_right, not_both}
use Rattle.meaning.proofs.Tests.{Meeting, meets_out}
use Rattle.blocking.specs.declared.Start.{Start}
use Rattle.blocking.specs.Search.{joined, start, nearer, beyond, nearest}
use Rattle.blocking.proofs.Rising.{rest_rises, none_meets}

-- the order of starts, nearer first and then by the owner, as one number
abbrev rank : ℕ → ℕ → ℕ
rank p o = p * 65 + min SLOTS o

abbrev at : Start → ℕ
at s = rank s.point s.owner

-- of the best so far and the next, the first
module _ (n : Start) where
  joined_one : (b : Option Start) → (joined b n ≡ n) ⊎ (b ≡ Some (joined b n))
  joined_one None = inl refl
  joined_one (Some b) = go (test (ltb b.point n.point)) (test (ltb n.point b.point)) (test (ltb b.owner n.owner))
    where
      go : (ltb b.point n.point ≡ true) ⊎ (ltb b.point n.point ≡ false)
          → (ltb n.point b.point ≡ true) ⊎ (ltb n.point b.point ≡ false)
          → (ltb b.owner n.owner ≡ true) ⊎ (ltb b.owner n.owner ≡ false)
          → (joined (Some b) n ≡ n) ⊎ (Some b ≡ Some (joined (Some b) n))
      go (inl e) f g = inr (rw e refl)
      go (inr e) (inl f) g = inl (rw (e, f) refl)
      go (inr e) (inr f) (inl g) = inr (rw (e, f, g) refl)
      go (inr e) (inr f) (inr g) = inl (rw (e, f, g) refl)

  joined_first : (b : Start) → (at (joined (Some b) n) ≤ at n) × (at (joined (Some b) n) ≤ at b)
  joined_first b = go (test (ltb b.point n.point)) (test (ltb n.point b.point)) (test (ltb b.owner n.owner))
    where
      go : (ltb b.point n.point ≡ true) ⊎ (ltb b.point n.point ≡ false)
          → (ltb n.point b.point ≡ true) ⊎ (ltb n.point b.point ≡ false)
          → (ltb b.owner n.owner ≡ true) ⊎ (ltb b.owner n.owner ≡ false)
          → (at (joined (Some b) n) ≤ at n) × (at (joined (Some b) n) ≤ at b)
      go (inl e) f g = let i = ltb-true b.point n.point e in rw e (omega arith, omega arith)
      go (inr e) (inl f) g = let i = ltb-true n.point b.point f in rw (e, f) (omega arith, omega arith)
      go (inr e) (inr f) (inl g) =
          let i = ltb-false b.point n.point e in
          let j = ltb-false n.point b.point f in
          let m = ltb-true b.owner n.owner g in
          rw (e, f, g) (omega arith, omega arith)
      go (inr e) (inr f) (inr g) =
          let i = ltb-false b.point n.point e in
          let j = ltb-false n.point b.point f in
          let m = ltb-false b.owner n.owner g in
          rw (e, f, g) (omega arith, omega arith)

  joined_next : (b : Option Start) → at (joined b n) ≤ at n
  joined_next None = omega arith
  joined_next (Some b) = (joined_first b).0

module _ (mode k low high : ℕ) where
  -- a lock that blocks among the points, and the start s of one of the locks
  pub record Blocking (l : Lock) : Type 0 where
    pub blocks : blocks mode k l ≡ true
    pub meets : meets low high l ≡ true

  pub record StartOf (ls : List Lock) (s : Start) : Type 0 where
    pub lock : Lock
    pub member : lock ∈ ls
    pub blocking : Blocking lock
    pub is : s ≡ start low lock

  -- no lock that blocks comes before s
  abbrev pub First : List Lock → Start → Type 0
  First ls s = (l : Lock) → l ∈ ls → Blocking l → at s ≤ rank (max low l.low) l.owner

  -- what a walk with b so far finds
  abbrev Finds : Option Start → List Lock → Option Start → Type 0
  Finds b ls None = (b ≡ None) × ((l : Lock) → l ∈ ls → Blocking l → ⊥)
  Finds b ls (Some q) =
      ((b ≡ Some q) ⊎ StartOf ls q) × ((s : Start) → b ≡ Some s → at q ≤ at s) × First ls q

  abbrev tested : Lock → Bool
  tested l = blocks mode k l && meets low high l

  blocking_out : (l : Lock) → tested l ≡ true → Blocking l
  blocking_out l e =
      record {
        blocks = and_left (blocks mode k l) (meets low high l) e;
        meets = and_right (blocks mode k l) (meets low high l) e;
      }

  blocking_in : (l : Lock) → Blocking l → tested l ≡ true
  blocking_in l b = and_in b.blocks b.meets

  later_start : {l : Lock} {ls : List Lock} {q : Start} → StartOf ls q → StartOf (l ∷ ls) q
  later_start i = record { lock = i.lock; member = Memᴰ.tail i.member; blocking = i.blocking; is = i.is }

  module _ (l : Lock) (ls : List Lock) where
    abbrev n : Start
    n = start low l

    -- a lock that does not count
    found_past : (b q : Option Start) → tested l ≡ false → Finds b ls q → Finds b (l ∷ ls) q
    found_past b None e i = (i.0, λ m j t. none m t (Memᴰ.cases_cons j))
      where
        none : (m : Lock) → Blocking m → (m ≡ l) ⊎ (m ∈ ls) → ⊥
        none m t (inl f) = not_both (blocking_in m t) (rw f e)
        none m t (inr j) = i.1 m j t
    found_past b (Some q) e i = (one i.0, i.1, λ m j t. first m t (Memᴰ.cases_cons j))
      where
        one : (b ≡ Some q) ⊎ StartOf ls q → (b ≡ Some q) ⊎ StartOf (l ∷ ls) q
        one (inl f) = inl f
        one (inr f) = inr (later_start f)

        first : (m : Lock) → Blocking m → (m ≡ l) ⊎ (m ∈ ls) → at q ≤ rank (max low m.low) m.owner
        first m t (inl f) = absurd (not_both (blocking_in m t) (rw f e))
        first m t (inr j) = i.2 m j t

    -- a lock that counts
    found_on : (b q : Option Start) → tested l ≡ true → Finds (Some (joined b (start low l))) ls q
        → Finds b (l ∷ ls) q
    found_on b None e i = absurd (some_none i.0)
      where
        some_none : {s : Start} → Some s ≡ None → ⊥
        some_none f = cc
    found_on b (Some q) e i = (one i.0 (joined_one n b), before, λ m j t. first m t (Memᴰ.cases_cons j))
      where
        one : (Some (joined b n) ≡ Some q) ⊎ StartOf ls q → (joined b n ≡ n) ⊎ (b ≡ Some (joined b n))
            → (b ≡ Some q) ⊎ StartOf (l ∷ ls) q
        one (inr f) g = inr (later_start f)
        one (inl f) (inr g) = inl (g ∙ f)
        one (inl f) (inl g) =
            let same : joined b n ≡ q = cc in
            inr (record { lock = l; member = Memᴰ.head refl; blocking = blocking_out l e; is = sym same ∙ g })

        before : (s : Start) → b ≡ Some s → at q ≤ at s
        before s f =
            let g : at (joined b n) ≤ at s = rw f (joined_first n s).1 in omega (arith, i.1 (joined b n) refl)

        first : (m : Lock) → Blocking m → (m ≡ l) ⊎ (m ∈ ls) → at q ≤ rank (max low m.low) m.owner
        first m t (inl f) = rw f (omega (arith, i.1 (joined b n) refl, joined_next n b))
        first m t (inr j) = i.2 m j t

  -- where a lock starts beyond the best so far, no later one comes before it
  found_stop : (b : Start) (l : Lock) (ls : List Lock) → pairwise no_later (l ∷ ls) ≡ true → b.point < l.low
      → Finds (Some b) (l ∷ ls) (Some b)
  found_stop b l ls rises after = (inl refl, λ s e. (let same : b ≡ s = cc in rw same (omega arith)), first)
    where
      first : First (l ∷ ls) b
      first m j t =
          let i = meets_out low high m t.meets in
          go (test (ltb b.point m.low)) i
        where
          go : (ltb b.point m.low ≡ true) ⊎ (ltb b.point m.low ≡ false) → Meeting low high m
              → at b ≤ rank (max low m.low) m.owner
          go (inl e) i = let far = ltb-true b.point m.low e in omega arith
          go (inr e) i =
              let near = ltb-false b.point m.low e in
              absurd (none_meets l ls rises low b.point after m j (record { starts = near; ends = i.ends }))

  -- where a lock starts beyond the points, neither it nor a later one meets them
  none_stop : (l : Lock) (ls : List Lock) → pairwise no_later (l ∷ ls) ≡ true → high < l.low
      → Finds None (l ∷ ls) None
  none_stop l ls rises after = (
    refl,
    λ m j t. none_meets l ls rises low high after m j (meets_out low high m t.meets),
  )

  finds : (b : Option Start) (ls : List Lock) → pairwise no_later ls ≡ true → Finds b ls (nearest mode k low high b ls)
  unfolding nearest nearer
  finds None [] rises = (refl, λ l m t. Memᴰ.not-nil m)
  finds (Some b) [] rises = (
    inl refl,
    λ s e. (let same : b ≡ s = cc in rw same (omega arith)),
    λ l m t. absurd (Memᴰ.not-nil m),
  )
  finds b (l ∷ ls) rises = go b (test (beyond high b l)) (test (tested l)) (λ d. finds d ls (rest_rises l ls rises))
    where
      go : (b : Option Start) → (beyond high b l ≡ true) ⊎ (beyond high b l ≡ false)
          → (tested l ≡ true) ⊎ (tested l ≡ false)
          → ((d : Option Start) → Finds d ls (nearest mode k low high d ls))
          → Finds b (l ∷ ls) (nearest mode k low high b (l ∷ ls))
      go None (inl e) t rest = rw e (none_stop l ls rises (ltb-true high l.low e))
      go (Some b) (inl e) t rest = rw e (found_stop b l ls rises (ltb-true b.point l.low e))
      go b (inr e) (inl t) rest =
          rw (e, t) (found_on l ls b (nearest mode k low high (Some (joined b (start low l))) ls) t
          (rest (Some (joined b (start low l)))))
      go b (inr e) (inr t) rest = rw (e, t) (found_past l ls b (nearest mode k low high b ls) t (rest b))

  -- from nothing found
  module _ (ls : List Lock) (rises : pairwise no_later ls ≡ true) where
    pub none_found : None ≡ nearest mode k low high None ls → (l : Lock) → l ∈ ls → Blocking l → ⊥
    none_found e = (let f : Finds None ls None = rw (sym e) at (finds None ls rises) in f.1)

    pub start_found : (q : Start) → Some q ≡ nearest mode k low high None ls → StartOf ls q × First ls q
    start_found q e = (one f.0, f.2)
      where
        f : Finds None ls (Some q)
        f = rw (sym e) at (finds None ls rises)

        one : (None ≡ Some q) ⊎ StartOf ls q → StartOf ls q
        one (inl g) = absurd (let z : ◌≡◌ {A = ℕ} 0 1 = cc in omega arith)
        one (inr g) = g
