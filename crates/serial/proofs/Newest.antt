-- The newest version at or below a point: of what stands, from the floor on, and of all that was saved it is the same.
-- Rests on Invariant, PlainRun.
use Prim.Native.Nat.{ℕ, ◌≤◌, ◌<◌}
use mathlib.Core.Path.{◌≡◌, refl, sym, ◌∙◌, ap, subst}
use mathlib.Core.Logic.{◌↔◌, inl, inr}
use mathlib.Core.Option.{Option, some, none}
use native.Mathlib.Decide.{dec_le}
use native.Mathlib.Omega.{arith}
use Rattle.serial.specs.Serializable.{Seq, ◌∈◌, Operation, History, calls_of, Commits, pending, State}
use Rattle.serial.specs.Moments.{NewestTo}
use Rattle.serial.proofs.Memory.{not_both}
use Rattle.serial.proofs.Invariant.{Saved, Consistent, Invariant}
use Rattle.serial.proofs.PlainRun.{Now}

module _ {X : Type 0} where
  -- versions that are the same at or below p have the same newest one
  pub newest_alike : {P Q : ℕ → X → Type 0} (p q : ℕ) (x : Option X) → ((r : ℕ) (v : X) → r ≤ p → P r v ↔ Q r v)
      → NewestTo P p q x → NewestTo Q p q x
  newest_alike {P} {Q} p q none alike f = (f.0, λ r v b. above r v b (dec_le r p))
    where
      above : (r : ℕ) (v : X) → Q r v → Dec (r ≤ p) → p < r
      above r v b (yes h) = f.1 r v ((alike r v h).1 b)
      above r v b (no n) = omega arith
  newest_alike p q (some v) alike (a, low, top) =
      ((alike q v (omega (arith, low))).0 a, low, λ r w b h. top r w ((alike r w h).1 b) h)

  -- it is one, if each point has one value
  pub newest_one : {P : ℕ → X → Type 0} (p q r : ℕ) (x y : Option X) → ((i : ℕ) (v w : X) → P i v → P i w → v ≡ w)
      → NewestTo P p q x → NewestTo P p r y → (q ≡ r) × (x ≡ y)
  newest_one p q r none none one f g = (f.0 ∙ sym g.0, refl)
  newest_one p q r none (some w) one f (b, low, top) = absurd (omega (arith, f.1 r w b))
  newest_one p q r (some v) none one (a, low, top) g = absurd (omega (arith, g.1 q v a))
  newest_one {P} p q r (some v) (some w) one (a, low, top) (b, low', top') =
      let e : r ≡ q = omega (arith, top r w b (omega (arith, low')), top' q v a (omega (arith, low))) in
      (sym e, ap some (one q v w a (subst (λ i. P i w) e b)))

  module _ {calls : ℕ → Seq (Operation X)} {S : State X} (I : Invariant calls S) (k p : ℕ) (g : S.floor k ≤ p) where
    pub newest_saved : (q : ℕ) (x : Option X) → NewestTo (S.version k) p q x → NewestTo (Saved calls k) p q x
    newest_saved q none (z, f) = (z, λ r v s. above r v s (dec_le r p))
      where
        stands : (r : ℕ) (v : X) → Saved calls k r v → r ≤ p → Dec (S.floor k ≤ r) → p < r
        stands r v s h (yes low) = f r v (I.versions.kept k r v s low)
        stands r v s h (no n) = let b = I.sound.based k (omega arith) in absurd (omega (arith, f _ b.0 b.1))

        above : (r : ℕ) (v : X) → Saved calls k r v → Dec (r ≤ p) → p < r
        above r v s (yes h) = stands r v s h (dec_le (S.floor k) r)
        above r v s (no n) = omega arith
    newest_saved q (some v) (a, low, top) =
        (I.versions.made k q v a, low, λ r w s h. below r w s h (dec_le (S.floor k) r))
      where
        below : (r : ℕ) (w : X) → Saved calls k r w → r ≤ p → Dec (S.floor k ≤ r) → r ≤ q
        below r w s h (yes f) = top r w (I.versions.kept k r w s f) h
        below r w s h (no n) =
            let b = I.sound.based k (omega arith) in
            omega (arith, top (S.floor k) b.0 b.1 g)

    -- a bound of what was saved bounds the floor, where a version stands
    pub newest_stands : (q : ℕ) (x : Option X) → NewestTo (Saved calls k) p q x → NewestTo (S.version k) p q x
    newest_stands q none (z, f) = (z, λ r v a. f r v (I.versions.made k r v a))
    newest_stands q (some v) (s, low, top) =
        (I.versions.kept k q v s (base (dec_le (S.floor k) q)), low, λ r w a. top r w (I.versions.made k r w a))
      where
        base : Dec (S.floor k ≤ q) → S.floor k ≤ q
        base (yes h) = h
        base (no n) =
            let b = I.sound.based k (omega arith) in
            top (S.floor k) b.0 (I.versions.made k (S.floor k) b.0 b.1) g

  -- after edits that committed at or below p, among them all that wrote k, the plain run has the newest value at or
  -- below p
  module _ (l : History X) (H : Consistent (calls_of l)) (o : Seq ℕ) (k p : ℕ)
      (within : (e : ℕ) → e ∈ o → (t : ℕ) × Commits l e t × (t ≤ p))
      (all : (e t : ℕ) (v : X) → Commits l e t → t ≤ p → pending (calls_of l e) k ≡ some v → e ∈ o) where
    pub now_newest : (x : Option X) → Now l H o k x → (q : ℕ) × NewestTo (Saved (calls_of l) k) p q x
    now_newest x (inl n) =
        subst (λ z. (q : ℕ) × NewestTo (Saved (calls_of l) k) p q z) (sym n.is)
        (0, (refl, λ r v s. above r v s (dec_le r p)))
      where
        above : (r : ℕ) (v : X) → Saved (calls_of l) k r v → Dec (r ≤ p) → p < r
        above r v s (yes h) =
            absurd (not_both (n.unwritten s.by (all s.by r v s.committed h s.wrote)) s.wrote)
        above r v s (no m) = omega arith
    now_newest x (inr y) =
        let c = within y.by y.among in
        subst (λ z. (q : ℕ) × NewestTo (Saved (calls_of l) k) p q z) (sym y.is) (
          c.0,
          (
            record { by = y.by; committed = c.1; wrote = y.wrote },
            c.2,
            λ r w s h. y.last s.by r c.0 w (all s.by r w s.committed h s.wrote) s.committed c.1
                s.wrote,
          ),
        )
