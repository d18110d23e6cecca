-- Prefixes of an order by rising commit point: each has, with an edit, all edits of smaller commit points, so that the
-- plain run may stop there; there is one up to each point and one up to each edit. Rests on nothing.
use Prim.Native.Nat.{ℕ, ◌≤◌, ◌<◌}
use mathlib.Core.Path.{◌≡◌, refl, sym, subst}
use mathlib.Core.Logic.{inl, inr, ◌↔◌}
use native.Mathlib.Decide.{dec_le}
use native.Mathlib.Omega.{arith}
use Rattle.serial.specs.Serializable.{Seq, ε, ◌▸◌, ◌∈◌, History, Commits, Rises, CommitOrder}
use Rattle.serial.specs.Moments.{Prefix, whole, more, Moment}

module _ {A : Type 0} where
  pub prefix_in : {a s : Seq A} → Prefix a s → (b : A) → b ∈ a → b ∈ s
  prefix_in whole b i = i
  prefix_in (more g) b i = inl (prefix_in g b i)

  pub prefix_before : {a : Seq A} {b : A} {s : Seq A} → Prefix (a ▸ b) s → Prefix a s
  prefix_before whole = more whole
  prefix_before (more g) = more (prefix_before g)

  -- one that ends with b
  pub prefix_through : (s : Seq A) (b : A) → b ∈ s → (a : Seq A) × Prefix (a ▸ b) s
  prefix_through ε b i = absurd i
  prefix_through (s ▸ c) b (inl i) = let g = prefix_through s b i in (g.0, more g.1)
  prefix_through (s ▸ c) b (inr q) = (s, subst (λ d. Prefix (s ▸ b) (s ▸ d)) q whole)

module _ {X : Type 0} (l : History X) where
  pub prefix_rises : {a o : Seq ℕ} → Prefix a o → Rises l o → Rises l a
  prefix_rises whole up = up
  prefix_rises (more g) up = prefix_rises g up.0

  -- who committed below an edit of it is in it
  pub prefix_closed : {a o : Seq ℕ} → Prefix a o → Rises l o → (d e p t : ℕ) → d ∈ o → Commits l d p → e ∈ a
      → Commits l e t → p < t → d ∈ a
  prefix_closed whole up d e p t i c j b lt = i
  prefix_closed (more g) up d e p t (inl i) c j b lt = prefix_closed g up.0 d e p t i c j b lt
  prefix_closed (more g) up d e p t (inr q) c j b lt =
      absurd (omega (arith, (up.1 e (prefix_in g e j)).1 t p b (subst (λ n. Commits l n p) q c)))

  module _ (once : (e p t : ℕ) → Commits l e p → Commits l e t → p ≡ t) (p : ℕ) where
    -- committed at or below p
    abbrev Early : ℕ → Type 0
    Early e = (t : ℕ) × Commits l e t × (t ≤ p)

    early_prefix : (o : Seq ℕ) → Rises l o → ((e : ℕ) → e ∈ o → (t : ℕ) × Commits l e t)
        → (a : Seq ℕ) × Prefix a o × ((e : ℕ) → e ∈ a ↔ (e ∈ o × Early e))
    early_prefix ε up all = (ε, whole, λ e. (λ i. absurd i, λ i. absurd i.0))
    early_prefix (o ▸ d) up all =
        let c = all d (inr refl) in
        go c.0 c.1 (dec_le c.0 p) (early_prefix o up.0 (λ e i. all e (inl i)))
      where
        go : (s : ℕ) → Commits l d s → Dec (s ≤ p) → (a : Seq ℕ) × Prefix a o × ((e : ℕ) → e ∈ a ↔ (e ∈ o × Early e))
            → (a : Seq ℕ) × Prefix a (o ▸ d) × ((e : ℕ) → e ∈ a ↔ (e ∈ (o ▸ d) × Early e))
        go s c (yes low) rest = (o ▸ d, whole, λ e. (λ i. (i, to e i), λ i. i.0))
          where
            to : (e : ℕ) → e ∈ (o ▸ d) → Early e
            to e (inl i) = let a = all e (inl i) in (a.0, a.1, omega (arith, low, (up.1 e i).1 a.0 s a.1 c))
            to e (inr q) = (s, subst (λ i. Commits l i s) (sym q) c, low)
        go s c (no n) (a, g, ih) =
            (a, more g, λ e. (λ i. (inl ((ih e).0 i).0, ((ih e).0 i).1), λ i. back e i.0 i.1))
          where
            back : (e : ℕ) → e ∈ (o ▸ d) → Early e → e ∈ a
            back e (inl i) b = (ih e).1 (i, b)
            back e (inr q) b =
                absurd (n (omega (arith, b.2, once d b.0 s (subst (λ i. Commits l i b.0) q b.1) c)))

    pub moment_exists : (o : Seq ℕ) → CommitOrder l o → (a : Seq ℕ) × Moment l p o a
    moment_exists o C = go (early_prefix o C.rises (λ e i. (C.each e).0 i))
      where
        go : (a : Seq ℕ) × Prefix a o × ((e : ℕ) → e ∈ a ↔ (e ∈ o × Early e)) → (a : Seq ℕ) × Moment l p o a
        go (a, g, ih) = (
          a,
          record {
            prefix = g;
            only = λ e i. ((ih e).0 i).1;
            all = λ e t c h. (ih e).1 ((C.each e).1 (t, c), (t, c, h));
          },
        )
