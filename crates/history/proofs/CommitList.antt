-- The edits that committed are those of the computed list `commits_of`. Computed tests tell its orders (`in_order`) and
-- their moments (`moment_at`); two edits have no other orders (`only_orders`). Rests on Names and Prefixes of the crate
-- serial.
use Prim.Native.Nat.{ℕ, ◌≤◌, ◌<◌}
use native.Mathlib.Omega.{arith}
use mathlib.Core.Path.{◌≡◌, refl, sym, ap, ◌∙◌, subst}
use mathlib.Core.Logic.{◌⊎◌, inl, inr, ◌↔◌}
use mathlib.Core.Bool.{Bool, true, false, not, cond, ◌&&◌, ◌||◌, false≢true}
use lib.Dec.{leb, ltb, eqb}
use borrow.Author.Tests.{ltb-true, leb-true, eqb-true, eqb-false, not-true, eq-eqb}
use Rattle.meaning.proofs.Lists.{and_left, and_right, or_out}
use Rattle.serial.specs.Serializable.{Seq, ε, ◌▸◌, ◌∈◌, Operation, wrote, read, commits, begun, call, other, History}
use Rattle.serial.specs.Serializable.{edit_of, calls_of, Commits}
use Rattle.serial.specs.Serializable.{Rises, CommitOrder}
use Rattle.serial.specs.Moments.{Prefix, whole, more, Moment}
use Rattle.serial.proofs.Memory.{commits_wrote, commits_read}
use Rattle.serial.proofs.Names.{last_call, no_commit}
use Rattle.serial.proofs.Prefixes.{prefix_in, prefix_before}
use Rattle.history.specs.Examples.{commits_of}

-- lists of edits with their commit points: the edits alone, and tests
abbrev pub edits : Seq (ℕ × ℕ) → Seq ℕ
edits ε = ε
edits (s ▸ c) = edits s ▸ c.0

abbrev has : Seq (ℕ × ℕ) → ℕ × ℕ → Bool
has ε c = false
has (s ▸ d) c = has s c || (eqb c.0 d.0 && eqb c.1 d.1)

abbrev all : (ℕ × ℕ → Bool) → Seq (ℕ × ℕ) → Bool
all f ε = true
all f (s ▸ d) = all f s && f d

-- no edit comes twice and no point falls
abbrev rising : Seq (ℕ × ℕ) → Bool
rising ε = true
rising (s ▸ c) = rising s && all (λ d. not (eqb d.0 c.0) && leb d.1 c.1) s

-- s has the entries of c, each once, in an order of their points; a has those with points at or below p
abbrev pub ordering : Seq (ℕ × ℕ) → Seq (ℕ × ℕ) → Bool
ordering c s = (all (has s) c && all (has c) s) && (all (λ d. ltb 0 d.0) s && rising s)

abbrev pub cutting : ℕ → Seq (ℕ × ℕ) → Seq (ℕ × ℕ) → Bool
cutting p s a = all (λ d. leb d.1 p) a && all (λ d. has a d || ltb p d.1) s

has_in : (s : Seq (ℕ × ℕ)) (c : ℕ × ℕ) → has s c ≡ true → c ∈ s
has_in ε c h = absurd (false≢true h)
has_in (s ▸ (j, v)) (i, u) h = go (or_out (has s (i, u)) (eqb i j && eqb u v) h) (has_in s (i, u))
  where
    go : (has s (i, u) ≡ true) ⊎ ((eqb i j && eqb u v) ≡ true) → (has s (i, u) ≡ true → (i, u) ∈ s)
        → (i, u) ∈ (s ▸ (j, v))
    go (inl e) ih = inl (ih e)
    go (inr e) ih =
        let a = eqb-true i j (and_left (eqb i j) (eqb u v) e) in
        let b = eqb-true u v (and_right (eqb i j) (eqb u v) e) in
        inr (rw (a, b) refl)

all_in : (f : ℕ × ℕ → Bool) (s : Seq (ℕ × ℕ)) → all f s ≡ true → (c : ℕ × ℕ) → c ∈ s → f c ≡ true
all_in f ε h c i = absurd i
all_in f (s ▸ d) h c (inl i) = all_in f s (and_left (all f s) (f d) h) c i
all_in f (s ▸ d) h c (inr q) = ap f q ∙ and_right (all f s) (f d) h

in_edits : (s : Seq (ℕ × ℕ)) (e : ℕ) → e ∈ edits s ↔ ((t : ℕ) × ((e, t) ∈ s))
in_edits s e = (out s, λ i. into s i.0 i.1)
  where
    out : (s : Seq (ℕ × ℕ)) → e ∈ edits s → (t : ℕ) × ((e, t) ∈ s)
    out ε i = absurd i
    out (s ▸ d) (inl i) = let a = out s i in (a.0, inl a.1)
    out (s ▸ (j, v)) (inr q) = (v, inr (rw q refl))

    into : (s : Seq (ℕ × ℕ)) (t : ℕ) → (e, t) ∈ s → e ∈ edits s
    into ε t i = i
    into (s ▸ d) t (inl i) = inl (into s t i)
    into (s ▸ d) t (inr q) = inr (ap (λ (y : ℕ × ℕ). y.0) q)

-- an entry of a rising list and a later one
apart : (s : Seq (ℕ × ℕ)) (c : ℕ × ℕ) → rising (s ▸ c) ≡ true → (e p : ℕ) → (e, p) ∈ s → ¬ (e ≡ c.0) × (p ≤ c.1)
apart s c h e p i =
    let t = all_in (λ d. not (eqb d.0 c.0) && leb d.1 c.1) s (and_right (rising s) _ h) (e, p) i in (
      eqb-false e c.0 (not-true (eqb e c.0) (and_left (not (eqb e c.0)) (leb p c.1) t)),
      leb-true p c.1 (and_right (not (eqb e c.0)) (leb p c.1) t),
    )

-- an edit of it has one point
one_point : (s : Seq (ℕ × ℕ)) → rising s ≡ true → (e p t : ℕ) → (e, p) ∈ s → (e, t) ∈ s → p ≡ t
one_point ε h e p t i j = absurd i
one_point (s ▸ c) h e p t (inl i) (inl j) = one_point s (and_left (rising s) _ h) e p t i j
one_point (s ▸ c) h e p t (inl i) (inr q) = absurd ((apart s c h e p i).0 (ap (λ (y : ℕ × ℕ). y.0) q))
one_point (s ▸ c) h e p t (inr q) (inl j) = absurd ((apart s c h e t j).0 (ap (λ (y : ℕ × ℕ). y.0) q))
one_point (s ▸ c) h e p t (inr q) (inr r) = ap (λ (y : ℕ × ℕ). y.1) q ∙ sym (ap (λ (y : ℕ × ℕ). y.1) r)

prefix_edits : {a s : Seq (ℕ × ℕ)} → Prefix a s → Prefix (edits a) (edits s)
prefix_edits whole = whole
prefix_edits (more g) = more (prefix_edits g)

module _ {X : Type 0} where
  commit_is : {p t : ℕ} → ◌≡◌ {A = Operation X} (commits t) (commits p) → t ≡ p
  commit_is q = cc

  -- an older call of e is still one
  older : (l : History X) (h : ℕ) (c : Operation X) (e t : ℕ) → commits t ∈ calls_of l e
      → commits t ∈ calls_of (l ▸ call h c) e
  older l h c e t i = go (eqb e (edit_of l h))
    where
      go : (b : Bool) → commits t ∈ cond b (calls_of l e ▸ c) (calls_of l e)
      go true = inl i
      go false = i

  listed : (l : History X) (e t : ℕ) → commits t ∈ calls_of l e → (e, t) ∈ commits_of l
  listed ε e t i = i
  listed (l ▸ begun h) e t i = listed l e t i
  listed (l ▸ call h (wrote k v)) e t i = listed l e t (no_commit l h (wrote k v) e t commits_wrote i)
  listed (l ▸ call h (read k a x)) e t i = listed l e t (no_commit l h (read k a x) e t commits_read i)
  listed (l ▸ call h (commits p)) e t i = go (last_call l h (commits p) e t i) (listed l e t)
    where
      go : commits t ∈ calls_of l e ⊎ ((e ≡ edit_of l h) × (◌≡◌ {A = Operation X} (commits t) (commits p)))
          → (commits t ∈ calls_of l e → (e, t) ∈ commits_of l)
          → (e, t) ∈ (commits_of l ▸ (edit_of l h, p))
      go (inl j) ih = inl (ih j)
      go (inr (q, z)) ih = let y = commit_is z in inr (rw (q, y) refl)
  listed (l ▸ other) e t i = listed l e t i

  back : (l : History X) (e t : ℕ) → (e, t) ∈ commits_of l → commits t ∈ calls_of l e
  back ε e t i = i
  back (l ▸ begun h) e t i = back l e t i
  back (l ▸ call h (wrote k v)) e t i = older l h (wrote k v) e t (back l e t i)
  back (l ▸ call h (read k a x)) e t i = older l h (read k a x) e t (back l e t i)
  back (l ▸ call h (commits p)) e t (inl i) = older l h (commits p) e t (back l e t i)
  back (l ▸ call h (commits p)) e t (inr q) =
      let a : e ≡ edit_of l h = ap (λ (y : ℕ × ℕ). y.0) q in
      let b : t ≡ p = ap (λ (y : ℕ × ℕ). y.1) q in
      rw (eq-eqb e (edit_of l h) a) (inr (rw b refl))
  back (l ▸ other) e t i = back l e t i

  pub commits_listed : (l : History X) (e t : ℕ) → Commits l e t ↔ ((0 < e) × ((e, t) ∈ commits_of l))
  commits_listed l e t = (λ c. (c.0, listed l e t c.1), λ c. (c.0, back l e t c.1))

  -- the computed list of a history, and one of its orders
  module _ (l : History X) (c s : Seq (ℕ × ℕ)) (is : commits_of l ≡ c) (tested : ordering c s ≡ true) where
    members : (all (has s) c && all (has c) s) ≡ true
    members = and_left (all (has s) c && all (has c) s) _ tested

    named : (all (λ d. ltb 0 d.0) s && rising s) ≡ true
    named = and_right (all (has s) c && all (has c) s) _ tested

    rises : rising s ≡ true
    rises = and_right (all (λ d. ltb 0 d.0) s) (rising s) named

    entry_of : (e t : ℕ) → Commits l e t → (e, t) ∈ s
    entry_of e t k =
        has_in s (e, t)
        (all_in (has s) c (and_left (all (has s) c) _ members) (e, t)
        (subst (λ (z : Seq (ℕ × ℕ)). (e, t) ∈ z) is ((commits_listed l e t).0 k).1))

    commits_of_lem : (e t : ℕ) → (e, t) ∈ s → Commits l e t
    commits_of_lem e t i =
        (commits_listed l e t).1 (
          ltb-true 0 e
              (all_in (λ d. ltb 0 d.0) s (and_left (all (λ d. ltb 0 d.0) s) (rising s) named) (e, t) i),
          subst (λ (z : Seq (ℕ × ℕ)). (e, t) ∈ z) (sym is)
              (has_in c (e, t) (all_in (has c) s (and_right (all (has s) c) (all (has c) s) members) (e, t) i)),
        )

    ordered : (a : Seq (ℕ × ℕ)) → Prefix a s → rising a ≡ true → Rises l (edits a)
    ordered ε g h = tt
    ordered (a ▸ (j, v)) g h = (ordered a (prefix_before g) (and_left (rising a) _ h), later)
      where
        later : (d : ℕ) → d ∈ edits a → ¬ (d ≡ j) × ((p t : ℕ) → Commits l d p → Commits l j t → p ≤ t)
        later d i =
            let m = (in_edits a d).0 i in
            let b = apart a (j, v) h d m.0 m.1 in (
              b.0,
              λ p t k n.
                  let y = one_point s rises d p m.0 (entry_of d p k) (prefix_in g (d, m.0) (inl m.1)) in
                  let z = one_point s rises j t v (entry_of j t n) (prefix_in g (j, v) (inr refl)) in
                  omega (arith, b.1),
            )

    pub in_order : CommitOrder l (edits s)
    in_order = record {
      each = λ e. (
        λ i. let m = (in_edits s e).0 i in (m.0, commits_of_lem e m.0 m.1),
        λ k. (in_edits s e).1 (k.0, entry_of e k.0 k.1),
      );
      rises = ordered s whole rises;
    }

    pub moment_at : (p : ℕ) (a : Seq (ℕ × ℕ)) → Prefix a s → cutting p s a ≡ true → Moment l p (edits s) (edits a)
    moment_at p a g h = record { prefix = prefix_edits g; only = out; all = into }
      where
        out : (e : ℕ) → e ∈ edits a → (t : ℕ) × Commits l e t × (t ≤ p)
        out e i =
            let m = (in_edits a e).0 i in (
              m.0,
              commits_of_lem e m.0 (prefix_in g (e, m.0) m.1),
              leb-true m.0 p
                  (all_in (λ d. leb d.1 p) a (and_left (all (λ d. leb d.1 p) a) _ h) (e, m.0) m.1),
            )

        into : (e t : ℕ) → Commits l e t → t ≤ p → e ∈ edits a
        into e t k low =
            go
            (or_out (has a (e, t)) (ltb p t)
            (all_in (λ d. has a d || ltb p d.1) s (and_right (all (λ d. leb d.1 p) a) _ h) (e, t)
            (entry_of e t k)))
          where
            go : (has a (e, t) ≡ true) ⊎ (ltb p t ≡ true) → e ∈ edits a
            go (inl q) = (in_edits a e).1 (t, has_in a (e, t) q)
            go (inr q) = absurd (omega (arith, ltb-true p t q))

  -- two edits that committed, d at p and e at t
  module _ (l : History X) (d e p t : ℕ) (begun-d : 0 < d) (begun-e : 0 < e) (apart : ¬ (d ≡ e)) where
    abbrev Either : ℕ → ℕ → Type 0
    Either i u = ((i ≡ d) × (u ≡ p)) ⊎ ((i ≡ e) × (u ≡ t))

    abbrev Orders : Seq ℕ → Type 0
    Orders o = ((o ≡ ε ▸ d ▸ e) × (p ≤ t)) ⊎ ((o ≡ ε ▸ e ▸ d) × (t ≤ p))

    module _ (is : (i u : ℕ) → ((i, u) ∈ commits_of l) ↔ Either i u) where
      d_commits : Commits l d p
      d_commits = (commits_listed l d p).1 (begun-d, (is d p).1 (inl (refl, refl)))

      e_commits : Commits l e t
      e_commits = (commits_listed l e t).1 (begun-e, (is e t).1 (inr (refl, refl)))

      one_of : (i u : ℕ) → Commits l i u → Either i u
      one_of i u c = (is i u).0 ((commits_listed l i u).0 c).1

      -- every order has the two, each once
      abbrev Which : ℕ → Type 0
      Which i = (i ≡ d) ⊎ (i ≡ e)

      which_of : {i u : ℕ} → Either i u → Which i
      which_of (inl q) = inl q.0
      which_of (inr q) = inr q.0

      pair_only : (a b : ℕ) → Which a → Which b → ¬ (a ≡ b) → ((u v : ℕ) → Commits l a u → Commits l b v → u ≤ v)
          → Orders (ε ▸ a ▸ b)
      pair_only a b (inl x) (inl y) z r = absurd (z (x ∙ sym y))
      pair_only a b (inl x) (inr y) z r = inl (rw (x, y) refl, r p t (rw x d_commits) (rw y e_commits))
      pair_only a b (inr x) (inl y) z r = inr (rw (x, y) refl, r t p (rw x e_commits) (rw y d_commits))
      pair_only a b (inr x) (inr y) z r = absurd (z (x ∙ sym y))

      not_three : {a b c : ℕ} → Which a → Which b → Which c → ¬ (a ≡ b) → ¬ (a ≡ c) → ¬ (b ≡ c) → ⊥
      not_three (inl x) (inl y) z f g h = f (x ∙ sym y)
      not_three (inr x) (inr y) z f g h = f (x ∙ sym y)
      not_three (inl x) (inr y) (inl z) f g h = g (x ∙ sym z)
      not_three (inl x) (inr y) (inr z) f g h = h (y ∙ sym z)
      not_three (inr x) (inl y) (inl z) f g h = h (y ∙ sym z)
      not_three (inr x) (inl y) (inr z) f g h = g (x ∙ sym z)

      both_only : (o : Seq ℕ) → Rises l o → ((i : ℕ) → i ∈ o → Which i) → d ∈ o → e ∈ o → Orders o
      both_only ε r w m n = absurd m
      both_only (ε ▸ a) r w (inl m) n = absurd m
      both_only (ε ▸ a) r w (inr m) (inl n) = absurd n
      both_only (ε ▸ a) r w (inr m) (inr n) = absurd (apart (m ∙ sym n))
      both_only (ε ▸ a ▸ b) r w m n =
          pair_only a b (w a (inl (inr refl))) (w b (inr refl)) (r.1 a (inr refl)).0 (r.1 a (inr refl)).1
      both_only (o ▸ a ▸ b ▸ c) r w m n =
          absurd (
          not_three (w a (inl (inl (inr refl)))) (w b (inl (inr refl))) (w c (inr refl)) (r.0.1 a (inr refl)).0
          (r.1 a (inl (inr refl))).0
          (r.1 b (inr refl)).0
          )

      orders_are : (o : Seq ℕ) → CommitOrder l o → Orders o
      orders_are o c =
          both_only o c.rises (λ i m. let x = (c.each i).0 m in which_of (one_of i x.0 x.1))
          ((c.each d).1 (p, d_commits))
          ((c.each e).1 (t, e_commits))

  -- the list of the two
  module _ (l : History X) (d e p t : ℕ) (begun-d : 0 < d) (begun-e : 0 < e) (apart : ¬ (d ≡ e)) where
    abbrev pair : ℕ → ℕ → ℕ × ℕ
    pair i u = (i, u)

    parts : {i u j v : ℕ} → pair i u ≡ pair j v → (i ≡ j) × (u ≡ v)
    parts q = (ap (λ (y : ℕ × ℕ). y.0) q, ap (λ (y : ℕ × ℕ). y.1) q)

    abbrev Two : ℕ → ℕ → Type 0
    Two = Either l d e p t begun-d begun-e apart

    listed_are : commits_of l ≡ ε ▸ (d, p) ▸ (e, t) → (i u : ℕ) → (pair i u ∈ commits_of l) ↔ Two i u
    listed_are q i u = rw q (out, back_in)
      where
        out : pair i u ∈ (ε ▸ pair d p ▸ pair e t) → Two i u
        out (inl (inl z)) = absurd z
        out (inl (inr z)) = inl (parts z)
        out (inr z) = inr (parts z)

        back_in : Two i u → pair i u ∈ (ε ▸ pair d p ▸ pair e t)
        back_in (inl (a, b)) = inl (inr (rw (a, b) refl))
        back_in (inr (a, b)) = inr (rw (a, b) refl)

    pub only_orders : commits_of l ≡ ε ▸ (d, p) ▸ (e, t) → (o : Seq ℕ) → CommitOrder l o
        → ((o ≡ ε ▸ d ▸ e) × (p ≤ t)) ⊎ ((o ≡ ε ▸ e ▸ d) × (t ≤ p))
    only_orders q = orders_are l d e p t begun-d begun-e apart (listed_are q)
