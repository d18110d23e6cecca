-- Chains as lists of what their rows hold, so that no row number is left in a statement: an entry is read off a row's
-- words by any function. Rests on Words, Places and Frames.
use Prim.Native.Nat.{ℕ, ◌+◌, ◌≤◌, ◌<◌}
use mathlib.Core.Path.{◌≡◌, refl, sym, ap, ◌∙◌}
use mathlib.Core.Bool.{Bool, true, false}
use mathlib.Core.List.{List, [], ◌∷◌, ◌++◌, map, tail}
use native.Mathlib.Omega.{arith}
use lib.ListN.{set}
use Rattle.chains.specs.declared.Table.{Table}
use Rattle.chains.specs.declared.Heads.{Heads}
use Rattle.chains.specs.Lists.{occ, all_of, take_while, drop_while, insert_after, drop_if}
use Rattle.chains.specs.Walk.{IsRow}
use Rattle.chains.specs.Table.{place, field, rows_of}
use Rattle.chains.specs.Partition.{partition}
use Rattle.chains.specs.Change.{Ready, Changed, Same, UnlinkedBy}
use Rattle.chains.proofs.Occurs.{occ_same, occ_here, occ_there, occ_append}
use Rattle.chains.proofs.Cells.{laid_same, lies, field_same, field_other}
use Rattle.chains.proofs.Words.{on_chain, on_once, on_one}
use Rattle.chains.proofs.Places.{take_drop}
use Rattle.chains.proofs.Frames.{OnlyTable, only_elsewhere, only_put, only_trans, put_same, field_kept}

-- rows that hold the same give the same entries
pub entries_kept {ℓ} : {A : Type ℓ} (f g : ℕ → A) (rs : List ℕ) → ((i : ℕ) → 1 ≤ occ i rs → f i ≡ g i)
    → map f rs ≡ map g rs
entries_kept f g [] h = refl
entries_kept f g (r ∷ rs) h =
    rw (h r (occ_here r rs), entries_kept f g rs (λ i o. h i (omega (arith, occ_there i r rs))))

pub map_append {ℓ} : {A : Type ℓ} (f : ℕ → A) (xs ys : List ℕ) → map f (xs ++ ys) ≡ map f xs ++ map f ys
map_append f [] ys = refl
map_append f (x ∷ xs) ys = ap (λ l. f x ∷ l) (map_append f xs ys)

-- a test of rows that is a test of their entries
module _ {ℓ} {A : Type ℓ} (f : ℕ → A) (p : A → Bool) where
  pub entries_drop : (rs : List ℕ) → map f (drop_if (λ i. p (f i)) rs) ≡ drop_if p (map f rs)
  unfolding drop_if
  entries_drop [] = refl
  entries_drop (r ∷ rs) = go (p (f r)) refl (entries_drop rs)
    where
      go : (b : Bool) → p (f r) ≡ b → map f (drop_if (λ i. p (f i)) rs) ≡ drop_if p (map f rs)
          → map f (drop_if (λ i. p (f i)) (r ∷ rs)) ≡ drop_if p (map f (r ∷ rs))
      go true e ih = rw (e, drop_if) ih
      go false e ih = rw (e, drop_if) (ap (λ l. f r ∷ l) ih)

  pub entries_take : (rs : List ℕ) → map f (take_while (λ i. p (f i)) rs) ≡ take_while p (map f rs)
  unfolding take_while
  entries_take [] = refl
  entries_take (r ∷ rs) = go (p (f r)) refl (entries_take rs)
    where
      go : (b : Bool) → p (f r) ≡ b → map f (take_while (λ i. p (f i)) rs) ≡ take_while p (map f rs)
          → map f (take_while (λ i. p (f i)) (r ∷ rs)) ≡ take_while p (map f (r ∷ rs))
      go true e ih = rw (e, take_while) (ap (λ l. f r ∷ l) ih)
      go false e ih = rw (e, take_while) refl

  pub entries_beyond : (rs : List ℕ) → map f (drop_while (λ i. p (f i)) rs) ≡ drop_while p (map f rs)
  unfolding drop_while
  entries_beyond [] = refl
  entries_beyond (r ∷ rs) = go (p (f r)) refl (entries_beyond rs)
    where
      go : (b : Bool) → p (f r) ≡ b → map f (drop_while (λ i. p (f i)) rs) ≡ drop_while p (map f rs)
          → map f (drop_while (λ i. p (f i)) (r ∷ rs)) ≡ drop_while p (map f (r ∷ rs))
      go true e ih = rw (e, drop_while) ih
      go false e ih = rw (e, drop_while) refl

  pub entries_all : (rs : List ℕ) → all_of (λ i. p (f i)) rs ≡ all_of p (map f rs)
  unfolding all_of
  entries_all [] = refl
  entries_all (r ∷ rs) = go (p (f r)) refl (entries_all rs)
    where
      go : (b : Bool) → p (f r) ≡ b → all_of (λ i. p (f i)) rs ≡ all_of p (map f rs)
          → all_of (λ i. p (f i)) (r ∷ rs) ≡ all_of p (map f (r ∷ rs))
      go true e ih = rw (e, all_of) ih
      go false e ih = rw (e, all_of) refl

-- a chain's entries where the chains are as before: g reads w and f reads w'
pub same_entries {ℓ} : {A : Type ℓ} {t : Table} {h : Heads} {w w' : List ℕ} (f g : ℕ → A) → partition t h w ≡ true
    → Same t h w w'
    → ((i : ℕ) → IsRow t.count i → f i ≡ g i) → (k : ℕ) → k ≤ h.owners
    → map f (rows_of t h w' k) ≡ map g (rows_of t h w k)
same_entries {t = t} {h} {w} {w'} f g s sm e k q =
    ap (map f) (sm.rows_kept k q) ∙ entries_kept f g (rows_of t h w k) (λ i o. e i (on_chain t h w s k q i o))

-- a chain's entries where the chains are as before, and only row r, on chain c between ks and ys, holds something else
module _ {ℓ} {X : Type ℓ} {t : Table} {h : Heads} {w w' : List ℕ} (f g : ℕ → X) (s : partition t h w ≡ true)
    (sm : Same t h w w') {r c : ℕ} (ks ys : List ℕ) (hc : c ≤ h.owners) (sp : rows_of t h w c ≡ ks ++ r ∷ ys)
    (e : (x : ℕ) → IsRow t.count x → (x ≡ r → ⊥) → f x ≡ g x) where
  row_count : (x : ℕ) → occ x (rows_of t h w c) ≡ occ x ks + occ x (r ∷ ys)
  row_count x = ap (occ x) sp ∙ occ_append x ks (r ∷ ys)

  not_in : (xs : List ℕ) → occ r xs ≡ 0 → (x : ℕ) → 1 ≤ occ x xs → x ≡ r → ⊥
  not_in xs z x o q = let y : occ r xs ≡ occ x xs = ap (λ v. occ v xs) (sym q) in omega arith

  pub row_entries : map f (rows_of t h w' c) ≡ map g ks ++ f r ∷ map g ys
  row_entries =
      let z : occ r ks + occ r ys ≡ 0 = omega (arith, row_count r, on_once t h w s c hc r, occ_same r ys) in
      let at : (x : ℕ) → 1 ≤ occ x ks + occ x ys → IsRow t.count x =
      λ x o. on_chain t h w s c hc x (omega (arith, row_count x, occ_there x r ys)) in
      ap (map f) (sm.rows_kept c hc ∙ sp) ∙ map_append f ks (r ∷ ys)
      ∙ rw (
        entries_kept f g ks (λ x o. e x (at x (omega arith)) (not_in ks (omega arith) x o)),
        entries_kept f g ys (λ x o. e x (at x (omega arith)) (not_in ys (omega arith) x o)),
      )

  pub row_others : (j : ℕ) → j ≤ h.owners → (j ≡ c → ⊥) → map f (rows_of t h w' j) ≡ map g (rows_of t h w j)
  row_others j q n =
      let z = on_one t h w s c j hc q (λ k. n (sym k)) r (omega (arith, row_count r, occ_here r ys)) in
      ap (map f) (sm.rows_kept j q)
      ∙ entries_kept f g (rows_of t h w j) (λ x o. e x (on_chain t h w s j q x o) (not_in (rows_of t h w j) z x o))

-- a chain's entries after a change that stores no other words: f reads w' as g reads w
module _ {ℓ} {X : Type ℓ} {t : Table} {h : Heads} {w w' : List ℕ} {a b : ℕ} {A B : List ℕ}
    (c : Changed t h w w' a b A B) (rd : Ready t h w a b) (f g : ℕ → X)
    (e : (i : ℕ) → IsRow t.count i → f i ≡ g i) where
  on_new : (k : ℕ) → k ≤ h.owners → map f (rows_of t h w' k) ≡ map g (rows_of t h w' k)
  on_new k q = entries_kept f g (rows_of t h w' k) (λ i o. e i (on_chain t h w' c.parted k q i o))

  pub entries_a : map f (rows_of t h w' a) ≡ map g A
  entries_a = on_new a rd.a_in ∙ ap (map g) c.at_a

  pub entries_b : map f (rows_of t h w' b) ≡ map g B
  entries_b = on_new b rd.b_in ∙ ap (map g) c.at_b

  pub entries_others : (j : ℕ) → j ≤ h.owners → (j ≡ a → ⊥) → (j ≡ b → ⊥)
      → map f (rows_of t h w' j) ≡ map g (rows_of t h w j)
  entries_others j q na nb = on_new j q ∙ ap (map g) (c.others j q na nb)

-- unlinking by a test of the entries filters them
pub unlinked_entries {ℓ} : {X : Type ℓ} {t : Table} {h : Heads} {w w' : List ℕ} {a b : ℕ} (f g : ℕ → X) (p : X → Bool)
    → Ready t h w a b → UnlinkedBy (λ i. p (g i)) t h w w' a b → ((i : ℕ) → IsRow t.count i → f i ≡ g i)
    → map f (rows_of t h w' a) ≡ drop_if p (map g (rows_of t h w a))
unlinked_entries {t = t} {h} {w} {w'} {a} {b} f g p rd u e = entries_a u rd f g e ∙ entries_drop g p (rows_of t h w a)

-- A change of chains a and b after which words of row i that are no link words are stored: no other row's words but
-- links differ
pub record Filled (t : Table) (h : Heads) (w w' : List ℕ) (a b : ℕ) (A B : List ℕ) (i : ℕ) : Type 0 where
  pub parted : partition t h w' ≡ true
  pub at_a : rows_of t h w' a ≡ A
  pub at_b : rows_of t h w' b ≡ B
  pub others : (j : ℕ) → j ≤ h.owners → (j ≡ a → ⊥) → (j ≡ b → ⊥) → rows_of t h w' j ≡ rows_of t h w j
  pub only : OnlyTable t h w w'
  pub fields : (x e : ℕ) → 1 ≤ x → (x ≡ i → ⊥) → e < t.stride → (e ≡ t.off → ⊥) → field t w' x e ≡ field t w x e

module _ {t : Table} {h : Heads} {w : List ℕ} {a b : ℕ} {A B : List ℕ} (rd : Ready t h w a b) where
  pub filled_start : {w' : List ℕ} (i : ℕ) → Changed t h w w' a b A B → Filled t h w w' a b A B i
  filled_start i c = record {
    parted = c.parted;
    at_a = c.at_a;
    at_b = c.at_b;
    others = c.others;
    only = only_elsewhere rd.laid.within c.elsewhere;
    fields = λ x e lx n he ne. field_kept rd.laid c.elsewhere x e lx he ne;
  }

  pub filled_put : {w' : List ℕ} {i : ℕ} (o v : ℕ) → Filled t h w w' a b A B i → IsRow t.count i → o < t.stride
      → (o ≡ t.off → ⊥) → Filled t h w (set w' (place t i o) v) a b A B i
  filled_put {w'} {i} o v k r ho nf =
      let s = put_same t h w' i o v (laid_same w' k.only.size rd.laid) r.low ho nf in
      record {
        parted = s.parted_kept ∙ k.parted;
        at_a = s.rows_kept a rd.a_in ∙ k.at_a;
        at_b = s.rows_kept b rd.b_in ∙ k.at_b;
        others = λ j q na nb. s.rows_kept j q ∙ k.others j q na nb;
        only = only_trans k.only (only_put t h w' i o v r ho);
        fields =
            λ x e lx n he ne. field_other t w' i x o e v r.low lx ho he (λ z. n z.0) ∙ k.fields x e lx n he ne;
      }

  -- the words stored, and those not
  pub put_field : {w' : List ℕ} {i : ℕ} (o v : ℕ) → Filled t h w w' a b A B i → IsRow t.count i → o < t.stride
      → field t (set w' (place t i o) v) i o ≡ v
  put_field {w'} {i} o v k r ho = field_same t w' i o v (lies (laid_same w' k.only.size rd.laid)) r ho

-- the entries after it: row i was on chain c, and f reads every other row of w' as g reads it of w
module _ {ℓ} {X : Type ℓ} {t : Table} {h : Heads} {w w' : List ℕ} {a b : ℕ} {A B : List ℕ} {i : ℕ}
    (k : Filled t h w w' a b A B i) (f g : ℕ → X) (s : partition t h w ≡ true)
    (c : ℕ) (hc : c ≤ h.owners) (on : 1 ≤ occ i (rows_of t h w c))
    (e : (x : ℕ) → IsRow t.count x → (x ≡ i → ⊥) → f x ≡ g x) where
  not_i : (j : ℕ) → j ≤ h.owners → (c ≡ j → ⊥) → (x : ℕ) → 1 ≤ occ x (rows_of t h w j) → x ≡ i → ⊥
  not_i j hj n x o q =
      let y : occ i (rows_of t h w j) ≡ occ x (rows_of t h w j) = ap (λ v. occ v (rows_of t h w j)) (sym q) in
      omega (arith, on_one t h w s c j hc hj n i on)

  -- rows of another chain of w
  pub chain_entries : (j : ℕ) → j ≤ h.owners → (c ≡ j → ⊥) → map f (rows_of t h w j) ≡ map g (rows_of t h w j)
  chain_entries j hj n = entries_kept f g (rows_of t h w j) (λ x o. e x (on_chain t h w s j hj x o) (not_i j hj n x o))

  -- a chain that is neither a nor b nor i's old one
  pub other_entries : (j : ℕ) → j ≤ h.owners → (j ≡ a → ⊥) → (j ≡ b → ⊥) → (c ≡ j → ⊥)
      → map f (rows_of t h w' j) ≡ map g (rows_of t h w j)
  other_entries j hj na nb nc = ap (map f) (k.others j hj na nb) ∙ chain_entries j hj nc

-- the first row of chain a became the first of chain b, and was filled: chain b has gained its entry
pub pushed_entries {ℓ} : {X : Type ℓ} {t : Table} {h : Heads} {w w' : List ℕ} {a b i : ℕ} (f g : ℕ → X)
    → Ready t h w a b → rows_of t h w a ≡ i ∷ tail (rows_of t h w a)
    → Filled t h w w' a b (tail (rows_of t h w a)) (i ∷ rows_of t h w b) i
    → ((x : ℕ) → IsRow t.count x → (x ≡ i → ⊥) → f x ≡ g x)
    → map f (rows_of t h w' b) ≡ f i ∷ map g (rows_of t h w b)
pushed_entries {t = t} {h} {w} {w'} {a} {b} {i} f g rd tk k e =
    ap (map f) k.at_b ∙ ap (λ y. f i ∷ y)
    (chain_entries k f g rd.parted a rd.a_in (rw tk (occ_here i (tail (rows_of t h w a)))) e b rd.b_in
    rd.differ)

-- the first row of chain b came to stand between ks and ys on chain a, and was filled: chain a has gained its entry
-- there
pub inserted_entries {ℓ} : {X : Type ℓ} {t : Table} {h : Heads} {w w' : List ℕ} {a b i : ℕ} {zs : List ℕ} (f g : ℕ → X)
    (ks ys : List ℕ)
    → Ready t h w a b → rows_of t h w b ≡ i ∷ tail (rows_of t h w b) → rows_of t h w a ≡ ks ++ ys
    → Filled t h w w' a b (ks ++ i ∷ ys) zs i → ((x : ℕ) → IsRow t.count x → (x ≡ i → ⊥) → f x ≡ g x)
    → map f (rows_of t h w' a) ≡ map g ks ++ f i ∷ map g ys
inserted_entries {t = t} {h} {w} {w'} {a} {b} {i} f g ks ys rd tk sp k e =
    let on : 1 ≤ occ i (rows_of t h w b) = rw tk (occ_here i (tail (rows_of t h w b))) in
    let oc : (x : ℕ) → occ x (rows_of t h w a) ≡ occ x ks + occ x ys = λ x. ap (occ x) sp ∙ occ_append x ks ys in
    let same : (x : ℕ) → 1 ≤ occ x (rows_of t h w a)
    → f x ≡ g x = λ x o. e x (on_chain t h w rd.parted a rd.a_in x o)
    (not_i k f g rd.parted b rd.b_in on e a rd.a_in (λ z. rd.differ (sym z)) x o) in
    ap (map f) k.at_a ∙ map_append f ks (i ∷ ys)
    ∙ rw (
      entries_kept f g ks (λ x o. same x (omega (arith, oc x))),
      entries_kept f g ys (λ x o. same x (omega (arith, oc x))),
    )

-- and where it stands after the front of rows whose entries pass a test
pub sorted_entries {ℓ} : {X : Type ℓ} {t : Table} {h : Heads} {w w' : List ℕ} {a b i : ℕ} {zs : List ℕ} (f g : ℕ → X)
    (p : X → Bool) → Ready t h w a b → rows_of t h w b ≡ i ∷ tail (rows_of t h w b)
    → Filled t h w w' a b (insert_after (λ x. p (g x)) i (rows_of t h w a)) zs i
    → ((x : ℕ) → IsRow t.count x → (x ≡ i → ⊥) → f x ≡ g x)
    → map f (rows_of t h w' a) ≡ insert_after p (f i) (map g (rows_of t h w a))
sorted_entries {t = t} {h} {w} {w'} {a} {b} {i} f g p rd tk k e =
    let rows = rows_of t h w a in
    inserted_entries f g (take_while (λ x. p (g x)) rows) (drop_while (λ x. p (g x)) rows) rd tk
    (take_drop (λ x. p (g x)) rows) k e
    ∙ rw (entries_take g p rows, entries_beyond g p rows) refl

-- the entries of every other chain are as before
pub taken_others {ℓ} : {X : Type ℓ} {t : Table} {h : Heads} {w w' : List ℕ} {a b i : ℕ} {A B : List ℕ} (f g : ℕ → X)
    → Ready t h w a b → rows_of t h w b ≡ i ∷ tail (rows_of t h w b) → Filled t h w w' a b A B i
    → ((x : ℕ) → IsRow t.count x → (x ≡ i → ⊥) → f x ≡ g x) → (j : ℕ) → j ≤ h.owners → (j ≡ a → ⊥) → (j ≡ b → ⊥)
    → map f (rows_of t h w' j) ≡ map g (rows_of t h w j)
taken_others {t = t} {h} {w} {w'} {a} {b} {i} f g rd tk k e j q na nb =
    other_entries k f g rd.parted b rd.b_in (rw tk (occ_here i (tail (rows_of t h w b)))) e j q na nb
    (λ z. nb (sym z))
