-- The list goes on: a committed edit has no further calls, so that it stays committed, with the calls that it had; and
-- what an edit read, it read from a version or had written. Rests on Memory, Extend, Runs.
use Prim.Native.Nat.{ℕ}
use mathlib.Core.Path.{◌≡◌, refl, sym, ◌∙◌, subst}
use mathlib.Core.Logic.{◌⊎◌, inl, inr}
use mathlib.Core.Bool.{Bool, true, false, cond}
use mathlib.Core.Option.{Option, some, none}
use lib.Dec.{eqb}
use borrow.Author.Tests.{eqb-true, eq-eqb}
use Rattle.serial.specs.Serializable.{Seq, ε, ◌▸◌, ◌∈◌, ReadReply, from, own, again, Operation, wrote, read}
use Rattle.serial.specs.Serializable.{commits, Event, begun, call, other, History, edit_of, calls_of, Commits}
use Rattle.serial.specs.Serializable.{after, Fits, pending, State, calls_by, Open, Step, silent, pass, begin}
use Rattle.serial.specs.Serializable.{write, read_first, read_own, read_again, commit, Run, start, next}
use Rattle.serial.specs.Moments.{Prefix, whole, more, Touches}
use Rattle.serial.proofs.Memory.{not_both, read_wrote, read_commits, commits_wrote, after_kept}
use Rattle.serial.proofs.Runs.{extends}

module _ {X : Type 0} where
  -- every call was of an edit that had not committed
  abbrev AllOpen : History X → Type 0
  AllOpen ε = Unit {0}
  AllOpen (l ▸ begun h) = AllOpen l
  AllOpen (l ▸ call h c) = AllOpen l × Open l h
  AllOpen (l ▸ other) = AllOpen l

  open_step : {l l' : History X} {S S' : State X} → Step l S l' S' → AllOpen l → AllOpen l'
  open_step (silent C S) a = a
  open_step pass a = a
  open_step begin a = a
  open_step (write o) a = (a, o)
  open_step (read_first o n s) a = (a, o)
  open_step (read_own o w) a = (a, o)
  open_step (read_again u y o n r q s) a = (a, o)
  open_step (commit o named C D S) a = (a, o)

  all_open : {l : History X} {S : State X} → Run l S → AllOpen l
  all_open (start fresh S) = tt
  all_open (next r t) = open_step t (all_open r)

  calls_same : {l m : History X} → Prefix l m → AllOpen m → (e t : ℕ) → Commits l e t → calls_of m e ≡ calls_of l e
  calls_same whole a e t c = refl
  calls_same {l} (more {s = m} {b = begun h} g) a e t c = calls_same g a e t c
  calls_same {l} (more {s = m} {b = call h op} g) a e t c =
      let q = calls_same g a.0 e t c in
      (extends m h op).there e
      (λ z. a.1 t (subst (λ i. commits t ∈ calls_of m i) z (subst (λ cs. commits t ∈ cs) (sym q) c.1)))
      ∙ q
  calls_same {l} (more {s = m} {b = other} g) a e t c = calls_same g a e t c

  pub calls_stay : {l m : History X} {M : State X} → Run m M → Prefix l m → (e t : ℕ) → Commits l e t
      → calls_of m e ≡ calls_of l e
  calls_stay r g = calls_same g (all_open r)

  pub commits_stay : {l m : History X} {M : State X} → Run m M → Prefix l m → (e t : ℕ) → Commits l e t → Commits m e t
  commits_stay r g e t c = (c.0, subst (λ cs. commits t ∈ cs) (sym (calls_stay r g e t c)) c.1)

  -- read from a version, or written
  abbrev pub Accessed : Seq (Operation X) → ℕ → Type 0
  Accessed cs k = ((u : ℕ) × (x : Option X) × (read k (from u) x ∈ cs)) ⊎ ((v : X) × (pending cs k ≡ some v))

  wrote_accessed : (cs : Seq (Operation X)) (j : ℕ) (w : X) (k : ℕ) (v : X) → pending cs k ≡ some v
      → (u : X) × (pending (cs ▸ wrote j w) k ≡ some u)
  wrote_accessed cs j w k v q = go (eqb k j)
    where
      go : (b : Bool) → (u : X) × (cond b (some w) (pending cs k) ≡ some u)
      go true = (w, refl)
      go false = (v, q)

  accessed_more : (cs : Seq (Operation X)) (c : Operation X) (k : ℕ) → Accessed cs k → Accessed (cs ▸ c) k
  accessed_more cs c k (inl (u, x, i)) = inl (u, x, inl i)
  accessed_more cs (wrote j w) k (inr (v, q)) = inr (wrote_accessed cs j w k v q)
  accessed_more cs (read j a x) k (inr (v, q)) = inr (v, q)
  accessed_more cs (commits t) k (inr (v, q)) = inr (v, q)

  -- every record read was accessed
  abbrev Right : Seq (Operation X) → Type 0
  Right cs = (k : ℕ) (a : ReadReply) (x : Option X) → read k a x ∈ cs → Accessed cs k

  joins : (l : History X) (h : ℕ) (c : Operation X) (e : ℕ) → Right (calls_of l e)
      → ((k : ℕ) (a : ReadReply) (x : Option X) → read k a x ≡ c → Accessed (calls_by l h ▸ c) k)
      → Right (calls_of (l ▸ call h c) e)
  joins l h c e R here = go (eqb e (edit_of l h)) refl
    where
      go : (b : Bool) → eqb e (edit_of l h) ≡ b → Right (cond b (calls_of l e ▸ c) (calls_of l e))
      go true q k a x (inl i) = accessed_more (calls_of l e) c k (R k a x i)
      go true q k a x (inr z) =
          subst (λ i. Accessed (calls_of l i ▸ c) k) (sym (eqb-true e (edit_of l h) q)) (here k a x z)
      go false q k a x i = R k a x i

  right_step : {l l' : History X} {S S' : State X} → Step l S l' S' → ((e : ℕ) → Right (calls_of l e)) → (e : ℕ)
      → Right (calls_of l' e)
  right_step (silent C S) R e = R e
  right_step pass R e = R e
  right_step begin R e = R e
  right_step {l} (write {h = h} {k = k} {v = v} o) R e =
      joins l h (wrote k v) e (R e) (λ j a x q. absurd (read_wrote q))
  right_step {l} (read_first {h = h} {k = k} {t = t} {x = x} o n s) R e =
      joins l h (read k (from t) x) e (R e)
      (λ j a y q. let z : k ≡ j = cc in inl (t, x, inr (let w = z in cc)))
  right_step {l} (read_own {h = h} {k = k} {v = v} o w) R e =
      joins l h (read k own (some v)) e (R e)
      (λ j a y q. let z : k ≡ j = cc in inr (v, subst (λ i. pending (calls_by l h) i ≡ some v) z w))
  right_step {l} (read_again {h = h} {k = k} {t = t} {x = x} u y o n r q s) R e =
      joins l h (read k (again t) x) e (R e)
      (λ j a w p. let z : k ≡ j = cc in inl (u, y, inl (subst (λ i. read i (from u) y ∈ calls_by l h) z r)))
  right_step {l} (commit {h = h} {t = t} o named C D S) R e =
      joins l h (commits t) e (R e) (λ j a x q. absurd (read_commits q))

  reads_accessed : {l : History X} {S : State X} → Run l S → (e : ℕ) → Right (calls_of l e)
  reads_accessed (start fresh S) e k a x i = absurd i
  reads_accessed (next r t) e k a x i = right_step t (reads_accessed r) e k a x i

  writes_accessed : (cs : Seq (Operation X)) (k : ℕ) (v : X) → wrote k v ∈ cs → (w : X) × (pending cs k ≡ some w)
  writes_accessed ε k v i = absurd i
  writes_accessed (cs ▸ wrote j w) k v (inl i) =
      let a = writes_accessed cs k v i in
      wrote_accessed cs j w k a.0 a.1
  writes_accessed (cs ▸ wrote j w) k v (inr q) =
      let z : k ≡ j = cc in (w, subst (λ b. cond b (some w) (pending cs k) ≡ some w) (sym (eq-eqb k j z)) refl)
  writes_accessed (cs ▸ read j a x) k v (inl i) = writes_accessed cs k v i
  writes_accessed (cs ▸ read j a x) k v (inr q) = absurd (read_wrote (sym q))
  writes_accessed (cs ▸ commits t) k v (inl i) = writes_accessed cs k v i
  writes_accessed (cs ▸ commits t) k v (inr q) = absurd (commits_wrote (sym q))

  pub touched : {l : History X} {S : State X} → Run l S → (e k : ℕ) → Touches l e k → Accessed (calls_of l e) k
  touched r e k (inl (a, x, i)) = reads_accessed r e k a x i
  touched {l} r e k (inr (v, i)) = inr (writes_accessed (calls_of l e) k v i)

  -- what an edit read of a record that it did not write, the plain run had before it
  pub fits_read : (cs : Seq (Operation X)) (m : ℕ → Option X) (k : ℕ) (a : ReadReply) (x : Option X) → Fits cs m
      → read k a x ∈ cs → pending cs k ≡ none → m k ≡ x
  fits_read ε m k a x f i n = absurd i
  fits_read (cs ▸ wrote j v) m k a x f (inl i) n = go (eqb k j) n (fits_read cs m k a x f i)
    where
      go : (b : Bool) → cond b (some v) (pending cs k) ≡ none → (pending cs k ≡ none → m k ≡ x) → m k ≡ x
      go true n ih = absurd (not_both n refl)
      go false n ih = ih n
  fits_read (cs ▸ wrote j v) m k a x f (inr q) n = absurd (read_wrote q)
  fits_read (cs ▸ read j b y) m k a x f (inl i) n = fits_read cs m k a x f.0 i n
  fits_read (cs ▸ read j b y) m k a x f (inr q) n =
      let z : k ≡ j = cc in
      let w : x ≡ y = cc in
      sym (after_kept cs m k n) ∙ subst (λ i. after cs m i ≡ y) (sym z) f.1 ∙ sym w
  fits_read (cs ▸ commits t) m k a x f (inl i) n = fits_read cs m k a x f i n
  fits_read (cs ▸ commits t) m k a x f (inr q) n = absurd (read_commits q)

-- the list that goes on was a run before
module _ {X : Type 0} where
  shorter : {l m : History X} {a : Event X} → Prefix m (l ▸ a) → (m ≡ l ▸ a) ⊎ Prefix m l
  shorter whole = inl refl
  shorter (more g) = inr g

  step_back : {l l' m : History X} {S S' : State X} → Step l S l' S' → Prefix m l' → (m ≡ l') ⊎ Prefix m l
  step_back (silent C S) g = inr g
  step_back pass g = shorter g
  step_back begin g = shorter g
  step_back (write o) g = shorter g
  step_back (read_first o n s) g = shorter g
  step_back (read_own o w) g = shorter g
  step_back (read_again u y o n r q s) g = shorter g
  step_back (commit o named C D S) g = shorter g

  pub prefix_runs : {m n : History X} {N : State X} → Run n N → Prefix m n → (M : State X) × Run m M
  prefix_runs (start f S) whole = (_, start f S)
  prefix_runs {m} (next {l = l} {l' = n} {S' = N} r t) g = go (step_back t g) (λ h. prefix_runs r h)
    where
      go : (m ≡ n) ⊎ Prefix m l → (Prefix m l → (M : State X) × Run m M) → (M : State X) × Run m M
      go (inl q) ih = (N, subst (λ k. Run k N) (sym q) (next r t))
      go (inr h) ih = ih h
