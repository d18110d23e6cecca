-- Places that a walk finds: the place after the front of rows that pass a test splits the chain there, for any test.
-- Rests on Words.
use Prim.Native.Nat.{ℕ}
use mathlib.Core.Path.{◌≡◌, refl, ap, ◌∙◌}
use mathlib.Core.Bool.{Bool, true, false}
use mathlib.Core.List.{List, [], ◌∷◌, ◌++◌}
use Rattle.std.specs.Prelude.{Some}
use Rattle.chains.specs.declared.Table.{Table}
use Rattle.chains.specs.declared.Heads.{Heads}
use Rattle.chains.specs.Lists.{last_or, take_while, drop_while}
use Rattle.chains.specs.Table.{chain, head_of, rows_of, stands_before}
use Rattle.chains.specs.Change.{Ready, Split, Place, Taken, Inserted, InsertedSorted}
use Rattle.chains.proofs.Words.{head_cons}

pub take_drop {ℓ} : {A : Type ℓ} (p : A → Bool) (xs : List A) → xs ≡ take_while p xs ++ drop_while p xs
unfolding take_while drop_while
take_drop p [] = refl
take_drop p (x ∷ xs) = go (p x) refl (take_drop p xs)
  where
    go : (b : Bool) → p x ≡ b → xs ≡ take_while p xs ++ drop_while p xs
        → x ∷ xs ≡ take_while p (x ∷ xs) ++ drop_while p (x ∷ xs)
    go true e ih = rw (e, take_while, drop_while) (ap (λ l. x ∷ l) ih)
    go false e ih = rw (e, take_while, drop_while) refl

-- x is chain a's head, p the place found from there
module _ (t : Table) (h : Heads) (w : List ℕ) (a : ℕ) (g : ℕ → Bool) {p x : ℕ} (e : x ≡ head_of h w a)
    (k : p ≡ last_or 0 (take_while g (chain t w x))) where
  pub front_split : Split t h w a p (take_while g (rows_of t h w a)) (drop_while g (rows_of t h w a))
  unfolding rows_of
  front_split = record {
    parts = take_drop g (chain t w (head_of h w a));
    last = k ∙ ap (λ y. last_or 0 (take_while g (chain t w y))) e;
  }

  pub front_place : Place t h w a p
  front_place =
      record { upto = take_while g (rows_of t h w a); beyond = drop_while g (rows_of t h w a); split = front_split }

-- the start is a place
pub start_place : (t : Table) (h : Heads) (w : List ℕ) (a : ℕ) → Place t h w a 0
unfolding last_or
start_place t h w a = record { upto = []; beyond = rows_of t h w a; split = record { parts = refl; last = refl } }

-- the code's steps of `insert_sorted`, where there is a row to insert
pub sorted_law : {t : Table} {h : Heads} {w w' : List ℕ} {a b r x p : ℕ} (o q : ℕ) (precedes : ℕ → ℕ → Bool)
    → Ready t h w a b → r ≡ head_of h w b → (r ≡ 0 → ⊥) → x ≡ head_of h w a
    → p ≡ last_or 0 (take_while (stands_before precedes t w o q) (chain t w x)) → Inserted t h w w' a b p r
    → Taken h w w' b (Some r) (InsertedSorted t h w w' a b o q precedes)
unfolding Inserted
sorted_law {t} {h} {w} {w'} {a} {b} {r} o q precedes rd e z ex ep i =
    let c = head_cons t h w rd.parted b r rd.b_in e z in
    record {
      head = e;
      done = record {
        row = c.1;
        taken = c.0;
        changed = i _ _ (front_split t h w a (stands_before precedes t w o q) ex ep);
      };
    }
