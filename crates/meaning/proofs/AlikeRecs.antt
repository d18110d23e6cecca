-- Lists of records of which one is kept in the plain way and one joined: what it means that they are alike, and that
-- they stay so where one record or all are changed alike. Rests on Alike and Same.
use Prim.Native.Nat.{ℕ, zero, suc, ◌-◌, ◌≤◌}
use native.Mathlib.Omega.{arith}
use mathlib.Core.Path.{◌≡◌, refl}
use mathlib.Core.Bool.{true}
use mathlib.Core.List.Memᴰ
use mathlib.Core.List.{List, [], ◌∷◌}
use lib.ListN.{length, set, length-set}
use Rattle.meaning.specs.Lists.{pairwise, total, map_from}
use Rattle.meaning.specs.Store.{Rec, fresh_rec, rec_of}
use Rattle.meaning.specs.Points.{no_later, apart_reads}
use Rattle.meaning.specs.Points.{joined}
use Rattle.meaning.specs.Pointwise.{Proper}
use Rattle.meaning.proofs.Rows.{none}
use Rattle.meaning.proofs.Same.{Modes}
use Rattle.meaning.proofs.Alike.{Locks, modes_to, modes_from}

pub record AlikeRec (x y : Rec) : Type 0 where
  pub versions : x.versions ≡ y.versions
  pub floor : x.floor ≡ y.floor
  pub locks : Locks x.locks y.locks

pub record Recs (rs us : List Rec) : Type 0 where
  pub count : length rs ≡ length us
  pub each : (r : ℕ) → AlikeRec (rec_of rs r) (rec_of us r)

-- what is used of the soundness of the joined store
pub record Good (us : List Rec) : Type 0 where
  pub proper : (r : ℕ) → Proper (rec_of us r)
  pub rises : (r : ℕ) → pairwise no_later (rec_of us r).locks ≡ true
  pub joined : (r : ℕ) → pairwise apart_reads (rec_of us r).locks ≡ true

-- a fresh record
pub fresh_rec_alike : AlikeRec fresh_rec fresh_rec
fresh_rec_alike =
    record {
      versions = refl;
      floor = refl;
      locks = record { rows = none; to = λ p w. w; from = λ p w. w; proper = λ l i. absurd (Memᴰ.not-nil i) };
    }

-- lists of records, changed alike
pub set_alike : (rs us : List Rec) → length rs ≡ length us → ((r : ℕ) → AlikeRec (rec_of rs r) (rec_of us r))
    → (i : ℕ) (x y : Rec) → AlikeRec x y → (r : ℕ) → AlikeRec (rec_of (set rs i x) r) (rec_of (set us i y) r)
unfolding rec_of
set_alike [] [] e f i x y a r = f r
set_alike [] (u ∷ us) e f i x y a r = absurd (omega (arith, e))
set_alike (z ∷ rs) [] e f i x y a r = absurd (omega (arith, e))
set_alike (z ∷ rs) (u ∷ us) e f zero x y a zero = a
set_alike (z ∷ rs) (u ∷ us) e f zero x y a (suc r) = f (suc r)
set_alike (z ∷ rs) (u ∷ us) e f (suc i) x y a zero = f zero
set_alike (z ∷ rs) (u ∷ us) e f (suc i) x y a (suc r) = set_alike rs us (omega (arith, e)) (λ j. f (suc j)) i x y a r

pub map_alike : (g h : ℕ → Rec → Rec) → ((i : ℕ) (x y : Rec) → AlikeRec x y → AlikeRec (g i x) (h i y))
    → (i : ℕ) (rs us : List Rec) → length rs ≡ length us
    → ((r : ℕ) → AlikeRec (rec_of rs r) (rec_of us r)) → (r : ℕ)
    → AlikeRec (rec_of (map_from i g rs) r) (rec_of (map_from i h us) r)
unfolding rec_of
map_alike g h k i [] [] e f r = f r
map_alike g h k i [] (u ∷ us) e f r = absurd (omega (arith, e))
map_alike g h k i (z ∷ rs) [] e f r = absurd (omega (arith, e))
map_alike g h k i (z ∷ rs) (u ∷ us) e f zero = k i z u (f zero)
map_alike g h k i (z ∷ rs) (u ∷ us) e f (suc r) = map_alike g h k (suc i) rs us (omega (arith, e)) (λ j. f (suc j)) r

pub total_most : (m : Rec → ℕ) (rs us : List Rec) → length rs ≡ length us
    → ((r : ℕ) → m (rec_of us r) ≤ m (rec_of rs r)) → total m us ≤ total m rs
unfolding rec_of
total_most m [] [] e f = omega arith
total_most m [] (u ∷ us) e f = absurd (omega (arith, e))
total_most m (z ∷ rs) [] e f = absurd (omega (arith, e))
total_most m (z ∷ rs) (u ∷ us) e f = omega (arith, f zero, total_most m rs us (omega (arith, e)) (λ j. f (suc j)))

pub set_recs : {rs us : List Rec} → Recs rs us → (i : ℕ) (x y : Rec) → AlikeRec x y → Recs (set rs i x) (set us i y)
set_recs {rs} {us} R i x y a = record {
  count = omega (arith, length-set rs i x, length-set us i y, R.count);
  each = set_alike rs us R.count R.each i x y a;
}

-- records alike have the same modes
module _ {rs us : List Rec} (R : Recs rs us) where
  pub recs_to : (r : ℕ) → Modes (rec_of rs r) (rec_of us r)
  recs_to r = record { each = modes_to (R.each r).locks }

  pub recs_from : (r : ℕ) → Modes (rec_of us r) (rec_of rs r)
  recs_from r = record { each = modes_from (R.each r).locks }
