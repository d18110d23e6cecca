-- A reply of the store is the one that a desk goes on by, or it is passed on. Rests on specs/Cases.
use Prim.Native.Nat.{ℕ}
use mathlib.Core.Path.{◌≡◌, refl}
use Rattle.types.specs.Replies.{Reply, ok, edit, locked, read, own, again, commit, nopoint, purged, at, point, refusing}
use Rattle.types.specs.Values.{Value}
use Rattle.desk.specs.Cases.{on_edit, on_locked, on_read}

pub data EditOr : Reply → Type 1 where
  edited : (h : ℕ) → EditOr (edit h)
  passed : {q : Reply} → ((A : Type 0) (x : A) (f : ℕ → A) → on_edit q x f ≡ x) → EditOr q

pub edit_or : (q : Reply) → EditOr q
edit_or ok = passed (λ A x f. refl)
edit_or (edit h) = edited h
edit_or (locked low high) = passed (λ A x f. refl)
edit_or (read tr end v) = passed (λ A x f. refl)
edit_or (own v) = passed (λ A x f. refl)
edit_or (again tr v) = passed (λ A x f. refl)
edit_or (commit p) = passed (λ A x f. refl)
edit_or nopoint = passed (λ A x f. refl)
edit_or (purged vs ls) = passed (λ A x f. refl)
edit_or (at p v) = passed (λ A x f. refl)
edit_or (point p) = passed (λ A x f. refl)
edit_or (refusing n more) = passed (λ A x f. refl)

pub data LockedOr : Reply → Type 1 where
  taken : (low high : ℕ) → LockedOr (locked low high)
  passed : {q : Reply} → ((A : Type 0) (x : A) (f : ℕ → ℕ → A) → on_locked q x f ≡ x) → LockedOr q

pub locked_or : (q : Reply) → LockedOr q
locked_or ok = passed (λ A x f. refl)
locked_or (edit h) = passed (λ A x f. refl)
locked_or (locked low high) = taken low high
locked_or (read tr end v) = passed (λ A x f. refl)
locked_or (own v) = passed (λ A x f. refl)
locked_or (again tr v) = passed (λ A x f. refl)
locked_or (commit p) = passed (λ A x f. refl)
locked_or nopoint = passed (λ A x f. refl)
locked_or (purged vs ls) = passed (λ A x f. refl)
locked_or (at p v) = passed (λ A x f. refl)
locked_or (point p) = passed (λ A x f. refl)
locked_or (refusing n more) = passed (λ A x f. refl)

pub data ReadOr : Reply → Type 1 where
  new : (tr end : ℕ) (v : Value) → ReadOr (read tr end v)
  passed : {q : Reply} → ((A : Type 0) (x : A) (f : ℕ → ℕ → A) → on_read q x f ≡ x) → ReadOr q

pub read_or : (q : Reply) → ReadOr q
read_or ok = passed (λ A x f. refl)
read_or (edit h) = passed (λ A x f. refl)
read_or (locked low high) = passed (λ A x f. refl)
read_or (read tr end v) = new tr end v
read_or (own v) = passed (λ A x f. refl)
read_or (again tr v) = passed (λ A x f. refl)
read_or (commit p) = passed (λ A x f. refl)
read_or nopoint = passed (λ A x f. refl)
read_or (purged vs ls) = passed (λ A x f. refl)
read_or (at p v) = passed (λ A x f. refl)
read_or (point p) = passed (λ A x f. refl)
read_or (refusing n more) = passed (λ A x f. refl)
