-- An edit has its own value of a record, or has read it, exactly where its one access of the record is marked so. Rests
-- on Lists.
use Prim.Native.Nat.{ℕ, ◌<◌}
use native.Mathlib.Omega.{arith}
use mathlib.Core.Path.{◌≡◌, sym, ◌∙◌}
use mathlib.Core.Logic.{◌⊎◌, inl, inr}
use mathlib.Core.Bool.{true, false, not, false≢true}
use lib.Dec.{eqb}
use borrow.Author.Tests.{eqb-true, eqb-false, eq-eqb, not-true}
use Rattle.meaning.specs.Lists.{◌∈◌, any, find}
use Rattle.meaning.specs.Store.{Access, Edit, Store, edit_at, is_of, no_access, access_of}
use Rattle.meaning.specs.Sound.{names_once}
use Rattle.meaning.specs.Causes.{Accessed}
use Rattle.meaning.proofs.Lists.{find_out, any_none, pairwise_out}
use Rattle.meaning.specs.Store.{has_written}

abbrev Used : Access → Type 0
Used a = (has_written a ≡ true) ⊎ (0 < a.from)

none_used : (r : ℕ) → Used (no_access r) → ⊥
none_used r (inl e) = false≢true e
none_used r (inr h) = omega arith

pub accessed_in : (s : Store) (k r : ℕ) → Used (access_of (edit_at s k) r) → Accessed s k r
unfolding access_of
accessed_in s k r u = go (find_out (is_of r) (no_access r) (edit_at s k).accesses)
  where
    a : Access
    a = find (is_of r) (no_access r) (edit_at s k).accesses

    go : ((a ≡ no_access r) × (any (is_of r) (edit_at s k).accesses ≡ false))
        ⊎ ((a ∈ (edit_at s k).accesses) × (is_of r a ≡ true))
        → Accessed s k r
    go (inl w) = absurd (none_used r (rw w.0 at u))
    go (inr w) = record { access = a; member = w.0; names = eqb-true a.rec r w.1; used = u }

-- the accesses of one record are one
same_access : (e : Edit) (r : ℕ) → names_once e ≡ true → {a b : Access} → a ∈ e.accesses → b ∈ e.accesses → a.rec ≡ r
    → b.rec ≡ r → a ≡ b
unfolding names_once
same_access e r once {a} {b} m n p q = go (pairwise_out (λ x y. not (eqb x.rec y.rec)) e.accesses once m n)
  where
    go : (a ≡ b) ⊎ ((not (eqb a.rec b.rec) ≡ true) ⊎ (not (eqb b.rec a.rec) ≡ true)) → a ≡ b
    go (inl h) = h
    go (inr (inl h)) = absurd (eqb-false a.rec b.rec (not-true (eqb a.rec b.rec) h) (p ∙ sym q))
    go (inr (inr h)) = absurd (eqb-false b.rec a.rec (not-true (eqb b.rec a.rec) h) (q ∙ sym p))

pub accessed_out : (s : Store) (k r : ℕ) → names_once (edit_at s k) ≡ true → Accessed s k r
    → Used (access_of (edit_at s k) r)
unfolding access_of
accessed_out s k r once d = go (find_out (is_of r) (no_access r) (edit_at s k).accesses)
  where
    a : Access
    a = find (is_of r) (no_access r) (edit_at s k).accesses

    go : ((a ≡ no_access r) × (any (is_of r) (edit_at s k).accesses ≡ false))
        ⊎ ((a ∈ (edit_at s k).accesses) × (is_of r a ≡ true))
        → Used a
    go (inl w) =
        absurd (any_none (is_of r) (edit_at s k).accesses w.1 d.member (eq-eqb d.access.rec r d.names))
    go (inr w) =
        rw (same_access (edit_at s k) r once w.0 d.member (eqb-true a.rec r w.1) d.names) d.used
