-- An edit stays sound over other records if they keep its locks and the versions that it read; and what the access of a
-- record is. Rests on Lists.
use Prim.Native.Nat.{ℕ, suc, ◌≤◌, ◌<◌}
use native.Mathlib.Omega.{arith}
use mathlib.Core.Path.{◌≡◌, sym, ap, ◌∙◌}
use mathlib.Core.Logic.{◌⊎◌, inl, inr}
use mathlib.Core.Bool.{true, false, false≢true}
use mathlib.Core.List.{List}
use lib.ListN.{length}
use borrow.Author.Tests.{eqb-true}
use Rattle.meaning.specs.Lists.{◌∈◌, any, find}
use Rattle.types.specs.Limits.{WRITE}
use Rattle.meaning.specs.Store.{Lock, Access, Rec, Edit, rec_of, is_of, no_access, access_of}
use Rattle.meaning.specs.Pointwise.{LockOn, HeldOn, InCommonSet}
use Rattle.meaning.specs.SoundFacts.{SoundEdit, Present, ReadStarts}
use Rattle.meaning.proofs.Lists.{find_out}
use Rattle.meaning.specs.Store.{has_written}

module _ (e : Edit) (r : ℕ) where
  -- the access of a record is one of the edit's, or reads and writes nothing
  pub access_out : (access_of e r ≡ no_access r) ⊎ ((access_of e r ∈ e.accesses) × ((access_of e r).rec ≡ r))
  unfolding access_of
  access_out = go (find_out (is_of r) (no_access r) e.accesses)
    where
      go : ((find (is_of r) (no_access r) e.accesses ≡ no_access r) × (any (is_of r) e.accesses ≡ false))
          ⊎ ((find (is_of r) (no_access r) e.accesses ∈ e.accesses)
          × (is_of r (find (is_of r) (no_access r) e.accesses) ≡ true))
          → (find (is_of r) (no_access r) e.accesses ≡ no_access r)
          ⊎ ((find (is_of r) (no_access r) e.accesses ∈ e.accesses)
          × ((find (is_of r) (no_access r) e.accesses).rec ≡ r))
      go (inl w) = inl w.0
      go (inr w) = inr (w.0, eqb-true (find (is_of r) (no_access r) e.accesses).rec r w.1)

  pub access_written : has_written (access_of e r) ≡ true → (access_of e r ∈ e.accesses) × ((access_of e r).rec ≡ r)
  access_written q = go access_out
    where
      go : (access_of e r ≡ no_access r) ⊎ ((access_of e r ∈ e.accesses) × ((access_of e r).rec ≡ r))
          → (access_of e r ∈ e.accesses) × ((access_of e r).rec ≡ r)
      go (inl z) = absurd (false≢true (sym (ap (λ (a : Access). has_written a) z) ∙ q))
      go (inr w) = w

  pub access_read : (tr : ℕ) → (access_of e r).from ≡ suc tr → (access_of e r ∈ e.accesses) × ((access_of e r).rec ≡ r)
  access_read tr q = go access_out
    where
      go : (access_of e r ≡ no_access r) ⊎ ((access_of e r ∈ e.accesses) × ((access_of e r).rec ≡ r))
          → (access_of e r ∈ e.accesses) × ((access_of e r).rec ≡ r)
      go (inl z) = absurd (omega (arith, q, ap (λ (a : Access). a.from) z))
      go (inr w) = w

  -- an edit has no access of a record that is not there
  pub access_past : (rs : List Rec) → ((a : Access) → a ∈ e.accesses → a.rec < length rs) → length rs ≤ r
      → access_of e r ≡ no_access r
  access_past rs f h = go access_out
    where
      go : (access_of e r ≡ no_access r) ⊎ ((access_of e r ∈ e.accesses) × ((access_of e r).rec ≡ r))
          → access_of e r ≡ no_access r
      go (inl z) = z
      go (inr w) = absurd (omega (arith, f (access_of e r) w.0, w.1))

-- what the records rs' keep of rs for the edit e of slot k
pub record Keeps (k : ℕ) (e : Edit) (rs rs' : List Rec) : Type 0 where
  pub count : length rs ≤ length rs'
  pub lock : (a : Access) → a ∈ e.accesses → (l : Lock) → l.owner ≡ k → l ∈ (rec_of rs a.rec).locks
      → l ∈ (rec_of rs' a.rec).locks
  pub version : (a : Access) (tr : ℕ) → a ∈ e.accesses → a.from ≡ suc tr → Present (rec_of rs a.rec) tr
      → Present (rec_of rs' a.rec) tr

module _ (k : ℕ) (e : Edit) (rs rs' : List Rec) (kept : Keeps k e rs rs') where
  pub common_kept : (p : ℕ) → InCommonSet rs k e p → InCommonSet rs' k e p
  common_kept p c =
      record {
        least = c.least;
        last = c.last;
        written = λ a m q. write a m (c.written a m q);
        above = c.above;
        under = λ a tr q m z l h. hold a q m (c.under a tr q m z l h);
      }
    where
      write : (a : Access) → a ∈ e.accesses → LockOn (rec_of rs a.rec).locks k WRITE p
          → LockOn (rec_of rs' a.rec).locks k WRITE p
      write a m w = record {
        lock = w.lock;
        member = kept.lock a m w.lock w.owned w.member;
        owned = w.owned;
        moded = w.moded;
        from = w.from;
        upto = w.upto;
      }

      hold : (a : Access) (q : ℕ) → a ∈ e.accesses → HeldOn (rec_of rs a.rec).locks k q
          → HeldOn (rec_of rs' a.rec).locks k q
      hold a q m w = record {
        lock = w.lock;
        member = kept.lock a m w.lock w.owned w.member;
        owned = w.owned;
        from = w.from;
        upto = w.upto;
      }

  pub read_kept : (a : Access) (tr : ℕ) → a ∈ e.accesses → ReadStarts k (suc tr) (rec_of rs a.rec).locks
      → ReadStarts k (suc tr) (rec_of rs' a.rec).locks
  read_kept a tr m w =
      record {
        lock = w.lock;
        member = kept.lock a m w.lock w.owned w.member;
        owned = w.owned;
        mode = w.mode;
        starts = w.starts;
      }

  pub edit_kept : SoundEdit rs k e → SoundEdit rs' k e
  edit_kept h =
      record {
        state = h.state;
        generation = h.generation;
        point = h.point;
        existing = λ a m. omega (arith, h.existing a m, kept.count);
        once = h.once;
        present = λ a tr m z. kept.version a tr m z (h.present a tr m z);
        locked = λ a tr m z. read_kept a tr m (h.locked a tr m z);
        common = λ z. common_kept e.point (h.common z);
        idle = h.idle;
      }
