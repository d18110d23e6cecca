-- The common set from the words: what each access allows, and that it names a record. Rests on Free of `blocking` and
-- on Decoded of `tables`.
use Prim.Native.Nat.{ℕ, suc, ◌≤◌, ◌<◌}
use mathlib.Core.Path.{◌≡◌, refl, sym, ap, ◌∙◌}
use mathlib.Core.Bool.{Bool, true, false, cond, not, ◌&&◌, ◌||◌, false≢true}
use mathlib.Core.List.{List, ◌∷◌}
use native.Mathlib.Omega.{arith}
use lib.Dec.{leb, ltb}
use lib.ListN.{length}
use borrow.Author.Tests.{leb-true, ltb-true, le-leb, lt-ltb}
use Rattle.types.specs.Limits.{LAST}
use Rattle.meaning.specs.Lists.{all}
use Rattle.meaning.specs.Points.{own, first_free, own_on, allows_read}
use Rattle.meaning.specs.Store.{has_read}
use Rattle.meaning.specs.Sound.{names_existing}
use Rattle.types.specs.declared.Access.{Access}
use Rattle.types.specs.declared.Lock.{Lock}
use Rattle.types.specs.declared.Counts.{Counts}
use Rattle.meaning.proofs.Lists.{both, and_left, and_right}
use Rattle.tables.specs.Decode.{record_at, records_of, slot_at}
use Rattle.tables.proofs.Decoded.{rec_of_lem, records_length}
use Rattle.blocking.specs.declared.Which.TheVariants.{Own}
use Rattle.blocking.specs.Search.{counted, upto}
use Rattle.blocking.proofs.Free.{counted_own}
use Rattle.tables.specs.declared.views.Tables.{Tables}
use Rattle.tables.specs.declared.views.Record.{Record}
use Rattle.tables.specs.Views.{rec_in}
use Rattle.common.specs.declared.sets.Limit.{Limit}
use Rattle.common.specs.Commit.{own_locks, read_end}

-- b implies x, where b holds
pub when : {q x : Bool} (b : Bool) → b ≡ true → q ≡ x → q ≡ (not b || x)
when true e d = d
when false e d = absurd (false≢true e)

-- one access: j is slot k as a word, r the access's record as a row
module _ (c : Counts) (w : List ℕ) (k : ℕ) (a : Access) (l : a.rec < c.records) {j r : ℕ} (ej : j ≡ k)
    (er : r ≡ a.rec) where
  own_on_lem : own j (record_at c w r).locks ≡ own_on (records_of c w) k a
  unfolding own_on
  own_on_lem = rw (ej, er, rec_of_lem c w a.rec l) refl

-- as the code has them: the record and the slot of an access
module _ (l : Limit) (r : Record) {j : ℕ} (ej : j ≡ l.slot)
    (er : (r.number ≡ l.access.rec) × (r.tables ≡ l.tables)) where
  pub own_in : own j (rec_in r).locks ≡ own_locks l
  own_in =
      let t = l.tables in
      ap (λ (y : Tables). own j (record_at y.counts y.words.now r.number).locks) er.1
      ∙ own_on_lem t.counts t.words.now l.slot l.access l.there ej er.0

  pub own_free : upto LAST (first_free (counted (Own j) (rec_in r).locks) l.access.from LAST)
      ≡ upto LAST (first_free (own_locks l) l.access.from LAST)
  own_free = ap (λ ls. upto LAST (first_free ls l.access.from LAST)) (counted_own j (rec_in r).locks ∙ own_in)

-- the read part, over the locks: from its first point to the last one that was read
le_lt : (p q : ℕ) → leb p q ≡ ltb p (suc q)
le_lt p q =
    both (leb p q) (ltb p (suc q)) (λ e. lt-ltb p (suc q) (omega (arith, leb-true p q e)))
    (λ e. le-leb p q (omega (arith, ltb-true p (suc q) e)))

module _ (ls : List Lock) (a : Access) (p : ℕ) where
  pub read_is : {last : ℕ} → p ≤ LAST → a.from ≤ p → suc last ≡ read_end ls a → leb p last ≡ allows_read ls a p
  unfolding read_end
  read_is {last} top h d = le_lt p last ∙ go (has_read a) d
    where
      go : (b : Bool) → suc last ≡ cond b (first_free ls a.from LAST) (suc LAST)
          → ltb p (suc last) ≡ (not b || (leb a.from p && ltb p (first_free ls a.from LAST)))
      go true d = rw (le-leb a.from p h, d) refl
      go false d = rw (d, lt-ltb p (suc LAST) (omega arith)) refl

-- the accesses ahead name records that exist
abbrev pub named : Counts → List ℕ → Access → Bool
named c w a = ltb a.rec (length (records_of c w))

abbrev pub Named : Counts → List ℕ → List Access → Type 0
Named c w xs = all (named c w) xs ≡ true

module _ (c : Counts) (w : List ℕ) where
  pub named_all : (k : ℕ) → names_existing (records_of c w) (slot_at c w k) ≡ true
      → Named c w (slot_at c w k).accesses
  unfolding names_existing
  named_all k e = e

  pub named_rec : (a : Access) → named c w a ≡ true → a.rec < c.records
  named_rec a e = omega (arith, ltb-true a.rec (length (records_of c w)) e, records_length c w)

  module _ {a : Access} {xs rest : List Access} (i : Named c w xs) (e : xs ≡ a ∷ rest) where
    pub named_next : a.rec < c.records
    named_next = named_rec a (and_left (named c w a) (all (named c w) rest) (sym (ap (all (named c w)) e) ∙ i))

    pub named_on : Named c w rest
    named_on = and_right (named c w a) (all (named c w) rest) (sym (ap (all (named c w)) e) ∙ i)
