-- Settle's loop over the records that slot k may have touched: taking its locks from one after the other takes them
-- from all. Rests on Folds, on Acting of `calls` and on the laws of `index`.
use Prim.Native.Nat.{ℕ, suc, ◌+◌, ◌≤◌, ◌<◌}
use native.Mathlib.Omega.{arith}
use native.Mathlib.Decide.{ℕ_discrete}
use mathlib.Core.Path.{◌≡◌, refl, sym, ◌∙◌}
use mathlib.Core.Bool.{Bool, true, false, not, cond, ◌||◌}
use mathlib.Core.List.{List, [], ◌∷◌}
use lib.ListN.{length}
use Rattle.chains.specs.Walk.{IsRow}
use Rattle.types.specs.declared.Counts.{Counts}
use Rattle.meaning.specs.Lists.{any, map_from}
use Rattle.meaning.specs.Store.{Rec, Lock, Store, rec_of, rec_at, with_rec, with_records}
use Rattle.meaning.specs.Points.{is_owned, drop_owner}
use Rattle.meaning.proofs.Lists.{not_both, false_in}
use Rattle.meaning.proofs.Stores.{rec_same, rec_other}
use Rattle.tables.specs.Decode.{decode_at}
use Rattle.tables.specs.Words.{Well}
use Rattle.changes.specs.Becomes.{Becomes, on_locks}
use Rattle.calls.proofs.Acting.{records_counted}
use Rattle.index.specs.Index.{touched, silent, turns, turn, MetFrom, Indexed}
use Rattle.index.proofs.Noting.{kept, met_all}
use Rattle.index.proofs.Touching.{by_locks, rec_change, holds_drop}
use Rattle.endings.specs.Steps.{freed_rec, freed_all}
use Rattle.endings.specs.Frees.{HasLock, Freed}
use Rattle.endings.proofs.Folds.{map_set}

module _ (k : ℕ) where
  -- slot k's locks on one record
  drop_gone : (ls : List Lock) → any (is_owned k) (drop_owner k ls) ≡ false
  unfolding drop_owner
  drop_gone [] = refl
  drop_gone (l ∷ ls) = go (is_owned k l) refl (drop_gone ls)
    where
      go : (b : Bool) → is_owned k l ≡ b → any (is_owned k) (drop_owner k ls) ≡ false
          → any (is_owned k) (cond (not b) (l ∷ drop_owner k ls) (drop_owner k ls)) ≡ false
      go true e ih = ih
      go false e ih = rw (e, ih) refl

  drop_none : (ls : List Lock) → any (is_owned k) ls ≡ false → drop_owner k ls ≡ ls
  unfolding drop_owner
  drop_none [] e = refl
  drop_none (l ∷ ls) e = go (is_owned k l) e (drop_none ls)
    where
      go : (b : Bool) → (b || any (is_owned k) ls) ≡ false → (any (is_owned k) ls ≡ false → drop_owner k ls ≡ ls)
          → cond (not b) (l ∷ drop_owner k ls) (drop_owner k ls) ≡ l ∷ ls
      go true e ih = absurd (not_both refl e)
      go false e ih = rw (ih e) refl

  freed_none : (x : Rec) → any (is_owned k) x.locks ≡ false → freed_rec k x ≡ x
  unfolding freed_rec
  freed_none x e = rw (drop_none x.locks e) refl

  freed_twice : (x : Rec) → freed_rec k (freed_rec k x) ≡ freed_rec k x
  unfolding freed_rec
  freed_twice x = rw (drop_none (drop_owner k x.locks) (drop_gone x.locks)) refl

  -- all records: where none has a lock of the slot; after one of them lost its locks
  freed_same : (i : ℕ) (rs : List Rec) → ((r : ℕ) → r < length rs → any (is_owned k) (rec_of rs r).locks ≡ false)
      → map_from i (λ r x. freed_rec k x) rs ≡ rs
  unfolding rec_of
  freed_same i [] f = refl
  freed_same i (x ∷ rs) f =
      rw (freed_none x (f 0 (omega arith)), freed_same (suc i) rs (λ r l. f (suc r) (omega arith))) refl

  freed_first : (s : Store) (r : ℕ) → r < length s.records
      → freed_all k (with_rec s r (freed_rec k (rec_at s r))) ≡ freed_all k s
  unfolding freed_all with_records
  freed_first s r h =
      rw (map_set (λ i x. freed_rec k x) s.records r (freed_rec k (rec_at s r)) (λ i x. freed_rec k x) h
      (freed_twice (rec_at s r)) (λ i n. refl)) refl

  module _ (s : Store) (r : ℕ) (h : r < length s.records) where
    abbrev after : Store
    after = with_rec s r (freed_rec k (rec_at s r))

    after_gone : HasLock k after r → ⊥
    unfolding freed_rec with_records
    after_gone p =
        not_both p (rw (rec_same s.records r (freed_rec k (rec_at s r)) h) (drop_gone (rec_at s r).locks))

    after_less : (j : ℕ) → HasLock k after j → HasLock k s j
    unfolding with_records
    after_less j p = go (ℕ_discrete j r)
      where
        go : Dec (j ≡ r) → HasLock k s j
        go (yes e) = absurd (after_gone (rw e at p))
        go (no n) = rw (rec_other s.records r j (freed_rec k (rec_at s r)) n) at p

    after_touched : (i j : ℕ) → touched after i j ≡ true → touched s i j ≡ true
    unfolding freed_rec
    after_touched i j =
        rec_change s i j r (freed_rec k (rec_at s r))
        (λ e p. by_locks s i j (λ q. q) (rw e (holds_drop i k (rec_at s r).locks p))) (λ q. q)

  -- one turn
  module _ (c : Counts) (ix w : List ℕ) (W : Well c w) (K : IsRow c.edits k) (r : ℕ)
      (I : Indexed (decode_at c w) ix) where
    unlocked : r < c.records → silent ix k r ≡ true → HasLock k (decode_at c w) r → ⊥
    unlocked l e p =
        not_both (by_locks (decode_at c w) k r (λ q. q) p)
        (I.quiet k r K.low (omega (arith, K.high, W.fits.ranged.edits_high))
        (omega (arith, l, W.fits.ranged.records_high)) e)

    pub freed_past : c.records ≤ r → Freed k c ix w w r
    freed_past n =
        record { well = W; same = refl; gone = λ l p. omega (arith, l, n); less = λ j p. p; indexed = I }

    pub freed_silent : silent ix k r ≡ true → Freed k c ix w w r
    freed_silent e =
        record { well = W; same = refl; gone = λ l p. unlocked l e p; less = λ j p. p; indexed = I }

    pub freed_one : (w' : List ℕ) (owner : ℕ) → r < c.records → owner ≡ k
        → Becomes c w' (on_locks (decode_at c w) r (drop_owner owner)) → Freed k c ix w w' r
    unfolding freed_rec
    freed_one w' owner l o B =
        let h : r < length (decode_at c w).records = omega (arith, l, records_counted c w) in
        record {
          well = B.well;
          same = rw (B.means, o) (freed_first (decode_at c w) r h);
          gone = λ m p. after_gone (decode_at c w) r h (rw (B.means, o) at p);
          less = λ j p. after_less (decode_at c w) r h j (rw (B.means, o) at p);
          indexed =
              rw (B.means, o)
              (kept (decode_at c w) _ ix ix I (λ i j m. after_touched (decode_at c w) r h i j));
        }

  -- the loop: what is left to do makes the answer of the present store, and meets every lock that the slot still has
  pub record Freeing (c : Counts) (ix : List ℕ) (answer : Store) (w : List ℕ) (n i : ℕ) : Type 0 where
    pub well : Well c w
    pub same : freed_all k (decode_at c w) ≡ answer
    pub rest : (r : ℕ) → r < c.records → HasLock k (decode_at c w) r → MetFrom ix k c.records i r
    pub count : n ≡ turns ix k c.records
    pub within : i ≤ n
    pub indexed : Indexed (decode_at c w) ix

  module _ (c : Counts) (ix : List ℕ) where
    pub free_start_lem : (w : List ℕ) (n : ℕ) → Well c w → IsRow c.edits k → Indexed (decode_at c w) ix
        → n ≡ turns ix k c.records → Freeing c ix (freed_all k (decode_at c w)) w n 0
    free_start_lem w n W K I e =
        record {
          well = W;
          same = refl;
          rest = λ r l p. met_all I K.low (omega (arith, K.high, W.fits.ranged.edits_high))
              (omega (arith, W.fits.ranged.records_high)) l (by_locks (decode_at c w) k r (λ q. q) p);
          count = e;
          within = omega arith;
          indexed = I;
        }

    pub free_again : (answer : Store) (w w' : List ℕ) (n i r : ℕ) → Freeing c ix answer w n i → i < n
        → r ≡ turn ix k i → Freed k c ix w w' r → Freeing c ix answer w' n (i + 1)
    free_again answer w w' n i r F h e D =
        record {
          well = D.well;
          same = D.same ∙ F.same;
          rest = λ j l p. go j l p (F.rest j l (D.less j p));
          count = F.count;
          within = omega arith;
          indexed = D.indexed;
        }
      where
        go : (j : ℕ) → j < c.records → HasLock k (decode_at c w') j → MetFrom ix k c.records i j
            → MetFrom ix k c.records (i + 1) j
        go j l p m = later (ℕ_discrete m.0 i)
          where
            later : Dec (m.0 ≡ i) → MetFrom ix k c.records (i + 1) j
            later (yes z) =
                let y : r ≡ j = e ∙ rw z at m.3 in
                absurd (D.gone (omega (arith, y, l)) (rw y p))
            later (no z) = (m.0, omega (arith, z, m.1), m.2, m.3)

    pub free_end : (answer : Store) (w : List ℕ) (n i : ℕ) → Freeing c ix answer w n i → n ≤ i → Becomes c w answer
    unfolding freed_all with_records
    free_end answer w n i F h = record { well = F.well; means = sym same ∙ F.same }
      where
        none : (r : ℕ) → r < length (decode_at c w).records → any (is_owned k) (rec_at (decode_at c w) r).locks ≡ false
        none r l =
            false_in _ (λ p.
            let m = F.rest r (omega (arith, l, records_counted c w)) p in omega (arith, m.1, m.2, F.count, h))

        same : freed_all k (decode_at c w) ≡ decode_at c w
        same = rw (freed_same 0 (decode_at c w).records none) refl
