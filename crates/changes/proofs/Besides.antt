-- Changes of one record's locks beside a walk along accesses, one after the other, and the rows in use after one. Rests
-- on OneWord, and on StoresMore of `meaning`.
use Prim.Native.Nat.{ℕ, ◌+◌, ◌<◌}
use mathlib.Core.Path.{◌≡◌, refl, ap, ◌∙◌}
use mathlib.Core.List.{List}
use lib.ListN.{length}
use Rattle.types.specs.declared.Lock.{Lock}
use Rattle.types.specs.declared.Counts.{Counts}
use Rattle.meaning.specs.Store.{rec_at, with_locks, locks_used}
use Rattle.meaning.proofs.StoresMore.{locks_set}
use Rattle.tables.specs.Decode.{decode_at}
use Rattle.tables.specs.Words.{Well}
use Rattle.tables.proofs.Decoded.{records_length}
use Rattle.changes.specs.Becomes.{AccessesKept, Beside, on_locks}
use Rattle.changes.proofs.OneWord.{then_rec}

module _ {c : Counts} where
  pub beside_none : {w : List ℕ} → Well c w → Beside c w w (decode_at c w)
  beside_none W =
      record {
        becomes = record { well = W; means = refl };
        accesses = record { entry = λ i q. refl; next = λ i q. refl };
      }

  kept_trans : {u v w : List ℕ} → AccessesKept c u v → AccessesKept c v w → AccessesKept c u w
  kept_trans a b =
      record { entry = λ i q. b.entry i q ∙ a.entry i q; next = λ i q. b.next i q ∙ a.next i q }

module _ {c : Counts} {w w₁ : List ℕ} (r : ℕ) (f : List Lock → List Lock) (l : r < c.records)
    (B : Beside c w w₁ (on_locks (decode_at c w) r f)) where
  pub then_locks : {w₂ : List ℕ} (g : List Lock → List Lock) → Beside c w₁ w₂ (on_locks (decode_at c w₁) r g)
      → Beside c w w₂ (on_locks (decode_at c w) r (λ ls. g (f ls)))
  then_locks g D =
      record {
        becomes =
            then_rec w r (with_locks (rec_at (decode_at c w) r) (f (rec_at (decode_at c w) r).locks))
            (λ x. with_locks x (g x.locks)) l B.becomes D.becomes;
        accesses = kept_trans B.accesses D.accesses;
      }

  pub locks_after : locks_used (decode_at c w₁) + length (rec_at (decode_at c w) r).locks
      ≡ locks_used (decode_at c w) + length (f (rec_at (decode_at c w) r).locks)
  unfolding decode_at
  locks_after =
      ap (λ s. locks_used s + length (rec_at (decode_at c w) r).locks) B.becomes.means
      ∙ locks_set (decode_at c w) r (with_locks (rec_at (decode_at c w) r) (f (rec_at (decode_at c w) r).locks))
      (rw (records_length c w) l)
