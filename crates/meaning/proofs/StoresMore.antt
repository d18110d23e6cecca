-- What holds of every slot and of every record after one is changed, and the rows in use after one record is changed.
-- Rests on Stores.
use Prim.Native.Nat.{ℕ, ◌+◌, ◌<◌}
use native.Mathlib.Decide.{ℕ_discrete}
use mathlib.Core.Path.{◌≡◌}
use mathlib.Core.List.{List}
use lib.ListN.{length, set}
use Rattle.meaning.specs.Store.{Rec, Edit, Store, fresh_rec, edit_of, set_edit, rec_of, rec_at, with_rec, with_records}
use Rattle.meaning.specs.Store.{versions_used, locks_used}
use Rattle.meaning.proofs.Lists.{total_set}
use Rattle.meaning.proofs.Stores.{InRange, edit_same, edit_other, rec_same, rec_other}

-- every slot, if the new edit has the property and the others had it
pub each_edit : (P : ℕ → Edit → Type 0) (es : List Edit) (k : ℕ) (e : Edit) → InRange es k → P k e
    → ((j : ℕ) → P j (edit_of es j))
    → (j : ℕ) → P j (edit_of (set_edit es k e) j)
each_edit P es k e h new old j = go (ℕ_discrete j k)
  where
    go : Dec (j ≡ k) → P j (edit_of (set_edit es k e) j)
    go (yes q) = rw (q, edit_same es k e h) new
    go (no q) = rw (edit_other es k j e q) (old j)

-- every record, if the new one has the property and the others had it
pub each_rec : (P : ℕ → Rec → Type 0) (rs : List Rec) (r : ℕ) (x : Rec) → r < length rs → P r x
    → ((i : ℕ) → P i (rec_of rs i))
    → (i : ℕ) → P i (rec_of (set rs r x) i)
each_rec P rs r x h new old i = go (ℕ_discrete i r)
  where
    go : Dec (i ≡ r) → P i (rec_of (set rs r x) i)
    go (yes q) = rw (q, rec_same rs r x h) new
    go (no q) = rw (rec_other rs r i x q) (old i)

-- the rows in use after record r is changed
module _ (s : Store) (r : ℕ) (x : Rec) (h : r < length s.records) where
  pub locks_set : locks_used (with_rec s r x) + length (rec_at s r).locks ≡ locks_used s + length x.locks
  unfolding locks_used with_records rec_of
  locks_set = total_set (λ y. length y.locks) s.records r x fresh_rec h

  pub versions_set : versions_used (with_rec s r x) + length (rec_at s r).versions ≡ versions_used s + length x.versions
  unfolding versions_used with_records rec_of
  versions_set = total_set (λ y. length y.versions) s.records r x fresh_rec h
