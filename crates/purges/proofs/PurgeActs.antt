-- Purge meets its contract: versions are cut, locks trimmed and the floor set, and the rows freed are the difference.
-- Rests on PurgeExits, OneWord of `changes` and Acting of `calls`.
use Prim.Native.Nat.{ℕ, ◌≤◌, ◌<◌}
use native.Mathlib.Omega.{arith}
use mathlib.Core.Path.{◌≡◌, refl, sym, ap, ◌∙◌}
use mathlib.Core.Logic.{◌⊎◌, inl, inr}
use mathlib.Core.Bool.{Bool, true, false}
use mathlib.Core.List.{List, []}
use lib.Dec.{leb, ltb}
use borrow.Author.Tests.{leb-true, ltb-true}
use Rattle.meaning.specs.Lists.{◌∈◌, any, keep, find}
use Rattle.types.specs.Limits.{LAST}
use Rattle.types.specs.declared.Counts.{Counts}
use Rattle.types.specs.declared.Version.{Version}
use Rattle.meaning.specs.Store.{Rec, Store, first, rec_at, with_rec, with_locks, newest_at}
use Rattle.meaning.specs.Points.{trim_to}
use Rattle.types.specs.Replies.{Reply, purged, refusing}
use Rattle.meaning.specs.Outcomes.{has_record}
use Rattle.meaning.specs.Records.{purged_rec, purge_to, purging}
use Rattle.meaning.proofs.Lists.{find_out}
use Rattle.meaning.proofs.EndingSound.{purge_keeps}
use Rattle.tables.specs.Layout.{counts_of}
use Rattle.tables.specs.Decode.{record_at, decode_at}
use Rattle.tables.specs.Words.{lent, sound_words, Well}
use Rattle.tables.proofs.Decoded.{rec_at_lem}
use Rattle.changes.specs.Becomes.{Becomes, with_versions, with_floor}
use Rattle.trims.specs.Frees.{FreesVersions, FreesLocks}
use Rattle.changes.proofs.OneWord.{rec_there, then_rec}
use Rattle.calls.specs.Contract.{Acts, Makes}
use Rattle.calls.proofs.Acting.{ready, makes_refused, makes_done, makes_as, acts}
use Rattle.endings.specs.Parts.{locked_below, purged_to, purge_all}
use Rattle.calls.proofs.Acting.{records_counted}
use Rattle.types.specs.declared.Refusal.TheVariants.{NoRecord, BadPoint}
use Rattle.purges.proofs.PurgeExits
use Rattle.endings.proofs.EndActs.{acts_refused}

module _ (c : Counts) (w : List ℕ) (r v : ℕ) (W : Well c w) (here : r < c.records) where
  abbrev s : Store
  s = decode_at c w

  abbrev x : Rec
  x = rec_at s r

  -- the record is cut, trimmed and gets its floor
  module _ (w₁ w₂ w₃ : List ℕ) (n m : ℕ) (A : FreesVersions c w w₁ r (keep (λ y. leb v y.point)) n)
      (B : FreesLocks c w₁ w₂ r (trim_to v) m)
      (D : Becomes c w₃ (with_rec (decode_at c w₂) r (with_floor (rec_at (decode_at c w₂) r) v))) where
    abbrev x₁ : Rec
    x₁ = with_versions x (keep (λ y. leb v y.point) x.versions)

    abbrev x₂ : Rec
    x₂ = with_locks x₁ (trim_to v x₁.locks)

    becomes : Becomes c w₃ (purged_to s r v)
    unfolding purged_to purged_rec
    becomes =
        then_rec w r x₂ (λ y. with_floor y v) here
        (then_rec w r x₁ (λ y. with_locks y (trim_to v y.locks)) here A.becomes B.becomes) D

    -- cutting versions leaves the locks
    locks_kept : (rec_at (decode_at c w₁) r).locks ≡ x.locks
    locks_kept = ap (λ (y : Store). (rec_at y r).locks) A.becomes.means
        ∙ ap (λ (y : Rec). y.locks) (rec_there c w r x₁ here)

    pub record_purged : Makes c (purge_all s r v) w w₃ (purged n m)
    unfolding purge_all purged_rec
    record_purged =
        makes_done c w (purge_all s r v) w₃ (purged_to s r v) (purged n m) becomes.well becomes.means
        (rw (A.number, B.number, locks_kept) refl) refl

  -- before that
  module _ (f : ℕ) (ef : f ≡ (record_at c w r).floor) where
    floor_is : f ≡ x.floor
    floor_is = ef ∙ ap (λ (y : Rec). y.floor) (sym (rec_at_lem c w r here))

    pub at_floor : v ≤ f → Makes c (purge_to s r v) w w (purged 0 0)
    at_floor l =
        makes_done c w (purge_to s r v) w s (purged 0 0) W refl
        (PurgeExits.purge_at_floor s r v (rw floor_is at l)) refl

    module _ (l : f < v) (q : Bool) (eq : q ≡ locked_below v (record_at c w r).locks) where
      locked_is : (b : Bool) → q ≡ b → locked_below v x.locks ≡ b
      locked_is b z = rw (rec_at_lem c w r here) (sym eq ∙ z)

      pub locked : q ≡ true → Makes c (purge_to s r v) w w (refusing 15 [])
      locked z =
          makes_refused c w (purge_to s r v) 15 [] W
          (PurgeExits.purge_locked s r v (rw floor_is at l) (locked_is true z))

      pub unlocked : q ≡ false → (w' : List ℕ) (t : Reply) → Makes c (purge_all s r v) w w' t
          → Makes c (purge_to s r v) w w' t
      unlocked z w' t M = makes_as c w (PurgeExits.purge_done s r v (rw floor_is at l) (locked_is false z)) M

-- the newest version at or below p is not above p
newest_below_lem : (vs : List Version) (p : ℕ) → (newest_at vs p).point ≤ p
unfolding newest_at
newest_below_lem vs p = go (find_out (λ v. leb v.point p) first vs)
  where
    go : ((find (λ v. leb v.point p) first vs ≡ first) × (any (λ v. leb v.point p) vs ≡ false))
        ⊎ ((find (λ v. leb v.point p) first vs ∈ vs) × (leb (find (λ v. leb v.point p) first vs).point p ≡ true))
        → (find (λ v. leb v.point p) first vs).point ≤ p
    go (inl z) = omega (arith, ap (λ (v : Version). v.point) z.0)
    go (inr z) = leb-true (find (λ v. leb v.point p) first vs).point p z.1

-- the call
module _ (w : List ℕ) (c : Counts) (P : sound_words (lent w) ≡ true) (E : c ≡ counts_of w) (rec : ℕ) (q : Bool)
    (eq : q ≡ ltb rec c.records) where
  has_is : (b : Bool) → q ≡ b → has_record (decode_at c w) rec ≡ b
  unfolding has_record
  has_is b z = rw (records_counted c w) (sym eq ∙ z)

  pub purge_refused : (b : ℕ) → q ≡ false → Acts (purging rec b) (lent w) (lent w) (refusing 5 [])
  purge_refused b z =
      acts_refused (purging rec b) (purge_keeps rec b) w c P E NoRecord
      (PurgeExits.purge_no_record (decode_at c w) rec b (has_is false z))

  module _ (z : q ≡ true) (b : ℕ) where
    pub purge_bad_point : LAST < b → Acts (purging rec b) (lent w) (lent w) (refusing 6 [])
    purge_bad_point l =
        acts_refused (purging rec b) (purge_keeps rec b) w c P E BadPoint
        (PurgeExits.purge_bad_point (decode_at c w) rec b (has_is true z) l)

    module _ (p : ℕ) (ep : p ≡ b) (l : b ≤ LAST) (r : ℕ) (er : r ≡ rec) where
      pub purge_row : r < c.records
      purge_row = rw er (ltb-true rec c.records (sym eq ∙ z))

      module _ (v : Version) (ev : v ≡ newest_at (record_at c w r).versions p) where
        pub purge_needs : Well c w × (r < c.records) × (v.point ≤ LAST)
        purge_needs = (
          (ready w P c E).well,
          purge_row,
          omega (arith, ap (λ (y : Version). y.point) ev, newest_below_lem (record_at c w r).versions p),
        )

        newest_is : v.point ≡ (newest_at (rec_at (decode_at c w) rec).versions b).point
        newest_is =
            ap (λ (y : Version). y.point) ev
            ∙ rw (er, ep)
            (ap (λ (y : Rec). (newest_at y.versions b).point) (sym (rec_at_lem c w rec (rw er at purge_row))))

        pub purge_acts : (w' : List ℕ) (t : Reply) → Makes c (purge_to (decode_at c w) r v.point) w w' t
            → Acts (purging rec b) (lent w) (lent w') t
        purge_acts w' t M =
            acts (purging rec b) (purge_keeps rec b) c w w' t P E
            (makes_as c w (PurgeExits.purge_passes (decode_at c w) rec b (has_is true z) l)
            (rw (er, newest_is) at M))
