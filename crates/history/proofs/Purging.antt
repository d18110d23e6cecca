-- Purge as steps of the serial core: the floor rises, and above it every lock and every version stays. Rests on
-- CallRuns and Changes.
use Prim.Native.Nat.{ℕ, ◌-◌, ◌≤◌, ◌<◌}
use native.Mathlib.Omega.{arith}
use native.Mathlib.Decide.{ℕ_discrete}
use mathlib.Core.Path.{◌≡◌, refl}
use mathlib.Core.Logic.{inr}
use lib.Dec.{leb}
use lib.ListN.{length}
use borrow.Author.Tests.{leb-false, le-leb}
use Rattle.types.specs.Limits.{LAST}
use Rattle.meaning.specs.Store.{Rec, Store, edit_at, rec_at, with_rec, newest_at}
use Rattle.types.specs.Values.{Val}
use Rattle.types.specs.Replies.{purged}
use Rattle.meaning.specs.Outcomes.{pass, replies, needs, has_record}
use Rattle.meaning.specs.Records.{purged_rec, purge_verdict, purge_to, purge_checks, purging}
use Rattle.meaning.specs.Pointwise.{LockOn, HeldOn}
use Rattle.types.specs.declared.Point.{Point}
use Rattle.types.specs.declared.Call.{Call}
use Rattle.types.specs.declared.Call.TheVariants as C
use Rattle.meaning.specs.Points.{trim_to}
use Rattle.meaning.proofs.Lists.{keep_in, keep_out}
use Rattle.meaning.proofs.LockChanges.{held_is, trim_to_is}
use Rattle.meaning.proofs.Changed.{rec_purged, rec_purged_other, edit_purged}
use Rattle.meaning.proofs.Verdicts.{needs_pass, has_record_out}
use Rattle.serial.specs.Serializable.{History}
use Rattle.serial.proofs.Slots.{SoundSlots, Moves, moves, passes, then}
use Rattle.history.proofs.StoreSlots.{StandsAt, slots}
use Rattle.history.proofs.Changes.{slot_stays}
use Rattle.history.proofs.CallRuns.{Runs, Continues, unless_continues, cond_continues}

-- what purging to v keeps of a record
pub record Purged (x y : Rec) : Type 0 where
  pub rises : x.floor ≤ y.floor
  pub held : (p k : ℕ) → y.floor < p → HeldOn x.locks k p → HeldOn y.locks k p
  pub locked : (p k m : ℕ) → y.floor < p → LockOn x.locks k m p → LockOn y.locks k m p
  pub stay : (p : ℕ) (v : Val) → y.floor ≤ p → StandsAt x.versions p v → StandsAt y.versions p v
  pub only : (p : ℕ) (v : Val) → StandsAt y.versions p v → StandsAt x.versions p v

same : (x : Rec) → Purged x x
same x =
    record { rises = omega arith; held = λ p k f h. h; locked = λ p k m f h. h; stay = λ p v f w. w; only = λ p v w. w }

module _ (x : Rec) (v : ℕ) (f : x.floor < v) where
  locked_on : (p k m : ℕ) → v < p → LockOn x.locks k m p → LockOn (trim_to v x.locks) k m p
  locked_on p k m lt h = (trim_to_is v x.locks k m p).1 (h, λ z. lt)

  purged_keeps : Purged x (purged_rec x v)
  unfolding purged_rec
  purged_keeps =
      record {
        rises = omega arith;
        held =
            λ p k lt h. let w = (held_is x.locks k p).0 h in
            (held_is (trim_to v x.locks) k p).1 (w.0, locked_on p k w.0 lt w.1);
        locked = locked_on;
        stay = λ p u le w.
            record {
              version = w.version;
              member =
                  keep_in (λ z. leb v z.point) w.member (le-leb v w.version.point (omega (arith, w.stands)));
              stands = w.stands;
              value = w.value;
            };
        only = λ p u w.
            record {
              version = w.version;
              member = (keep_out (λ z. leb v z.point) x.versions w.member).0;
              stands = w.stands;
              value = w.value;
            };
      }

module _ (s : Store) (r : ℕ) (y : Rec) (there : r < length s.records) (kept : Purged (rec_at s r) y) where
  each : (i : ℕ) → Purged (rec_at s i) (rec_at (with_rec s r y) i)
  each i = go (ℕ_discrete i r)
    where
      go : Dec (i ≡ r) → Purged (rec_at s i) (rec_at (with_rec s r y) i)
      go (yes q) = rw (q, rec_purged s r y there) kept
      go (no n) = rw (rec_purged_other s r y i n) (same (rec_at s i))

  purge_moves : Moves (slots s) (slots (with_rec s r y))
  purge_moves =
      record {
        slots =
            λ j u. slot_stays (λ i. edit_at s i) (λ i. edit_at (with_rec s r y) i) (λ i. rec_at s i)
            (λ i. rec_at (with_rec s r y) i) j (edit_purged s r y j) u;
        rises = λ i. (each i).rises;
        settled = λ i p f h. (each i).held p 0 f h;
        settled_write = λ i p f h. (each i).locked p 0 _ f h;
        reads = λ j i u p c a low high f h. inr ((each i).held p j f h, rw (edit_purged s r y j) refl);
        writes = λ j i v c a f h. inr ((each i).locked (edit_at s j).point j _ f h, rw (edit_purged s r y j) refl);
        stay = λ i p v f w. (each i).stay p v f w;
        only = λ i p v w. (each i).only p v w;
      }

pub purge_continues : {l : History Val} (r : ℕ) (b : Point) (s : Store) → Runs l s
    → SoundSlots (slots (purging r b.0 s).store)
    → Continues l (C.Purge r b) (purging r b.0 s)
unfolding purging purge_checks purge_to
purge_continues r b s run S =
    unless_continues c s run (purge_checks s r b.0) (purge_to s r v) S (λ e T.
    let a = needs_pass (has_record s r) 5 (needs (leb b.0 LAST) 6 pass) e in
    cond_continues c s run (leb v x.floor) (replies s (purged 0 0)) _ T (λ q U. then run passes U) (λ q U.
    unless_continues c s run (purge_verdict x v) (replies (with_rec s r (purged_rec x v)) _) U (λ d X.
    then (then run
    (moves (purge_moves s r (purged_rec x v) (has_record_out s r a.0) (purged_keeps x v (leb-false v x.floor q))))
    X) passes X)))
  where
    c : Call
    c = C.Purge r b

    x : Rec
    x = rec_at s r

    v : ℕ
    v = (newest_at (rec_at s r).versions b.0).point
