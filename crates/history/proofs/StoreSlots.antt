-- What a store means to the serial core: its edits by slot and handle, its locks point by point, its versions. A sound
-- store whose versions have values is sound there too. Rests on the facts of soundness in the crate meaning.
use Rattle.std.specs.Prelude.{Some}
use Prim.Native.Nat.{ℕ, suc, ◌≤◌}
use native.Mathlib.Omega.{arith}
use native.Mathlib.Decide.{ℕ_discrete}
use mathlib.Core.Path.{◌≡◌, refl, sym, ◌∙◌}
use mathlib.Core.Logic.{◌⊎◌, inl, inr}
use mathlib.Core.Bool.{true}
use mathlib.Core.List.{List, [], ◌∷◌}
use lib.Dec.{leb}
use lib.ListN.{length}
use borrow.Author.Tests.{leb-true}
use Rattle.meaning.specs.Lists.{◌∈◌}
use Rattle.types.specs.Limits.{WRITE, SETTLED, FREE, MAX_RECORDS, MAX_EDITS, MAX_ROWS}
use Rattle.meaning.specs.Store.{Rec, Edit, Store, counts_of, edit_of, edit_at, rec_at, access_of}
use Rattle.types.specs.Numbers.{handle}
use Rattle.types.specs.Values.{Val}
use Rattle.meaning.specs.Records.{in_range, good_counts}
use Rattle.meaning.specs.Pointwise.{LockOn, HeldOn}
use Rattle.meaning.specs.SoundFacts.{SoundStore}
use Rattle.types.specs.declared.Version.{Version}
use Rattle.meaning.proofs.Lists.{and_right, every_at}
use Rattle.meaning.proofs.Stores.{InRange, used_range}
use Rattle.serial.proofs.Slots.{Slots, Used, SoundSlots}
use Rattle.meaning.specs.Store.{has_written, written_value}

-- a version with the value v stands on p
pub record StandsAt (vs : List Version) (p : ℕ) (v : Val) : Type 0 where
  pub version : Version
  pub member : version ∈ vs
  pub stands : version.point ≡ p
  pub value : version.value ≡ Some v

-- the edit has read r at t; it has written v to r
abbrev pub ReadAt : Edit → ℕ → ℕ → Type 0
ReadAt e r t = (access_of e r).from ≡ suc t

abbrev pub Wrote : Edit → ℕ → Val → Type 0
Wrote e r v = (has_written (access_of e r) ≡ true) × (written_value (access_of e r) ≡ v)

-- by slot and record, since a call is known by what it makes of each
abbrev pub slots_of : (ℕ → Edit) → (ℕ → Rec) → Slots Val
slots_of e x =
    record {
      state = λ k. (e k).state;
      handle = λ k. handle (e k).generation k;
      point = λ k. (e k).point;
      read_at = λ k r t. ReadAt (e k) r t;
      written = λ k r v. Wrote (e k) r v;
      floor = λ r. (x r).floor;
      lock = λ r p k. HeldOn (x r).locks k p;
      write_lock = λ r p k. LockOn (x r).locks k WRITE p;
      version = λ r p v. StandsAt (x r).versions p v;
    }

abbrev pub slots : Store → Slots Val
slots s = slots_of (λ k. edit_at s k) (λ r. rec_at s r)

-- every version has a value. Soundness does not say so, but every store that calls reach has it: only a commit makes
-- versions
abbrev pub Valued : Store → Type 0
Valued s = (r : ℕ) (w : Version) → w ∈ (rec_at s r).versions → (v : Val) × (w.value ≡ Some v)

pub to_held : {ls : List _} {o m p : ℕ} → LockOn ls o m p → HeldOn ls o p
to_held w = record { lock = w.lock; member = w.member; owned = w.owned; from = w.from; upto = w.upto }

module _ (s : Store) (good : SoundStore s) where
  few : length s.edits ≤ MAX_EDITS
  unfolding good_counts
  few =
      let c = counts_of s in
      let tests =
      in_range c.records MAX_RECORDS ∷ in_range c.edits MAX_EDITS ∷ in_range c.versions MAX_ROWS
      ∷ in_range c.locks MAX_ROWS ∷ in_range c.accesses MAX_ROWS ∷ [] in
      leb-true (length s.edits) MAX_EDITS
      (and_right (leb 1 (length s.edits)) (leb (length s.edits) MAX_EDITS) (every_at tests good.counts 1))

  range : (k : ℕ) → Used (slots s) k → InRange s.edits k
  range k u = used_range s.edits k (λ q. omega (arith, u, q))

  distinct : (j k : ℕ) → Used (slots s) j → Used (slots s) k
      → handle (edit_at s j).generation j ≡ handle (edit_at s k).generation k → j ≡ k
  distinct j k u v q = omega (arith, q, few, (range j u).upto, (range k v).upto)

  in_use_lem : (r p k : ℕ) → HeldOn (rec_at s r).locks k p → (k ≡ 0) ⊎ Used (slots s) k
  in_use_lem r p k h = go ((good.recs r).owner h.lock h.member)
    where
      go : (h.lock.owner ≡ SETTLED) ⊎ ((edit_at s h.lock.owner).state ≡ FREE → ⊥) → (k ≡ 0) ⊎ Used (slots s) k
      go (inl q) = inl (sym h.owned ∙ q)
      go (inr n) = inr (omega (arith, rw h.owned at n))

  exclusive : (r p j k : ℕ) → LockOn (rec_at s r).locks j WRITE p → HeldOn (rec_at s r).locks k p → j ≡ k
  exclusive r p j k w h = go (ℕ_discrete j k)
    where
      go : Dec (j ≡ k) → j ≡ k
      go (yes q) = q
      go (no n) =
          absurd ((good.recs r).apart w.lock h.lock w.member h.member w.moded
          (λ q. n (sym w.owned ∙ q ∙ h.owned)) p w.from w.upto h.from h.upto)

  pub sound_slots : Valued s → SoundSlots (slots s)
  unfolding edit_of
  sound_slots valued =
      record {
        nobody = refl;
        distinct = distinct;
        in_use_lem = in_use_lem;
        locks = λ r p k w. to_held w;
        exclusive = exclusive;
        above = λ r p k h. omega (arith, ((good.recs r).span h.lock h.member).above, h.from);
        based = λ r f.
            let b = (good.recs r).base f in
            let v = valued r b.version b.member in
            (v.0, record { version = b.version; member = b.member; stands = b.stands; value = v.1 });
      }
