-- A call goes on with a run of the serial core. What a call adds to a run, whether it is refused or not, from what it
-- does where it passes; and what the handle of an open edit says. Rests on StoreSlots.
use Prim.Native.Nat.{ℕ}
use native.Mathlib.Omega.{arith}
use mathlib.Core.Path.{◌≡◌, refl}
use mathlib.Core.Bool.{Bool, true, false, cond}
use Rattle.meaning.specs.Store.{Store}
use Rattle.types.specs.Numbers.{slot_of}
use Rattle.types.specs.Values.{Val}
use Rattle.meaning.specs.Outcomes.{Outcome, Verdict, pass, refuse, unless}
use Rattle.meaning.specs.Sound.{sound_store}
use Rattle.meaning.specs.SoundFacts.{SoundStore}
use Rattle.types.specs.declared.Call.{Call}
use Rattle.meaning.proofs.SoundParts.{sound_out}
use Rattle.meaning.proofs.Verdicts.{PassedOpen}
use Rattle.serial.specs.Serializable.{◌▸◌, History}
use Rattle.serial.proofs.Slots.{SoundSlots, OpenSlot, passes, SlotRun, then}
use Rattle.history.specs.Heard.{heard}
use Rattle.history.proofs.StoreSlots.{Valued, slots, sound_slots}

-- the store at the end of a history
abbrev pub Runs : History Val → Store → Type 1
Runs l s = SlotRun l (slots s)

-- what every store of a history has
pub record Good (s : Store) : Type 0 where
  pub holds : sound_store s ≡ true
  pub valued : Valued s

pub good_facts : {s : Store} → Good s → SoundStore s
good_facts {s} g = sound_out s g.holds

pub good_slots : {s : Store} → Good s → SoundSlots (slots s)
good_slots {s} g = sound_slots s (good_facts g) g.valued

-- the outcome goes on with the history
abbrev pub Continues : History Val → Call → Outcome → Type 1
Continues l c o = SlotRun (l ▸ heard c o.reply) (slots o.store)

module _ {l : History Val} (c : Call) (s : Store) (r : Runs l s) where
  -- a refused call is passed over
  pub unless_continues : (v : Verdict) (o : Outcome) → SoundSlots (slots (unless s v o).store)
      → (v ≡ pass → SoundSlots (slots o.store) → Continues l c o)
      → Continues l c (unless s v o)
  unless_continues pass o S f = f refl S
  unless_continues (refuse n more) o S f = then r passes S

  pub cond_continues : (b : Bool) (o q : Outcome) → SoundSlots (slots (cond b o q).store)
      → (b ≡ true → SoundSlots (slots o.store) → Continues l c o)
      → (b ≡ false → SoundSlots (slots q.store) → Continues l c q)
      → Continues l c (cond b o q)
  cond_continues true o q S f g = f refl S
  cond_continues false o q S f g = g refl S

-- the edit of an open handle
pub open_slot : (s : Store) (h : ℕ) {v : Verdict} → PassedOpen s h v → OpenSlot (slots s) (slot_of h) h
open_slot s h p =
    record {
      used = omega (arith, p.state);
      uncommitted = λ q. omega (arith, p.state, q);
      handle = omega (arith, p.known.generation);
    }
