-- The turns and the exits of the loop, and the room for a stamp.
use mathlib.Core.Path.{refl, ap, ◌∙◌}
use native.Mathlib.Omega.{arith}
use Rattle.tables.specs.Walked.{values_left}
use Rattle.tables.proofs.Decoded.{records_length}
use Rattle.clauses.specs.Clauses.{accesses_sound}
use Rattle.clauses.specs.Views.{records_in}
use Rattle.clauses.proofs.Reading.{read_is}
use Rattle.clauses.proofs.Stamping.{stamped, stamp_done, stamp_none, stamp_twice, stamp_bad, stamp_on}
use Rattle.slot_clauses.proofs.accesses_sound.Goals as goal

pub loop-a-init : goal.loop-a-init
loop-a-init c = (
  ap (accesses_sound (records_in c.args.s.tables) c.args.s.number c.args.stamps.now)
      (ap values_left c.into_iter-a-iterator.ensures.into_iter_gives ∙ c.accesses-a-items.ensures),
  c.requires,
)

pub returns-then-t-number : goal.returns-then-t-number
returns-then-t-number c = (
  stamp_none (records_in c.args.s.tables) c.args.s.number _ c.loop-a.invariant.0 c.in-Some.ensures.steps
      (omega (arith, c.if-t-number.true, records_length c.args.s.tables.counts c.args.s.tables.words.now)),
  c.loop-a.invariant.1,
)

pub returns-then-stamps-number : goal.returns-then-stamps-number
returns-then-stamps-number c = (
  stamp_twice (records_in c.args.s.tables) c.args.s.number _ c.loop-a.invariant.0 c.in-Some.ensures.steps
      (omega (arith, c.if-t-number.false, records_length c.args.s.tables.counts c.args.s.tables.words.now)) refl
      c.if-stamps-number.true,
  c.loop-a.invariant.1,
)

pub returns-then-not-read_sound : goal.returns-then-not-read_sound
returns-then-not-read_sound c = (
  stamp_bad (records_in c.args.s.tables) c.args.s.number _ c.loop-a.invariant.0 c.in-Some.ensures.steps
      (omega (arith, c.if-t-number.false, records_length c.args.s.tables.counts c.args.s.tables.words.now)) refl
      c.if-stamps-number.false
      (c.read_sound.ensures
      ∙ read_is c.args.s.tables.counts c.args.s.tables.words.now c.args.s.number c.in-Some.a
      (omega (arith, c.if-t-number.false)) refl refl) c.if-not-read_sound.true,
  stamped _ c.loop-a.invariant.1
      (omega (arith, c.if-t-number.false, c.args.s.tables.fits.ranged.records_high, c.loop-a.invariant.1.size)),
)

pub loop-a-preserved : goal.loop-a-preserved
loop-a-preserved c = (
  stamp_on (records_in c.args.s.tables) c.args.s.number _ c.loop-a.invariant.0 c.in-Some.ensures.steps
      (omega (arith, c.if-t-number.false, records_length c.args.s.tables.counts c.args.s.tables.words.now)) refl
      c.if-stamps-number.false
      (c.read_sound.ensures
      ∙ read_is c.args.s.tables.counts c.args.s.tables.words.now c.args.s.number c.in-Some.a
      (omega (arith, c.if-t-number.false)) refl refl) c.if-not-read_sound.false,
  stamped _ c.loop-a.invariant.1
      (omega (arith, c.if-t-number.false, c.args.s.tables.fits.ranged.records_high, c.loop-a.invariant.1.size)),
)

pub returns : goal.returns
returns c = (
  stamp_done (records_in c.args.s.tables) c.args.s.number _ c.loop-a.invariant.0 c.in-None.ensures.steps.0,
  c.loop-a.invariant.1,
)
