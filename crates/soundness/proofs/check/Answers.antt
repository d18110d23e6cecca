-- `soundness::check` meets its contract. Rests on Whole.
use mathlib.Core.Path.{sym, ◌∙◌}
use Rattle.clauses.proofs.Steps.{and_no, and_on}
use Rattle.clauses.proofs.Slots.{all_rise}
use Rattle.soundness.proofs.Whole.{locks_first, header_long, unfit, fits_read, unformed, unpassed, checked}
use Rattle.soundness.proofs.check.Goals as goal

pub returns-then-not-header_ok : goal.returns-then-not-header_ok
returns-then-not-header_ok c = unfit c.args.words.now c.header_ok.ensures c.if-not-header_ok.true

pub counts_of-counts-requires : goal.counts_of-counts-requires
counts_of-counts-requires c = header_long c.args.words.now c.header_ok.ensures c.if-not-header_ok.false

pub invariant_of-t : goal.invariant_of-t
invariant_of-t c =
    record {
      fits = fits_read c.args.words.now c.header_ok.ensures c.if-not-header_ok.false c.counts_of-counts.ensures;
    }

pub slots_sound-requires : goal.slots_sound-requires
slots_sound-requires c = all_rise _ c.args.words.now (sym c.all_pass.ensures ∙ c.if-all_pass.true)

pub records_sound-requires : goal.records_sound-requires
records_sound-requires c = (
  locks_first _ c.args.words.now c.formed_at.ensures c.if-formed_at.true,
  sym c.slots_sound.ensures ∙ c.if-slots_sound.true,
  sym c.all_pass.ensures ∙ c.if-all_pass.true,
)

pub returns-then-slots_sound : goal.returns-then-slots_sound
returns-then-slots_sound c =
    and_on (sym c.slots_sound.ensures ∙ c.if-slots_sound.true) c.records_sound.ensures
    ∙ checked c.args.words.now c.header_ok.ensures c.if-not-header_ok.false c.counts_of-counts.ensures
    c.formed_at.ensures c.if-formed_at.true

pub returns-else-slots_sound : goal.returns-else-slots_sound
returns-else-slots_sound c =
    c.if-slots_sound.false ∙ and_no _ (sym c.slots_sound.ensures ∙ c.if-slots_sound.false)
    ∙ checked c.args.words.now c.header_ok.ensures c.if-not-header_ok.false c.counts_of-counts.ensures
    c.formed_at.ensures c.if-formed_at.true

pub returns-else-all_pass : goal.returns-else-all_pass
returns-else-all_pass c =
    c.if-all_pass.false ∙ unpassed _ c.args.words.now c.all_pass.ensures c.if-all_pass.false
    ∙ checked c.args.words.now c.header_ok.ensures c.if-not-header_ok.false c.counts_of-counts.ensures
    c.formed_at.ensures c.if-formed_at.true

pub returns-else-formed_at : goal.returns-else-formed_at
returns-else-formed_at c =
    c.if-formed_at.false
    ∙ unformed c.args.words.now c.header_ok.ensures c.if-not-header_ok.false c.counts_of-counts.ensures
    c.formed_at.ensures c.if-formed_at.false
