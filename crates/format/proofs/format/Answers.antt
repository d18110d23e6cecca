-- `format::format` meets its contract. Rests on Laying.
use mathlib.Core.Path.{refl, sym, ◌∙◌}
use mathlib.Core.Bool.{false≢true}
use Rattle.format.proofs.Laying.{fits_out}
use Rattle.format.proofs.format.Goals as goal

pub returns-then-not-format_fits : goal.returns-then-not-format_fits
returns-then-not-format_fits c = record {
  refused = λ _. (refl, refl);
  done =
      λ z. absurd (false≢true (sym (sym c.format_fits.ensures ∙ c.if-not-format_fits.true) ∙ z));
}

pub lay_out-requires : goal.lay_out-requires
lay_out-requires c =
    fits_out _ _ (sym c.format_fits.ensures ∙ c.if-not-format_fits.false)

pub returns : goal.returns
returns c = record {
  refused = λ z. absurd
      (false≢true (sym z ∙ (sym c.format_fits.ensures
      ∙ c.if-not-format_fits.false)));
  done = λ _. (refl, c.lay_out.ensures);
}
