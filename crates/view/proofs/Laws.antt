-- The law of specs/Laws. Rests on Charts of `history`.
use mathlib.Core.Path.{sym}
use Rattle.history.proofs.Charts.{store_words_chart}
use Rattle.view.specs.Laws.{ReaderShowsChart}

pub reader_shows_chart : ReaderShowsChart
reader_shows_chart counts cs qs words h p = store_words_chart h p _ (λ sound r q v e. sym (e.reply sound))
