-- `answers::lay_out` meets its contract: Format is lent the words that the counts ask for, or none, and then refuses.
-- Assumes nothing.
use Rattle.std.proofs.Common.{sym, ap, length}
use Rattle.std.proofs.lemmas.Result.{err_from_is_err_and}
use lib.Seq.{length-take-le}
use Rattle.types.specs.Replies.{of_done}
use Rattle.answers.proofs.Saying.{words_inside, same_room, laid_out, not_laid_out}
use Rattle.answers.proofs.lay_out.Goals as goal

pub slice_bounds-format-end : goal.slice_bounds-format-end
slice_bounds-format-end c = words_inside (length c.args.words.now) c.args.c c.words_for-n.ensures

pub slice_bounds-format-end-2 : goal.slice_bounds-format-end-2
slice_bounds-format-end-2 c =
    sym (length-take-le c.words_for-n.result c.args.words.now
    (words_inside (length c.args.words.now) c.args.c c.words_for-n.ensures))

pub returns-in_err-format : goal.returns-in_err-format
returns-in_err-format c =
    let p = err_from_is_err_and c.from_residual.result c.from_residual.ensures.1 in
    rw (p.1, p.2)
    (not_laid_out c.args.c c.args.words.now c.format.new.words c.words_for-n.result c.words_for-n.ensures
    (same_room c.format.new.words c.args.words.now c.words_for-n.result
    (words_inside (length c.args.words.now) c.args.c c.words_for-n.ensures) c.format.auto.words)
    c.format.ensures (ap of_done c.in_err-format.was))

pub returns : goal.returns
returns c =
    laid_out c.args.c c.args.words.now c.format.new.words c.words_for-n.result c.words_for-n.ensures
    (same_room c.format.new.words c.args.words.now c.words_for-n.result
    (words_inside (length c.args.words.now) c.args.c c.words_for-n.ensures) c.format.auto.words)
    c.format.ensures (ap of_done c.in_ok-format.was)
