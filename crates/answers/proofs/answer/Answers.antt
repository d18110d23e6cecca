-- `answers::answer` meets its contract: a line is what it was read as, and a call does what it promises on the words in
-- use. Assumes nothing.
use Rattle.std.proofs.Common.{length, sym, ap, Some, ◌∙◌, ◌++◌, drop}
use Rattle.std.proofs.lemmas.Result.{MatchResult-at_ok}
use Rattle.answers.specs.Script.{LaidOut, Refused}
use Rattle.answers.proofs.Saying.{same_room, laid_out_answers, call_answers, call_line, line_answers}
use Rattle.answers.proofs.answer.Goals as goal

pub returns-in-Ok : goal.returns-in-Ok
returns-in-Ok c =
    line_answers (length c.args.words.now)
    (sym c.parse.ensures ∙ c.in-Some-Format.is ∙ ap Some c.in-Some-Format.field-0-is)
    (laid_out_answers c.in-Some-Format.c
    (MatchResult-at_ok (LaidOut c.in-Some-Format.c c.args.words.now c.lay_out.new.words)
    (Refused c.in-Some-Format.c c.args.words.now c.lay_out.new.words) c.in-Ok.n c.in-Ok.is c.lay_out.ensures))

pub returns-in-Some-Call : goal.returns-in-Some-Call
returns-in-Some-Call c =
    let s = same_room c.perform.new.words c.args.words.now c.args.used c.requires c.perform.auto.words in
    line_answers (length c.args.words.now) (sym c.parse.ensures ∙ c.in-Some-Call.is ∙ ap Some c.in-Some-Call.field-0-is)
    (call_line c.args.words.now (c.perform.new.words ++ drop c.args.used c.args.words.now) c.args.used c.requires s
    (call_answers c.in-Some-Call.call c.args.words.now c.perform.new.words c.args.used c.requires s c.perform.ensures
    c.line_of_answer.ensures))
