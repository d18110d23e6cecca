-- The examples of specs/Examples, by computation. Rests on nothing.
use mathlib.Core.Path.{refl}
use Rattle.meaning.specs.Session.{session, session_replies}
use Rattle.fields.specs.Fields.{first, others, digits, value, number, letter_or, done}
use Rattle.fields.specs.Kinds.{extent, finish, pick}
use Rattle.lines.specs.Calls.{formatting, beginning, writing, locking, reading, committing, aborting, settling}
use Rattle.lines.specs.Calls.{purging, viewing, called, parsed}
use Rattle.texts.specs.Parts.{digits_of, decimal, value_text, one, two, one_value, two_value}
use Rattle.lines.specs.Examples.{input, output, wrong, SessionRead, SessionShown, Accepted, WrongRefused}

pub session_read : SessionRead
unfolding input session first others digits value number letter_or done extent finish pick formatting beginning writing
    locking reading committing aborting settling purging viewing called parsed
session_read = refl

pub session_shown : SessionShown
unfolding output session_replies digits_of decimal value_text one two one_value two_value
session_shown = refl

pub accepted : Accepted
unfolding first others digits value number letter_or done pick finish writing committing called parsed
accepted = refl

pub wrong_refused : WrongRefused
unfolding wrong first others digits value number letter_or done extent finish pick formatting beginning writing locking
    reading committing aborting settling purging viewing called parsed
wrong_refused = refl
