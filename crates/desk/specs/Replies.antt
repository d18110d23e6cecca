-- What a desk is told, and which of it each case of the code's answers is. Rests on Replies of `types`.
use Rattle.std.specs.Prelude.{Option, Some, None, Result, Ok, Err}
use Rattle.types.specs.Replies.{Reply, of_refusal, of_found, of_done, of_commit}
use Rattle.types.specs.declared.Found.{Found}
use Rattle.types.specs.declared.Point.{Point}
use Rattle.types.specs.declared.Refusal.{Refusal}
use Rattle.desk.specs.declared.Session.{Session}
use Rattle.desk.specs.declared.Step.{Step}

-- what opening answers: the session, or the store's refusal
pub data Opening : Type 0 where
  opened : Session → Opening
  declined : Reply → Opening

-- "A store's refusal is passed on", and so is every other reply; "Left empty, ... the desk is told"
pub data Report : Type 0 where
  told : Reply → Report
  emptied : Report

-- what read, write and commit answer: the session after the call, and the report
pub record After : Type 0 where
  pub session : Session
  pub report : Report

-- the session, and a reply of the store passed on
abbrev pub says : Session → Reply → After
says s q = record { session = s; report = told q }

abbrev pub of_open : Result Session Refusal → Opening
of_open (Ok s) = opened s
of_open (Err r) = declined (of_refusal r)

-- of a read: None is that nothing of the interval is left
abbrev pub of_report : Result (Option Found) Refusal → Report
of_report (Ok (Some f)) = told (of_found f)
of_report (Ok None) = emptied
of_report (Err r) = told (of_refusal r)

abbrev pub reports : Session → Result (Option Found) Refusal → After
reports s r = record { session = s; report = of_report r }

-- the answers of the functions by value
abbrev pub of_read_step : Step (Result (Option Found) Refusal) → After
of_read_step r = reports r.session r.reply

abbrev pub of_write_step : Step (Result (Unit {0}) Refusal) → After
of_write_step r = says r.session (of_done r.reply)

abbrev pub of_commit_step : Step (Result (Option Point) Refusal) → After
of_commit_step r = says r.session (of_commit r.reply)
