-- Every call as a function from a store to a reply and the store after it, and a run of a list of calls. Rests on the
-- files of calls.
use Rattle.std.specs.Prelude.{List, [], ◌∷◌, true}
use Rattle.meaning.specs.Store.{Counts, Store, edit_of, set_edit, rec_of, with_edit, with_records, in_use, access_of}
use Rattle.meaning.specs.Store.{names, versions_used, locks_used, accesses_used, newest_at, newest_below, version_on}
use Rattle.types.specs.Replies.{Reply}
use Rattle.meaning.specs.Outcomes.{Outcome, knows, is_open, has_record, judge, access_room, lock_room, version_room}
use Rattle.meaning.specs.Edits.{beginning, writing, with_access, begun, begin_checks, written, write_checks}
use Rattle.meaning.specs.Locking.{locking_by, reading_by, with_lock_by, lock_verdict, lock_checks, lock_wanted_by}
use Rattle.meaning.specs.Locking.{read_verdict, read_store_by, read_new_by, read_open_by, read_checks}
use Rattle.meaning.specs.Ending.{committing_by, aborting_by, settling_by, settled_locks_by, settled_by, committed}
use Rattle.meaning.specs.Ending.{aborted, no_common, commit_verdict, commit_open_by, commit_checks, abort_checks}
use Rattle.meaning.specs.Ending.{settle_checks}
use Rattle.meaning.specs.Records.{purging, viewing, formatting, purged_rec, purge_verdict, purge_to, purge_checks}
use Rattle.meaning.specs.Records.{view_checks, good_counts}
use Rattle.meaning.specs.Points.{covered, own, writes, first_covered, first_free, conflicts, blocks, blockers}
use Rattle.meaning.specs.Points.{frozen, holder, add_lock, leave_settled, drop_owner, trim_to, own_on, allows}
use Rattle.meaning.specs.Points.{in_common, earliest, latest, Keeping, joined}
use Rattle.types.specs.declared.Call.{Call}
use Rattle.types.specs.declared.Call.TheVariants as C

-- Calls: what each of them comes to, over a way to keep locks. 1 "store not sound" is no part of it: that is judged on
-- the words
unfoldable pub act_by : Keeping → Call → Store → Outcome
act_by K C.Begin s = beginning s
act_by K (C.Write h r v) s = writing h.0 r v s
act_by K (C.Lock h r low high w) s = locking_by K h.0 r low.0 high.0 w s
act_by K (C.Read h r m w) s = reading_by K h.0 r m.0 w s
act_by K (C.Commit h pick f) s = committing_by K h.0 pick f s
act_by K (C.Abort h f) s = aborting_by K h.0 f s
act_by K (C.Settle h) s = settling_by K h.0 s
act_by K (C.Purge r b) s = purging r b.0 s
act_by K (C.View r p) s = viewing r p.0 s

-- the replies of a list of calls, each on the store that the last one left
unfoldable pub run_by : Keeping → List Call → Store → List Reply
run_by K [] s = []
run_by K (c ∷ cs) s = (act_by K c s).reply ∷ run_by K cs (act_by K c s).store

-- the store after a list of calls
unfoldable pub after_by : Keeping → List Call → Store → Store
after_by K [] s = s
after_by K (c ∷ cs) s = after_by K cs (act_by K c s).store

-- in the store
abbrev pub act : Call → Store → Outcome
act = act_by joined

abbrev pub run : List Call → Store → List Reply
run = run_by joined

abbrev pub after : List Call → Store → Store
after = after_by joined

-- "one call a line": a Format, on a slice whose length is the sum, or a call
pub data Line : Type 0 where
  format : Counts → Line
  call : Call → Line

-- the outcome of a line
unfoldable pub step : Line → Store → Outcome
step (format c) s = formatting true c s
step (call c) s = act c s

-- "prints one line for each": the replies of a list of lines
unfoldable pub lines : List Line → Store → List Reply
lines [] s = []
lines (l ∷ ls) s = (step l s).reply ∷ lines ls (step l s).store

-- for proofs that compute: `unfolding opened` opens every definition that a run computes with
unfoldable pub opened : Unit {0}
unfolding lines step run_by after_by act_by edit_of set_edit rec_of with_edit with_records in_use
    access_of names versions_used
    locks_used accesses_used newest_at newest_below version_on covered own writes first_covered
    first_free conflicts blocks
    blockers frozen holder add_lock leave_settled drop_owner trim_to own_on allows in_common
    earliest latest knows is_open
    has_record judge access_room lock_room version_room with_access begun begin_checks beginning
    written write_checks writing
    with_lock_by lock_verdict lock_checks lock_wanted_by locking_by read_verdict read_store_by read_new_by
    read_open_by read_checks
    reading_by settled_locks_by settled_by committed aborted no_common commit_verdict commit_open_by
    commit_checks committing_by
    abort_checks aborting_by settle_checks settling_by purged_rec purge_verdict purge_to purge_checks
    purging view_checks viewing
    good_counts formatting
opened = tt
