-- `commits::commit_at` meets its contract. Rests on CommitActs, on Answers of `calls`, on Ended of `endings`.
use Rattle.calls.proofs.Answers.{off, on}
use Rattle.endings.proofs.Ended.{open_row, save_needs, committed_ready, committed_ends}
use Rattle.endings.proofs.Saving.{save_one, save_step}
use Rattle.commits.proofs.CommitActs.{at_full, at_done}
use Rattle.types.specs.Limits.{COMMITTED}
use Rattle.endings.proofs.Noted.{with_index, ended_indexed, saved_indexed}
use Rattle.commits.proofs.commit_at.Goals as goal

pub invariant_of-version_room : goal.invariant_of-version_room
invariant_of-version_room c =
    record { there = open_row c.args.c c.args.w.now c.args.index.slot c.requires.0 c.requires.1 }

pub version_room-requires : goal.version_room-requires
version_room-requires c = c.requires.0.well

pub returns-then-not-version_room : goal.returns-then-not-version_room
returns-then-not-version_room c =
    at_full c.args.c c.args.w.now c.args.index.slot c.requires.0 c.requires.1 c.args.finish c.args.t
    (off c.version_room.ensures c.if-not-version_room.true)

pub invariant_of-each_access : goal.invariant_of-each_access
invariant_of-each_access c =
    record {
      later = (save_needs c.args.c c.args.w.now c.args.index.slot c.requires.0 c.requires.1 c.args.t c.requires.2
          (on c.version_room.ensures c.if-not-version_room.false)).2;
    }

pub each_access-requires : goal.each_access-requires
each_access-requires c =
    let n =
    save_needs c.args.c c.args.w.now c.args.index.slot c.requires.0 c.requires.1 c.args.t c.requires.2
    (on c.version_room.ensures c.if-not-version_room.false) in
    (n.0, n.1, n.3, record { one = save_one; next = λ a acc s m. save_step a acc s m c.args.t })

pub set_state-requires : goal.set_state-requires
set_state-requires c = (
  c.each_access.ensures.well,
  open_row c.args.c c.args.w.now c.args.index.slot c.requires.0 c.requires.1,
)

pub finish_slot-requires : goal.finish_slot-requires
finish_slot-requires c =
    with_index (committed_ready c.args.c c.args.w.now c.args.index.slot c.requires.0 c.requires.1 c.args.t c.requires.2
    (on c.version_room.ensures c.if-not-version_room.false) _
    _ c.each_access.ensures c.set_state.ensures)
    (ended_indexed _ _ _ COMMITTED c.args.t (saved_indexed _ _ _ c.args.t c.requires.3
    c.each_access.ensures) c.set_state.ensures)

pub returns : goal.returns
returns c =
    at_done c.args.c c.args.w.now c.args.index.slot c.requires.0 c.requires.1 c.args.finish c.args.t
    (on c.version_room.ensures c.if-not-version_room.false) _ _ c.from.ensures
    (committed_ends c.args.c c.args.w.now c.args.index.slot
    c.requires.0 c.requires.1 c.args.t c.requires.2 (on c.version_room.ensures c.if-not-version_room.false) _ _
    c.each_access.ensures c.set_state.ensures c.args.finish _ c.finish_slot.ensures)
