-- `endings::end_aborted` meets its contract. Rests on Ended.
use Rattle.endings.proofs.Ended.{open_row, aborted_ready, aborted_ends}
use Rattle.endings.proofs.Noted.{with_index, ended_indexed}
use Rattle.types.specs.Limits.{ABORTED}
use Rattle.endings.proofs.end_aborted.Goals as goal

pub set_state-requires : goal.set_state-requires
set_state-requires c = (
  c.requires.0.well,
  open_row c.args.c c.args.w.now c.args.index.slot c.requires.0 c.requires.1,
)

pub finish_slot-requires : goal.finish_slot-requires
finish_slot-requires c =
    with_index (aborted_ready c.args.c c.args.w.now c.args.index.slot c.requires.0 c.requires.1 _ c.set_state.ensures)
    (ended_indexed _ _ _ ABORTED 0
    c.requires.2 c.set_state.ensures)

pub returns : goal.returns
returns c =
    aborted_ends c.args.c c.args.w.now c.args.index.slot c.requires.0 c.requires.1 _ c.set_state.ensures
    c.args.finish _ c.finish_slot.ensures
