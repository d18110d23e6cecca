-- `endings::settle_slot` meets its contract. Rests on Settling.
use Rattle.endings.proofs.Settling.{slot_in_use, leave_needs, left_ended, left_aborted, slot_settled}
use Rattle.endings.proofs.Leaving.{leave_one, leave_step}
use Rattle.endings.proofs.settle_slot.Goals.{then-state-eq-COMMITTED, else-state-eq-COMMITTED}
use Rattle.endings.proofs.settle_slot.Goals as goal

pub invariant_of-slot : goal.invariant_of-slot
invariant_of-slot c = record { there = slot_in_use c.args.c c.args.w.now c.args.index.slot c.requires.1 }

pub free_locks-requires : goal.free_locks-requires
free_locks-requires c = (
  c.requires.0.well,
  slot_in_use c.args.c c.args.w.now c.args.index.slot c.requires.1,
  c.requires.2,
)

pub each_access-requires : goal.each_access-requires
each_access-requires c = (
  c.free_locks.ensures.well,
  slot_in_use c.args.c c.args.w.now c.args.index.slot c.requires.1,
  leave_needs c.args.c c.args.w.now c.args.index.slot c.requires.0 c.requires.1 c.state-state.result c.point-t.result
      c.state-state.ensures c.point-t.ensures _ c.free_locks.ensures c.if-state-eq-COMMITTED.true,
  record { one = leave_one; next = λ a acc s n. leave_step a acc s n c.point-t.result },
)

pub free_slot-requires : goal.free_slot-requires
free_slot-requires c = (
  elim c.if-state-eq-COMMITTED.branch [
    | then-state-eq-COMMITTED w ↦ rw w.w-is w.each_access.ensures.well
    | else-state-eq-COMMITTED w ↦ rw w.w-is c.free_locks.ensures.well
  ],
  slot_in_use c.args.c c.args.w.now c.args.index.slot c.requires.1,
)

pub returns : goal.returns
returns c =
    slot_settled c.args.c c.args.w.now c.args.index.slot c.requires.0 c.requires.1 c.state-state.result c.point-t.result
    c.state-state.ensures c.point-t.ensures _ c.free_locks.ensures _ _ (elim c.if-state-eq-COMMITTED.branch [
      | then-state-eq-COMMITTED w ↦ rw w.w-is
          (left_ended _ _ _ _ _ w.if-state-eq-COMMITTED.true w.each_access.ensures)
      | else-state-eq-COMMITTED w ↦ rw w.w-is
          (left_aborted _ _ _ _ _ w.if-state-eq-COMMITTED.false c.free_locks.ensures.well)
    ]) c.free_slot.ensures
