-- `purges::purge_to` meets its contract. Rests on PurgeActs.
use Rattle.purges.proofs.PurgeActs.{at_floor, locked, unlocked}
use Rattle.purges.proofs.purge_to.Goals as goal

pub returns-then-v-floor : goal.returns-then-v-floor
returns-then-v-floor c =
    at_floor c.args.c c.args.w.now
    c.args.r c.args.v
    c.requires.0 c.requires.1
    c.floor.result c.floor.ensures c.if-v-floor.true

pub returns-then-locked_below : goal.returns-then-locked_below
returns-then-locked_below c =
    locked c.args.c
    c.args.w.now
    c.args.r
    c.args.v
    c.requires.0
    c.requires.1
    c.floor.result c.floor.ensures
    c.if-v-floor.false c.locked_below.result c.locked_below.ensures
    c.if-locked_below.true

pub purge_record-requires : goal.purge_record-requires
purge_record-requires c = (
  c.requires.0,
  c.requires.1,
  c.requires.2,
)

pub returns : goal.returns
returns c =
    unlocked c.args.c c.args.w.now c.args.r c.args.v c.requires.0 c.requires.1
    c.floor.result
    c.floor.ensures
    c.if-v-floor.false
    c.locked_below.result
    c.locked_below.ensures c.if-locked_below.false _
    _ c.purge_record.ensures
