-- `purges::purge_record` meets its contract. Rests on PurgeActs.
use Rattle.purges.proofs.PurgeActs.{record_purged}
use Rattle.purges.proofs.purge_record.Goals as goal

pub cut_versions-versions-requires : goal.cut_versions-versions-requires
cut_versions-versions-requires c = (c.requires.0, c.requires.1)

pub trim_locks-locks-requires : goal.trim_locks-locks-requires
trim_locks-locks-requires c =
    (c.cut_versions-versions.ensures.becomes.well, c.requires.1, c.requires.2)

pub set_floor-requires : goal.set_floor-requires
set_floor-requires c = (
  c.trim_locks-locks.ensures.becomes.well,
  c.requires.1,
)

pub returns : goal.returns
returns c =
    record_purged c.args.c c.args.w.now c.args.r c.args.v c.requires.0 c.requires.1 _ _ _ _ _
    c.cut_versions-versions.ensures
    c.trim_locks-locks.ensures c.set_floor.ensures
