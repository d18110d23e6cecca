-- The theorems of specs/Laws, each under its name and with its statement for a type. Rests on the files that prove
-- them; only that every call keeps a sound store sound is put together here.
use Rattle.meaning.specs.Laws.{FirstBlockedIsLeast, LockTakesRun, ReadTakesRun, CommonSetIs, EarliestIsLeast}
use Rattle.meaning.specs.Laws.{LatestIsGreatest, NoCommonIsEmpty, NewestBelowIs, NewestAtIs, SettlingNeedsNoRow}
use Rattle.meaning.specs.Laws.{SoundIsFacts, FreshIsSound, CallsKeepSound, RefusalChangesNothing, RefusedForCause}
use Rattle.meaning.specs.Laws.{GrantedWithoutCause, OnlyOwnNumbers, HolderIsLowest, FormatRefusedForCause}
use Rattle.meaning.specs.Laws.{PointRefusedForCause, PointsOrderAsPairs, PointsRunToLast}
use Rattle.meaning.specs.Calls.{act_by}
use Rattle.types.specs.declared.Call.TheVariants as C
use Rattle.meaning.proofs.Points as points
use Rattle.meaning.proofs.CommonSet as common
use Rattle.meaning.proofs.CommonEnds as ends
use Rattle.meaning.proofs.Newest as newest
use Rattle.meaning.proofs.Settled as settled
use Rattle.meaning.proofs.SoundParts as parts
use Rattle.meaning.proofs.CallsKeep as calls
use Rattle.meaning.proofs.EndingSound as ending
use Rattle.meaning.proofs.ForCause as causes
use Rattle.meaning.proofs.FormatCauses as formats

-- (a)
pub first_blocked_is_least : FirstBlockedIsLeast
first_blocked_is_least = points.first_blocked_is_least

pub lock_takes_run : LockTakesRun
lock_takes_run = points.lock_takes_run

pub read_takes_run : ReadTakesRun
read_takes_run = points.read_takes_run

-- (b)
pub common_set_is : CommonSetIs
common_set_is = common.common_set_is

pub earliest_is_least : EarliestIsLeast
earliest_is_least = ends.earliest_is_least

pub latest_is_greatest : LatestIsGreatest
latest_is_greatest = ends.latest_is_greatest

pub no_common_is_empty : NoCommonIsEmpty
no_common_is_empty = ends.no_common_is_empty

-- (c)
pub newest_below_is : NewestBelowIs
newest_below_is = newest.newest_below_is

pub newest_at_is : NewestAtIs
newest_at_is = newest.newest_at_is

-- (d)
pub settling_needs_no_row : SettlingNeedsNoRow
settling_needs_no_row = settled.settling_needs_no_row

-- (e)
pub sound_is_facts : SoundIsFacts
sound_is_facts = parts.sound_is_facts

pub fresh_is_sound : FreshIsSound
fresh_is_sound = parts.fresh_is_sound

pub calls_keep_sound : CallsKeepSound
unfolding act_by
calls_keep_sound C.Begin s h = calls.begin_keeps s h
calls_keep_sound (C.Write e r v) s h = calls.write_keeps e.0 r v s h
calls_keep_sound (C.Lock e r low high w) s h = calls.lock_keeps e.0 r low.0 high.0 w s h
calls_keep_sound (C.Read e r m w) s h = calls.read_keeps e.0 r m.0 w s h
calls_keep_sound (C.Commit e pick f) s h = ending.commit_keeps e.0 pick f s h
calls_keep_sound (C.Abort e f) s h = ending.abort_keeps e.0 f s h
calls_keep_sound (C.Settle e) s h = ending.settle_keeps e.0 s h
calls_keep_sound (C.Purge r b) s h = ending.purge_keeps r b.0 s h
calls_keep_sound (C.View r p) s h = calls.view_keeps r p.0 s h

-- (f)
pub refusal_changes_nothing : RefusalChangesNothing
refusal_changes_nothing = causes.refusal_changes_nothing

-- (g)
pub refused_for_cause : RefusedForCause
refused_for_cause = causes.refused_for_cause

pub granted_without_cause : GrantedWithoutCause
granted_without_cause = causes.granted_without_cause

pub only_own_numbers : OnlyOwnNumbers
only_own_numbers = causes.only_own_numbers

pub holder_is_lowest : HolderIsLowest
holder_is_lowest = causes.holder_names_lowest

pub format_refused_for_cause : FormatRefusedForCause
format_refused_for_cause = formats.format_refused_for_cause

pub point_refused_for_cause : PointRefusedForCause
point_refused_for_cause = formats.point_refused_for_cause

-- points as pairs
pub points_order_as_pairs : PointsOrderAsPairs
points_order_as_pairs = formats.points_order_as_pairs

pub points_run_to_last : PointsRunToLast
points_run_to_last = formats.points_run_to_last
