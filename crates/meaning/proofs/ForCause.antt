-- The laws of the refusals: a refusal changes nothing and has a number of its call; of a sound store it is given
-- exactly for the first cause of the order that stands, and 8 names the lowest holder. Rests on the judging of each
-- call.
use Prim.Native.Nat.{ℕ, ◌<◌}
use native.Mathlib.Omega.{arith}
use native.Mathlib.Decide.{dec_lt}
use mathlib.Core.Path.{◌≡◌, refl}
use mathlib.Core.Logic.{◌⊎◌, inl, inr}
use mathlib.Core.Bool.{true, false≢true}
use mathlib.Core.List.{[], ◌∷◌}
use Rattle.types.specs.Limits.{SLOTS, SETTLED, FREE, READ, WRITE}
use Rattle.meaning.specs.Store.{Lock, Counts, Store, slot_of, counts_of, edit_of, rec_at}
use Rattle.meaning.specs.Points.{holder}
use Rattle.types.specs.Replies.{Reply, ok, edit, locked, read, own, again, commit, nopoint, purged, at, point}
use Rattle.types.specs.Replies.{refusing, refused}
use Rattle.meaning.specs.Outcomes.{handle_at}
use Rattle.meaning.specs.Locking.{read_from}
use Rattle.meaning.specs.Records.{good_counts}
use Rattle.meaning.specs.Calls.{act, act_by}
use Rattle.meaning.specs.Sound.{sound_store}
use Rattle.meaning.specs.Pointwise.{Blocked, BlockedBy, LowestHolder}
use Rattle.meaning.specs.Causes.{edits}
use Rattle.meaning.specs.Order.{order, held, Stands, Refuses, HeldByLowest}
use Rattle.meaning.specs.Laws.{RefusalChangesNothing, RefusedForCause, GrantedWithoutCause, OnlyOwnNumbers}
use Rattle.meaning.specs.Laws.{HolderIsLowest}
use Rattle.types.specs.declared.Call.{Call}
use Rattle.types.specs.declared.Call.TheVariants as C
use Rattle.meaning.proofs.Stores.{used_range}
use Rattle.meaning.proofs.Points.{holder_is_lowest}
use Rattle.meaning.proofs.Newest.{newest_below_is, newest_one}
use Rattle.meaning.proofs.SoundParts.{sound_out}
use Rattle.meaning.proofs.FormatCauses.{counts_test}
use Rattle.meaning.proofs.Denials.{least_one, found_least}
use Rattle.meaning.proofs.Judging.{Judging, holders}
use Rattle.meaning.proofs.JudgingLaws.{says_first, first_says, grants_none, none_grants, refusal_reason}
use Rattle.meaning.proofs.JudgingLaws.{first_stands}
use Rattle.meaning.proofs.JudgeEdits.{judging_begin, judging_write}
use Rattle.meaning.proofs.JudgeLocking.{proper, judging_lock}
use Rattle.meaning.proofs.JudgeReading.{judging_read}
use Rattle.meaning.proofs.JudgeEnding.{judging_commit, judging_abort, judging_settle}
use Rattle.meaning.proofs.JudgeRecords.{judging_purge, judging_view}

judging : (c : Call) (s : Store) → Judging c s (act c s) order
unfolding act_by
judging C.Begin s = judging_begin s
judging (C.Write h r v) s = judging_write h r v s
judging (C.Lock h r low high w) s = judging_lock h r low high w s
judging (C.Read h r m w) s = judging_read h r m w s
judging (C.Commit h pick f) s = judging_commit h pick f s
judging (C.Abort h f) s = judging_abort h f s
judging (C.Settle h) s = judging_settle h s
judging (C.Purge r b) s = judging_purge r b s
judging (C.View r p) s = judging_view r p s

pub refused_for_cause : RefusedForCause
refused_for_cause c s good i = (says_first (judging c s) good i, first_says (judging c s) good)

pub granted_without_cause : GrantedWithoutCause
granted_without_cause c s good = (grants_none (judging c s) good, none_grants (judging c s) good)

pub only_own_numbers : OnlyOwnNumbers
only_own_numbers c s n w = (refusal_reason (judging c s) n w.0 w.1).0.number

refused_out : (r : Reply) → refused r ≡ true → (n : ℕ) × Refuses n r
refused_out ok e = absurd (false≢true e)
refused_out (edit h) e = absurd (false≢true e)
refused_out (locked low high) e = absurd (false≢true e)
refused_out (read tr end v) e = absurd (false≢true e)
refused_out (own v) e = absurd (false≢true e)
refused_out (again tr v) e = absurd (false≢true e)
refused_out (commit p) e = absurd (false≢true e)
refused_out nopoint e = absurd (false≢true e)
refused_out (purged vs ls) e = absurd (false≢true e)
refused_out (at p v) e = absurd (false≢true e)
refused_out (point p) e = absurd (false≢true e)
refused_out (refusing n more) e = (n, (more, refl))

pub refusal_changes_nothing : RefusalChangesNothing
refusal_changes_nothing c s e =
    let w = refused_out (act c s).reply e in
    (refusal_reason (judging c s) w.0 w.1.0 w.1.1).1

-- the owner of a lock is below SLOTS
pub few_edits : (c : Counts) → good_counts c ≡ true → c.edits < SLOTS
few_edits c e = go (dec_lt c.edits SLOTS)
  where
    go : Dec (c.edits < SLOTS) → c.edits < SLOTS
    go (yes h) = h
    go (no h) = absurd ((counts_test c).free e (edits (inr (omega arith))))

pub owner_slot : (s : Store) → sound_store s ≡ true → (r mode k p o : ℕ) → BlockedBy mode k (rec_at s r) p o → o < SLOTS
owner_slot s g r mode k p o b = go (((sound_out s g).recs r).owner b.lock b.member)
  where
    go : (b.lock.owner ≡ SETTLED) ⊎ ((edit_of s.edits b.lock.owner).state ≡ FREE → ⊥) → o < SLOTS
    go (inl e) = omega (arith, b.owned)
    go (inr f) =
        omega (
          arith,
          b.owned,
          (used_range s.edits b.lock.owner f).upto,
          few_edits (counts_of s) (sound_out s g).counts,
        )

-- the holder at a judged point
lowest_at : (s : Store) → sound_store s ≡ true → (r mode k p h : ℕ) → Blocked mode k (rec_at s r) p
    → h ∷ [] ≡ handle_at s (holder mode k (rec_at s r) p) ∷ []
    → (o : ℕ) × LowestHolder mode k (rec_at s r) p o × (h ≡ handle_at s o)
lowest_at s g r mode k p h b e =
    (holder mode k (rec_at s r) p, holder_is_lowest mode k (rec_at s r) p (owner_slot s g r mode k p) b, cc)

-- what 8 carries, at the point that the cause names
lowest_held : (c : Call) (s : Store) (h : ℕ) → sound_store s ≡ true → h ∷ [] ≡ holders c s → Stands held c s
    → HeldByLowest c s h
lowest_held C.Begin s h g e z = z
lowest_held (C.Write x r v) s h g e z = z
lowest_held (C.Lock x r low high w) s h g e z =
    let l = z.1.judged in
    let k = slot_of x.0 in
    let q = least_one (found_least WRITE k (rec_at s r) low.0 high.0 (proper s g r) l) l in
    (z.0, z.1, lowest_at s g r WRITE k z.0 h l.blocked (rw q at e))
lowest_held (C.Read x r m w) s h g e z =
    let k = slot_of x.0 in
    let n = newest_one z.1.newest (newest_below_is (rec_at s r) m.0 ((sound_out s g).recs r).falls) in
    let l = rw n at z.1.judged in
    let q = least_one (found_least READ k (rec_at s r) (read_from s r m.0) m.0 (proper s g r) l) l in
    (z.0, z.1, lowest_at s g r READ k z.0 h l.blocked (rw q at e))
lowest_held (C.Commit x pick f) s h g e z = z
lowest_held (C.Abort x f) s h g e z = z
lowest_held (C.Settle x) s h g e z = z
lowest_held (C.Purge r b) s h g e z = z
lowest_held (C.View r p) s h g e z = z

pub holder_names_lowest : HolderIsLowest
holder_names_lowest c s h good e =
    lowest_held c s h good ((refusal_reason (judging c s) 8 (h ∷ []) e).0.holder refl)
    (first_stands (says_first (judging c s) good held (h ∷ [], e)))
