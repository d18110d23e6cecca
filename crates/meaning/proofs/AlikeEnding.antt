-- Settle, Abort and Commit keep two stores alike, of which one keeps its locks in the plain way and one joined, and
-- reply the same. Rests on AlikeStores.
use Prim.Native.Nat.{ℕ, zero, suc, ◌+◌, ◌≤◌}
use native.Mathlib.Omega.{arith}
use native.Mathlib.Nat.{le_refl}
use mathlib.Core.Path.{◌≡◌, refl, sym, ap, ◌∙◌}
use mathlib.Core.Logic.{◌⊎◌, inl, inr}
use mathlib.Core.Bool.{Bool, true, false, cond}
use mathlib.Core.List.{List}
use lib.Dec.{leb, ltb, eqb}
use lib.ListN.{length}
use borrow.Author.Tests.{eqb-true}
use Rattle.meaning.specs.Lists.{◌∈◌, any, map_from, find}
use Rattle.types.specs.Limits.{LAST, COMMITTED, READ, WRITE, SETTLED, ABORTED}
use Rattle.types.specs.Replies.{Reply, commit, nopoint}
use Rattle.types.specs.declared.Pick.{Pick}
use Rattle.types.specs.declared.Pick.TheVariants.{Earliest, Latest, Named}
use Rattle.types.specs.declared.Finish.{Finish}
use Rattle.types.specs.declared.Finish.TheVariants as F
use Rattle.meaning.specs.Store.{Rec, Edit, Store, edit_of, set_edit, rec_of, with_edit, with_records, is_of, no_access}
use Rattle.meaning.specs.Store.{access_of, has_read, written_of, versions_used, Lock, Access}
use Rattle.meaning.specs.Points.{leave_settled, settled_lock, joined, plain, drop_owner}
use Rattle.meaning.specs.Pointwise.{InCommonSet}
use Rattle.meaning.specs.Outcomes.{replies, unless, version_room}
use Rattle.meaning.specs.Ending.{ended, locks_left_by, settled_locks_by, settled_rec_by, settled_by, finished_by}
use Rattle.meaning.specs.Ending.{insert}
use Rattle.meaning.specs.Ending.{new_version}
use Rattle.meaning.specs.Ending.{committed_rec, committed, aborted, chosen, allowed, no_common, commit_verdict}
use Rattle.meaning.specs.Ending.{commit_open_by}
use Rattle.meaning.specs.OldTable.{same}
use Rattle.meaning.proofs.Lists.{length_map_from, find_out}
use Rattle.meaning.proofs.Verdicts.{needs_pass}
use Rattle.meaning.proofs.Stores.{edit_same, InRange}
use Rattle.meaning.proofs.EndingSound.{chosen_common}
use Rattle.meaning.proofs.Same.{in_common_same, earliest_same, latest_same}
use Rattle.meaning.proofs.Alike.{Locks, add_alike, drop_alike, left_alike}
use Rattle.meaning.proofs.AlikeRecs.{Recs, map_alike, total_most, recs_to, recs_from}
use Rattle.meaning.proofs.AlikeStores.{mk, Step, unless_step}
use Rattle.meaning.specs.Store.{has_written}

-- what settling leaves of a record's locks
settled_locks_lem : (k : ℕ) (e : Edit) (r : ℕ) {xs ys : List Lock} → (SETTLED ≡ k → ⊥)
    → (e.state ≡ COMMITTED → (access_of e r).from ≤ e.point) → Locks xs ys
    → Locks (settled_locks_by plain k e r xs) (settled_locks_by joined k e r ys)
unfolding settled_locks_by leave_settled
settled_locks_lem k e r {xs} {ys} n f a = go (eqb e.state COMMITTED) refl
  where
    dropped : Locks (drop_owner k xs) (drop_owner k ys)
    dropped = drop_alike k n a

    reads : (b : Bool) → (access_of e r).from ≤ e.point
        → Locks (plain.leave b READ (access_of e r).from e.point (drop_owner k xs))
        (leave_settled b READ (access_of e r).from e.point (drop_owner k ys))
    reads true h = left_alike (access_of e r).from e.point h dropped
    reads false h = dropped

    writes : (b : Bool) (zs ws : List Lock) → Locks zs ws
        → Locks (plain.leave b WRITE e.point e.point zs) (leave_settled b WRITE e.point e.point ws)
    writes true zs ws l = add_alike (settled_lock WRITE e.point e.point) (le_refl e.point) l
    writes false zs ws l = l

    go : (b : Bool) → eqb e.state COMMITTED ≡ b
        → Locks (cond b (locks_left_by plain e (access_of e r) (drop_owner k xs)) (drop_owner k xs))
        (cond b (locks_left_by joined e (access_of e r) (drop_owner k ys)) (drop_owner k ys))
    go true q =
        writes (has_written (access_of e r)) _ _ (reads (has_read (access_of e r)) (f (eqb-true e.state COMMITTED q)))
    go false q = dropped

-- the accesses of an edit begin at or below a point of its common set
pub from_common : (us : List Rec) (k : ℕ) (e : Edit) (p : ℕ) → InCommonSet us k e p → (r : ℕ)
    → (access_of e r).from ≤ p
unfolding access_of
from_common us k e p c r = go (find_out (is_of r) (no_access r) e.accesses)
  where
    a : Access
    a = find (is_of r) (no_access r) e.accesses

    tell : (n : ℕ) → (find (is_of r) (no_access r) e.accesses).from ≡ n
        → find (is_of r) (no_access r) e.accesses ∈ e.accesses → n ≤ p
    tell zero z i = omega arith
    tell (suc tr) z i = c.above (find (is_of r) (no_access r) e.accesses) tr i z

    go : ((find (is_of r) (no_access r) e.accesses ≡ no_access r) × (any (is_of r) e.accesses ≡ false))
        ⊎ ((find (is_of r) (no_access r) e.accesses ∈ e.accesses)
        × (is_of r (find (is_of r) (no_access r) e.accesses) ≡ true))
        → (find (is_of r) (no_access r) e.accesses).from ≤ p
    go (inl w) = rw w.0 (omega arith)
    go (inr w) = tell _ refl w.0

module _ (vn ln an : ℕ) where
  module _ (es : List Edit) (rs us : List Rec) (R : Recs rs us) (k : ℕ) (n : SETTLED ≡ k → ⊥) where
    -- settling slot k
    pub settled_recs : ((r : ℕ) → (edit_of es k).state ≡ COMMITTED
        → (access_of (edit_of es k) r).from ≤ (edit_of es k).point)
        → Recs (map_from 0 (settled_rec_by plain k (edit_of es k)) rs)
        (map_from 0 (settled_rec_by joined k (edit_of es k)) us)
    settled_recs f =
        record {
          count =
              omega (
                arith,
                length_map_from (settled_rec_by plain k (edit_of es k)) 0 rs,
                length_map_from (settled_rec_by
                    joined k (edit_of es k)) 0 us,
                R.count,
              );
          each = map_alike (settled_rec_by plain k (edit_of es k)) (settled_rec_by joined k (edit_of es k))
              (λ i x y a. record {
                versions = a.versions;
                floor = a.floor;
                locks = settled_locks_lem k (edit_of es k) i n
                    (f i) a.locks;
              })
              0 rs us R.count R.each;
        }

    pub settled_step : (q : Reply) → ((r : ℕ) → (edit_of es k).state ≡ COMMITTED
        → (access_of (edit_of es k) r).from ≤ (edit_of es k).point)
        → Step vn ln an (replies (settled_by plain (mk vn ln an es rs) k) q)
        (replies (settled_by joined (mk vn ln an es us) k) q)
    unfolding settled_by with_edit with_records
    settled_step q f =
        record { es = _; rs = _; us = _; left = refl; right = refl; recs = settled_recs f; reply = same q }

    pub finished_step : (q : Reply) (f : Finish) → ((r : ℕ) → (edit_of es k).state ≡ COMMITTED
        → (access_of (edit_of es k) r).from ≤ (edit_of es k).point)
        → Step vn ln an (replies (finished_by plain f (mk vn ln an es rs) k) q)
        (replies (finished_by joined f (mk vn ln an es us) k) q)
    finished_step q F.Settle f = settled_step q f
    finished_step q F.Keep f = record { es = es; rs = rs; us = us; left = refl; right = refl; recs = R; reply = same q }

-- Abort and Commit: the edit ended as aborted or committed, then finished
module _ (vn ln an : ℕ) (es : List Edit) (rs us : List Rec) (R : Recs rs us) (k : ℕ) (n : SETTLED ≡ k → ⊥)
    (range : InRange es k) where
  abbrev old : Store
  old = mk vn ln an es rs

  abbrev new : Store
  new = mk vn ln an es us

  abbrev e : Edit
  e = edit_of es k

  none_eq : no_common old k ≡ no_common new k
  unfolding no_common
  none_eq = ap (ltb LAST) (earliest_same rs us (recs_to R) (recs_from R) k e)

  chosen_eq : (pick : Pick) → chosen old k pick ≡ chosen new k pick
  chosen_eq Earliest = earliest_same rs us (recs_to R) (recs_from R) k e
  chosen_eq Latest = latest_same rs us (recs_to R) (recs_from R) k e
  chosen_eq (Named p) = refl

  allowed_eq : (pick : Pick) → allowed old k pick ≡ allowed new k pick
  allowed_eq Earliest = refl
  allowed_eq Latest = refl
  allowed_eq (Named p) = in_common_same rs us (recs_to R) (recs_from R) k e p.0

  lengths : (r : ℕ) → length (rec_of rs r).versions ≡ length (rec_of us r).versions
  lengths r = ap length (R.each r).versions

  room_same : version_room old k ≡ version_room new k
  unfolding version_room versions_used
  room_same =
      ap (λ m. leb (m + length (written_of e)) vn)
      (omega (
        arith,
        total_most (λ x. length x.versions) rs us R.count (λ r. omega (arith, lengths r)),
        total_most (λ x. length x.versions) us rs (sym R.count) (λ r. omega (arith, lengths r)),
      ))

  pub aborted_step : (q : Reply) (f : Finish)
      → Step vn ln an (replies (finished_by plain f (aborted old k) k) q)
      (replies (finished_by joined f (aborted new k) k) q)
  unfolding aborted with_edit
  aborted_step q f =
      finished_step vn ln an (set_edit es k (ended e ABORTED 0)) rs us R k n q f
      (λ r z. absurd (omega (arith, z, ap (λ (x : Edit). x.state) (edit_same es k (ended e ABORTED 0) range))))

  committed_recs : (p : ℕ) → Recs (map_from 0 (committed_rec e p) rs) (map_from 0 (committed_rec e p) us)
  committed_recs p =
      record {
        count =
            omega (arith, length_map_from (committed_rec e p) 0 rs, length_map_from (committed_rec e p) 0 us, R.count);
        each = map_alike (committed_rec e p) (committed_rec e p)
            (λ i x y a. record {
              versions =
                  ap (λ vs. cond (has_written (access_of e i)) (insert (new_version (access_of e i) p) vs) vs)
                  a.versions;
              floor = a.floor;
              locks = a.locks;
            })
            0 rs us R.count R.each;
      }

  pub committed_step : (p : ℕ) → InCommonSet us k e p → (q : Reply) (f : Finish)
      → Step vn ln an (replies (finished_by plain f (committed old k p) k) q)
      (replies (finished_by joined f (committed new k p) k) q)
  unfolding committed with_edit with_records
  committed_step p c q f =
      finished_step vn ln an (set_edit es k (ended e COMMITTED p)) (map_from 0 (committed_rec e p) rs)
      (map_from 0 (committed_rec e p) us) (committed_recs p) k n q f
      (λ r z. rw (edit_same es k (ended e COMMITTED p) range) (same_accesses r))
    where
      moved : InCommonSet us k e p → InCommonSet us k (ended e COMMITTED p) p
      moved c = record { least = c.least; last = c.last; written = c.written; above = c.above; under = c.under }

      same_accesses : (r : ℕ) → (access_of (ended e COMMITTED p) r).from ≤ p
      same_accesses r = from_common us k (ended e COMMITTED p) p (moved c) r

  pub commit_open_lem : (pick : Pick) (f : Finish)
      → Step vn ln an (commit_open_by plain old k pick f) (commit_open_by joined new k pick f)
  unfolding commit_open_by commit_verdict
  commit_open_lem pick f = rw none_eq (go (no_common new k) refl)
    where
      go : (b : Bool) → no_common new k ≡ b
          → Step vn ln an
          (cond b (replies (finished_by plain f (aborted old k) k) nopoint)
          (unless old (commit_verdict old k pick)
          (replies (finished_by plain f (committed old k (chosen old k pick)) k) (commit (chosen old k pick)))))
          (cond b (replies (finished_by joined f (aborted new k) k) nopoint)
          (unless new (commit_verdict new k pick)
          (replies (finished_by joined f (committed new k (chosen new k pick)) k) (commit (chosen new k pick)))))
      go true q = aborted_step nopoint f
      go false q =
          unless_step vn ln an es rs us R (commit_verdict old k pick) (commit_verdict new k pick) _ _
          (rw (allowed_eq pick, room_same) refl)
          (λ z.
          let a = (needs_pass (allowed old k pick) 14 _ z).0 in
          rw (chosen_eq pick)
          (committed_step (chosen new k pick) (chosen_common new k q pick (sym (allowed_eq pick) ∙ a))
          (commit (chosen new k pick)) f))
