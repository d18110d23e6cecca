-- Purge and View judged along the order of the checks. Rests on Judging, CauseTests, SoundParts and Newest.
use Prim.Native.Nat.{ℕ, suc, ◌≤◌, ◌<◌}
use native.Mathlib.Omega.{arith}
use mathlib.Core.Path.{◌≡◌, refl}
use mathlib.Core.Bool.{Bool, true, false, not, ◌&&◌}
use mathlib.Core.List.{List, []}
use lib.Dec.{leb}
use borrow.Author.Tests.{leb-true, leb-false, eqb-false, ne_eqb, le-leb, lt-leb, not-true, not-false}
use Rattle.meaning.specs.Lists.{any}
use Rattle.types.specs.Limits.{LAST, SETTLED}
use Rattle.meaning.specs.Store.{Version, Lock, Rec, Store, rec_at, newest_at}
use Rattle.meaning.specs.Points.{is_owned}
use Rattle.types.specs.Replies.{at, refusing}
use Rattle.meaning.specs.Outcomes.{replies, has_record}
use Rattle.meaning.specs.Records.{purging, purge_checks, purge_to, purge_verdict, viewing, view_checks}
use Rattle.meaning.specs.SoundFacts.{SoundStore}
use Rattle.meaning.specs.Pointwise.{NewestIs}
use Rattle.meaning.specs.Causes.{LockedBelow}
use Rattle.meaning.specs.Order.{order}
use Rattle.types.specs.declared.Point.{Point}
use Rattle.types.specs.declared.Call.TheVariants as C
use Rattle.meaning.proofs.Lists.{and_in, and_left, and_right, not_both, any_in, any_out}
use Rattle.meaning.proofs.Newest.{newest_at_is, newest_one}
use Rattle.meaning.proofs.SoundParts.{sound_out}
use Rattle.meaning.proofs.CauseTests.{Refutes, record_test, at_most_test}
use Rattle.meaning.proofs.Judging.{Judging, granted, ◌next◌, never, decided, by_test}

-- View of a record that is there, at a point up to LAST: shown from the floor on, refused below it
module _ (s : Store) (r p : ℕ) (there : has_record s r ≡ true) (good : leb p LAST ≡ true) where
  view_shown : (rec_at s r).floor ≤ p
      → viewing r p s
      ≡ replies s (at (newest_at (rec_at s r).versions p).point (newest_at (rec_at s r).versions p).value)
  unfolding viewing view_checks
  view_shown h = simp (there, good, le-leb (rec_at s r).floor p h)

  view_below : p < (rec_at s r).floor → viewing r p s ≡ replies s (refusing 7 [])
  unfolding viewing view_checks
  view_below h = simp (there, good, lt-leb (rec_at s r).floor p h)

pub judging_view : (r : ℕ) (p : Point) (s : Store) → Judging (C.View r p) s (viewing r p.0 s) order
unfolding viewing view_checks
judging_view r p s =
    let v : Version = newest_at (rec_at s r).versions p.0 in
    let x : Rec = rec_at s r in
    not_both next
    never next never next never next never next
    decided (has_record s r) (λ g. record_test s r) refl (λ a. rw a) λ a.
    decided (leb p.0 LAST) (λ g. at_most_test p.0 LAST) refl (λ b. rw (a, b)) λ b.
    never next
    decided (leb x.floor p.0) (λ g. at_most_test x.floor p.0) refl
    (λ c. view_below s r p.0 a b (leb-false x.floor p.0 c)) λ c.
    never next never next never next never next never next never next never next never next
    granted (rw (view_shown s r p.0 a b (leb-true x.floor p.0 c)) (v.point, (v.value, refl)))

-- a lock of an unsettled edit at or below v
abbrev locked_to : ℕ → Lock → Bool
locked_to v l = not (is_owned SETTLED l) && leb l.low v

module _ (s : Store) (r b : ℕ) (good : SoundStore s) where
  -- the version that a Purge goes by
  newest : NewestIs (rec_at s r).versions (suc b) (newest_at (rec_at s r).versions b)
  newest = newest_at_is (rec_at s r) b (good.recs r).falls

  -- 15: nothing to do where v is the floor
  at_floor : leb (newest_at (rec_at s r).versions b).point (rec_at s r).floor ≡ true → LockedBelow s r b → ⊥
  at_floor e l =
      omega (
        arith,
        newest_one newest l.newest,
        l.above,
        leb-true (newest_at (rec_at s r).versions b).point (rec_at s r).floor e,
      )

  locked_test : leb (newest_at (rec_at s r).versions b).point (rec_at s r).floor ≡ false
      → Refutes (not (any (locked_to (newest_at (rec_at s r).versions b).point) (rec_at s r).locks)) (LockedBelow s r b)
  locked_test e =
      let v : Version = newest_at (rec_at s r).versions b in
      let ls : List Lock = (rec_at s r).locks in
      record {
        stands = λ q.
            let w = any_out (locked_to v.point) ls (not-false (any (locked_to v.point) ls) q) in
            let l : Lock = w.0 in
            record {
              version = v;
              newest = newest;
              above = leb-false v.point (rec_at s r).floor e;
              lock = l;
              member = w.1;
              unsettled =
                  eqb-false l.owner SETTLED
                  (not-true (is_owned SETTLED l) (and_left (not (is_owned SETTLED l)) (leb l.low v.point) w.2));
              below =
                  leb-true l.low v.point (and_right (not (is_owned SETTLED l)) (leb l.low v.point) w.2);
            };
        free = λ q l.
            let u : not (is_owned SETTLED l.lock) ≡ true = rw (ne_eqb l.lock.owner SETTLED l.unsettled) in
            let p : leb l.lock.low v.point ≡ true =
            le-leb l.lock.low v.point (omega (arith, newest_one newest l.newest, l.below)) in
            not_both (any_in (locked_to v.point) l.member (and_in u p))
            (not-true (any (locked_to v.point) ls) q);
      }

pub judging_purge : (r : ℕ) (b : Point) (s : Store) → Judging (C.Purge r b) s (purging r b.0 s) order
unfolding purging purge_checks purge_to purge_verdict
judging_purge r b s =
    let v : ℕ = (newest_at (rec_at s r).versions b.0).point in
    not_both next
    never next never next never next never next
    decided (has_record s r) (λ g. record_test s r) refl (λ a. rw a) λ a.
    decided (leb b.0 LAST) (λ g. at_most_test b.0 LAST) refl (λ c. rw (a, c)) λ c.
    never next never next never next never next
    by_test (leb v (rec_at s r).floor)
    (λ d.
    (λ g. at_floor s r b.0 (sound_out s g) d) next
    never next never next never next never next never next
    granted (rw (a, c, d) (0, (0, refl))))
    (λ d.
    decided (not (any (locked_to v) (rec_at s r).locks)) (λ g. locked_test s r b.0 (sound_out s g) d) refl
    (λ e. rw (a, c, d, e)) λ e.
    never next never next never next never next never next
    granted (rw (a, c, d, e) (_, (_, refl))))
