-- Two stores with the same slots, of which one keeps its locks in the plain way and one joined: Begin, Write, View,
-- Lock, Read and Purge keep them alike and reply the same, but for the lock rows that Purge counts, unless the first
-- refuses with 11. Rests on AlikeRecs, Same and Granted.
use Prim.Native.Nat.{ℕ, suc, ◌-◌, ◌≤◌}
use native.Mathlib.Omega.{arith}
use mathlib.Core.Path.{◌≡◌, refl, sym, ap, ◌∙◌}
use mathlib.Core.Logic.{◌⊎◌, inl, inr}
use mathlib.Core.Bool.{Bool, true, false, not, cond, ◌&&◌, false≢true}
use mathlib.Core.List.{List, []}
use lib.Dec.{leb, ltb, eqb}
use lib.ListN.{length, set}
use borrow.Author.Tests.{leb-true, ltb-true, lt-ltb}
use Rattle.meaning.specs.Lists.{◌∈◌, keep, any, total, find}
use Rattle.types.specs.Limits.{LAST, READ, WRITE, SETTLED}
use Rattle.types.specs.Replies.{Reply, own, again, purged, refusing}
use Rattle.types.specs.declared.Extent.{Extent}
use Rattle.types.specs.declared.Extent.TheVariants.{All, Part}
use Rattle.meaning.specs.Store.{first, Rec, Edit, Store, edit_of, rec_of, with_edit, with_records, with_rec}
use Rattle.meaning.specs.Store.{access_of, has_read, locks_used, accesses_used, newest_at, newest_below, version_on}
use Rattle.meaning.specs.Store.{Val}
use Rattle.meaning.specs.Store.{slot_of, Version, Lock}
use Rattle.meaning.specs.Points.{is_owned, add_lock, first_blocked, first_open, frozen, holder}
use Rattle.meaning.specs.Points.{joined, plain}
use Rattle.meaning.specs.Outcomes.{Outcome, replies, Verdict, or_else, needs, unless, knows, is_open, has_record}
use Rattle.meaning.specs.Outcomes.{is_point, judge, access_room, lock_room, pass, refuse}
use Rattle.meaning.specs.Edits.{begun, begin_checks, beginning, written, write_checks, writing}
use Rattle.meaning.specs.Locking.{grant_end, lock_from, lock_end, lock_granted, read_granted, lock_verdict, lock_checks}
use Rattle.meaning.specs.Locking.{with_lock_by, lock_wanted_by, locking_by, read_version, read_from, read_verdict}
use Rattle.meaning.specs.Locking.{read_store_by, read_new_by}
use Rattle.meaning.specs.Locking.{read_open_by, read_checks, reading_by}
use Rattle.meaning.specs.Records.{purged_rec, purge_verdict, purge_to, purge_checks, purging, view_checks, viewing}
use Rattle.meaning.specs.OldTable.{SameReply, same, counts}
use Rattle.meaning.proofs.Lists.{and_left, test, both, any_in, any_out, keep_in, keep_out, find_out}
use Rattle.meaning.proofs.Verdicts.{needs_pass, for_open_pass, or_else_pass, judge_refuses}
use Rattle.meaning.proofs.Granted.{lock_taken, read_taken_lem}
use Rattle.meaning.proofs.Points.{lock_takes_run, read_takes_run, frozen_is}
use Rattle.meaning.proofs.Same.{first_blocked_same, first_open_same, holder_same, frozen_same}
use Rattle.meaning.proofs.Alike.{perm_member, perm_sym, is_plain, plains, add_alike}
use Rattle.meaning.proofs.Alike.{trim_alike, shorter}
use Rattle.meaning.proofs.AlikeRecs.{AlikeRec, Recs, Good, total_most, set_recs, recs_to, recs_from}
use Rattle.meaning.specs.Store.{has_written, written_value}

counts_eq : (n m a b : ℕ) → n ≡ m → SameReply (purged n a) (purged m b)
counts_eq n m a b e = rw (← e) (counts n a b)

module _ (vn ln an : ℕ) where
  abbrev pub mk : List Edit → List Rec → Store
  mk es rs = record { records = rs; edits = es; version_rows = vn; lock_rows = ln; access_rows = an }

  pub record Step (o q : Outcome) : Type 0 where
    pub es : List Edit
    pub rs : List Rec
    pub us : List Rec
    pub left : o.store ≡ mk es rs
    pub right : q.store ≡ mk es us
    pub recs : Recs rs us
    pub reply : SameReply o.reply q.reply

  module _ (es : List Edit) (rs us : List Rec) (R : Recs rs us) where
    abbrev s : Store
    s = mk es rs

    abbrev t : Store
    t = mk es us

    stay : (q : Reply) → Step (replies s q) (replies t q)
    stay q = record { es = es; rs = rs; us = us; left = refl; right = refl; recs = R; reply = same q }

    pub unless_step : (v w : Verdict) (o q : Outcome) → v ≡ w → (v ≡ pass → Step o q)
        → Step (unless s v o) (unless t w q)
    unless_step v w o q e f = rw (← e) (go v f)
      where
        go : (v : Verdict) → (v ≡ pass → Step o q) → Step (unless s v o) (unless t v q)
        go pass f = f refl
        go (refuse n more) f = stay (refusing n more)

    -- the tests of the refusals
    has_record_lem : (r : ℕ) → has_record s r ≡ has_record t r
    unfolding has_record
    has_record_lem r = ap (ltb r) R.count

    floors : (r : ℕ) → (rec_of rs r).floor ≡ (rec_of us r).floor
    floors r = (R.each r).floor

    frozen_eq : (r mode p : ℕ) → frozen s r mode p ≡ frozen t r mode p
    frozen_eq r mode p =
        both (frozen s r mode p) (frozen t r mode p)
        (λ e. (frozen_is t r mode p).1 (frozen_same s t r mode p (recs_to R r) (R.each r).versions ((frozen_is s r
        mode p).0
        e)))
        (λ e. (frozen_is s r mode p).1 (frozen_same t s r mode p (recs_from R r) (sym (R.each r).versions) ((frozen_is
        t r
        mode p).0 e)))

    holder_eq : (r mode k p : ℕ) → holder mode k (rec_of rs r) p ≡ holder mode k (rec_of us r) p
    holder_eq r mode k p =
        omega (
          arith,
          holder_same (recs_to R r) (recs_from R r) mode k p,
          holder_same (recs_from R r) (recs_to R r)
              mode k p,
        )

    judge_eq : (r mode k p : ℕ) → judge s r mode k p ≡ judge t r mode k p
    unfolding judge
    judge_eq r mode k p = rw (frozen_eq r mode p, holder_eq r mode k p) refl

    access_room_lem : (k r : ℕ) → access_room s k r ≡ access_room t k r
    unfolding access_room accesses_used
    access_room_lem k r = refl

    lock_room_lem : Good us → lock_room s ≡ true → lock_room t ≡ true
    unfolding lock_room locks_used
    lock_room_lem G e =
        lt-ltb (total (λ x. length x.locks) us) ln
        (omega (
          arith,
          ltb-true (total (λ x. length x.locks) rs) ln e,
          total_most (λ x. length x.locks) rs us R.count
              (λ r. shorter (R.each r).locks (G.proper r) (G.rises r) (G.joined r)),
        ))

    -- Begin, View
    pub begin_step : Step (beginning s) (beginning t)
    unfolding beginning begin_checks begun with_edit
    begin_step =
        unless_step (begin_checks s) (begin_checks t) _ _ refl
        (λ e. record { es = _; rs = rs; us = us; left = refl; right = refl; recs = R; reply = same _ })

    pub view_step : (r p : ℕ) → Step (viewing r p s) (viewing r p t)
    unfolding viewing view_checks
    view_step r p =
        unless_step (view_checks s r p) (view_checks t r p) _ _ (rw (has_record_lem r, floors r) refl)
        (λ e. record {
          es = es;
          rs = rs;
          us = us;
          left = refl;
          right = refl;
          recs = R;
          reply = rw (R.each r
              ).versions (same _);
        })

    pub write_step : (h r : ℕ) (v : Val) → Step (writing h r v s) (writing h r v t)
    unfolding writing write_checks written with_edit knows is_open access_room accesses_used
    write_step h r v =
        unless_step (write_checks s h r) (write_checks t h r) _ _ (rw (has_record_lem r) refl)
        (λ e. record { es = _; rs = rs; us = us; left = refl; right = refl; recs = R; reply = same _ })

    -- the same verdict, or the old one is 11
    abbrev VEq : Verdict → Verdict → Type 0
    VEq v w = (v ≡ w) ⊎ (v ≡ refuse 11 [])

    abbrev Or11 : Outcome → Outcome → Type 0
    Or11 o q = (o.reply ≡ refusing 11 []) ⊎ Step o q

    or_else_eq : (g f : Bool) (i j v w : Verdict) → g ≡ f → i ≡ j → VEq v w
        → VEq (or_else g i v) (or_else f j w)
    or_else_eq g f i j v w e d h = rw (← e) (go g)
      where
        go : (g : Bool) → VEq (or_else g i v) (or_else g j w)
        go true = h
        go false = inl d

    unless_or : (v w : Verdict) (o q : Outcome) → VEq v w → (v ≡ pass → Or11 o q)
        → Or11 (unless s v o) (unless t w q)
    unless_or v w o q (inr e) f = inl (rw e refl)
    unless_or v w o q (inl e) f = rw (← e) (go v f)
      where
        go : (v : Verdict) → (v ≡ pass → Or11 o q) → Or11 (unless s v o) (unless t v q)
        go pass f = f refl
        go (refuse n more) f = inr (stay (refusing n more))

    module _ (G : Good us) where
      room_eq : VEq (needs (lock_room s) 11 pass) (needs (lock_room t) 11 pass)
      room_eq = go (test (lock_room s))
        where
          go : (lock_room s ≡ true) ⊎ (lock_room s ≡ false)
              → VEq (needs (lock_room s) 11 pass) (needs (lock_room t) 11 pass)
          go (inl e) = inl (rw (e, lock_room_lem G e) refl)
          go (inr e) = inr (rw e refl)

      first_eq : (r mode k low high : ℕ) → low ≤ high
          → first_blocked mode k (rec_of rs r) low high ≡ first_blocked mode k (rec_of us r) low high
      first_eq r mode k low high h =
          first_blocked_same (recs_to R r) (recs_from R r) (R.each r).locks.proper (G.proper r) mode k low high h

      open_eq : (r mode k low high : ℕ) → low ≤ high
          → first_open mode k (rec_of rs r) low high ≡ first_open mode k (rec_of us r) low high
      open_eq r mode k low high h = first_open_same (recs_to R r) (recs_from R r) mode k low high h

      -- Lock
      lock_granted_lem : (w : Extent) (k r low high : ℕ) → low ≤ high
          → lock_granted w k (rec_of rs r) low high ≡ lock_granted w k (rec_of us r) low high
      lock_granted_lem All k r low high h = ap (ltb high) (first_eq r WRITE k low high h)
      lock_granted_lem Part k r low high h = ap (λ p. leb p high) (open_eq r WRITE k low high h)

      lock_from_lem : (w : Extent) (k r low high : ℕ) → low ≤ high
          → lock_from w k (rec_of us r) low high ≡ lock_from w k (rec_of rs r) low high
      lock_from_lem All k r low high h = refl
      lock_from_lem Part k r low high h = sym (open_eq r WRITE k low high h)

      lock_end_lem : (w : Extent) (k r low high : ℕ) → low ≤ high → lock_granted w k (rec_of rs r) low high ≡ true
          → lock_end w k (rec_of us r) low high ≡ lock_end w k (rec_of rs r) low high
      lock_end_lem All k r low high h g = refl
      lock_end_lem Part k r low high h g =
          rw (← (open_eq r WRITE k low high h))
          (ap (λ p. p - 1) (sym (first_eq r WRITE k (first_open WRITE k (rec_of rs r) low high) high
          (leb-true (first_open WRITE k (rec_of rs r) low high) high g))))

      lock_wanted_lem : (k r low high : ℕ) (w : Extent) → low ≤ high
          → Or11 (lock_wanted_by plain s k r low high w) (lock_wanted_by joined t k r low high w)
      unfolding lock_verdict with_records lock_wanted_by with_lock_by add_lock
      lock_wanted_lem k r low high w h =
          unless_or (lock_verdict s k r low high w) (lock_verdict t k r low high w) _ _
          (or_else_eq _ _ _ _ _ _ (lock_granted_lem w k r low high h)
          (rw (first_eq r WRITE k low high h) (judge_eq r WRITE k _)) room_eq)
          (λ e.
          let x = rec_of rs r in
          let g = (or_else_pass (lock_granted w k x low high) _ _
          (judge_refuses s r WRITE k (first_blocked WRITE k x low high)) e).0 in
          let taken =
          lock_taken w k x low high _ _ h ((lock_takes_run w k x low high (R.each r).locks.proper h).0 g) in
          inr (record {
            es = es;
            rs = _;
            us = _;
            left = refl;
            right = rw (lock_end_lem w k r low high h g, lock_from_lem w k r low high h) refl;
            recs = set_recs R r _ _ (record {
              versions = (R.each r).versions;
              floor = (R.each r).floor;
              locks = add_alike _ taken.some (R.each r).locks;
            });
            reply = rw (lock_end_lem w k r low high h g, lock_from_lem w k r low high h) (same _);
          }))

      pub lock_step : (h r low high : ℕ) (w : Extent)
          → Or11 (locking_by plain h r low high w s) (locking_by joined h r low high w t)
      unfolding locking_by lock_checks knows is_open
      lock_step h r low high w =
          unless_or (lock_checks s h r low high) (lock_checks t h r low high) _ _
          (inl (rw (has_record_lem r, floors r) refl))
          (λ e.
          let a = (for_open_pass s h _ e).rest in
          let b = (needs_pass (has_record s r) 5 _ a).1 in
          let c = (needs_pass (leb low high && leb high LAST) 6 _ b).0 in
          lock_wanted_lem (slot_of h) r low high w (leb-true low high (and_left (leb low high) (leb high LAST) c)))

      -- Read
      version_eq : (r m : ℕ) → read_version t r m ≡ read_version s r m
      version_eq r m = ap (λ vs. newest_below vs m) (sym (R.each r).versions)

      from_below : (r m : ℕ) → 1 ≤ m → read_from s r m ≤ m
      unfolding newest_below
      from_below r m h = go (find_out (λ v. ltb v.point m) first (rec_of rs r).versions)
        where
          go : ((find (λ v. ltb v.point m) first (rec_of rs r).versions ≡ first)
              × (any (λ v. ltb v.point m) (rec_of rs r).versions ≡ false))
              ⊎ ((find (λ v. ltb v.point m) first (rec_of rs r).versions ∈ (rec_of rs r).versions)
              × (ltb (find (λ v. ltb v.point m) first (rec_of rs r).versions).point m ≡ true))
              → suc (find (λ v. ltb v.point m) first (rec_of rs r).versions).point ≤ m
          go (inl w) = rw w.0 h
          go (inr w) = ltb-true (find (λ v. ltb v.point m) first (rec_of rs r).versions).point m w.1

      read_granted_lem : (w : Extent) (k r low high : ℕ) → low ≤ high
          → read_granted w k (rec_of rs r) low high ≡ read_granted w k (rec_of us r) low high
      read_granted_lem All k r low high h = ap (ltb high) (first_eq r READ k low high h)
      read_granted_lem Part k r low high h = ap (ltb low) (first_eq r READ k low high h)

      grant_end_lem : (w : Extent) (k r low high : ℕ) → low ≤ high
          → grant_end w READ k (rec_of us r) low high ≡ grant_end w READ k (rec_of rs r) low high
      grant_end_lem All k r low high h = refl
      grant_end_lem Part k r low high h = ap (λ p. p - 1) (sym (first_eq r READ k low high h))

      read_verdict_lem : (k r m f : ℕ) (w : Extent) → f ≤ m
          → VEq (needs (ltb (rec_of rs r).floor m) 7
          (or_else (read_granted w k (rec_of rs r) f m)
          (judge s r READ k (first_blocked READ k (rec_of rs r) f m))
          (needs (access_room s k r) 10 (needs (lock_room s) 11 pass))))
          (needs (ltb (rec_of us r).floor m) 7
          (or_else (read_granted w k (rec_of us r) f m)
          (judge t r READ k (first_blocked READ k (rec_of us r) f m))
          (needs (access_room t k r) 10 (needs (lock_room t) 11 pass))))
      read_verdict_lem k r m f w h =
          or_else_eq (ltb (rec_of rs r).floor m) (ltb (rec_of us r).floor m) (refuse 7 [])
          (refuse 7 [])
          (or_else (read_granted w k (rec_of rs r) f m)
          (judge s r READ k (first_blocked READ k (rec_of rs r) f m))
          (needs (access_room s k r) 10 (needs (lock_room s) 11 pass)))
          (or_else (read_granted w k (rec_of us r) f m)
          (judge t r READ k (first_blocked READ k (rec_of us r) f m))
          (needs (access_room t k r) 10 (needs (lock_room t) 11 pass)))
          (ap (λ p. ltb p m) (floors r)) refl
          (or_else_eq (read_granted w k (rec_of rs r) f m) (read_granted w k (rec_of us r) f m)
          (judge s r READ k (first_blocked READ k (rec_of rs r) f m))
          (judge t r READ k (first_blocked READ k (rec_of us r) f m))
          (needs (access_room s k r) 10 (needs (lock_room s) 11 pass))
          (needs (access_room t k r) 10 (needs (lock_room t) 11 pass))
          (read_granted_lem w k r f m h)
          (ap (λ p. judge s r READ k p) (first_eq r READ k f m h)
          ∙ judge_eq r READ k (first_blocked READ k (rec_of us r) f m))
          (or_else_eq (access_room s k r) (access_room t k r) (refuse 10 []) (refuse 10 [])
          (needs (lock_room s) 11 pass) (needs (lock_room t) 11 pass)
          (access_room_lem k r) refl room_eq))

      -- the new read of a version at from - 1, as both stores have it
      read_new_lem : (k r m : ℕ) (w : Extent) → 1 ≤ m
          → Or11 (read_new_by plain s k r m w) (read_new_by joined t k r m w)
      unfolding read_verdict with_records with_edit read_new_by read_store_by with_lock_by add_lock
      read_new_lem k r m w one =
          let h = from_below r m one in
          let f = read_from s r m in
          let x = rec_of rs r in
          unless_or (read_verdict s k r m w) (read_verdict t k r m w) _ _
          (rw (version_eq r m) (read_verdict_lem k r m f w h))
          (λ e.
          let a = (needs_pass (ltb x.floor m) 7 _ e).1 in
          let g = (or_else_pass (read_granted w k x f m) _ _
          (judge_refuses s r READ k (first_blocked READ k x f m)) a).0 in
          let taken = read_taken_lem w k x f m _ h ((read_takes_run w k x f m (R.each r).locks.proper h).0 g) in
          inr (record {
            es = _;
            rs = _;
            us = _;
            left = refl;
            right = rw (version_eq r m, grant_end_lem w k r f m h) refl;
            recs = set_recs R r _ _ (record {
              versions = (R.each r).versions;
              floor = (R.each r).floor;
              locks = add_alike _ taken.some (R.each r).locks;
            });
            reply = rw (version_eq r m, grant_end_lem w k r f m h) (same _);
          }))

      read_open_lem : (k r m : ℕ) (w : Extent) → 1 ≤ m
          → Or11 (read_open_by plain s k r m w) (read_open_by joined t k r m w)
      unfolding read_open_by
      read_open_lem k r m w one = go (has_written (access_of (edit_of es k) r)) (has_read (access_of (edit_of es k) r))
        where
          v : Version
          v = version_on (rec_of rs r).versions ((access_of (edit_of es k) r).from - 1)

          go : (b c : Bool) → Or11
              (cond b (replies s (own (written_value (access_of (edit_of es k) r))))
              (cond c (replies s (again ((access_of (edit_of es k) r).from - 1) (version_on (rec_of rs r).versions
              ((access_of (edit_of es k) r).from - 1)).value))
              (read_new_by plain s k r m w)))
              (cond b (replies t (own (written_value (access_of (edit_of es k) r))))
              (cond c (replies t (again ((access_of (edit_of es k) r).from - 1) (version_on (rec_of us r).versions
              ((access_of (edit_of es k) r).from - 1)).value))
              (read_new_by joined t k r m w)))
          go true c = inr (stay _)
          go false true = rw (← (R.each r).versions) (inr (stay _))
          go false false = read_new_lem k r m w one

      pub read_step : (h r m : ℕ) (w : Extent)
          → Or11 (reading_by plain h r m w s) (reading_by joined h r m w t)
      unfolding reading_by read_checks knows is_open
      read_step h r m w =
          unless_or (read_checks s h r m) (read_checks t h r m) _ _ (inl (rw (has_record_lem r) refl))
          (λ e.
          let a = (for_open_pass s h _ e).rest in
          let b = (needs_pass (has_record s r) 5 _ a).1 in
          let c = (needs_pass (is_point m) 6 _ b).0 in
          read_open_lem (slot_of h) r m w (leb-true 1 m (and_left (leb 1 m) (leb m LAST) c)))

    -- Purge
    purge_verdict_lem : (r v : ℕ) → purge_verdict (rec_of rs r) v ≡ purge_verdict (rec_of us r) v
    unfolding purge_verdict
    purge_verdict_lem r v =
        ap (λ b. needs (not b) 15 pass)
        (both _ _ (move (rec_of rs r).locks (rec_of us r).locks (λ l i. perm_member (R.each r).locks.rows i))
        (move (rec_of us r).locks (rec_of rs r).locks (λ l i. perm_member (perm_sym (R.each r).locks.rows) i)))
      where
        plain_of : (l : Lock) → (not (is_owned SETTLED l) && leb l.low v) ≡ true → is_plain l ≡ true
        plain_of l e = go (is_owned SETTLED l) (and_left (not (is_owned SETTLED l)) (leb l.low v) e)
          where
            go : (b : Bool) → not b ≡ true → not (b && eqb l.mode READ) ≡ true
            go true q = absurd (false≢true q)
            go false q = refl

        move : (xs ys : List Lock) → ((l : Lock) → l ∈ plains xs → l ∈ plains ys)
            → any (λ l. not (is_owned SETTLED l) && leb l.low v) xs ≡ true → any (λ l. not (is_owned SETTLED l) &&
            leb l.low v) ys ≡ true
        move xs ys f e =
            let w = any_out (λ l. not (is_owned SETTLED l) && leb l.low v) xs e in
            any_in (λ l. not (is_owned SETTLED l) && leb l.low v)
            (keep_out is_plain ys (f w.0 (keep_in is_plain w.1 (plain_of w.0 w.2)))).0 w.2

    purged_alike : (r v : ℕ) → AlikeRec (purged_rec (rec_of rs r) v) (purged_rec (rec_of us r) v)
    unfolding purged_rec
    purged_alike r v =
        record {
          versions = ap (keep (λ w. leb v w.point)) (R.each r).versions;
          floor = refl;
          locks = trim_alike v (R.each r).locks;
        }

    purge_to_lem : (r v : ℕ) → Step (purge_to s r v) (purge_to t r v)
    unfolding purge_to with_records rec_of purge_verdict purged_rec
    purge_to_lem r v = rw (← (floors r)) (go (leb v (rec_of rs r).floor))
      where
        go : (b : Bool)
            → Step (cond b (replies s (purged 0 0))
            (unless s (purge_verdict (rec_of rs r) v)
            (replies (with_rec s r (purged_rec (rec_of rs r) v))
            (purged (length (rec_of rs r).versions - length (purged_rec (rec_of rs r) v).versions)
            (length (rec_of rs r).locks - length (purged_rec (rec_of rs r) v).locks)))))
            (cond b (replies t (purged 0 0))
            (unless t (purge_verdict (rec_of us r) v)
            (replies (with_rec t r (purged_rec (rec_of us r) v))
            (purged (length (rec_of us r).versions - length (purged_rec (rec_of us r) v).versions)
            (length (rec_of us r).locks - length (purged_rec (rec_of us r) v).locks)))))
        go true = stay (purged 0 0)
        go false =
            unless_step (purge_verdict (rec_of rs r) v) (purge_verdict (rec_of us r) v) _ _
            (purge_verdict_lem r v)
            (λ e. record {
              es = es;
              rs = set rs r (purged_rec (rec_of rs r) v);
              us = set us r (purged_rec (rec_of us r) v);
              left = refl;
              right = refl;
              recs = set_recs R r _ _ (purged_alike r v);
              reply =
                  counts_eq _ _ _ _ (omega (
                    arith,
                    ap length (R.each r).versions,
                    ap length (purged_alike r v
                        ).versions,
                  ));
            })

    pub purge_step : (r b : ℕ) → Step (purging r b s) (purging r b t)
    unfolding purging purge_checks
    purge_step r b =
        unless_step (purge_checks s r b) (purge_checks t r b) _ _ (rw (has_record_lem r) refl)
        (λ e. rw (← (R.each r).versions) (purge_to_lem r (newest_at (rec_of rs r).versions b).point))
