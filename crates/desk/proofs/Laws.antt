-- The theorems of specs/Laws, each under its name; those of refusals are in Refusals. Rests on Cases, Intervals and
-- Refusals, and on After of `meaning`.
use Prim.Native.Nat.{ℕ, suc, ◌+◌, ◌-◌, ◌≤◌, ◌<◌}
use native.Mathlib.Omega.{arith}
use native.Mathlib.Decide.{dec_le}
use mathlib.Core.Path.{◌≡◌, refl, sym, ap, ◌∙◌}
use mathlib.Core.Logic.{◌⊎◌, inl, inr}
use mathlib.Core.Bool.{Bool, true, false, cond, ◌&&◌}
use mathlib.Core.List.{[]}
use lib.Dec.{leb}
use lib.ListN.{length}
use borrow.Author.Tests.{le-leb, lt-leb, ltb-false}
use Rattle.types.specs.Limits.{LAST}
use Rattle.types.specs.Values.{Val}
use Rattle.types.specs.Replies.{Reply, ok, edit, read, own, again, commit, nopoint, refusing, refused}
use Rattle.types.specs.Values.{Value}
use Rattle.types.specs.declared.Extent.TheVariants.{Part}
use Rattle.types.specs.declared.Finish.TheVariants.{Settle}
use Rattle.types.specs.declared.Pick.TheVariants.{Named}
use Rattle.meaning.specs.Store.{Store, rec_at}
use Rattle.meaning.specs.Outcomes.{Outcome, replies, pass, needs, unless, has_record}
use Rattle.meaning.specs.Edits.{free_slot, begin_checks, beginning}
use Rattle.meaning.specs.Locking.{locking, reading}
use Rattle.meaning.specs.Ending.{committing, aborting}
use Rattle.meaning.specs.Records.{viewing, view_checks}
use Rattle.meaning.specs.Calls.{act_by}
use Rattle.meaning.proofs.After.{lock_is_inside, read_leaves_open, abort_ends, commit_ends, commits_where_named}
use Rattle.store.specs.Promises.{may_begin}
use Rattle.layers.specs.Programs.{Program, Played, answer, play, denied}
use Rattle.desk.specs.Replies.{declined, told, emptied, After, says}
use Rattle.desk.specs.Cases.{says_one, ends_edit}
use Rattle.desk.specs.Desk.{ended, closed, between, within, named, good_start, starting, start_reply, begin}
use Rattle.desk.specs.Desk.{refuse_start, refuse_ended, unless_ended, empty, shrink, once_read, once_locked}
use Rattle.desk.specs.Desk.{desk_open, desk_read, desk_write, desk_commit, DeskCall, program}
use Rattle.desk.specs.Desk as D
use Rattle.desk.specs.Laws.{Same, OnlyTheInterval, UnsoundSaysOne, UnsoundOpensNone, EndedSaysThree, unchanged}
use Rattle.desk.specs.Laws.{RefusalIsPassedOn, GoodStartIs, BadStart, BadStartOrder, GoodStartOpens, ReadShrinks}
use Rattle.desk.specs.Laws.{OwnAndAgainLeave, Aborted}
use Rattle.desk.specs.Laws.{EmptiedIsAborted, Inside, WriteShrinks, WriteStores, CommitsAt, CommitNames}
use Rattle.desk.specs.Laws.{CommitSettles}
use Rattle.desk.specs.declared.Setting.{Setting}
use Rattle.desk.specs.declared.Setting.TheVariants.{Earliest, Latest}
use Rattle.desk.specs.declared.Session.{Session}
use Rattle.desk.proofs.Cases as cases
use Rattle.desk.proofs.Cases.{LockedOr, taken, locked_or, ReadOr, new, read_or}
use Rattle.desk.proofs.Refusals.{true_not_false}
use Rattle.desk.proofs.Intervals.{just_between, same_between, read_leaves}

-- What the programs come to, where the session has not ended.
module _ (s : Session) (t : Store) (m : ended s ≡ false) where
  pub read_plays : (rec : ℕ)
      → play (desk_read s rec) t
      ≡ play (once_read s (reading s.handle.0 rec s.high.0 Part t).reply)
      (reading s.handle.0 rec s.high.0 Part t).store
  unfolding desk_read play act_by
  read_plays rec = rw m

  write_plays : (rec : ℕ) (v : Val)
      → play (desk_write s rec v) t
      ≡ play (once_locked s rec v (locking s.handle.0 rec s.low.0 s.high.0 Part t).reply)
      (locking s.handle.0 rec s.low.0 s.high.0 Part t).store
  unfolding desk_write play act_by
  write_plays rec v = rw m

  -- the reply of the store's Commit
  abbrev committed : Reply
  committed = (committing s.handle.0 (Named (named s)) Settle t).reply

  commit_plays : (play (desk_commit s) t).told ≡ says (cond (ends_edit committed) (closed s) s) committed
  unfolding desk_commit play act_by
  commit_plays = rw m

  commit_stores : (play (desk_commit s) t).store ≡ (committing s.handle.0 (Named (named s)) Settle t).store
  unfolding desk_commit play act_by
  commit_stores = rw m

-- Refusals of the desk itself.

-- View never says 1 of itself
view_not_one : (r p : ℕ) (t : Store) → says_one (viewing r p t).reply ≡ false
unfolding viewing view_checks
view_not_one r p t = go (has_record t r) (leb p LAST) (leb (rec_at t r).floor p) _ refl
  where
    go : (a b c : Bool) (o : Outcome) → says_one o.reply ≡ false
        → says_one (unless t (needs a 5 (needs b 6 (needs c 7 pass))) o).reply ≡ false
    go true true true o e = e
    go true true false o e = refl
    go true false c o e = refl
    go false b c o e = refl

three : (s : Session) (p : Program After) (t : Store) → ended s ≡ true
    → play (unless_ended s p) t ≡ unchanged (says s (refusing 3 [])) t
unfolding play
three s p t e = rw e (rw (view_not_one 0 0 t))

pub ended_says_three : EndedSaysThree
unfolding desk_read desk_write desk_commit
ended_says_three (D.read rec) s t e = three s _ t e
ended_says_three (D.write rec v) s t e = three s _ t e
ended_says_three D.commit s t e = three s _ t e

one_first : (s : Session) (p : Program After) → denied p ≡ says s (refusing 1 [])
    → denied (unless_ended s p) ≡ says s (refusing 1 [])
unfolding denied
one_first s p e = go (ended s)
  where
    go : (b : Bool) → denied (cond b (refuse_ended s) p) ≡ says s (refusing 1 [])
    go true = refl
    go false = e

pub unsound_says_one : UnsoundSaysOne
unfolding denied desk_read desk_write desk_commit
unsound_says_one (D.read rec) s = one_first s _ refl
unsound_says_one (D.write rec v) s = one_first s _ refl
unsound_says_one D.commit s = one_first s _ refl

pub refusal_is_passed_on : RefusalIsPassedOn
unfolding play
refusal_is_passed_on (D.read rec) s t n more m e = rw (read_plays s t m rec, e)
refusal_is_passed_on (D.write rec v) s t n more m e = rw (write_plays s t m rec v, e)
refusal_is_passed_on D.commit s t n more m e = rw (commit_plays s t m, e)

-- Opening.

pub good_start_is : GoodStartIs
unfolding good_start
good_start_is t width =
    record {
      good = λ a b.
          rw (le-leb 1 t a, le-leb t LAST (omega arith), le-leb width (LAST - t) (omega arith));
      zero = λ e. rw (lt-leb 1 t (omega arith));
      above = λ l. go (dec_le t LAST) l;
    }
  where
    off : (a : Bool) → (a && false) ≡ false
    off true = refl
    off false = refl

    go : Dec (t ≤ LAST) → LAST < t + width → good_start t width ≡ false
    go (yes k) l = rw (lt-leb width (LAST - t) (omega arith)) (off (leb 1 t && leb t LAST))
    go (no k) l = rw (lt-leb t LAST (omega arith)) (ap (λ (b : Bool). b && leb width (LAST - t)) (off (leb 1 t)))

-- as Begin would reply, if it is refused, and else 6
may_begin_lem : (s : Store)
    → (((beginning s).reply ≡ refusing 13 []) × (start_reply (may_begin s).reply ≡ refusing 13 []))
    ⊎ ((h : ℕ) × ((beginning s).reply ≡ edit h) × (start_reply (may_begin s).reply ≡ refusing 6 []))
unfolding may_begin beginning begin_checks
may_begin_lem s = go (leb (free_slot s) (length s.edits)) _ _ refl
  where
    go : (b : Bool) (o : Outcome) (h : ℕ) → o.reply ≡ edit h
        → (((unless s (needs b 13 pass) o).reply ≡ refusing 13 [])
        × (start_reply (unless s (needs b 13 pass) (replies s ok)).reply ≡ refusing 13 []))
        ⊎ ((k : ℕ) × ((unless s (needs b 13 pass) o).reply ≡ edit k)
        × (start_reply (unless s (needs b 13 pass) (replies s ok)).reply ≡ refusing 6 []))
    go true o h e = inr (h, e, refl)
    go false o h e = inl (refl, refl)

pub bad_start_order : BadStartOrder
unfolding play desk_open
bad_start_order t width setting s g = rw g (go (may_begin_lem s))
  where
    told_as : {q q' : Reply} → q ≡ q' → unchanged (declined q) s ≡ unchanged (declined q') s
    told_as e = ap (λ (x : Reply). unchanged (declined x) s) e

    go : (((beginning s).reply ≡ refusing 13 []) × (start_reply (may_begin s).reply ≡ refusing 13 []))
        ⊎ ((h : ℕ) × ((beginning s).reply ≡ edit h) × (start_reply (may_begin s).reply ≡ refusing 6 []))
        → BadStart (beginning s) s (unchanged (declined (start_reply (may_begin s).reply)) s)
    go (inl (b, r)) =
        record {
          refusal = λ n more e. told_as (r ∙ sym b ∙ e);
          six = λ h e.
              let x : refusing 13 [] ≡ edit h = sym b ∙ e in
              let z : ◌≡◌ {A = ℕ} 0 1 = cc in
              absurd (omega arith);
        }
    go (inr (h, b, r)) =
        record {
          refusal = λ n more e.
              let x : edit h ≡ refusing n more = sym b ∙ e in
              let z : ◌≡◌ {A = ℕ} 0 1 = cc in
              absurd (omega arith);
          six = λ k e. told_as r;
        }

pub unsound_opens_none : UnsoundOpensNone
unfolding denied desk_open
unsound_opens_none t width setting = go (good_start t width)
  where
    go : (b : Bool) → denied (cond b (begin t width setting) refuse_start) ≡ declined (refusing 1 [])
    go true = refl
    go false = refl

pub good_start_opens : GoodStartOpens
unfolding play desk_open act_by
good_start_opens t width setting s g =
    rw g
    record {
      store = refl;
      edit = λ h e. (
        starting t width setting h,
        rw e,
        record {
          handle = refl;
          interval = just_between (starting t width setting h) t (t + width);
          width = refl;
          setting = refl;
        },
      );
      refusal = λ n more e. rw e;
    }

-- Read.

pub read_shrinks : ReadShrinks
read_shrinks s rec tr end v t m e =
    rw (read_plays s t m rec, e) (read_leaves s tr end (read tr end v) _)

pub own_and_again_leave : OwnAndAgainLeave
unfolding play
own_and_again_leave s rec t q m e k = rw (read_plays s t m rec, e) (go _ k)
  where
    go : (t' : Store) → ((v : Val) × (q ≡ own v)) ⊎ ((from : ℕ) × (v : Value) × (q ≡ again from v))
        → (play (once_read s q) t').told ≡ says s q
    go t' (inl (v, f)) = rw f
    go t' (inr (from, v, f)) = rw f

-- an emptied session
told_not : (q : Reply) {A : Type 0} → told q ≡ emptied → A
told_not q e = let z : ◌≡◌ {A = ℕ} 0 1 = cc in absurd (omega arith)

shrink_emptied : (s : Session) (q : Reply) (next : Session) (t : Store)
    → (play (shrink s q next) t).told.report ≡ emptied
    → (play (shrink s q next) t).store ≡ (aborting s.handle.0 Settle t).store
unfolding play act_by
shrink_emptied s q next t e = go (ended next) e
  where
    go : (b : Bool)
        → (play (cond b (empty s) (answer (says next q))) t).told.report ≡ emptied
        → (play (cond b (empty s) (answer (says next q))) t).store ≡ (aborting s.handle.0 Settle t).store
    go true f = refl
    go false f = told_not q f

only_read : (s : Session) {q : Reply} (t : Store) → ReadOr q → (play (once_read s q) t).told.report ≡ emptied
    → ((tr : ℕ) × (end : ℕ) × (v : Value) × (q ≡ read tr end v))
    × ((play (once_read s q) t).store ≡ (aborting s.handle.0 Settle t).store)
unfolding play
only_read s t (new tr end v) e =
    ((tr, end, v, refl), shrink_emptied s (read tr end v) (within s (suc tr) end) t e)
only_read s t (cases.passed {q} f) e =
    told_not q (sym (ap (λ (p : Program After). (play p t).told.report) (f _ (answer (says s q)) _)) ∙ e)

pub emptied_is_aborted : EmptiedIsAborted
emptied_is_aborted s rec t e = go (ended s) refl
  where
    q : Reply
    q = (reading s.handle.0 rec s.high.0 Part t).reply

    t' : Store
    t' = (reading s.handle.0 rec s.high.0 Part t).store

    go : (b : Bool) → ended s ≡ b → Aborted s.handle.0 t' (play (desk_read s rec) t).store
    go true f =
        told_not (refusing 3 [])
        (sym (ap (λ (x : Played After). x.told.report) (ended_says_three (D.read rec) s t f)) ∙ e)
    go false f =
        let p = read_plays s t f rec in
        let o = only_read s t' (read_or q) (sym (ap (λ (x : Played After). x.told.report) p) ∙ e) in
        let a =
        abort_ends t' s.handle.0
        (read_leaves_open t s.handle.0 rec s.high.0 Part o.0.0 o.0.1 o.0.2 o.0.3)
        in
        rw (p, o.1) record { granted = a.0; store = refl; unknown = a.1 }

-- Write.

pub write_shrinks : WriteShrinks
unfolding play
write_shrinks s rec low high v t f m e =
    rw (write_plays s t m rec v, e) (just_between s low high, inside)
  where
    l : (s.low.0 ≤ low) × (low ≤ high) × (high ≤ s.high.0)
    l = lock_is_inside t s.handle.0 rec s.low.0 s.high.0 Part low high f e

    inside : Inside (between s low high) s
    inside =
        record {
          within = λ p h.
              let a : low ≤ p = h.from in
              let b : p ≤ high = h.upto in
              record { from = omega (arith, l.0); upto = omega (arith, l.2) };
          some = (low, record { from = omega arith; upto = l.1 });
        }

pub write_stores : WriteStores
unfolding play act_by
write_stores s rec low high v t m e = rw (write_plays s t m rec v, e) (refl, refl)

-- Commit.

not_both : {A : Type 0} → Earliest ≡ Latest → A
not_both e = let z : ◌≡◌ {A = ℕ} 0 1 = cc in absurd (omega arith)

names : (s : Session) (p : ℕ) → ended s ≡ false → p ≡ (named s).0 → CommitsAt s p
unfolding named ended
names s p m e = go s.setting refl
  where
    some : s.low.0 ≤ s.high.0
    some = ltb-false s.high.0 s.low.0 m

    go : (x : Setting) → s.setting ≡ x → CommitsAt s p
    go Latest f =
        let x : p ≡ s.high.0 = rw f at e in
        record {
          point = record { from = omega (arith, some); upto = omega arith };
          earliest = λ k. not_both (sym k ∙ f);
          latest = λ k y h. let u = h.upto in omega arith;
        }
    go Earliest f =
        let x : p ≡ s.low.0 = rw f at e in
        record {
          point = record { from = omega arith; upto = omega (arith, some) };
          earliest = λ k y h. let u = h.from in omega arith;
          latest = λ k. not_both (sym f ∙ k);
        }

-- a Commit that was not refused: the session had not ended, and the reply is the store's
goes_on : (s : Session) (t : Store) (q : Reply) → refused q ≡ false → (play (desk_commit s) t).told.report ≡ told q
    → (m : ended s ≡ false) × (committed s t m ≡ q)
goes_on s t q k e = go (ended s) refl
  where
    three_not : {A : Type 0} → told (refusing 3 []) ≡ told q → A
    three_not x =
        let y : refusing 3 [] ≡ q = cc in
        true_not_false (ap refused y ∙ k)

    go : (b : Bool) → ended s ≡ b → (m : ended s ≡ false) × (committed s t m ≡ q)
    go true f =
        three_not (sym (ap (λ (x : Played After). x.told.report) (ended_says_three D.commit s t f)) ∙ e)
    go false f =
        let x : told (committed s t f) ≡ told q = sym (ap (λ (y : After). y.report) (commit_plays s t f)) ∙ e in
        (f, cc)

pub commit_names : CommitNames
commit_names s t p e =
    let x = goes_on s t (commit p) refl e in
    names s p x.0 (commits_where_named t s.handle.0 (named s) Settle p x.1)

-- a session whose Commit ended the edit
closes : (s : Session) {q : Reply} → (q ≡ nopoint) ⊎ ((p : ℕ) × (q ≡ commit p))
    → ended (cond (ends_edit q) (closed s) s) ≡ true
unfolding ended
closes s (inl e) = rw e
closes s (inr (p, e)) = rw e

pub commit_settles : CommitSettles
commit_settles s t q e k =
    let x = goes_on s t q k e in
    let c = commit_ends t s.handle.0 (Named (named s)) (ap refused x.1 ∙ k) in
    record {
      replied = rw x.1 at c.0;
      over = rw (commit_plays s t x.0) (closes s c.0);
      unknown = rw (commit_stores s t x.0) c.1;
    }

-- What a call leaves of a session.

same : (s : Session) → Same s s
same s = record { handle = refl; width = refl; setting = refl }

read_same : (s : Session) {q : Reply} (t : Store) → ReadOr q → Same s (play (once_read s q) t).told.session
unfolding play act_by
read_same s t (new tr end v) = go (ended (within s (suc tr) end))
  where
    go : (b : Bool)
        → Same s (play (cond b (empty s) (answer (says (within s (suc tr) end) (read tr end v)))) t).told.session
    go true = same_between s 1 0
    go false = same_between s _ _
read_same s t (cases.passed {q} f) = rw (f _ (answer (says s q)) _) (same s)

write_same : (s : Session) (rec : ℕ) (v : Val) {q : Reply} (t : Store) → LockedOr q
    → Same s (play (once_locked s rec v q) t).told.session
unfolding play
write_same s rec v t (taken low high) = same_between s low high
write_same s rec v t (cases.passed {q} f) = rw (f _ (answer (says s q)) _) (same s)

commit_same : (s : Session) (b : Bool) → Same s (cond b (closed s) s)
commit_same s true = same_between s 1 0
commit_same s false = same s

pub only_the_interval : OnlyTheInterval
only_the_interval c s t = go (ended s) refl
  where
    on : (c : DeskCall) → ended s ≡ false → Same s (play (program c s) t).told.session
    on (D.read rec) f =
        rw (read_plays s t f rec)
        (read_same s _ (read_or (reading s.handle.0 rec s.high.0 Part t).reply))
    on (D.write rec v) f =
        rw (write_plays s t f rec v)
        (write_same s rec v _ (locked_or (locking s.handle.0 rec s.low.0 s.high.0 Part t).reply))
    on D.commit f = rw (commit_plays s t f) (commit_same s (ends_edit (committed s t f)))

    go : (b : Bool) → ended s ≡ b → Same s (play (program c s) t).told.session
    go true f = rw (ended_says_three c s t f) (same s)
    go false f = on c f
