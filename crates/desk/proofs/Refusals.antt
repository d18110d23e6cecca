-- What a refused call of the desk left: from its contract, call by call. Rests on Layers of `layers`, on Cases and on
-- After of `meaning`.
use Prim.Native.Nat.{ℕ, suc}
use native.Mathlib.Omega.{arith}
use mathlib.Core.Path.{◌≡◌, refl, sym, ap, subst, ◌∙◌}
use mathlib.Core.Logic.{◌⊎◌, inl, inr}
use mathlib.Core.Bool.{Bool, true, false, cond}
use mathlib.Core.List.{List}
use Rattle.types.specs.Values.{Val}
use Rattle.types.specs.Replies.{Reply, locked, read, refusing, refused}
use Rattle.types.specs.declared.Call.{Call}
use Rattle.types.specs.declared.Call.TheVariants as C
use Rattle.types.specs.declared.Extent.TheVariants.{Part}
use Rattle.meaning.specs.Store.{Store}
use Rattle.meaning.specs.Edits.{writing}
use Rattle.meaning.specs.Calls.{act, act_by}
use Rattle.meaning.specs.Contract as contract
use Rattle.meaning.proofs.After.{lock_leaves_open, write_lacks_a_row}
use Rattle.tables.specs.Words.{Lent, lent, decode, sound_words}
use Rattle.layers.specs.Programs.{Program, answer}
use Rattle.layers.specs.Layers as layers
use Rattle.layers.proofs.Layers.{of_answer_lem, of_ask, of_look}
use Rattle.desk.specs.Replies.{opened, declined, told, emptied, After, says}
use Rattle.desk.specs.Cases.{on_edit, ends_edit}
use Rattle.desk.specs.Desk.{ended, closed, between, within, good_start, starting, begin, refuse_start}
use Rattle.desk.specs.Desk.{refuse_ended, ended_reply, unless_ended, empty, shrink, once_read, once_locked}
use Rattle.desk.specs.Desk.{desk_open, desk_read, desk_write, desk_commit}
use Rattle.desk.specs.Laws.{OpenRefusalKeeps, ReadRefusalKeeps, CommitRefusalKeeps, LockRemains}
use Rattle.desk.specs.Laws.{WriteRefusalKeeps}
use Rattle.desk.specs.declared.Session.{Session}
use Rattle.desk.proofs.Cases as cases
use Rattle.desk.proofs.Cases.{EditOr, edited, edit_or, LockedOr, taken, locked_or, ReadOr, new, read_or}

abbrev Done : {A : Type 0} → Program A → Lent → Lent → A → Type 0
Done p w w' a = layers.Layer Lent decode sound_words p w w' a

abbrev DoesCall : Call → Lent → Lent → Reply → Type 0
DoesCall c w w' q = contract.Does Lent decode sound_words (act c) w w' q

pub true_not_false : {A : Type 0} → true ≡ false → A
true_not_false e = let z : ◌≡◌ {A = ℕ} 0 1 = cc in absurd (omega arith)

-- the reply was passed on
passed_on : {s s' : Session} {q : Reply} {n : ℕ} {more : List ℕ} → says s q ≡ says s' (refusing n more)
    → (q ≡ refusing n more) × (s ≡ s')
passed_on {s} {s'} {q} {n} {more} e =
    let r : told q ≡ told (refusing n more) = ap (λ (a : After). a.report) e in
    (cc, ap (λ (a : After). a.session) e)

-- the same call, by equal words and replies
moved : (c : Call) {w v v' : Lent} {q q' : Reply} → v' ≡ v → q ≡ q' → DoesCall c w v q → DoesCall c w v' q'
moved c {w} {v} {v'} {q} {q'} e f d =
    subst (λ (x : Lent). DoesCall c w x q') (sym e) (subst (λ (x : Reply). DoesCall c w v x) f d)

module _ (s s' : Session) (n : ℕ) (more : List ℕ) (w₁ w' : Lent) where
  abbrev Refused : Program After → Type 0
  Refused p = Done p w₁ w' (says s' (refusing n more))

  abbrev Kept : Type 0
  Kept = (w' ≡ w₁) × (s ≡ s')

  -- an answer that passes the reply on
  answered : (q : Reply) → Refused (answer (says s q)) → (refused q ≡ true) × Kept
  answered q d =
      let a = of_answer_lem Lent decode sound_words d.follows in
      let p = passed_on a.1 in
      (ap refused p.0, (a.0, p.1))

  -- an ended session, or the program
  over_or : (p : Program After) {A : Type 0} → (Kept → A) → (Refused p → A) → Refused (unless_ended s p) → A
  over_or p {A} k f d = go (ended s) d
    where
      go : (b : Bool) → Refused (cond b (refuse_ended s) p) → A
      go true e = let l = of_look Lent decode sound_words e.follows in k (answered (ended_reply l.0) l.2).1
      go false e = f e

  -- a shrunk interval is no refusal
  never_shrunk : (q : Reply) → refused q ≡ false → (next : Session) → Refused (shrink s q next) → ⊥
  never_shrunk q m next d = go (ended next) d
    where
      go : (b : Bool) → Refused (cond b (empty s) (answer (says next q))) → ⊥
      go true e =
          let l = of_ask Lent decode sound_words e.follows in
          let a = of_answer_lem Lent decode sound_words l.3.follows in
          let r : emptied ≡ told (refusing n more) = ap (λ (x : After). x.report) a.1 in
          let z : ◌≡◌ {A = ℕ} 0 1 = cc in
          omega arith
      go false e =
          let p = passed_on (of_answer_lem Lent decode sound_words e.follows).1 in
          true_not_false (sym (ap refused p.0) ∙ m)

  read_kept : {q : Reply} → ReadOr q → Refused (once_read s q) → (refused q ≡ true) × Kept
  read_kept (new tr end v) d = absurd (never_shrunk (read tr end v) refl (within s (suc tr) end) d)
  read_kept (cases.passed {q} e) d = answered q (subst Refused (e _ _ _) d)

  commit_kept : (q : Reply) → Refused (answer (says (cond (ends_edit q) (closed s) s) q)) → (refused q ≡ true) × Kept
  commit_kept q d =
      let a = of_answer_lem Lent decode sound_words d.follows in
      let p = passed_on a.1 in
      let f : q ≡ refusing n more = p.0 in
      (ap refused f, (a.0, rw f at p.1))

pub open_refusal_keeps : OpenRefusalKeeps
unfolding desk_open
open_refusal_keeps t width setting w w' n more l =
    go (good_start t width) l
  where
    refusal : {q : Reply} → EditOr q
        → on_edit q (declined q) (λ h. opened (starting t width setting h)) ≡ declined (refusing n more)
        → refused q ≡ true
    refusal (edited h) e = let z : ◌≡◌ {A = ℕ} 0 1 = cc in absurd (omega arith)
    refusal (cases.passed {q} f) e =
        let g : declined q ≡ declined (refusing n more) = sym (f _ _ _) ∙ e in
        let k : q ≡ refusing n more = cc in
        ap refused k

    go : (b : Bool)
        → Done (cond b (begin t width setting) refuse_start) (lent w) (lent w') (declined (refusing n more))
        → lent w' ≡ lent w
    go true d =
        let x = of_ask Lent decode sound_words d.follows in
        let a = of_answer_lem Lent decode sound_words x.3.follows in
        a.0 ∙ x.2.unchanged (refusal (edit_or x.0) a.1)
    go false d =
        let x = of_look Lent decode sound_words d.follows in
        (of_answer_lem Lent decode sound_words x.2.follows).0

pub read_refusal_keeps : ReadRefusalKeeps
unfolding desk_read
read_refusal_keeps s s' rec w w' n more l =
    over_or s s' n more (lent w) (lent w') _ (λ k. k)
    (λ d.
    let x = of_ask Lent decode sound_words d.follows in
    let k = read_kept s s' n more x.1 (lent w') (read_or x.0) x.3 in
    (k.1.0 ∙ x.2.unchanged k.0, k.1.1)) l

pub commit_refusal_keeps : CommitRefusalKeeps
unfolding desk_commit
commit_refusal_keeps s s' w w' n more l =
    over_or s s' n more (lent w) (lent w') _ (λ k. k)
    (λ d.
    let x = of_ask Lent decode sound_words d.follows in
    let k = commit_kept s s' n more x.1 (lent w') x.0 x.3 in
    (k.1.0 ∙ x.2.unchanged k.0, k.1.1)) l

-- a write: refused before its lock was granted, or after
module _ (s s' : Session) (rec : ℕ) (v : Val) (w w' : List ℕ) (n : ℕ) (more : List ℕ) where
  abbrev KeptOr : Type 0
  KeptOr = ((lent w' ≡ lent w) × (s ≡ s')) ⊎ LockRemains s s' rec w w' n

  abbrev locks : Call
  locks = C.Lock s.handle rec s.low s.high Part

  abbrev writes : Call
  writes = C.Write s.handle rec v

  lock_remains : (x : Lent) (low high : ℕ) → DoesCall locks (lent w) x (locked low high) → between s low high ≡ s'
      → DoesCall writes x (lent w') (refusing n more)
      → LockRemains s s' rec w w' n
  unfolding act_by
  lock_remains x low high d i t =
      record {
        low = low;
        high = high;
        lock = moved locks (t.unchanged refl) refl d;
        interval = i;
        ten = λ h.
            let o = lock_leaves_open (decode (lent w)) s.handle.0 rec s.low.0 s.high.0 Part low high
            (sym (d.reply h)) in
            write_lacks_a_row _ s.handle.0 rec v n more o.0 o.1
            (sym
            (t.reply (d.stays h) ∙ ap (λ (y : Store). (writing s.handle.0 rec v y).reply) (d.store h)));
      }

  lock_kept : {q : Reply} → LockedOr q → (x : Lent) → DoesCall locks (lent w) x q
      → Done (once_locked s rec v q) x (lent w') (says s' (refusing n more))
      → KeptOr
  lock_kept (taken low high) x d f =
      let l = of_ask Lent decode sound_words f.follows in
      let a = of_answer_lem Lent decode sound_words l.3.follows in
      let p = passed_on a.1 in
      inr (lock_remains x low high d p.1 (moved writes a.0 p.0 l.2))
  lock_kept (cases.passed {q} e) x d f =
      let k = answered s s' n more x (lent w') q (subst (Refused s s' n more x (lent w')) (e _ _ _) f) in
      inl (k.1.0 ∙ d.unchanged k.0, k.1.1)

pub write_refusal_keeps : WriteRefusalKeeps
unfolding desk_write
write_refusal_keeps s s' rec v w w' n more l =
    over_or s s' n more (lent w) (lent w') _ inl
    (λ d.
    let x = of_ask Lent decode sound_words d.follows in
    lock_kept s s' rec v w w' n more (locked_or x.0) x.1 x.2 x.3) l
