-- The theorems of specs/Made, each under its name: the calls of the store that a call of the desk is. Rests on Cases,
-- on Layers of `layers` and After of `meaning`.
use Prim.Native.Nat.{ℕ, suc}
use mathlib.Core.Path.{◌≡◌, refl, subst}
use mathlib.Core.Logic.{◌⊎◌, inl, inr}
use mathlib.Core.Bool.{Bool, true, false, cond}
use mathlib.Core.List.{List, [], ◌∷◌}
use Rattle.types.specs.Values.{Val}
use Rattle.types.specs.Replies.{Reply, locked, read, refusing}
use Rattle.types.specs.declared.Call.{Call}
use Rattle.types.specs.declared.Call.TheVariants as C
use Rattle.types.specs.declared.Extent.TheVariants.{Part}
use Rattle.types.specs.declared.Finish.TheVariants.{Settle}
use Rattle.types.specs.declared.Pick.TheVariants.{Named}
use Rattle.types.specs.Values.{Value}
use Rattle.meaning.specs.Calls.{act, act_by}
use Rattle.meaning.specs.Contract.{Does}
use Rattle.meaning.proofs.After.{lock_grants_or_refuses}
use Rattle.tables.specs.Words.{Lent, lent, decode, sound_words}
use Rattle.layers.specs.Programs.{Program, answer, ask}
use Rattle.layers.specs.Layers.{Follows, ends, asks, looks}
use Rattle.desk.specs.Replies.{Opening, opened, declined, After, says}
use Rattle.desk.specs.Cases.{on_edit, ends_edit}
use Rattle.desk.specs.Desk.{ended, closed, within, named, good_start, starting, begin, refuse_start, refuse_ended}
use Rattle.desk.specs.Desk.{unless_ended, empty, once_read, once_locked, desk_open, desk_read, desk_write, desk_commit}
use Rattle.desk.specs.Desk.{DeskCall}
use Rattle.desk.specs.Desk as D
use Rattle.desk.specs.Made.{Made, reads, empties, writes, no_lock, commits, DeskCallsMade, EndedMakesNone}
use Rattle.desk.specs.Made.{Begun, begun, none, OpeningMade}
use Rattle.desk.specs.Made as made
use Rattle.desk.specs.declared.Setting.{Setting}
use Rattle.desk.specs.declared.Session.{Session}
use Rattle.desk.proofs.Cases as cases
use Rattle.desk.proofs.Cases.{EditOr, edited, edit_or, ReadOr, new, read_or}

abbrev Goes : {A : Type 0} → Program A → Lent → List Call → List Reply → Lent → A → Type 0
Goes p w cs qs w' a = Follows Lent decode sound_words p w cs qs w' a

-- an answer makes no call
at_answer : {A : Type 0} (P : A → List Call → List Reply → Type 0) {a b : A} {w w' : Lent} {cs : List Call}
    {qs : List Reply} → Goes (answer a) w cs qs w' b → P a [] [] → P b cs qs
at_answer P ends x = x

-- a session that has not ended
module _ (s : Session) where
  -- the call c of the store was made first and replied q, and then cs
  abbrev Then : DeskCall → Call → Reply → After → List Call → List Reply → Type 0
  Then d c q a cs qs = Made s d a.report (c ∷ cs) (q ∷ qs)

  abbrev reading : ℕ → Call
  reading rec = C.Read s.handle rec s.high Part

  abbrev locks : ℕ → Call
  locks rec = C.Lock s.handle rec s.low s.high Part

  -- Read
  aborts : (rec tr end : ℕ) {v : Value} {w w' : Lent} {cs : List Call} {qs : List Reply} {a : After}
      → Goes (empty s) w cs qs w' a
      → Then (D.read rec) (reading rec) (read tr end v) a cs qs
  aborts rec tr end {v} (asks {c = c} {q = q} d r) =
      at_answer (λ a cs qs. Made s (D.read rec) a.report (reading rec ∷ c ∷ cs) (read tr end v ∷ q ∷ qs)) r empties

  shrunk : (rec tr end : ℕ) {v : Value} (next : Session) {w w' : Lent} {cs : List Call} {qs : List Reply} {a : After}
      (b : Bool) → Goes (cond b (empty s) (answer (says next (read tr end v)))) w cs qs w' a
      → Then (D.read rec) (reading rec) (read tr end v) a cs qs
  shrunk rec tr end next true f = aborts rec tr end f
  shrunk rec tr end next false f = at_answer (Then (D.read rec) (reading rec) _) f reads

  read_made : (rec : ℕ) {q : Reply} → ReadOr q → {w w' : Lent} {cs : List Call} {qs : List Reply} {a : After}
      → Goes (once_read s q) w cs qs w' a
      → Then (D.read rec) (reading rec) q a cs qs
  read_made rec (new tr end v) f = shrunk rec tr end (within s (suc tr) end) (ended (within s (suc tr) end)) f
  read_made rec (cases.passed {q} e) {w} {w'} {cs} {qs} {a} f =
      at_answer (Then (D.read rec) (reading rec) q)
      (subst (λ (p : Program After). Goes p w cs qs w' a) (e _ _ _) f) reads

  -- Write: its Lock is granted, or refused
  lock_told : (rec : ℕ) {w w₁ : Lent} {q : Reply} → Does Lent decode sound_words (act (locks rec)) w w₁ q
      → ((n : ℕ) × (more : List ℕ) × (q ≡ refusing n more)) ⊎ ((a : ℕ) × (b : ℕ) × (q ≡ locked a b))
  unfolding act_by
  lock_told rec {w} {w₁} {q} d = go (sound_words w) refl
    where
      go : (b : Bool) → sound_words w ≡ b
          → ((n : ℕ) × (more : List ℕ) × (q ≡ refusing n more)) ⊎ ((a : ℕ) × (b : ℕ) × (q ≡ locked a b))
      go true e = rw (d.reply e) (lock_grants_or_refuses (decode w) s.handle.0 rec s.low.0 s.high.0 Part)
      go false e = inl (1, [], d.unsound e)

  stores : (rec : ℕ) (v : Val) (x y : ℕ) {w w' : Lent} {cs : List Call} {qs : List Reply} {a : After}
      → Goes (once_locked s rec v (locked x y)) w cs qs w' a
      → Then (D.write rec v) (locks rec) (locked x y) a cs qs
  stores rec v x y (asks {c = c} {q = q} d r) =
      at_answer (λ a cs qs. Made s (D.write rec v) a.report (locks rec ∷ c ∷ cs) (locked x y ∷ q ∷ qs)) r writes

  write_made : (rec : ℕ) (v : Val) {q : Reply}
      → ((n : ℕ) × (more : List ℕ) × (q ≡ refusing n more)) ⊎ ((a : ℕ) × (b : ℕ) × (q ≡ locked a b))
      → {w w' : Lent} {cs : List Call} {qs : List Reply} {a : After} → Goes (once_locked s rec v q) w cs qs w' a
      → Then (D.write rec v) (locks rec) q a cs qs
  write_made rec v (inl (n, more, e)) f =
      rw e (at_answer (Then (D.write rec v) (locks rec) (refusing n more)) (rw e at f) no_lock)
  write_made rec v (inr (x, y, e)) f = rw e (stores rec v x y (rw e at f))

  -- the programs of a session that has not ended
  on_read_lem : (rec : ℕ) {w w' : Lent} {cs : List Call} {qs : List Reply} {a : After}
      → Goes (ask (reading rec) (once_read s)) w cs qs w' a
      → Made s (D.read rec) a.report cs qs
  on_read_lem rec (asks {q = q} d r) = read_made rec (read_or q) r

  on_write : (rec : ℕ) (v : Val) {w w' : Lent} {cs : List Call} {qs : List Reply} {a : After}
      → Goes (ask (locks rec) (once_locked s rec v)) w cs qs w' a
      → Made s (D.write rec v) a.report cs qs
  on_write rec v (asks d r) = write_made rec v (lock_told rec d) r

  on_commit : {w w' : Lent} {cs : List Call} {qs : List Reply} {a : After}
      → Goes (ask (C.Commit s.handle (Named (named s)) Settle)
      (λ q. answer (says (cond (ends_edit q) (closed s) s) q))) w cs qs w' a
      → Made s D.commit a.report cs qs
  on_commit (asks {c = c} {q = q} d r) = at_answer (Then D.commit c q) r commits

  module _ (p : Program After) {w w' : Lent} {cs : List Call} {qs : List Reply} {a : After} where
    not_over : ended s ≡ false → Goes (unless_ended s p) w cs qs w' a → Goes p w cs qs w' a
    not_over e f = rw e at f

    over : ended s ≡ true → Goes (unless_ended s p) w cs qs w' a → Goes (refuse_ended s) w cs qs w' a
    over e f = rw e at f

  refuses : {w w' : Lent} {cs : List Call} {qs : List Reply} {a : After} → Goes (refuse_ended s) w cs qs w' a
      → (cs ≡ []) × (qs ≡ [])
  refuses (looks d r) = at_answer (λ a cs qs. (cs ≡ []) × (qs ≡ [])) r (refl, refl)

pub desk_calls_made : DeskCallsMade
unfolding desk_read desk_write desk_commit
desk_calls_made (D.read rec) s w w' a e l = on_read_lem s rec (not_over s _ e l.follows)
desk_calls_made (D.write rec v) s w w' a e l = on_write s rec v (not_over s _ e l.follows)
desk_calls_made D.commit s w w' a e l = on_commit s (not_over s _ e l.follows)

pub ended_makes_none : EndedMakesNone
unfolding desk_read desk_write desk_commit
ended_makes_none (D.read rec) s w w' a e l = refuses s (over s _ e l.follows)
ended_makes_none (D.write rec v) s w w' a e l = refuses s (over s _ e l.follows)
ended_makes_none D.commit s w w' a e l = refuses s (over s _ e l.follows)

-- Opening
module _ (t width : ℕ) (setting : Setting) where
  begins : {q : Reply} → EditOr q
      → Begun (on_edit q (declined q) (λ h. opened (starting t width setting h))) (C.Begin ∷ []) (q ∷ [])
  begins (edited h) = begun
  begins (cases.passed {q} e) = rw (e _ _ _) made.refused

  begin_made : {w w' : Lent} {cs : List Call} {qs : List Reply} {o : Opening}
      → Goes (begin t width setting) w cs qs w' o
      → Begun o cs qs
  begin_made (asks {q = q} d r) = at_answer (λ o cs qs. Begun o (C.Begin ∷ cs) (q ∷ qs)) r (begins (edit_or q))

start_made : {w w' : Lent} {cs : List Call} {qs : List Reply} {o : Opening} → Goes refuse_start w cs qs w' o
    → Begun o cs qs
start_made (looks d r) = at_answer Begun r none

pub opening_made : OpeningMade
unfolding desk_open
opening_made t width setting w w' o l = go (good_start t width) l.follows
  where
    go : (b : Bool) {cs : List Call} {qs : List Reply}
        → Goes (cond b (begin t width setting) refuse_start) (lent w) cs qs (lent w') o
        → Begun o cs qs
    go true f = begin_made t width setting f
    go false f = start_made f
