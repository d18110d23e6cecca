-- The returns of the desk's functions, one law for each form: the calls made follow the program. Rests on Layers of
-- `layers` and Contracts of `history`.
use Prim.Native.Nat.{ℕ, suc, ◌+◌}
use native.Mathlib.Omega.{arith}
use mathlib.Core.Path.{◌≡◌, refl, sym, ap, subst, ◌∙◌}
use mathlib.Core.Bool.{Bool, true, false, cond}
use mathlib.Core.List.{List, [], ◌∷◌}
use types.Run.{OneOf, miss}
use denote.Enum.Declared.{tag_of}
use Rattle.std.specs.Prelude.{Option, Some, None, Result, Ok, Err, IsErrAnd}
use Rattle.types.specs.Values.{Val}
use Rattle.types.specs.Values.{Value}
use Rattle.types.specs.Replies.{Reply, of_refusal, of_begin, of_lock, of_read, of_found, of_commit, of_picked}
use Rattle.types.specs.declared.Call.{Call}
use Rattle.types.specs.declared.Call.TheVariants as C
use Rattle.types.specs.declared.Extent.TheVariants.{Part}
use Rattle.types.specs.declared.Finish.TheVariants.{Settle}
use Rattle.types.specs.declared.Handle.{Handle}
use Rattle.types.specs.declared.Pick.TheVariants.{Named}
use Rattle.types.specs.declared.Point.{Point}
use Rattle.types.specs.declared.Refusal.{Refusal}
use Rattle.types.specs.contracts.Found.{the_type}
use Rattle.types.specs.declared.Found.{Found}
use Rattle.types.specs.declared.Found.TheVariants as Fd
use Rattle.types.specs.declared.Span.{Span}
use Rattle.meaning.specs.Edits.{beginning, writing}
use Rattle.meaning.specs.Locking.{locking, reading}
use Rattle.meaning.specs.Ending.{committing, aborting}
use Rattle.tables.specs.Words.{Lent, lent, decode, sound_words}
use Rattle.store.specs.Promises.{Does}
use Rattle.history.specs.Words.{Ensures}
use Rattle.history.proofs.Contracts.{ensures_does}
use Rattle.layers.specs.Programs.{Program, answer, ask, look, Look, slot, view}
use Rattle.layers.specs.Serial.{Layer}
use Rattle.layers.proofs.Layers.{by_answer, by_ask, by_look}
use Rattle.desk.specs.Replies.{opened, declined, emptied, After, says}
use Rattle.desk.specs.Cases.{ends_edit}
use Rattle.desk.specs.Desk.{ended, closed, between, within, cut_to, named, good_start, point_at, starting, ByLook}
use Rattle.desk.specs.Desk.{start_reply, ended_reply, unless_ended, once_read, once_locked}
use Rattle.desk.specs.Desk.{desk_open, desk_read, desk_write, desk_commit}
use Rattle.desk.specs.declared.Setting.{Setting}
use Rattle.desk.specs.declared.Session.{Session}

-- what `?` passes on is the refusal
pub passed : {A : Type 0} {e : Refusal} (r : Result A Refusal) → IsErrAnd r (λ e'. e' ≡ e) → r ≡ Err e
passed (Ok x) h = absurd h
passed (Err e') h = ap Err h

answered : {A : Type 0} {w : List ℕ} {a : A} → Layer (answer a) w w a
answered = by_answer Lent decode sound_words

-- a call of the store, by what its public function ensures; the code goes on by the case r' of its reply
asked : {A : Type 0} {X : Type 0} (c : Call) (of : X → Reply) {f : Reply → Program A} {w w₁ w₂ : List ℕ} {a : A}
    {r r' : X} → Ensures Lent decode sound_words c (lent w) (lent w₁) (of r) → r ≡ r' → Layer (f (of r')) w₁ w₂ a
    → Layer (ask c f) w w₂ a
asked {A} {X} c of {f} {w} {w₁} {w₂} {a} {r} {r'} d e k =
    by_ask Lent decode sound_words
    (ensures_does Lent decode sound_words c (lent w) (lent w₁) (of r')
    (subst (λ (x : X). Ensures Lent decode sound_words c (lent w) (lent w₁) (of x)) e d)) k

-- a refusal by a look
looked : {A : Type 0} (l : Look) (of : Reply → Reply) (f : Reply → A) {w : List ℕ} (r : Refusal) → ByLook l of w r
    → Layer (look l (λ q. answer (f (of q)))) w w (f (of_refusal r))
looked l of f {w} r b =
    subst (λ (q : Reply). Layer (look l (λ x. answer (f (of x)))) w w (f q)) (sym b.is)
    (by_look Lent decode sound_words b.shows answered)

over : (s : Session) (p : Program After) {w : List ℕ} (r : Refusal) → ended s ≡ true
    → ByLook (view 0 0) ended_reply w r
    → Layer (unless_ended s p) w w (says s (of_refusal r))
over s p r e b = rw e (looked (view 0 0) ended_reply (says s) r b)

-- what is left of an interval
left_out : (s : Session) (low high : ℕ) (x : Option Session) (next : Session) → x ≡ cut_to s low high → x ≡ Some next
    → (ended (within s low high) ≡ false) × (next ≡ within s low high)
unfolding cut_to
left_out s low high x next e f = go (ended (within s low high)) refl
  where
    go : (b : Bool) → ended (within s low high) ≡ b
        → (ended (within s low high) ≡ false) × (next ≡ within s low high)
    go true g =
        let h : Some next ≡ None = sym f ∙ e ∙ rw g in
        let z : ◌≡◌ {A = ℕ} 0 1 = cc in
        absurd (omega arith)
    go false g =
        let h : Some next ≡ Some (within s low high) = sym f ∙ e ∙ rw g in
        (g, cc)

empty_out : (s : Session) (low high : ℕ) (x : Option Session) → x ≡ cut_to s low high → x ≡ None
    → ended (within s low high) ≡ true
unfolding cut_to
empty_out s low high x e f = go (ended (within s low high)) refl
  where
    go : (b : Bool) → ended (within s low high) ≡ b → ended (within s low high) ≡ true
    go true g = g
    go false g =
        let h : None ≡ Some (within s low high) = sym f ∙ e ∙ rw g in
        let z : ◌≡◌ {A = ℕ} 0 1 = cc in
        absurd (omega arith)

-- the variants of Found but Read, by their place
abbrev told_found : List ℕ
told_found = 1 ∷ 2 ∷ []

-- Read
module _ (s : Session) (rec : ℕ) {w : List ℕ} where
  pub read_over : (r : Refusal) → ended s ≡ true → ByLook (view 0 0) ended_reply w r
      → Layer (desk_read s rec) w w (says s (of_refusal r))
  unfolding desk_read
  read_over r e b = over s _ r e b

  module _ {w₁ : List ℕ} (m : ended s ≡ false) (r : Result Found Refusal)
      (d : Does (reading s.handle.0 rec s.high.0 Part) w w₁ (of_read r)) where
    goes : {w₂ : List ℕ} {a : After} (r' : Result Found Refusal) → r ≡ r' → Layer (once_read s (of_read r')) w₁ w₂ a
        → Layer (desk_read s rec) w w₂ a
    unfolding desk_read
    goes r' e f = rw m (asked (C.Read s.handle rec s.high Part) of_read d e f)

    pub read_refused : (x : Refusal) → r ≡ Err x → Layer (desk_read s rec) w w₁ (says s (of_refusal x))
    read_refused x e = goes (Err x) e answered

    -- an own or a repeated read
    pub read_told : (f : Found) → r ≡ Ok f → OneOf told_found (tag_of the_type f)
        → Layer (desk_read s rec) w w₁ (says s (of_found f))
    read_told (Fd.Read tr end v) e k = absurd (miss told_found 0 tt k)
    read_told (Fd.Own v) e k = goes (Ok (Fd.Own v)) e answered
    read_told (Fd.Again tr v) e k = goes (Ok (Fd.Again tr v)) e answered

    module _ (tr end : Point) (v : Value) (e : r ≡ Ok (Fd.Read tr end v)) (x : Option Session)
        (c : x ≡ cut_to s (suc tr.0) end.0) where
      pub read_left : (next : Session) → x ≡ Some next
          → Layer (desk_read s rec) w w₁ (says next (of_found (Fd.Read tr end v)))
      read_left next f =
          let l = left_out s (suc tr.0) end.0 x next c f in
          rw l.1 (goes (Ok (Fd.Read tr end v)) e (rw l.0 answered))

      pub read_emptied : {w₂ : List ℕ} (q : Reply) (after : Session) → x ≡ None
          → Does (aborting s.handle.0 Settle) w₁ w₂ q → after ≡ closed s
          → Layer (desk_read s rec) w w₂ (record { session = after; report = emptied })
      read_emptied {w₂} q after f b g =
          rw g (goes (Ok (Fd.Read tr end v)) e
          (rw (empty_out s (suc tr.0) end.0 x c f) (asked (C.Abort s.handle Settle) (λ y. y) b refl answered)))

-- Write
module _ (s : Session) (rec : ℕ) (v : Val) {w : List ℕ} where
  pub write_over : (r : Refusal) → ended s ≡ true → ByLook (view 0 0) ended_reply w r
      → Layer (desk_write s rec v) w w (says s (of_refusal r))
  unfolding desk_write
  write_over r e b = over s _ r e b

  module _ {w₁ : List ℕ} (m : ended s ≡ false) (r : Result Span Refusal)
      (d : Does (locking s.handle.0 rec s.low.0 s.high.0 Part) w w₁ (of_lock r)) where
    lock_goes : {w₂ : List ℕ} {a : After} (r' : Result Span Refusal) → r ≡ r'
        → Layer (once_locked s rec v (of_lock r')) w₁ w₂ a → Layer (desk_write s rec v) w w₂ a
    unfolding desk_write
    lock_goes r' e f = rw m (asked (C.Lock s.handle rec s.low s.high Part) of_lock d e f)

    pub write_refused : (x : Refusal) → r ≡ Err x → Layer (desk_write s rec v) w w₁ (says s (of_refusal x))
    write_refused x e = lock_goes (Err x) e answered

    pub write_locked : {w₂ : List ℕ} (p : Span) (q : Reply) → r ≡ Ok p
        → Does (writing s.handle.0 rec v) w₁ w₂ q
        → Layer (desk_write s rec v) w w₂ (says (between s p.low.0 p.high.0) q)
    write_locked p q e t = lock_goes (Ok p) e (asked (C.Write s.handle rec v) (λ y. y) t refl answered)

-- Commit
module _ (s : Session) {w : List ℕ} where
  pub commit_over : (r : Refusal) → ended s ≡ true → ByLook (view 0 0) ended_reply w r
      → Layer (desk_commit s) w w (says s (of_refusal r))
  unfolding desk_commit
  commit_over r e b = over s _ r e b

  module _ {w₁ : List ℕ} (m : ended s ≡ false) (p : Point) (n : p ≡ named s) (r : Result (Option Point) Refusal)
      (d : Does (committing s.handle.0 (Named p) Settle) w w₁ (of_commit r)) where
    commit_goes : (r' : Result (Option Point) Refusal) → r ≡ r'
        → Layer (desk_commit s) w w₁ (says (cond (ends_edit (of_commit r')) (closed s) s) (of_commit r'))
    unfolding desk_commit
    commit_goes r' e =
        rw m (asked (C.Commit s.handle (Named (named s)) Settle) of_commit (rw n at d) e answered)

    pub commit_ended : (x : Option Point) (after : Session) → r ≡ Ok x → after ≡ closed s
        → Layer (desk_commit s) w w₁ (says after (of_picked x))
    commit_ended (Some t) after e g = rw g (commit_goes (Ok (Some t)) e)
    commit_ended None after e g = rw g (commit_goes (Ok None) e)

    pub commit_refused : (x : Refusal) → r ≡ Err x → Layer (desk_commit s) w w₁ (says s (of_refusal x))
    commit_refused x e = commit_goes (Err x) e

-- Opening
module _ (t : Point) (width : ℕ) (setting : Setting) {w : List ℕ} where
  pub open_bad : (r : Refusal) → good_start t.0 width ≡ false → ByLook slot start_reply w r
      → Layer (desk_open t.0 width setting) w w (declined (of_refusal r))
  unfolding desk_open
  open_bad r g b = rw g (looked slot start_reply declined r b)

  module _ {w₁ : List ℕ} (g : good_start t.0 width ≡ true) (r : Result Handle Refusal)
      (d : Does beginning w w₁ (of_begin r)) where
    pub open_refused : (x : Refusal) → r ≡ Err x → Layer (desk_open t.0 width setting) w w₁ (declined (of_refusal x))
    unfolding desk_open
    open_refused x e = rw g (asked C.Begin of_begin {r' = Err x} d e answered)

    begun : (h : Handle) → r ≡ Ok h → Layer (desk_open t.0 width setting) w w₁ (opened (starting t.0 width setting h.0))
    unfolding desk_open
    begun h e = rw g (asked C.Begin of_begin {r' = Ok h} d e answered)

    -- high is the point of the sum
    pub open_begun : (h : Handle) → r ≡ Ok h → (high : Point) → high.0 ≡ t.0 + width
        → Layer (desk_open t.0 width setting) w w₁
        (opened (record { handle = h; low = t; high = high; width = width; setting = setting }))
    open_begun h f high i =
        subst
        (λ (x : ℕ).
        Layer (desk_open t.0 width setting) w w₁
        (opened (record { handle = h; low = t; high = point_at x; width = width; setting = setting })))
        (sym i)
        (begun h f)
