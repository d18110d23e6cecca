-- The laws of the session's numbers. Rests on Laws and Cases of `desk`, and on the laws of `meaning`.
use Prim.Native.Nat.{ℕ, suc, ◌<◌}
use native.Mathlib.Omega.{arith}
use mathlib.Core.Path.{◌≡◌, refl, sym, ap, ◌∙◌}
use mathlib.Core.Bool.{Bool, true, false, cond}
use mathlib.Core.List.{List, [], ◌∷◌}
use lib.Dec.{ltb}
use lib.ListN.{length}
use borrow.Author.Tests.{ltb-true}
use Rattle.types.specs.Replies.{Reply, ok, edit, locked, read, own, again, commit, nopoint, purged, at, point, refusing}
use Rattle.types.specs.declared.Call.TheVariants as C
use Rattle.types.specs.declared.Extent.{Extent}
use Rattle.types.specs.declared.Extent.TheVariants.{Part}
use Rattle.types.specs.declared.Handle.{Handle}
use Rattle.types.specs.declared.Point.{Point}
use Rattle.meaning.specs.Lists.{all}
use Rattle.meaning.specs.Store.{Store}
use Rattle.meaning.specs.Locking.{reading}
use Rattle.meaning.specs.Calls.{act_by}
use Rattle.meaning.specs.Order.{Refuses, concerns}
use Rattle.meaning.proofs.Lists.{all_out}
use Rattle.meaning.proofs.Laws.{only_own_numbers}
use Rattle.tables.specs.Words.{lent, decode, sound_words}
use Rattle.layers.specs.Programs.{Program, Played, answer, play}
use Rattle.layers.specs.Serial.{Layer}
use Rattle.codes.specs.Codes.{code_of, code_with}
use Rattle.desk.specs.Replies.{told, emptied, After, says}
use Rattle.desk.specs.Desk.{DeskCall, program, ended, within, empty, once_read, desk_read}
use Rattle.desk.specs.Desk as D
use Rattle.desk.specs.Laws.{Same}
use Rattle.desk.proofs.Cases as cases
use Rattle.desk.proofs.Cases.{ReadOr, new, read_or}
use Rattle.desk.proofs.Laws.{only_the_interval, unsound_says_one, ended_says_three, read_plays}
use Rattle.desk.specs.declared.Setting.{Setting}
use Rattle.desk.specs.declared.Setting.TheVariants.{Earliest, Latest}
use Rattle.desk.specs.declared.Session.{Session}
use Rattle.sessions.specs.Sessions.{WORDS, EMPTIED, code_of_report, setting_of, number_of, session_of, with_interval}
use Rattle.sessions.specs.Sessions.{session_numbers}
use Rattle.sessions.specs.Laws.{NumbersAreSession, OpenedAreSession, EmptiedIsAlone, SameSessionSameNumbers}

-- a list of five numbers
data Five : List ℕ → Type 0 where
  five : (a b c d e : ℕ) → Five (a ∷ b ∷ c ∷ d ∷ e ∷ [])

is_five : (xs : List ℕ) → length xs ≡ WORDS → Five xs
is_five [] e = absurd (omega arith)
is_five (a ∷ []) e = absurd (omega arith)
is_five (a ∷ b ∷ []) e = absurd (omega arith)
is_five (a ∷ b ∷ c ∷ []) e = absurd (omega arith)
is_five (a ∷ b ∷ c ∷ d ∷ []) e = absurd (omega arith)
is_five (a ∷ b ∷ c ∷ d ∷ e ∷ []) l = five a b c d e
is_five (a ∷ b ∷ c ∷ d ∷ e ∷ f ∷ xs) l = absurd (omega arith)

-- a session with the handle, the width and the setting of another
abbrev rebuilt : Session → Handle → ℕ → Setting → Session
rebuilt s h w x = record { handle = h; low = s.low; high = s.high; width = w; setting = x }

rebuilt_same : (s s' : Session) → Same s s' → rebuilt s' s.handle s.width s.setting ≡ s'
rebuilt_same s s' e =
    ap (λ (h : Handle). rebuilt s' h s.width s.setting) (sym e.handle)
    ∙ ap (λ (w : ℕ). rebuilt s' s'.handle w s.setting) (sym e.width)
    ∙ ap (λ (x : Setting). rebuilt s' s'.handle s'.width x) (sym e.setting)

interval_back : {xs : List ℕ} → Five xs → (s : Session) → Same (session_of xs) s → session_of (with_interval xs s) ≡ s
unfolding session_of with_interval
interval_back (five a b c d e) s same = rebuilt_same (session_of (a ∷ b ∷ c ∷ d ∷ e ∷ [])) s same

-- what a call leaves of a session, on all words
keeps : (c : DeskCall) (s : Session) (w w' : List ℕ) (a : After) → Layer (program c s) w w' a → Same s a.session
keeps c s w w' a l = go (sound_words (lent w)) refl
  where
    go : (b : Bool) → sound_words (lent w) ≡ b → Same s a.session
    go true h = rw (l.told h) (only_the_interval c s _)
    go false h = rw ((l.unsound h).0 ∙ unsound_says_one c s) record { handle = refl; width = refl; setting = refl }

pub numbers_are_session : NumbersAreSession
numbers_are_session c w w' code held left session session' n r =
    ap session_of r.told.interval
    ∙ interval_back (is_five session n) r.after.session (keeps c (session_of session) w w' r.after r.kept)

setting_back : (x : Setting) → setting_of (number_of x) ≡ x
setting_back Earliest = refl
setting_back Latest = refl

session_back : (s : Session) → session_of (session_numbers s) ≡ s
unfolding session_of session_numbers
session_back s = ap (λ (x : Setting). rebuilt s s.handle s.width x) (setting_back s.setting)

pub opened_are_session : OpenedAreSession
opened_are_session t width setting w w' code session session' n o s e =
    ap session_of (rw e at o.told.set) ∙ session_back s

same_back : {xs : List ℕ} → Five xs → with_interval xs (session_of xs) ≡ xs
unfolding session_of with_interval
same_back (five a b c d e) = refl

pub same_session_same_numbers : SameSessionSameNumbers
same_session_same_numbers session n = same_back (is_five session n)

-- 30: the numbers of a read's refusals are below it, and 8 with a handle above it is another
low_numbers : (h : Handle) (r : ℕ) (m : Point) (w : Extent)
    → all (λ n. ltb n EMPTIED) (concerns (C.Read h r m w)) ≡ true
low_numbers h r m w = refl

with_low : (n : ℕ) (more : List ℕ) → n < EMPTIED → code_with n more ≡ EMPTIED → ⊥
with_low n [] l e = omega (arith, l, e)
with_low n (h ∷ more) l e = omega (arith, l, e)

not_emptied : (q : Reply) → ((n : ℕ) → Refuses n q → n < EMPTIED) → code_of q ≡ EMPTIED → ⊥
not_emptied ok f e = omega (arith, e)
not_emptied (edit h) f e = omega (arith, e)
not_emptied (locked low high) f e = omega (arith, e)
not_emptied (read tr end v) f e = omega (arith, e)
not_emptied (own v) f e = omega (arith, e)
not_emptied (again tr v) f e = omega (arith, e)
not_emptied (commit p) f e = omega (arith, e)
not_emptied nopoint f e = omega (arith, e)
not_emptied (purged vs ls) f e = omega (arith, e)
not_emptied (at p v) f e = omega (arith, e)
not_emptied (point p) f e = omega (arith, e)
not_emptied (refusing n more) f e = with_low n more (f n (more, refl)) e

once_alone : (s : Session) {q : Reply} (t : Store) → ReadOr q → (code_of q ≡ EMPTIED → ⊥)
    → code_of_report (play (once_read s q) t).told.report ≡ EMPTIED
    → (play (once_read s q) t).told.report ≡ emptied
unfolding play act_by
once_alone s t (new tr end v) k e = go (ended (within s (suc tr) end)) e
  where
    go : (b : Bool)
        → code_of_report
        (play (cond b (empty s) (answer (says (within s (suc tr) end) (read tr end v)))) t).told.report
        ≡ EMPTIED
        → (play (cond b (empty s) (answer (says (within s (suc tr) end) (read tr end v)))) t).told.report ≡ emptied
    go true f = refl
    go false f = absurd (k f)
once_alone s t (cases.passed {q} f) k e =
    let p : (play (once_read s q) t).told.report ≡ told q =
    ap (λ (x : Program After). (play x t).told.report) (f _ (answer (says s q)) _) in
    absurd (k (sym (ap code_of_report p) ∙ e))

read_alone : (s : Session) (rec : ℕ) (t : Store)
    → code_of_report (play (desk_read s rec) t).told.report ≡ EMPTIED
    → (play (desk_read s rec) t).told.report ≡ emptied
unfolding act_by
read_alone s rec t e = go (ended s) refl
  where
    q : Reply
    q = (reading s.handle.0 rec s.high.0 Part t).reply

    low : (n : ℕ) → Refuses n q → n < EMPTIED
    low n x =
        ltb-true n EMPTIED
        (all_out (λ m. ltb m EMPTIED) (concerns (C.Read s.handle rec s.high Part))
        (low_numbers s.handle rec s.high Part) n (only_own_numbers (C.Read s.handle rec s.high Part) t n x))

    go : (b : Bool) → ended s ≡ b → (play (desk_read s rec) t).told.report ≡ emptied
    go true f =
        let n : 3 ≡ EMPTIED = sym (ap (λ (x : Played After). code_of_report x.told.report)
        (ended_says_three (D.read rec) s t f)) ∙ e in
        absurd (omega (arith, n))
    go false f =
        let p = read_plays s t f rec in
        rw p
        (once_alone s _ (read_or q) (not_emptied q low)
        (sym (ap (λ (x : Played After). code_of_report x.told.report) p) ∙ e))

pub emptied_is_alone : EmptiedIsAlone
emptied_is_alone rec w w' code held left session session' r e = go (sound_words (lent w)) refl
  where
    n : code_of_report r.after.report ≡ EMPTIED
    n = sym r.told.number ∙ e

    go : (b : Bool) → sound_words (lent w) ≡ b → r.after.report ≡ emptied
    go true h =
        let a = r.kept.told h in
        rw a
        (read_alone (session_of session) rec (decode (lent w)) (sym (ap (λ (x : After). code_of_report x.report) a) ∙
        n))
    go false h =
        let a = (r.kept.unsound h).0 ∙ unsound_says_one (D.read rec) (session_of session) in
        let m : 1 ≡ EMPTIED = sym (ap (λ (x : After). code_of_report x.report) a) ∙ n in
        absurd (omega (arith, m))
