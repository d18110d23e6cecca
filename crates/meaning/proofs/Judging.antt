-- The judging of a call along the order of the checks: which items it passes and where it stops. Each call is walked
-- once, on any store; that causes stand or not is said of a sound one. Every law of the refusals follows from the walk
-- by induction. Rests on CauseTests.
use Prim.Native.Nat.{ℕ, suc, ◌<◌}
use native.Mathlib.Omega.{arith}
use mathlib.Core.Path.{◌≡◌, refl, sym, ap, ◌∙◌}
use mathlib.Core.Logic.{inl, inr, ◌↔◌}
use mathlib.Core.Bool.{Bool, true, false, not, ◌&&◌, false≢true}
use mathlib.Core.List.Memᴰ
use mathlib.Core.List.{List, [], ◌∷◌}
use lib.Dec.{eqb}
use lib.ListN.{get_or}
use borrow.Author.Tests.{eqb-true, eqb-false, not-true}
use Rattle.meaning.specs.Lists.{◌∈◌, any}
use Rattle.types.specs.Limits.{READ, WRITE}
use Rattle.meaning.specs.Store.{Store, slot_of, rec_at}
use Rattle.meaning.specs.Points.{holder, first_blocked}
use Rattle.types.specs.Replies.{Reply, ok, edit, locked, read, own, again, commit, nopoint, purged, at, point}
use Rattle.types.specs.Replies.{refusing, refused}
use Rattle.meaning.specs.Outcomes.{Outcome, replies, handle_at}
use Rattle.meaning.specs.Locking.{read_from}
use Rattle.meaning.specs.Sound.{sound_store}
use Rattle.meaning.specs.Order.{Item, unsound, no_slot, no_edit, ended, still_open, no_record, bad_point, own_or_again}
use Rattle.meaning.specs.Order.{below_floor, empty_set, not_common, locked_below, frozen, held, no_access_row}
use Rattle.meaning.specs.Order.{no_lock_row, no_version_row, Stands, Says, Grants, Refuses, concerns}
use Rattle.types.specs.declared.Call.{Call}
use Rattle.types.specs.declared.Call.TheVariants as C
use Rattle.meaning.proofs.Lists.{and_left, and_right, any_out}
use Rattle.meaning.proofs.CauseTests.{Refutes}

-- the number of a refusal, 0 for the two items that are none
abbrev pub code : Item → ℕ
code unsound = 1
code no_slot = 13
code no_edit = 2
code ended = 3
code still_open = 4
code no_record = 5
code bad_point = 6
code own_or_again = 0
code below_floor = 7
code empty_set = 0
code not_common = 14
code locked_below = 15
code frozen = 9
code held = 8
code no_access_row = 10
code no_lock_row = 11
code no_version_row = 12

-- the holder found at the point at which a call is judged
abbrev holder_at : Store → ℕ → ℕ → ℕ → ℕ → List ℕ
holder_at s r mode k p = handle_at s (holder mode k (rec_at s r) p) ∷ []

abbrev pub holders : Call → Store → List ℕ
holders C.Begin s = []
holders (C.Write h r v) s = []
holders (C.Lock h r low high w) s =
    holder_at s r WRITE (slot_of h.0) (first_blocked WRITE (slot_of h.0) (rec_at s r) low.0 high.0)
holders (C.Read h r m w) s =
    holder_at s r READ (slot_of h.0) (first_blocked READ (slot_of h.0) (rec_at s r) (read_from s r m.0) m.0)
holders (C.Commit h pick f) s = []
holders (C.Abort h f) s = []
holders (C.Settle h) s = []
holders (C.Purge r b) s = []
holders (C.View r p) s = []

-- what a refusal carries: a number that can concern the call, and after 8 the holder
pub record Reason (c : Call) (s : Store) (n : ℕ) (more : List ℕ) : Type 0 where
  pub number : n ∈ concerns c
  pub holder : n ≡ 8 → more ≡ holders c s

pub data Judging (c : Call) (s : Store) (o : Outcome) : List Item → Type 0 where
  granted : Grants c o.reply → Judging c s o []
  refuses : {i : Item} {is : List Item} (n : ℕ) (more : List ℕ) → (sound_store s ≡ true → Stands i c s)
      → Says i (refusing n more)
      → Reason c s n more → o ≡ replies s (refusing n more) → Judging c s o (i ∷ is)
  answers : {i : Item} {is : List Item} (r : Reply) → (sound_store s ≡ true → Stands i c s) → Says i r
      → refused r ≡ false → o.reply ≡ r → Judging c s o (i ∷ is)
  passes : {i : Item} {is : List Item} → (sound_store s ≡ true → Stands i c s → ⊥) → Judging c s o is
      → Judging c s o (i ∷ is)

-- an item that does not stand, before the next; `never` is for one that cannot concern the call
infixr 3 ◌next◌
pub ◌next◌ : {c : Call} {s : Store} {o : Outcome} {i : Item} {is : List Item}
    → (sound_store s ≡ true → Stands i c s → ⊥)
    → Judging c s o is → Judging c s o (i ∷ is)
f next j = passes f j

pub never : {A : Type 0} → A → ⊥ → ⊥
never a z = z

-- a number that the list has, by computation
pub listed : (n : ℕ) (ns : List ℕ) → any (eqb n) ns ≡ true → n ∈ ns
listed n ns e = let w = any_out (eqb n) ns e in Memᴰ.cast (eqb-true n w.0 w.2) w.1

-- the item's number can concern the call, and is printed alone
abbrev pub plain : Call → Item → Bool
plain c i = any (eqb (code i)) (concerns c) && (not (eqb (code i) 8) && not (eqb (code i) 0))

says_code : (i : Item) → not (eqb (code i) 0) ≡ true → Says i (refusing (code i) [])
says_code unsound e = ([], refl)
says_code no_slot e = ([], refl)
says_code no_edit e = ([], refl)
says_code ended e = ([], refl)
says_code still_open e = ([], refl)
says_code no_record e = ([], refl)
says_code bad_point e = ([], refl)
says_code own_or_again e = absurd (false≢true e)
says_code below_floor e = ([], refl)
says_code empty_set e = absurd (false≢true e)
says_code not_common e = ([], refl)
says_code locked_below e = ([], refl)
says_code frozen e = ([], refl)
says_code held e = ([], refl)
says_code no_access_row e = ([], refl)
says_code no_lock_row e = ([], refl)
says_code no_version_row e = ([], refl)

plainly : {c : Call} {s : Store} {o : Outcome} {i : Item} {is : List Item} → (sound_store s ≡ true → Stands i c s)
    → plain c i ≡ true → o ≡ replies s (refusing (code i) []) → Judging c s o (i ∷ is)
plainly {c} {i = i} f e q =
    let a = any (eqb (code i)) (concerns c) in
    let b = not (eqb (code i) 8) in
    let d = not (eqb (code i) 0) in
    let w = and_right a (b && d) e in
    refuses (code i) [] f (says_code i (and_right b d w))
    (record {
      number = listed (code i) (concerns c) (and_left a (b && d) e);
      holder = λ h. absurd (eqb-false (code i) 8 (not-true (eqb (code i) 8) (and_left b d w)) h);
    })
    q

-- an item that a test decides: it stands where the test fails, or where it holds
pub decided : {c : Call} {s : Store} {o : Outcome} {i : Item} {is : List Item} (b : Bool)
    → (sound_store s ≡ true → Refutes b (Stands i c s))
    → plain c i ≡ true
    → (b ≡ false → o ≡ replies s (refusing (code i) []))
    → (b ≡ true → Judging c s o is)
    → Judging c s o (i ∷ is)
decided true t e says rest = passes (λ g. (t g).free refl) (rest refl)
decided false t e says rest = plainly (λ g. (t g).stands refl) e (says refl)

pub shown : {c : Call} {s : Store} {o : Outcome} {i : Item} {is : List Item} (b : Bool)
    → (sound_store s ≡ true → (b ≡ true) ↔ Stands i c s)
    → plain c i ≡ true
    → (b ≡ true → o ≡ replies s (refusing (code i) []))
    → (b ≡ false → Judging c s o is)
    → Judging c s o (i ∷ is)
shown true t e says rest = plainly (λ g. (t g).0 refl) e (says refl)
shown false t e says rest = passes (λ g h. false≢true ((t g).1 h)) (rest refl)

-- a test that decides no item
pub by_test : {P : Type 0} (b : Bool) → (b ≡ true → P) → (b ≡ false → P) → P
by_test true f g = f refl
by_test false f g = g refl

-- The kind of a reply: its number + 1 for a refusal, 17 for an own or repeated read, 18 for `nopoint`, 0 for what a
-- call grants
kind : Reply → ℕ
kind ok = 0
kind (edit h) = 0
kind (locked low high) = 0
kind (read tr end v) = 0
kind (own v) = 17
kind (again tr v) = 17
kind (commit p) = 0
kind nopoint = 18
kind (purged vs ls) = 0
kind (at p v) = 0
kind (point p) = 0
kind (refusing n more) = suc n

-- the items by the kind of the reply that says them
items : List Item
items =
    unsound
    ∷ unsound
    ∷ unsound
    ∷ no_edit
    ∷ ended
    ∷ still_open
    ∷ no_record
    ∷ bad_point
    ∷ below_floor
    ∷ held
    ∷ frozen
    ∷ no_access_row
    ∷ no_lock_row
    ∷ no_version_row
    ∷ no_slot
    ∷ not_common
    ∷ locked_below
    ∷ own_or_again
    ∷ empty_set
    ∷ []

item_of : ℕ → Item
item_of n = get_or items n unsound

-- a reply says at most one item, and a granted one none
record Told (i : Item) (r : Reply) : Type 0 where
  item : item_of (kind r) ≡ i
  some : 0 < kind r

refusal : (i : Item) (n : ℕ) (r : Reply) → item_of (suc n) ≡ i → Refuses n r → Told i r
unfolding kind
refusal i n r e w = rw w.1 (record { item = e; some = omega arith })

told : (i : Item) (r : Reply) → Says i r → Told i r
unfolding kind item_of items
told unsound r w = refusal unsound 1 r refl w
told no_slot r w = refusal no_slot 13 r refl w
told no_edit r w = refusal no_edit 2 r refl w
told ended r w = refusal ended 3 r refl w
told still_open r w = refusal still_open 4 r refl w
told no_record r w = refusal no_record 5 r refl w
told bad_point r w = refusal bad_point 6 r refl w
told own_or_again r (inl w) = rw w.1 (record { item = refl; some = omega arith })
told own_or_again r (inr w) = rw w.1.1 (record { item = refl; some = omega arith })
told below_floor r w = refusal below_floor 7 r refl w
told empty_set r w = rw w (record { item = refl; some = omega arith })
told not_common r w = refusal not_common 14 r refl w
told locked_below r w = refusal locked_below 15 r refl w
told frozen r w = refusal frozen 9 r refl w
told held r w = refusal held 8 r refl w
told no_access_row r w = refusal no_access_row 10 r refl w
told no_lock_row r w = refusal no_lock_row 11 r refl w
told no_version_row r w = refusal no_version_row 12 r refl w

grants_kind : (c : Call) (r : Reply) → Grants c r → kind r ≡ 0
unfolding kind
grants_kind C.Begin r w = ap kind w.1
grants_kind (C.Write h k v) r w = ap kind w
grants_kind (C.Lock h k low high e) r w = ap kind w.1.1
grants_kind (C.Read h k m e) r w = ap kind w.1.1.1
grants_kind (C.Commit h pick f) r w = ap kind w.1
grants_kind (C.Abort h f) r w = ap kind w
grants_kind (C.Settle h) r w = ap kind w
grants_kind (C.Purge k b) r w = ap kind w.1.1
grants_kind (C.View k p) r w = ap kind w.1.1

pub not_granted : (c : Call) (i : Item) (r : Reply) → Says i r → Grants c r → ⊥
not_granted c i r w g = omega (arith, told i r w, grants_kind c r g)

pub grant_no_refusal : (c : Call) (n : ℕ) (more : List ℕ) → Grants c (refusing n more) → ⊥
unfolding kind
grant_no_refusal c n more g = omega (arith, grants_kind c (refusing n more) g)

pub says_one_lem : (i j : Item) (r : Reply) → Says i r → Says j r → i ≡ j
says_one_lem i j r v w = sym (told i r v).item ∙ (told j r w).item
