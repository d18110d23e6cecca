-- What follows from the judging of a call: of a sound store the item said is the first that stands, and what is granted
-- has no cause; of any store a refusal leaves the store as it is and carries a number that can concern the call. Rests
-- on Judging.
use Prim.Native.Nat.{ℕ}
use mathlib.Core.Path.{◌≡◌, sym, ap, ◌∙◌}
use mathlib.Core.Bool.{true, false≢true}
use mathlib.Core.List.{List}
use Rattle.meaning.specs.Store.{Store}
use Rattle.types.specs.Replies.{refusing, refused}
use Rattle.meaning.specs.Outcomes.{Outcome}
use Rattle.meaning.specs.Sound.{sound_store}
use Rattle.meaning.specs.Order.{Item, Stands, First, here, there, NoneStands, Says, Grants}
use Rattle.types.specs.declared.Call.{Call}
use Rattle.meaning.proofs.Judging.{Judging, granted, refuses, answers, passes, Reason, not_granted}
use Rattle.meaning.proofs.Judging.{grant_no_refusal, says_one_lem}

reply_of : {o u : Outcome} → o ≡ u → o.reply ≡ u.reply
reply_of e = ap (λ (x : Outcome). x.reply) e

module _ {c : Call} {s : Store} {o : Outcome} where
  -- what is said is the first that stands, and the first that stands is said
  pub says_first : {is : List Item} → Judging c s o is → sound_store s ≡ true → (i : Item) → Says i o.reply
      → First c s i is
  says_first (granted g) good i w = absurd (not_granted c i o.reply w g)
  says_first (refuses {i = j} n more f v a e) good i w =
      rw (says_one_lem i j (refusing n more) (rw (reply_of e) at w) v) (here (f good))
  says_first (answers {i = j} r f v a e) good i w = rw (says_one_lem i j r (rw e at w) v) (here (f good))
  says_first (passes f j) good i w = there (f good) (says_first j good i w)

  pub first_says : {i : Item} {is : List Item} → Judging c s o is → sound_store s ≡ true → First c s i is
      → Says i o.reply
  first_says {i = i} (granted _) good x6 = elim x6 [ ]
  first_says (refuses n more f v a e) good (here b) = rw (reply_of e) v
  first_says (refuses n more f v a e) good (there g w) = absurd (g (f good))
  first_says (answers r f v a e) good (here b) = rw e v
  first_says (answers r f v a e) good (there g w) = absurd (g (f good))
  first_says (passes f j) good (here b) = absurd (f good b)
  first_says (passes f j) good (there g w) = first_says j good w

  -- what is granted has no cause, and what has no cause is granted
  pub grants_none : {is : List Item} → Judging c s o is → sound_store s ≡ true → Grants c o.reply → NoneStands c s is
  grants_none (granted g) good w = tt
  grants_none (refuses {i = j} n more f v a e) good w =
      absurd (not_granted c j (refusing n more) v (rw (reply_of e) at w))
  grants_none (answers {i = j} r f v a e) good w = absurd (not_granted c j r v (rw e at w))
  grants_none (passes f j) good w = (f good, grants_none j good w)

  pub none_grants : {is : List Item} → Judging c s o is → sound_store s ≡ true → NoneStands c s is → Grants c o.reply
  none_grants (granted g) good w = g
  none_grants (refuses n more f v a e) good w = absurd (w.0 (f good))
  none_grants (answers r f v a e) good w = absurd (w.0 (f good))
  none_grants (passes f j) good w = none_grants j good w.1

  -- a refusal, of any store
  pub refusal_reason : {is : List Item} → Judging c s o is → (n : ℕ) (more : List ℕ) → o.reply ≡ refusing n more
      → Reason c s n more × (o.store ≡ s)
  refusal_reason (granted g) n more w = absurd (grant_no_refusal c n more (rw w at g))
  refusal_reason (refuses m rest f v a e) n more w =
      let q : refusing m rest ≡ refusing n more = sym (reply_of e) ∙ w in
      let p : n ≡ m = cc in
      let d : more ≡ rest = cc in
      (rw (p, d) a, ap (λ (u : Outcome). u.store) e)
  refusal_reason (answers r f v a e) n more w = absurd (false≢true (sym a ∙ ap refused (sym e ∙ w)))
  refusal_reason (passes f j) n more w = refusal_reason j n more w

pub first_stands : {c : Call} {s : Store} {i : Item} {is : List Item} → First c s i is → Stands i c s
first_stands (here a) = a
first_stands (there f w) = first_stands w
