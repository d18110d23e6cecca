-- A handle is given twice (`given_twice`): rounds of Begin and Abort are counted by induction, not run. Rests on
-- WordSteps and the calls' definitions.
use Prim.Native.Nat.{ℕ, zero, suc, ◌+◌, ◌*◌, ◌/◌, ◌%◌, ◌≤◌, ◌<◌}
use native.Mathlib.Omega.{arith}
use mathlib.Core.Path.{◌≡◌, refl, sym, ap, ◌∙◌, subst}
use mathlib.Core.Logic.{◌⊎◌, inl, inr}
use mathlib.Core.Bool.{true}
use mathlib.Core.List.{List, [], ◌∷◌, ◌++◌}
use lib.ListN.{length}
use borrow.Author.Tests.{eq-eqb, ne_eqb}
use Rattle.types.specs.Limits.{GENERATIONS, FREE, OPEN}
use Rattle.meaning.specs.Store.{Store, fresh, fresh_rec}
use Rattle.types.specs.Numbers.{handle, slot_of, generation_of, next_generation}
use Rattle.types.specs.Values.{Val}
use Rattle.types.specs.Replies.{ok, edit}
use Rattle.meaning.specs.Outcomes.{replies}
use Rattle.meaning.specs.Edits.{beginning}
use Rattle.meaning.specs.Ending.{aborting}
use Rattle.meaning.specs.Calls.{act, act_by, run, run_by, after, after_by, opened}
use Rattle.meaning.specs.Records.{good_counts}
use Rattle.meaning.specs.Contract.{Does}
use Rattle.types.specs.declared.Finish.TheVariants.{Settle}
use Rattle.types.specs.declared.Call.{Call}
use Rattle.types.specs.declared.Call.TheVariants as C
use Rattle.meaning.proofs.Lists.{not_both}
use Rattle.tables.specs.Layout.{size_of}
use Rattle.tables.specs.Words.{Lent, lent, decode, formed, sound_words}
use Rattle.format.specs.Format.{formatted_words}
use Rattle.format.proofs.Formatted.{formatted_sound}
use Rattle.serial.specs.Serializable.{ε, ◌▸◌, count, begun, other, History, edit_of}
use Rattle.history.specs.Heard.{heard_after}
use Rattle.history.specs.Words.{Calls, done, then}
use Rattle.history.specs.StoreWords.{HistoryOn}
use Rattle.history.specs.WordSteps.{readable}
use Rattle.history.specs.Handles.{one_slot, rounds, rounds_begun, BegunAfter, slot_words, GivenTwice}
use Rattle.history.proofs.WordSteps.{word_does, formats_any}

-- the store with its one slot in a state and a generation
abbrev with_slot : ℕ → ℕ → Store
with_slot state g =
    record {
      records = fresh_rec ∷ [];
      edits = record { state = state; generation = g; accesses = []; point = 0 } ∷ [];
      version_rows = 1;
      lock_rows = 1;
      access_rows = 1;
    }

begin_is : (g : ℕ)
    → beginning (with_slot FREE g) ≡ replies (with_slot OPEN (next_generation g)) (edit (handle (next_generation g) 1))
unfolding opened
begin_is g = refl

abort_is : (h g : ℕ) → slot_of h ≡ 1 → generation_of h ≡ g
    → aborting h Settle (with_slot OPEN g) ≡ replies (with_slot FREE g) ok
unfolding opened
abort_is h g p q = rw (p, q, eq-eqb g g refl) refl

module _ (g : ℕ) where
  abbrev given : ℕ
  given = handle (next_generation g) 1

  abort_given : aborting given Settle (with_slot OPEN (next_generation g))
      ≡ replies (with_slot FREE (next_generation g)) ok
  abort_given = abort_is given (next_generation g) (omega arith) (omega arith)

  round_leaves : (aborting given Settle (beginning (with_slot FREE g)).store).store ≡ with_slot FREE (next_generation g)
  round_leaves = rw (begin_is g, abort_given) refl

  round_replies : (aborting given Settle (beginning (with_slot FREE g)).store).reply ≡ ok
  round_replies = rw (begin_is g, abort_given) refl

  begin_replies : (beginning (with_slot FREE g)).reply ≡ edit given
  begin_replies = rw (begin_is g) refl

  begin_handle : (h : ℕ) → handle (next_generation g) 1 ≡ h → (beginning (with_slot FREE g)).reply ≡ edit h
  begin_handle h q = begin_replies ∙ ap edit q

-- the store after n rounds
rounds_leave : (n g : ℕ) → g < GENERATIONS
    → after (rounds n g) (with_slot FREE g) ≡ with_slot FREE ((g + n) % GENERATIONS)
unfolding rounds after_by act_by
rounds_leave zero g h = let q : g ≡ (g + 0) % GENERATIONS = omega arith in ap (λ i. with_slot FREE i) q
rounds_leave (suc n) g h =
    let q : (next_generation g + n) % GENERATIONS ≡ (g + suc n) % GENERATIONS = omega arith in
    ap (λ (s : Store). after (rounds n (next_generation g)) s) (round_leaves g)
    ∙ rounds_leave n (next_generation g) (omega arith) ∙ ap (λ i. with_slot FREE i) q

-- and the length of what is heard
rounds_count : (n g : ℕ) (l : History Val)
    → count (heard_after l (rounds n g) (run (rounds n g) (with_slot FREE g))) ≡ count l + 2 * n
unfolding rounds run_by act_by
rounds_count zero g l = omega arith
rounds_count (suc n) g l =
    rw (begin_replies g, round_replies g, round_leaves g) (
    rounds_count n (next_generation g) (l ▸ begun (given g) ▸ other) ∙ omega arith
    )

-- the Begin after them is heard last
abbrev ended : ℕ → ℕ → History Val → History Val
ended n g l = heard_after l (rounds n g ++ (C.Begin ∷ [])) (run (rounds n g ++ (C.Begin ∷ [])) (with_slot FREE g))

abbrev through : ℕ → ℕ → History Val → History Val
through n g l = heard_after l (rounds n g) (run (rounds n g) (with_slot FREE g))

rounds_begun_lem : (n g : ℕ) (l : History Val) → g < GENERATIONS → ended n g l ≡ through n g l
    ▸ begun (handle ((g + suc n) % GENERATIONS) 1)
unfolding rounds run_by act_by
rounds_begun_lem zero g l h = rw (begin_replies g) refl
rounds_begun_lem (suc n) g l h =
    let q : (next_generation g + suc n) % GENERATIONS ≡ (g + suc (suc n)) % GENERATIONS = omega arith in
    rw (begin_replies g, round_replies g, round_leaves g) (
    rounds_begun_lem n (next_generation g) (l ▸ begun (given g) ▸ other) (omega arith)
    ∙ ap (λ i. through n (next_generation g) (l ▸ begun (given g) ▸ other) ▸ begun (handle i 1)) q
    )

-- rounds from generation 1 on, up to generation 65,535 or 0, do not give the handle 65
abbrev Apart : ℕ → ℕ → Type 0
Apart n g = (n ≡ 0) ⊎ ((1 ≤ g) × (g + n ≤ GENERATIONS))

apart_next : (n g : ℕ) → Apart (suc n) g → Apart n (next_generation g)
apart_next n g (inl q) = absurd (omega (arith, q))
apart_next zero g (inr q) = inl refl
apart_next (suc n) g (inr (low, high)) = inr (omega (arith, low, high), omega (arith, low, high))

other_handle : (n g : ℕ) → Apart (suc n) g → 65 ≡ given g → ⊥
other_handle n g (inl q) e = omega (arith, q)
other_handle n g (inr (low, high)) e =
    let q : next_generation g ≡ 1 = omega (arith, e) in go ((g + 1) / GENERATIONS) (omega (arith, q))
  where
    go : (k : ℕ) → g ≡ GENERATIONS * k → ⊥
    go zero q = omega (arith, low, q)
    go (suc k) q = omega (arith, high, q)

rounds_keep : (n g : ℕ) (l : History Val) → Apart n g → edit_of (through n g l) 65 ≡ edit_of l 65
unfolding rounds run_by act_by
rounds_keep zero g l h = refl
rounds_keep (suc n) g l h =
    rw (begin_replies g, round_replies g, round_leaves g) (
    rounds_keep n (next_generation g) (l ▸ begun (given g) ▸ other) (apart_next n g h)
    ∙ rw (ne_eqb 65 (given g) (other_handle n g h)) refl
    )

until : (n : ℕ) → 1 ≤ n → n ≤ GENERATIONS → edit_of (through n 0 ε) 65 ≡ 1
unfolding rounds run_by act_by
until zero low high = absurd (omega (arith, low))
until (suc n) low high =
    rw (begin_replies 0, round_replies 0, round_leaves 0) (
    rounds_keep n 1 (ε ▸ begun 65 ▸ other) (inr (omega arith, omega (arith, high)))
    )

begun_after : (n h e : ℕ) → handle ((n + 1) % GENERATIONS) 1 ≡ h → 2 * n + 1 ≡ e → BegunAfter n h e
unfolding act_by rounds_begun
begun_after n h e p q =
    record {
      reply =
          ap (λ (s : Store). (beginning s).reply) (rounds_leave n 0 (omega arith))
          ∙ begin_handle ((0 + n) % GENERATIONS) h (omega (arith, p));
      name =
          ap (λ (l : History Val). edit_of l h)
          (rounds_begun_lem n 0 ε (omega arith) ∙ ap (λ i. through n 0 ε ▸ begun i) r)
          ∙ rw (eq-eqb h h refl) (ap suc (rounds_count n 0 ε) ∙ omega (arith, q));
    }
  where
    r : handle ((0 + suc n) % GENERATIONS) 1 ≡ h
    r = omega (arith, p)

-- The same lists over words
abbrev Sound : ℕ → ℕ → Type 0
Sound state g = sound_words (lent (slot_words state g)) ≡ true

slot_decodes : (state g : ℕ) → decode (lent (slot_words state g)) ≡ with_slot state g
unfolding readable slot_words
slot_decodes state g = refl

slot_formed : (state g : ℕ) → formed (slot_words state g) ≡ true
unfolding readable slot_words
slot_formed state g = refl

begin_does : (g : ℕ) → Sound FREE g
    → Does Lent decode sound_words (act C.Begin) (lent (slot_words FREE g)) (lent (slot_words OPEN (next_generation g)))
    (edit (given g))
unfolding act_by
begin_does g h =
    word_does C.Begin (slot_words FREE g) (slot_words OPEN (next_generation g)) (edit (given g)) h
    (rw (slot_decodes FREE g) (sym (begin_replies g)))
    (rw (slot_decodes FREE g, slot_decodes OPEN (next_generation g), begin_is g) refl)
    (slot_formed OPEN (next_generation g)) (λ e. absurd (not_both e refl))

abbrev abort_it : ℕ → Call
abort_it g = C.Abort (record { 0 = given g }) Settle

abort_does : (g : ℕ) → Sound OPEN (next_generation g)
    → Does Lent decode sound_words (act (abort_it g)) (lent (slot_words OPEN (next_generation g)))
    (lent (slot_words FREE (next_generation g))) ok
unfolding act_by
abort_does g h =
    word_does (abort_it g) (slot_words OPEN (next_generation g)) (slot_words FREE (next_generation g)) ok h
    (rw (slot_decodes OPEN (next_generation g), abort_given g) refl)
    (rw (slot_decodes OPEN (next_generation g), slot_decodes FREE (next_generation g), abort_given g) refl)
    (slot_formed FREE (next_generation g)) (λ e. absurd (not_both e refl))

rounds_calls : (n g : ℕ) → Sound FREE g
    → Calls Lent decode sound_words (lent (slot_words FREE g)) (rounds n g ++ (C.Begin ∷ []))
    (run (rounds n g ++ (C.Begin ∷ [])) (with_slot FREE g)) (lent (slot_words OPEN ((g + suc n) % GENERATIONS)))
unfolding rounds run_by act_by
rounds_calls zero g h = rw (begin_replies g) (then (begin_does g h) done)
rounds_calls (suc n) g h =
    let q : (next_generation g + suc n) % GENERATIONS ≡ (g + suc (suc n)) % GENERATIONS = omega arith in
    let b = begin_does g h in
    let a = abort_does g (b.stays h) in
    rw (begin_replies g, round_replies g, round_leaves g, sym q) (
    then b (then a (rounds_calls n (next_generation g) (a.stays (b.stays h))))
    )

slot_start : formatted_words one_slot ≡ slot_words FREE 0
unfolding readable slot_words
slot_start = refl

slot_good : good_counts one_slot ≡ true
unfolding readable
slot_good = refl

slot_size : size_of one_slot ≡ 29
unfolding readable
slot_size = refl

on_words : (n : ℕ) (w : List ℕ) → length w ≡ 29
    → (h : HistoryOn one_slot (rounds_begun n) (run (rounds_begun n) (fresh one_slot))
    (slot_words OPEN ((n + 1) % GENERATIONS)))
    × (h.before ≡ w)
unfolding rounds_begun
on_words n w q = (
  record {
    before = w;
    start = formatted_words one_slot;
    formats = formats_any one_slot w slot_good (q ∙ sym slot_size);
    calls = rw slot_start (
        let z : (0 + suc n) % GENERATIONS ≡ (n + 1) % GENERATIONS = omega arith in
        subst (λ i. Calls Lent decode sound_words (lent (slot_words FREE 0)) (rounds n 0 ++ (C.Begin ∷ []))
        (run (rounds n 0 ++ (C.Begin ∷ [])) (with_slot FREE 0)) (lent (slot_words OPEN i))) z
        (rounds_calls n 0 (rw (sym slot_start) (formatted_sound one_slot slot_good)))
        );
  },
  refl,
)

pub given_twice : GivenTwice
given_twice =
    record {
      each = λ n. begun_after n (handle ((n + 1) % GENERATIONS) 1) (2 * n + 1) refl refl;
      first = begun_after 0 _ _ refl refl;
      until = until;
      again = begun_after GENERATIONS _ _ refl refl;
      words = on_words;
    }
