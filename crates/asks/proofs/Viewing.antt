-- The many views ask by ask: after i turns the first i asks are answered and told. Rests on Rows of `encoding`.
use Prim.Native.Nat.{ℕ, ◌+◌, ◌*◌, ◌/◌, ◌≤◌, ◌<◌, min}
use mathlib.Core.Path.{◌≡◌, refl}
use mathlib.Core.Bool.{Bool, true, false, cond}
use mathlib.Core.List.{List, [], ◌∷◌, ◌++◌}
use native.Mathlib.Omega.{arith}
use native.Mathlib.Numerals.{add-one}
use lib.ListN.{length, get_or}
use lib.Seq.{sets}
use Rattle.std.specs.Simd.{first_chunks}
use Rattle.types.specs.Replies.{Reply, refusing}
use Rattle.meaning.specs.Records.{viewing}
use Rattle.tables.specs.Words.{lent, decode, sound_words}
use Rattle.encoding.specs.Encoding.{row_of}
use Rattle.asks.specs.Views.{ASK_WORDS, VIEW_NUMBERS, VIEW_WORDS, asked, asked_at, replies_of, Views}
use Rattle.encoding.proofs.Rows.{Told, told_none, told_more, chunk_at, chunk_first}
use Rattle.view.specs.Seen.{Viewed}

-- what View shows is the reply to an ask
pub asked_as : (r p : ℕ) (w : List ℕ) {q : Reply} → Viewed r p w q → q ≡ asked r p w
unfolding asked
asked_as r p w {q} v = go (sound_words (lent w)) refl
  where
    go : (b : Bool) → sound_words (lent w) ≡ b → q ≡ cond b (viewing r p (decode (lent w))).reply (refusing 1 [])
    go true s = v.reply s
    go false s = v.unsound s

-- the ask of a row is that of its words
pub asked_row : (words list : List ℕ) (n i : ℕ) → i < n
    → (let row = get_or (first_chunks ASK_WORDS n list) i [] in asked (get_or row 0 0) (get_or row 1 0) words)
    ≡ asked_at words list i
unfolding asked_at
asked_row words list n i h =
    rw (chunk_first ASK_WORDS n i list h (omega arith), chunk_at ASK_WORDS n i 1 list h (omega arith)) refl

-- what View replies on sound words and on others
pub asked_sound : (r p : ℕ) (w : List ℕ) {q : Reply} → sound_words (lent w) ≡ true
    → q ≡ (viewing r p (decode (lent w))).reply → q ≡ asked r p w
unfolding asked
asked_sound r p w s e = rw s e

pub asked_unsound : (r p : ℕ) (w : List ℕ) → sound_words (lent w) ≡ false → refusing 1 [] ≡ asked r p w
unfolding asked
asked_unsound r p w s = rw s refl

pub record Viewing (words list area₀ : List ℕ) (n i : ℕ) (area : List ℕ) : Type 0 where
  pub upto : i ≤ n
  pub fits : n ≡ min (length list / ASK_WORDS) (length area₀ / VIEW_WORDS)
  pub told : Told VIEW_NUMBERS area₀ i (replies_of words list i) area

pub view_start : (words : List ℕ) {list area : List ℕ} {n : ℕ}
    → n ≡ min (length list / ASK_WORDS) (length area / VIEW_WORDS) → Viewing words list area n 0 area
view_start words {area = area} e = record { upto = omega arith; fits = e; told = told_none VIEW_NUMBERS area }

-- an ask that is to be answered, and its reply, have their words
module _ {words list area₀ : List ℕ} {n i : ℕ} {area : List ℕ} (v : Viewing words list area₀ n i area) (h : i < n) where
  pub ask_fits : (i + 1) * ASK_WORDS ≤ length list
  ask_fits = omega (arith, v.fits)

  row_fits : (i + 1) * VIEW_WORDS ≤ length area₀
  row_fits = omega (arith, v.fits)

  pub reply_fits : (i + 1) * VIEW_WORDS ≤ length area
  reply_fits = omega (arith, row_fits, v.told.size)

  pub view_again : {area' : List ℕ} → area' ≡ sets area (i * VIEW_WORDS) (row_of VIEW_NUMBERS (asked_at words list i))
      → Viewing words list area₀ n (i + 1) area'
  view_again e =
      let q = asked_at words list i in
      let more : replies_of words list (i + 1) ≡ replies_of words list i ++ (q ∷ []) = rw add-one refl in
      record {
        upto = omega arith;
        fits = v.fits;
        told =
            rw more (told_more VIEW_NUMBERS area₀ i (replies_of words list i) area v.told q row_fits e);
      }

pub view_done : {words list area₀ : List ℕ} {n i : ℕ} {area : List ℕ} → Viewing words list area₀ n i area → n ≤ i
    → Views words list area₀ area n
view_done {n = n} {i = i} v h =
    let e : i ≡ n = omega (arith, v.upto) in
    record { count = v.fits; told = rw e at v.told.rows }
