-- How a call's contract is met: what sound words say at its start, what a refusal and a change make, and the contract
-- from what was made. Rests on the bridge between `formed` and `Well` of `tables`, and on Verdicts of `meaning`.
use Prim.Native.Nat.{ℕ, ◌≤◌, ◌<◌}
use mathlib.Core.Path.{◌≡◌, refl, sym, ap, ◌∙◌}
use mathlib.Core.Bool.{true, false, true≢false}
use mathlib.Core.List.{List}
use native.Mathlib.Omega.{arith}
use lib.ListN.{length}
use Rattle.chains.specs.Walk.{IsRow}
use Rattle.types.specs.Limits.{GENERATIONS}
use Rattle.meaning.specs.Lists.{pairwise}
use Rattle.meaning.specs.Points.{no_later}
use Rattle.meaning.specs.Store.{Rec, Store, edit_at}
use Rattle.types.specs.Numbers.{slot_of}
use Rattle.types.specs.Replies.{Reply, refused, refusing}
use Rattle.meaning.specs.Outcomes.{Outcome, replies, knows, has_record}
use Rattle.meaning.specs.Sound.{sound_store}
use Rattle.meaning.specs.SoundFacts.{SoundStore}
use Rattle.types.specs.declared.Counts.{Counts}
use Rattle.meaning.proofs.Lists.{and_left, and_right, and_in}
use Rattle.meaning.proofs.SoundParts.{sound_out}
use Rattle.meaning.proofs.Verdicts.{knows_out, has_record_out}
use Rattle.tables.specs.Layout.{HEADER, counts_of, size_of}
use Rattle.tables.specs.Decode.{decode_at}
use Rattle.tables.specs.Words.{lent, decode, formed, sound_words, Well}
use Rattle.tables.proofs.Bridge.{well_out, well_in}
use Rattle.tables.proofs.Decoded.{decoded_records, decoded_edits, records_length, edits_length, rec_at_lem}
use Rattle.blocking.specs.Search.{AllRise}
use Rattle.index.specs.Index.{Indexed}
use Rattle.calls.specs.Contract.{Acts, Ready, Makes}

-- what the words mean, by their counts
pub decode_at_lem : (c : Counts) (w : List ℕ) → c ≡ counts_of w → decode (lent w) ≡ decode_at c w
unfolding decode
decode_at_lem c w e = ap (λ (d : Counts). decode_at d w) (sym e)

-- an index of these words, by their counts
pub indexed_at : {ix : List ℕ} (c : Counts) (w : List ℕ) → c ≡ counts_of w → Indexed (decode (lent w)) ix
    → Indexed (decode_at c w) ix
indexed_at c w e I = rw (decode_at_lem c w e) at I

-- Sound words, at the start of a call.
module _ (w : List ℕ) (h : sound_words (lent w) ≡ true) where
  pub has_header : HEADER ≤ length w
  unfolding sound_words size_of
  has_header = let W = well_out w (and_left (formed w) (sound_store (decode (lent w))) h) in omega (arith, W.fits.size)

  pub ready : (c : Counts) → c ≡ counts_of w → Ready c w
  unfolding sound_words
  ready c e =
      record {
        well = rw e (well_out w (and_left (formed w) (sound_store (decode (lent w))) h));
        store = rw (decode_at_lem c w e) at (and_right (formed w) (sound_store (decode (lent w))) h);
      }

-- Plain facts of ready words.
module _ (c : Counts) (w : List ℕ) where
  pub facts : Ready c w → SoundStore (decode_at c w)
  facts R = sound_out (decode_at c w) R.store

  -- "in rising order of low point": what the searches that stop early ask for
  pub all_rise : Ready c w → AllRise c w
  all_rise R r l = ap (λ (x : Rec). pairwise no_later x.locks) (sym (rec_at_lem c w r l)) ∙ ((facts R).recs r).rises

  pub slots_counted : length (decode_at c w).edits ≡ c.edits
  slots_counted = rw decoded_edits (edits_length c w)

  pub records_counted : length (decode_at c w).records ≡ c.records
  records_counted = rw decoded_records (records_length c w)

  -- a known handle names a slot, and an open edit's state is known
  pub slot_row : (h : ℕ) → knows (decode_at c w) h ≡ true → IsRow c.edits (slot_of h)
  slot_row h e =
      let k = knows_out (decode_at c w) h e in
      let n = slots_counted in record { low = k.range.from; high = omega (arith, k.range.upto) }

  pub record_row : (r : ℕ) → has_record (decode_at c w) r ≡ true → r < c.records
  record_row r e = let l = has_record_out (decode_at c w) r e in let n = records_counted in omega arith

  pub generation_fits : Ready c w → (k : ℕ) → (edit_at (decode_at c w) k).generation < GENERATIONS
  generation_fits R k = ((facts R).edits k).generation

-- What a part of a call makes: of a refusal, and of a reply that is no refusal.
module _ (c : Counts) (w : List ℕ) where
  pub makes_refused : (o : Outcome) (n : ℕ) (more : List ℕ) → Well c w → o ≡ replies (decode_at c w) (refusing n more)
      → Makes c o w w (refusing n more)
  makes_refused o n more W e =
      record {
        reply = ap (λ (x : Outcome). x.reply) (sym e);
        store = ap (λ (x : Outcome). x.store) (sym e);
        well = W;
        unchanged = λ _. refl;
      }

  pub makes_done : (o : Outcome) (w' : List ℕ) (s : Store) (r : Reply) → Well c w'
      → decode_at c w' ≡ s → o ≡ replies s r
      → refused r ≡ false
      → Makes c o w w' r
  makes_done o w' s r W d e f =
      record {
        reply = ap (λ (x : Outcome). x.reply) (sym e);
        store = d ∙ ap (λ (x : Outcome). x.store) (sym e);
        well = W;
        unchanged = λ t. absurd (true≢false (sym t ∙ f));
      }

  -- the same outcome by another name
  pub makes_as : {o o' : Outcome} {w' : List ℕ} {r : Reply} → o' ≡ o → Makes c o w w' r → Makes c o' w w' r
  makes_as e M =
      record {
        reply = M.reply ∙ ap (λ (x : Outcome). x.reply) (sym e);
        store = M.store ∙ ap (λ (x : Outcome). x.store) (sym e);
        well = M.well;
        unchanged = M.unchanged;
      }

-- The contract, of a call that keeps a sound store sound.
pub acts : (call : Store → Outcome) → ((s : Store) → sound_store s ≡ true → sound_store (call s).store ≡ true)
    → (c : Counts) (w w' : List ℕ) (r : Reply) → sound_words (lent w) ≡ true → c ≡ counts_of w
    → Makes c (call (decode_at c w)) w w' r
    → Acts call (lent w) (lent w') r
unfolding sound_words
acts call keeps c w w' r h e M =
    let d = decode_at_lem c w e in
    let d' = decode_at_lem c w' (sym M.well.fits.counts) in
    record {
      reply = M.reply ∙ ap (λ (s : Store). (call s).reply) (sym d);
      store = d' ∙ M.store ∙ ap (λ (s : Store). (call s).store) (sym d);
      stays =
          and_in (well_in c w' M.well) (ap sound_store (d' ∙ M.store) ∙ keeps (decode_at c w) (ready w h c e).store);
      unchanged = λ t. ap lent (M.unchanged t);
    }
