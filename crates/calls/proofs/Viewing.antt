-- What View has answered at each of its returns. Rests on Exits and Handles.
use Prim.Native.Nat.{ℕ, ◌+◌, ◌≤◌, ◌<◌}
use mathlib.Core.Path.{◌≡◌, sym, ap, ◌∙◌}
use mathlib.Core.Bool.{true, false}
use mathlib.Core.List.{List, []}
use native.Mathlib.Omega.{arith}
use lib.Dec.{ltb}
use lib.ListN.{length}
use borrow.Author.Tests.{ltb-true, le-leb, lt-leb}
use Rattle.types.specs.Limits.{LAST}
use Rattle.meaning.specs.Store.{Rec, Store, rec_at, newest_at}
use Rattle.types.specs.Replies.{at, refusing}
use Rattle.meaning.specs.Outcomes.{Outcome, has_record}
use Rattle.meaning.specs.Records.{viewing}
use Rattle.meaning.specs.Sound.{sound_store}
use Rattle.types.specs.declared.Counts.{Counts}
use Rattle.types.specs.declared.Version.{Version}
use Rattle.tables.specs.Layout.{HEADER, counts_of, size_of, header_ok, Fits}
use Rattle.tables.specs.Decode.{record_at, decode_at}
use Rattle.tables.specs.Words.{lent, decode, formed, formed_at, sound_words}
use Rattle.meaning.proofs.Lists.{and_left}
use Rattle.tables.proofs.Header.{header_fits}
use Rattle.tables.proofs.Decoded.{rec_at_lem}
use Rattle.calls.proofs.Acting.{decode_at_lem}
use Rattle.calls.proofs.Handles.{has_record_is}
use Rattle.calls.proofs.Exits.{view_no_record, view_bad_point, view_below, view_done}

-- sound words have a good header
pub sound_header : (w : List ℕ) → sound_words (lent w) ≡ true → header_ok w ≡ true
unfolding sound_words formed
sound_header w h =
    and_left (header_ok w) (formed_at (counts_of w) w) (and_left (formed w) (sound_store (decode (lent w))) h)

pub header_there : (w : List ℕ) → header_ok w ≡ true → HEADER ≤ length w
unfolding size_of
header_there w h = omega (arith, (header_fits w h).size)

pub header_counts : (c : Counts) (w : List ℕ) → header_ok w ≡ true → c ≡ counts_of w → Fits c w
header_counts c w h e = rw e (header_fits w h)

module _ (c : Counts) (w : List ℕ) (e : c ≡ counts_of w) (r p : ℕ) where
  seen : {o : Outcome} → viewing r p (decode_at c w) ≡ o → o.reply ≡ (viewing r p (decode (lent w))).reply
  seen f = ap (λ (x : Outcome). x.reply) (sym f) ∙ ap (λ (s : Store). (viewing r p s).reply) (sym (decode_at_lem c w e))

  pub viewed_no_record : ltb r c.records ≡ false → refusing 5 [] ≡ (viewing r p (decode (lent w))).reply
  viewed_no_record f = seen (view_no_record (decode_at c w) r p (sym (has_record_is c w r) ∙ f))

  module _ (f : ltb r c.records ≡ true) where
    there : has_record (decode_at c w) r ≡ true
    there = sym (has_record_is c w r) ∙ f

    floor_is : (record_at c w r).floor ≡ (rec_at (decode_at c w) r).floor
    floor_is = ap (λ (x : Rec). x.floor) (sym (rec_at_lem c w r (ltb-true r c.records f)))

    pub viewed_bad_point : LAST < p → refusing 6 [] ≡ (viewing r p (decode (lent w))).reply
    viewed_bad_point l = seen (view_bad_point (decode_at c w) r p there (lt-leb p LAST l))

    module _ (q : ℕ) (same : q ≡ p) (last : p ≤ LAST) where
      pub viewed_below : q + 1 ≤ (record_at c w r).floor → refusing 7 [] ≡ (viewing r p (decode (lent w))).reply
      viewed_below m =
          let i = floor_is in
          seen (view_below (decode_at c w) r p there (le-leb p LAST last)
          (lt-leb (rec_at (decode_at c w) r).floor p (omega arith)))

      pub viewed : (v : Version) (t : ℕ) → (record_at c w r).floor < q + 1
          → v ≡ newest_at (record_at c w r).versions q → t ≡ v.point
          → at t v.value ≡ (viewing r p (decode (lent w))).reply
      viewed v t m n o =
          let i = floor_is in
          let x = rec_at_lem c w r (ltb-true r c.records f) in
          let n' : v ≡ newest_at (rec_at (decode_at c w) r).versions p = cc in
          ap (λ (y : ℕ). at y v.value) o
          ∙ ap (λ (y : Version). at y.point y.value) n'
          ∙ seen (view_done (decode_at c w) r p there (le-leb p LAST last)
          (le-leb (rec_at (decode_at c w) r).floor p (omega arith)))
