-- From what the public calls promise to what a line prints, and to the words that are in use after it. Rests on the
-- contract records.
use Prim.Native.Nat.{ℕ, ◌≤◌}
use native.Mathlib.Omega.{arith}
use mathlib.Core.Path.{◌≡◌, refl, sym, ap, subst, ◌∙◌}
use mathlib.Core.Bool.{Bool, true, false, cond, ◌&&◌, false≢true}
use mathlib.Core.List.{List, [], ◌++◌}
use lib.ListN.{length, take, drop, length-append, length-drop, take-append-drop}
use lib.Dec.{leb, eqb}
use lib.Seq.{length-take-le, take_at}
use borrow.Author.Rules.{rules}
use borrow.Author.Tests.{leb-true, eq-eqb, ne_eqb}
use Rattle.meaning.specs.Calls.{act}
use Rattle.meaning.specs.Records.{good_counts}
use Rattle.types.specs.Replies.{Reply, refused, refusing, ok, of_refusal}
use Rattle.types.specs.declared.Refusal.{Refusal}
use Rattle.types.specs.declared.Call.{Call}
use Rattle.types.specs.declared.Counts.{Counts}
use Rattle.tables.specs.Layout.{size_of, header_ok, counts_of}
use Rattle.tables.specs.Words.{lent, decode, sound_words, formed}
use Rattle.format.specs.Format.{format_fits, formatted_words, Formats}
use Rattle.format.proofs.Formatted.{formatted_sound, formatted_fresh}
use Rattle.store.specs.Promises.{Does}
use Rattle.replies.specs.Lines.{line_of}
use Rattle.replies.specs.declared.Line.{Line}
use Rattle.replies.specs.declared.Line.TheVariants as L
use Rattle.fields.specs.Fields.{Parsed}
use Rattle.meaning.proofs.Lists.{and_left, and_right}
use Rattle.answers.specs.Script.{Has, nothing, one, Stands, Said, Says, Answers, called, kept, formatted, said}
use Rattle.answers.specs.Script.{LaidOut, Refused}
use Rattle.format_room.specs.Room.{room_for, words_for}

-- no words are no sound store
none_unsound : sound_words (lent []) ≡ false
unfolding sound_words formed header_ok counts_of good_counts
none_unsound = refl

-- the words in use come back first
front : (p w : List ℕ) (n : ℕ) → n ≤ length w → length (p ++ drop n w) ≡ length w → take n (p ++ drop n w) ≡ p
front p w n h e =
    let a = length-append p (drop n w) in let d = length-drop n w in take_at p (drop n w) n (omega (arith, a, d, e, h))

-- what is lent and comes back as long leaves as many words
pub same_room : (p w : List ℕ) (n : ℕ) → n ≤ length w → length p ≡ length (take n w) → length (p ++ drop n w) ≡ length w
same_room p w n h e =
    let a = length-append p (drop n w) in
    let d = length-drop n w in
    let t = length-take-le n w h in
    omega (arith, a, d, t, e, h)

-- a call, by what it promises
call_says : (c : Call) {w w' : List ℕ} {r : Reply} {l : Line} → Does (act c) w w' r → l ≡ line_of r
    → Says (called c) w l w'
call_says c {w} {w'} {r} {l} d e = record { line = line; leaves = leaves }
  where
    told : w ≡ [] → r ≡ refusing 1 []
    told n = d.unsound (ap (λ x. sound_words (lent x)) n ∙ none_unsound)

    line : (h : Has) → Stands h w → l ≡ (called c h).line
    line nothing n = e ∙ ap line_of (told n)
    line (one s) g = e ∙ ap line_of (d.reply g.0 ∙ ap (λ x. (act c x).reply) g.1)

    leaves : (h : Has) → Stands h w → Stands (called c h).has w'
    leaves nothing n = ap (λ x. x.words) (d.unchanged (ap refused (told n))) ∙ n
    leaves (one s) g = (d.stays g.0, d.store g.0 ∙ ap (λ x. (act c x).store) g.1)

pub call_answers : (c : Call) (w p : List ℕ) (used : ℕ) {r : Reply} {l : Line} → used ≤ length w
    → length (p ++ drop used w) ≡ length w → Does (act c) (take used w) p r → l ≡ line_of r
    → Says (called c) (take used w) l (take used (p ++ drop used w))
call_answers c w p used {r} {l} h e d s =
    subst (λ (x : List ℕ). Says (called c) (take used w) l x) (sym (front p w used h e)) (call_says c d s)

-- Format is lent no more words than there are
within : (b : Bool) (n room : ℕ) → (b ≡ true → n ≤ room) → cond b n 0 ≤ room
within true n room h = h refl
within false n room h = search rules

spoilt : (a b : Bool) → b ≡ false → (a && b) ≡ false
spoilt true b h = h
spoilt false b h = refl

pub words_inside : (room : ℕ) (c : Counts) {n : ℕ} → n ≡ words_for room c → n ≤ room
unfolding words_for room_for
words_inside room c {n} e =
    subst (λ (k : ℕ). k ≤ room) (sym e)
    (within (room_for room c) (size_of c) room
    (λ h. leb-true (size_of c) room (and_right (good_counts c) (leb (size_of c) room) h)))

-- whether Format takes the words that it is lent
module _ (c : Counts) (room : ℕ) where
  good : room_for room c ≡ true → good_counts c ≡ true
  unfolding room_for
  good h = and_left (good_counts c) (leb (size_of c) room) h

  all_lent : room_for room c ≡ true → words_for room c ≡ size_of c
  unfolding words_for
  all_lent h = ap (λ b. cond b (size_of c) 0) h

  none_lent : room_for room c ≡ false → words_for room c ≡ 0
  unfolding words_for
  none_lent h = ap (λ b. cond b (size_of c) 0) h

  taken : room_for room c ≡ true → format_fits c (size_of c) ≡ true
  unfolding format_fits
  taken h = ap (λ b. b && eqb (size_of c) (size_of c)) (good h) ∙ eq-eqb (size_of c) (size_of c) refl

  not_taken : format_fits c 0 ≡ false
  unfolding format_fits size_of
  not_taken = spoilt (good_counts c) (eqb 0 (size_of c)) (ne_eqb 0 (size_of c) (λ e. omega (arith, e)))

-- Format done, and Format refused, by what it promises
module _ (c : Counts) (w p : List ℕ) (n : ℕ) {r : Reply} (e : n ≡ words_for (length w) c)
    (s : length (p ++ drop n w) ≡ length w) (f : Formats c (take n w) p r) where
  lent_words : length (take n w) ≡ n
  lent_words = length-take-le n w (words_inside (length w) c e)

  done : room_for (length w) c ≡ true → (r ≡ ok) × (p ≡ formatted_words c)
  done b = f.done (ap (format_fits c) (lent_words ∙ e ∙ all_lent c (length w) b) ∙ taken c (length w) b)

  undone : room_for (length w) c ≡ false → (r ≡ refusing 16 []) × (p ≡ take n w)
  undone b = f.refused (ap (format_fits c) (lent_words ∙ e ∙ none_lent c (length w) b) ∙ not_taken c (length w))

  pub laid_out : r ≡ ok → LaidOut c w (p ++ drop n w) n
  laid_out q = go (room_for (length w) c) refl
    where
      go : (b : Bool) → room_for (length w) c ≡ b → LaidOut c w (p ++ drop n w) n
      go true b = record {
        room = b;
        inside = subst (λ (k : ℕ). n ≤ k) (sym s) (words_inside (length w) c e);
        store = front p w n (words_inside (length w) c e) s ∙ (done b).1;
      }
      go false b = absurd (false≢true (ap refused (sym q ∙ (undone b).0)))

  pub not_laid_out : {x : Refusal} → r ≡ of_refusal x → Refused c w (p ++ drop n w) x
  not_laid_out {x} q = go (room_for (length w) c) refl
    where
      go : (b : Bool) → room_for (length w) c ≡ b → Refused c w (p ++ drop n w) x
      go true b = absurd (false≢true (ap refused (sym (done b).0 ∙ q)))
      go false b = record {
        no_room = b;
        refusal = sym q ∙ (undone b).0;
        same = ap (λ (y : List ℕ). y ++ drop n w) (undone b).1 ∙ take-append-drop n w;
      }

-- a line by what it is
pub laid_out_answers : (c : Counts) {w w' : List ℕ} {n used : ℕ} → LaidOut c w w' n
    → Answers (formatted c (room_for (length w) c)) w used L.Ok w' n
laid_out_answers c {w} {w'} {n} {used} d =
    let g = good c (length w) d.room in
    record {
      inside = d.inside;
      says =
          subst (λ (b : Bool). Says (formatted c b) (take used w) L.Ok (take n w')) (sym d.room)
          (record {
            line = λ k st. refl;
            leaves =
                λ k st. (
                  ap (λ y. sound_words (lent y)) d.store ∙ formatted_sound c g,
                  ap (λ y. decode (lent y)) d.store ∙ formatted_fresh c g,
                );
          });
    }

pub refused_answers : (c : Counts) {w w' : List ℕ} {used : ℕ} {r : Refusal} {l : Line} → used ≤ length w
    → Refused c w w' r → l ≡ line_of (of_refusal r) → Answers (formatted c (room_for (length w) c)) w used l w' used
refused_answers c {w} {w'} {used} {r} {l} u d o =
    record {
      inside = subst (λ (y : List ℕ). used ≤ length y) (sym d.same) u;
      says =
          subst (λ (b : Bool). Says (formatted c b) (take used w) l (take used w')) (sym d.no_room)
          (record {
            line = λ m st. o ∙ ap line_of d.refusal;
            leaves = λ m st. subst (λ (y : List ℕ). Stands m (take used y)) (sym d.same) st;
          });
    }

pub malformed_answers : {w : List ℕ} {used : ℕ} → used ≤ length w → Answers kept w used L.Malformed w used
malformed_answers u = record { inside = u; says = record { line = λ h s. refl; leaves = λ h s. s } }

pub call_line : {f : Has → Said} (w w' : List ℕ) (used : ℕ) {l : Line} → used ≤ length w → length w' ≡ length w
    → Says f (take used w) l (take used w') → Answers f w used l w' used
call_line {f} w w' used u s a = record { inside = subst (λ (m : ℕ). used ≤ m) (sym s) u; says = a }

pub line_answers : (room : ℕ) {q p : Parsed} {w w' : List ℕ} {used used' : ℕ} {l : Line} → q ≡ p
    → Answers (said room p) w used l w' used' → Answers (said room q) w used l w' used'
line_answers room {q} {p} {w} {w'} {used} {used'} {l} e a =
    subst (λ (x : Parsed). Answers (said room x) w used l w' used') (sym e) a
