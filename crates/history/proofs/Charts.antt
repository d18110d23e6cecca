-- A chart is one moment of the plan, over what the store is lent and over its words: a View that was granted is a view
-- of the serial core, whose theorems are those of Moments; and when View is granted. Rests on Theorem, Viewing, Floors,
-- OverStore, and Moments of `serial`.
use Prim.Native.Nat.{ℕ}
use native.Mathlib.Omega.{arith}
use mathlib.Core.Path.{◌≡◌, refl, sym, ap, ◌∙◌, subst}
use mathlib.Core.Bool.{Bool, true}
use mathlib.Core.Option.{Option, some, none}
use mathlib.Core.List.Memᴰ
use mathlib.Core.List.{List, [], ◌∷◌}
use Rattle.types.specs.Values.{Val}
use Rattle.types.specs.Replies.{Reply, at}
use Rattle.types.specs.Values.{Value}
use Rattle.types.specs.declared.Counts.{Counts}
use Rattle.types.specs.declared.Call.{Call}
use Rattle.types.specs.declared.Call.TheVariants as C
use Rattle.meaning.specs.Store.{Store}
use Rattle.meaning.specs.Records.{viewing}
use Rattle.meaning.specs.Calls.{act, act_by}
use Rattle.meaning.specs.Contract.{Does, Formats}
use Rattle.meaning.proofs.Lists.{not_both}
use Rattle.serial.specs.Serializable.{Seq, ε, ◌▸◌, History, Commits, plain_end, State, Run, CommitOrder}
use Rattle.serial.specs.Moments.{Prefix, whole, NewestTo, Saves, NoCommitSince, Stays, Touches, AfterEdit}
use Rattle.serial.proofs.SlotRuns.{by_edit, slot_runs}
use Rattle.serial.proofs.Prefixes.{prefix_before}
use Rattle.serial.proofs.Onward.{prefix_runs}
use Rattle.serial.proofs.Order.{order_exists}
use Rattle.serial.proofs.Moments.{views_one, charts_are_moments, charts_stay, charts_of_reads_stay}
use Rattle.tables.specs.Words.{Lent, lent, decode, sound_words}
use Rattle.history.specs.Heard.{told_value, shown_value, heard, heard_after, history}
use Rattle.history.specs.Words.{Calls, done, then, Listed}
use Rattle.history.specs.StoreWords.{HistoryOn}
use Rattle.history.specs.Charts.{AtMoment, Chart, ViewFits, ViewsFit, ViewGives, ChartStays, ChartOfEdit}
use Rattle.history.specs.Charts.{NoPurgeAbove, WordsGranted, WordsCharts, StoreWordsGranted, StoreWordsCharts}
use Rattle.history.proofs.StoreSlots.{slots}
use Rattle.history.proofs.Viewing.{newest, view_granted, Seen, seen}
use Rattle.history.proofs.Floors.{newest_bound, Low, low_kept, fresh_low}
use Rattle.history.proofs.EveryCall.{call_keeps}
use Rattle.history.proofs.Theorem.{Left, call_left, fresh_left}
use Rattle.history.proofs.OverStore as words

-- the list of what was heard goes on
heard_on : (l : History Val) (ds : List Call) (ps : List Reply) → Prefix l (heard_after l ds ps)
heard_on l [] ps = whole
heard_on l (c ∷ ds) [] = whole
heard_on l (c ∷ ds) (q ∷ ps) = prefix_before (heard_on (l ▸ heard c q) ds ps)

-- what stays of a view of the core, over the values of replies
at_moment : (m : History Val) (r p q : ℕ) (v : Value) (x : Option Val) → v ≡ shown_value x → {M : State Val}
    → Stays m M r p q x → AtMoment m r p q v
at_moment m r p q v x e z =
    record {
      value = λ o a C u. e ∙ ap shown_value (z.value o a C u);
      point = subst (λ (y : Option Val). NewestTo (Saves m r) p q y) (sym (ap told_value e ∙ told_shown x)) z.point;
    }
  where
    told_shown : (y : Option Val) → told_value (shown_value y) ≡ y
    told_shown none = refl
    told_shown (some w) = refl

module _ (Lent : Type 0) (decode : Lent → Store) (sound_lent : Lent → Bool) where
  -- l was heard of the calls that left w
  record Leaves (n : ℕ) (l : History Val) (w : Lent) : Type 1 where
    sound : sound_lent w ≡ true
    left : Left n l (decode w)

  call_leaves : {n : ℕ} {l : History Val} {w w' : Lent} (c : Call) {q : Reply}
      → Does Lent decode sound_lent (act c) w w' q
      → Leaves n l w
      → Leaves n (l ▸ heard c q) w'
  call_leaves {n} {l} {w} {w'} c {q} d h =
      record {
        sound = d.stays h.sound;
        left =
            subst (λ (a : Reply). Left n (l ▸ heard c a) (decode w')) (sym (d.reply h.sound))
            (subst (λ (t : Store). Left n (l ▸ heard c (act c (decode w)).reply) t) (sym (d.store h.sound))
            (call_left c (decode w) h.left));
      }

  calls_leave : {n : ℕ} {l : History Val} {w w' : Lent} {ds : List Call} {ps : List Reply}
      → Calls Lent decode sound_lent w ds ps w'
      → Leaves n l w
      → Leaves n (heard_after l ds ps) w'
  calls_leave done h = h
  calls_leave {l = l} (then {c = c} {q = q} d r) h = calls_leave {l = l ▸ heard c q} r (call_leaves c d h)

  fresh_leaves : (counts : Counts) (w : Lent) → Formats Lent decode sound_lent counts w → Leaves counts.records ε w
  fresh_leaves counts w f =
      record {
        sound = f.stays;
        left =
            subst (λ (t : Store). Left counts.records ε t) (sym f.store) (fresh_left counts f.good);
      }

  list_leaves : {counts : Counts} {cs : List Call} {qs : List Reply} {w : Lent}
      → Listed Lent decode sound_lent counts cs qs w → Leaves counts.records (history cs qs) w
  list_leaves {counts} h = calls_leave h.calls (fresh_leaves counts h.start h.format)

  module _ {n : ℕ} {l : History Val} {w : Lent} (h : Leaves n l w) where
    abbrev state : State Val
    state = by_edit l (slots (decode w))

    runs : Run l state
    runs = slot_runs h.left.runs

    seen_of : (r p q : ℕ) (v : Value) → ViewGives Lent decode sound_lent w r p q v
        → Seen l (decode w) h.left.good r p q v
    seen_of r p q v d = seen l (decode w) h.left.good r p q v (sym (d.reply h.sound))

    chart : (p : ℕ) → Chart l p (λ r q v. ViewGives Lent decode sound_lent w r p q v)
    chart p =
        record {
          has_moment = λ o C. (charts_are_moments Val l state runs o C p).has_moment;
          replies = λ r q v d.
              let s = seen_of r p q v d in
              at_moment l r p q v s.value s.shown
              (charts_stay Val l l state state runs runs whole r p (λ e t x c h w. c) q s.value s.views);
        }

  -- of the calls before, and of those after
  module _ {n : ℕ} {l m : History Val} {w w' : Lent} (h : Leaves n l w) (k : Leaves n m w') (g : Prefix l m) where
    stays : (r p q : ℕ) (v : Value) → ViewGives Lent decode sound_lent w r p q v → NoCommitSince l m r p
        → ChartStays Lent decode sound_lent m w' r p q v
    stays r p q v d none-since =
        let s = seen_of h r p q v d in
        let z =
        charts_stay Val l m (state h) (state k) (runs h) (runs k) g r p none-since q s.value s.views in
        record {
          reply = λ q' v' d'.
              let s' = seen_of k r p q' v' d' in
              let e =
              views_one (runs k) r p q' q s'.value s.value s'.views (z.reply s'.views.granted) in
              let i : q' ≡ q = e.0 in
              let j : v' ≡ v = s'.shown ∙ ap shown_value e.1 ∙ sym s.shown in
              cc;
          moment = at_moment m r p q v s.value s.shown z;
        }

    kept : (e t r : ℕ) → Commits l e t → Touches l e r → ChartOfEdit Lent decode sound_lent l w' e t r
    kept e t r c touch =
        record {
          place = λ o C. (after o C).place;
          values = λ q v d o a C i. value q v d o C a i;
          as_written = λ x i q v d. some_value q v d ∙ ap shown_value (later.as_written x i before there);
          as_read = λ b x i j q v d. some_value q v d ∙ ap shown_value (later.as_read b x i j before there);
        }
      where
        after : (o : Seq ℕ) → CommitOrder l o → AfterEdit l (state k) o e t r
        after o C =
            charts_of_reads_stay Val l m (state h) (state k) (runs h) (runs k) g o C e t r c touch

        value : (q : ℕ) (v : Value) → ViewGives Lent decode sound_lent w' r t q v → (o : Seq ℕ) (C : CommitOrder l o)
            → (a : Seq ℕ) → Prefix (a ▸ e) o
            → v ≡ shown_value (plain_end l (a ▸ e) r)
        value q v d o C a i =
            let s = seen_of k r t q v d in
            s.shown ∙ ap shown_value (((after o C).shows a i).only q s.value s.views)

        -- in some order
        order : (o : Seq ℕ) × CommitOrder l o
        order = order_exists Val l (state h) (runs h)

        later : AfterEdit l (state k) order.0 e t r
        later = after order.0 order.1

        before : Seq ℕ
        before = later.place.0

        there : Prefix (before ▸ e) order.0
        there = later.place.1

        some_value : (q : ℕ) (v : Value) → ViewGives Lent decode sound_lent w' r t q v
            → v ≡ shown_value (plain_end l (before ▸ e) r)
        some_value q v d = value q v d order.0 order.1 before there

  -- every View of a list, on what the calls before it left
  views_fit : {n : ℕ} {l end : History Val} {w w' : Lent} {E : State Val} {ds : List Call} {ps : List Reply}
      → Calls Lent decode sound_lent w ds ps w'
      → Leaves n l w → Run end E
      → ViewsFit l end ds ps
  unfolding act_by
  views_fit done h e = tt
  views_fit {l = l} {end = end} (then {w = w} {c = c} {q = q} d r) h e =
      (fits, views_fit {l = l ▸ heard c q} r (call_leaves c d h) e)
    where
      fits : ViewFits l end c q
      fits r p i v a b m g f none-since =
          let reply : (viewing r p.0 (decode w)).reply ≡ at i v
          = ap (λ (z : Call). (act z (decode w)).reply) (sym a) ∙ sym (d.reply h.sound) ∙ b in
          let s = seen l (decode w) h.left.good r p.0 i v reply in
          let z = prefix_runs e f in
          at_moment m r p.0 i v s.value s.shown
          (charts_stay Val l m (state h) z.0 (runs h) z.1 g r p.0 none-since i s.value s.views)

  -- no Purge raises the floor of r above p
  calls_low : {n : ℕ} {l : History Val} {w w' : Lent} {ds : List Call} {ps : List Reply} (r p : ℕ)
      → Calls Lent decode sound_lent w ds ps w'
      → Leaves n l w → NoPurgeAbove ds r p
      → Low r p (decode w)
      → Low r p (decode w')
  calls_low r p done h purges low = low
  calls_low {l = l} r p (then {w = w} {c = c} {q = q} d rest) h purges low =
      calls_low {l = l ▸ heard c q} r p rest (call_leaves c d h) (λ b m. purges b (Memᴰ.tail m))
      (subst (λ (t : Store). Low r p t) (sym (d.store h.sound))
      (call_keeps (low_kept r p) c (decode w)
      (λ i b e q.
      let z : C.Purge r b ≡ c = sym (e ∙ ap (λ (j : ℕ). C.Purge j b) q) in
      omega (arith, purges b (Memᴰ.head z), newest_bound (decode w) h.left.good i b.0))
      low))

  pub words_granted : WordsGranted Lent decode sound_lent
  words_granted counts cs qs w h r p inside high purges a shows =
      let k = list_leaves h in
      let low =
      calls_low r p h.calls (fresh_leaves counts h.start h.format) purges
      (subst (λ (t : Store). Low r p t) (sym h.format.store) (fresh_low r p counts)) in
      let n = newest (decode w) r p in (
        n.point,
        n.value,
        shows.reply k.sound
            ∙ view_granted (decode w) r p (omega (arith, inside, k.left.count)) high low,
      )

  pub words_charts : WordsCharts Lent decode sound_lent
  words_charts counts cs qs w h ds ps w' c =
      let a = list_leaves h in
      let b = calls_leave c a in
      let g = heard_on (history cs qs) ds ps in
      record { moment = chart a; views = views_fit c a (runs b); stays = stays a b g; kept = kept a b g }

pub store_words_granted : StoreWordsGranted
store_words_granted counts cs qs w h =
    words_granted Lent decode sound_words counts cs qs (lent w) (words.listed counts cs qs w h)

pub store_words_charts : StoreWordsCharts
store_words_charts counts cs qs w h ds ps w' =
    words_charts Lent decode sound_words counts cs qs (lent w) (words.listed counts cs qs w h) ds ps (lent w')

-- a chart by whatever replies of sound words as View does
pub store_words_chart : {counts : Counts} {cs : List Call} {qs : List Reply} {w : List ℕ} → HistoryOn counts cs qs w
    → (p : ℕ) (shown : ℕ → ℕ → Value → Type 0)
    → (sound_words (lent w) ≡ true
    → (r q : ℕ) (v : Value) → shown r q v → (viewing r p (decode (lent w))).reply ≡ at q v)
    → Chart (history cs qs) p shown
store_words_chart {counts} {cs} {qs} {w} h p shown as_view =
    let c = (store_words_charts counts cs qs w h [] [] w done).moment p in
    record { has_moment = c.has_moment; replies = λ r q v s. c.replies r q v (viewed r q v (as_view sound r q v s)) }
  where
    sound : sound_words (lent w) ≡ true
    sound = (list_leaves Lent decode sound_words (words.listed counts cs qs w h)).sound

    viewed : (r q : ℕ) (v : Value) → (viewing r p (decode (lent w))).reply ≡ at q v
        → ViewGives Lent decode sound_words (lent w) r p q v
    viewed r q v e = record { unsound = λ f. absurd (not_both sound f); reply = λ f. sym e }
