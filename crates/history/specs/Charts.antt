-- A chart is one moment of the plan: what View replies, on what a list of calls left, beside the plain run of that
-- list, over what the store is lent and over its words. The premises are those of demand 3 (Words, StoreWords), and the
-- contract of View, Shows of `meaning`, which the chart reader, `views` and the batch keep too. Sentences in quotes are
-- document 01's. The theorems are in proofs/Charts, under the same names. Rests on Heard, Words and StoreWords, on
-- Serializable and Moments of `serial`.
use Rattle.std.specs.Prelude.{ℕ, ◌≤◌, ◌<◌, ◌≡◌, Bool, List, [], ◌∷◌}
use Rattle.std.proofs.Math.Option.{Option, some, none}
use Rattle.types.specs.Limits.{LAST}
use Rattle.types.specs.Values.{Val}
use Rattle.types.specs.Replies.{Reply, at}
use Rattle.types.specs.Values.{Value}
use Rattle.types.specs.declared.Counts.{Counts}
use Rattle.types.specs.declared.Point.{Point}
use Rattle.types.specs.declared.Call.{Call}
use Rattle.types.specs.declared.Call.TheVariants as C
use Rattle.meaning.specs.Lists as lists
use Rattle.meaning.specs.Store.{Store}
use Rattle.meaning.specs.Records.{viewing}
use Rattle.meaning.specs.Contract.{Shows}
use Rattle.serial.specs.Serializable.{Seq, ◌▸◌, ◌∈◌, ReadReply, read, History, calls_of, Commits, plain_end, pending}
use Rattle.serial.specs.Serializable.{CommitOrder}
use Rattle.serial.specs.Moments.{Prefix, Moment, NewestTo, Saves, NoCommitSince, Touches}
use Rattle.tables.specs.Words.{Lent, lent, decode, sound_words}
use Rattle.history.specs.Heard.{told_value, shown_value, heard, heard_after, history}
use Rattle.history.specs.Words.{Calls, Listed}
use Rattle.history.specs.StoreWords.{HistoryOn}

-- A reply `at q v` to View of r at p, beside the plain run of l: v is its value after exactly the edits that committed
-- at or below p, that is, in every order, after its moment p, "never written included"; q is the greatest commit point
-- at or below p of an edit that wrote r, or 0
pub record AtMoment (l : History Val) (r p q : ℕ) (v : Value) : Type 0 where
  pub value : (o a : Seq ℕ) → CommitOrder l o → Moment l p o a → v ≡ shown_value (plain_end l a r)
  pub point : NewestTo (Saves l r) p q (told_value v)

-- v is the value of r in the plain run of l right after the edit e, in every order
abbrev pub RightAfter : History Val → ℕ → ℕ → Value → Type 0
RightAfter l r e v = (o a : Seq ℕ) → CommitOrder l o → Prefix (a ▸ e) o → v ≡ shown_value (plain_end l (a ▸ e) r)

-- A chart at p, by whatever shows `at q v` of records r when l has been heard: every order has its moment p, and all
-- that is shown is of it. So the records of a chart are of one state of the plain run
pub record Chart (l : History Val) (p : ℕ) (shown : ℕ → ℕ → Value → Type 0) : Type 0 where
  pub has_moment : (o : Seq ℕ) → CommitOrder l o → (a : Seq ℕ) × Moment l p o a
  pub replies : (r q : ℕ) (v : Value) → shown r q v → AtMoment l r p q v

-- A View among the calls of a list, when l had been heard; at the end of the list it is `end`. What it replied is of
-- the moment p of what had been heard then, or at any later time of the list, m, as long as no edit that wrote the
-- record committed at or below p in between. So all Views at p are of one state, if nobody commits there among them
abbrev pub ViewFits : History Val → History Val → Call → Reply → Type 0
ViewFits l end c a = (r : ℕ) (p : Point) (q : ℕ) (v : Value) → c ≡ C.View r p → a ≡ at q v
    → (m : History Val) → Prefix l m → Prefix m end → NoCommitSince l m r p.0
    → AtMoment m r p.0 q v

-- every View of the list
abbrev pub ViewsFit : History Val → History Val → List Call → List Reply → Type 0
ViewsFit l end [] qs = Unit {0}
ViewsFit l end (c ∷ cs) [] = Unit {0}
ViewsFit l end (c ∷ cs) (q ∷ qs) = ViewFits l end c q × ViewsFit (l ▸ heard c q) end cs qs

-- no Purge of r among the calls was to a point above p
abbrev pub NoPurgeAbove : List Call → ℕ → ℕ → Type 0
NoPurgeAbove cs r p = (b : Point) → lists.◌∈◌ (C.Purge r b) cs → b.0 ≤ p

module _ (Lent : Type 0) (decode : Lent → Store) (sound_lent : Lent → Bool) where
  -- "View a record at p", asked of what is lent, was granted and replied `at q v`
  abbrev pub ViewGives : Lent → ℕ → ℕ → ℕ → Value → Type 0
  ViewGives w r p q v = Shows Lent decode sound_lent (viewing r p) w (at q v)

  -- A reply `at q v` of View of r at p, when the list has come to m and left w: View still gives it wherever it is
  -- granted, and granted or not it is of the moment p of m
  pub record ChartStays (m : History Val) (w : Lent) (r p q : ℕ) (v : Value) : Type 0 where
    pub reply : (q' : ℕ) (v' : Value) → ViewGives w r p q' v' → ◌≡◌ {A = Reply} (at q' v') (at q v)
    pub moment : AtMoment m r p q v

  -- A chart of a record r that the edit e, which committed at t, has read or written: e has its place in every order,
  -- and View of r at t replies what the plain run has right after e, which is what e wrote last, or else what e read
  pub record ChartOfEdit (l : History Val) (w : Lent) (e t r : ℕ) : Type 0 where
    pub place : (o : Seq ℕ) → CommitOrder l o → (a : Seq ℕ) × Prefix (a ▸ e) o
    pub values : (q : ℕ) (v : Value) → ViewGives w r t q v → RightAfter l r e v
    pub as_written : (x : Val) → pending (calls_of l e) r ≡ some x
        → (q : ℕ) (v : Value) → ViewGives w r t q v → v ≡ shown_value (some x)
    pub as_read : (b : ReadReply) (x : Option Val) → read r b x ∈ calls_of l e → pending (calls_of l e) r ≡ none
        → (q : ℕ) (v : Value) → ViewGives w r t q v → v ≡ shown_value x

  -- What is promised of charts: l was heard of the calls that left w, and further calls ds with the replies ps left w'
  pub record Charts (l : History Val) (w : Lent) (ds : List Call) (ps : List Reply) (w' : Lent) : Type 0 where
    -- the moment
    pub moment : (p : ℕ) → Chart l p (λ r q v. ViewGives w r p q v)
    -- the same of every View among the calls ds
    pub views : ViewsFit l (heard_after l ds ps) ds ps
    -- it stays, as long as no edit that wrote the record commits at or below p
    pub stays : (r p q : ℕ) (v : Value) → ViewGives w r p q v → NoCommitSince l (heard_after l ds ps) r p
        → ChartStays (heard_after l ds ps) w' r p q v
    -- a chart that nobody can change, then or later, whatever else commits at t
    pub kept : (e t r : ℕ) → Commits l e t → Touches l e r → ChartOfEdit l w' e t r

  abbrev pub WordsCharts : Type 0
  WordsCharts = (counts : Counts) (cs : List Call) (qs : List Reply) (w : Lent)
      → Listed Lent decode sound_lent counts cs qs w
      → (ds : List Call) (ps : List Reply) (w' : Lent) → Calls Lent decode sound_lent w ds ps w'
      → Charts (history cs qs) w ds ps w'

  -- When View is granted, of what the calls cs left: of an existing record, at a point at or below LAST, if no Purge
  -- among the calls was of that record to a point above it
  abbrev pub Granted : ℕ → List Call → Lent → Type 0
  Granted records cs w = (r p : ℕ) → r < records → p ≤ LAST → NoPurgeAbove cs r p
      → (a : Reply) → Shows Lent decode sound_lent (viewing r p) w a
      → (q : ℕ) × (v : Value) × (a ≡ at q v)

  abbrev pub WordsGranted : Type 0
  WordsGranted = (counts : Counts) (cs : List Call) (qs : List Reply) (w : Lent)
      → Listed Lent decode sound_lent counts cs qs w → Granted counts.records cs w

-- The same over the words of the store: cs from a Format that replied `ok`, and then ds
abbrev pub StoreWordsCharts : Type 0
StoreWordsCharts = (counts : Counts) (cs : List Call) (qs : List Reply) (w : List ℕ) → HistoryOn counts cs qs w
    → (ds : List Call) (ps : List Reply) (w' : List ℕ) → Calls Lent decode sound_words (lent w) ds ps (lent w')
    → Charts Lent decode sound_words (history cs qs) (lent w) ds ps (lent w')

abbrev pub StoreWordsGranted : Type 0
StoreWordsGranted = (counts : Counts) (cs : List Call) (qs : List Reply) (w : List ℕ) → HistoryOn counts cs qs w
    → Granted Lent decode sound_words counts.records cs (lent w)
