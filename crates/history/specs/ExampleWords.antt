-- The histories of Examples over words: the session of document 01 in its 118 words, and two edits that commit at one
-- point, in 73. The words were taken from a run of the store; that they keep its contracts is proved in
-- proofs/ExampleWords, where the theorems have the same names. Rests on StoreWords, WordSteps and Examples.
use Rattle.std.specs.Prelude.{ℕ, ◌≡◌, ◌⊎◌, List, [], ◌∷◌, length, Some, None}
use Rattle.std.proofs.Math.Option.{Option, some, none}
use Rattle.types.specs.Limits.{LAST}
use Rattle.types.specs.Values.{Val}
use Rattle.types.specs.Replies.{ok, edit, locked, read, commit, purged, at, refusing}
use Rattle.meaning.specs.Records.{viewing}
use Rattle.meaning.specs.Contract.{Shows}
use Rattle.meaning.specs.Session.{session_replies}
use Rattle.types.specs.declared.Counts.{Counts}
use Rattle.types.specs.declared.Extent.TheVariants.{All, Part}
use Rattle.types.specs.declared.Pick.TheVariants.{Earliest, Latest, Named}
use Rattle.types.specs.declared.Finish.TheVariants.{Settle}
use Rattle.types.specs.declared.Call.TheVariants as C
use Rattle.serial.specs.Serializable.{Seq, ε, ◌▸◌, History, plain_end, CommitOrder}
use Rattle.tables.specs.Words.{Lent, lent, decode, sound_words}
use Rattle.format.specs.Format.{formatted_words}
use Rattle.history.specs.Heard.{shown_value, history}
use Rattle.history.specs.Words.{SerialWords}
use Rattle.history.specs.StoreWords.{HistoryOn}
use Rattle.history.specs.WordSteps.{Step, step, calls_of, replies_of, end_of}
use Rattle.history.specs.Examples.{commits_of, session_counts, session_calls, on, to, equal_counts, equal_calls}

module _ (counts : Counts) (steps : List Step) where
  -- what the plain run hears of the steps, and the words after them
  abbrev pub heard_of : History Val
  heard_of = history (calls_of steps) (replies_of steps)

  abbrev pub words_of : List ℕ
  words_of = end_of steps (formatted_words counts)

  -- the steps are a history in every slice of n words, whatever it held
  pub record InWords (n : ℕ) : Type 0 where
    pub size : length words_of ≡ n
    pub from : (w : List ℕ) → length w ≡ n
        → (h : HistoryOn counts (calls_of steps) (replies_of steps) words_of) × (h.before ≡ w)

  -- what the claim says of an order of its committed edits
  pub record SerialIn (o : Seq ℕ) : Type 0 where
    pub order : CommitOrder heard_of o
    pub serial : SerialWords Lent decode sound_words counts.records heard_of (lent words_of) o

  -- the plain run ends with the value x of record r, and View at LAST replies it, with the point p
  pub record EndsWith (o : Seq ℕ) (r : ℕ) (x : Option Val) (p : ℕ) : Type 0 where
    pub plain : plain_end heard_of o r ≡ x
    pub view : Shows Lent decode sound_words (viewing r LAST) (lent words_of) (at p (shown_value x))

-- the session's calls with their replies and the words that they change: the header from 0, records from 8, slots from
-- 14, versions from 22, locks from 38, accesses from 78
unfoldable pub session_steps : List Step
session_steps =
    step C.Begin (edit 65) ((14, 1) ∷ (15, 1) ∷ [])
    ∷ step C.Begin (edit 66) ((18, 1) ∷ (19, 1) ∷ [])
    ∷ step (C.Read (on 65) 0 (to 6) All) (read 0 6 None)
    ((6, 2) ∷ (7, 2) ∷ (9, 1) ∷ (16, 1) ∷ (38, 1) ∷ (39, 6) ∷ (40, 5) ∷ (42, 0) ∷ (79, 1) ∷ (82, 0) ∷ [])
    ∷ step (C.Lock (on 66) 0 (to 4) (to 9) Part) (locked 7 9)
    ((6, 3) ∷ (42, 2) ∷ (43, 7) ∷ (44, 9) ∷ (45, 10) ∷ (47, 0) ∷ [])
    ∷ step (C.Write (on 66) 0 501) ok ((7, 3) ∷ (20, 2) ∷ (85, 1) ∷ (86, 501) ∷ (87, 0) ∷ [])
    ∷ step (C.Commit (on 66) Earliest Settle) (commit 7)
    ((5, 2) ∷ (7, 2) ∷ (8, 1) ∷ (18, 0) ∷ (20, 0) ∷ (22, 7) ∷ (23, 501) ∷ (25, 0) ∷ (44, 7) ∷ (45, 2) ∷ (87, 3)
    ∷ [])
    ∷ step (C.Commit (on 65) Latest Settle) (commit 6)
    ((7, 1) ∷ (14, 0) ∷ (16, 0) ∷ (40, 1) ∷ (82, 2) ∷ [])
    ∷ step C.Begin (edit 129) ((14, 1) ∷ (15, 2) ∷ [])
    ∷ step (C.Read (on 129) 0 (to 9) All) (read 7 9 (Some 501))
    ((6, 4) ∷ (7, 2) ∷ (16, 1) ∷ (47, 3) ∷ (48, 8) ∷ (49, 9) ∷ (50, 5) ∷ (52, 0) ∷ (79, 8) ∷ (82, 0) ∷ [])
    ∷ step (C.Lock (on 129) 0 (to 3) (to 3) All) (refusing 9 []) []
    ∷ step (C.Purge 0 (to 8)) (purged 0 2)
    ((6, 2) ∷ (9, 3) ∷ (10, 7) ∷ (38, 8) ∷ (42, 4) ∷ (43, 8) ∷ (47, 1) ∷ [])
    ∷ step (C.Read (on 65) 0 (to 6) All) (refusing 2 []) []
    ∷ []

-- the session after its Format
pub record SessionOnWords : Type 0 where
  pub calls : calls_of session_steps ≡ session_calls
  pub replies : ok ∷ replies_of session_steps ≡ session_replies
  pub words : InWords session_counts session_steps 118

-- edit 2 commits at 7 and then edit 1 at 6: the only order has edit 1 first
pub record SessionWordsSerial : Type 0 where
  pub commits : commits_of (heard_of session_counts session_steps) ≡ ε ▸ (2, 7) ▸ (1, 6)
  pub serial : SerialIn session_counts session_steps (ε ▸ 1 ▸ 2)
  pub only : (o : Seq ℕ) → CommitOrder (heard_of session_counts session_steps) o → o ≡ ε ▸ 1 ▸ 2
  pub first : EndsWith session_counts session_steps (ε ▸ 1 ▸ 2) 0 (some 501) 7
  pub second : EndsWith session_counts session_steps (ε ▸ 1 ▸ 2) 1 none 0

-- two edits read record 0 up to 5, write a record each, and commit at 5: records from 8, slots from 17, versions from
-- 25, locks from 33, accesses from 53
unfoldable pub equal_steps : List Step
equal_steps =
    step C.Begin (edit 65) ((17, 1) ∷ (18, 1) ∷ [])
    ∷ step C.Begin (edit 66) ((21, 1) ∷ (22, 1) ∷ [])
    ∷ step (C.Read (on 65) 0 (to 5) All) (read 0 5 None)
    ((6, 2) ∷ (7, 2) ∷ (9, 1) ∷ (19, 1) ∷ (33, 1) ∷ (34, 5) ∷ (35, 5) ∷ (37, 0) ∷ (54, 1) ∷ (57, 0) ∷ [])
    ∷ step (C.Read (on 66) 0 (to 5) All) (read 0 5 None)
    ((6, 3) ∷ (7, 3) ∷ (9, 2) ∷ (23, 2) ∷ (38, 1) ∷ (39, 5) ∷ (40, 9) ∷ (42, 1) ∷ (59, 1) ∷ (62, 0) ∷ [])
    ∷ step (C.Lock (on 65) 1 (to 5) (to 5) All) (locked 5 5)
    ((6, 4) ∷ (12, 3) ∷ (43, 5) ∷ (44, 5) ∷ (45, 6) ∷ (46, 1) ∷ (47, 0) ∷ [])
    ∷ step (C.Lock (on 66) 2 (to 5) (to 5) All) (locked 5 5)
    ((6, 0) ∷ (15, 4) ∷ (48, 5) ∷ (49, 5) ∷ (50, 10) ∷ (51, 2) ∷ [])
    ∷ step (C.Write (on 65) 1 10) ok ((7, 4) ∷ (19, 3) ∷ (63, 1) ∷ (65, 1) ∷ (66, 10) ∷ (67, 1) ∷ [])
    ∷ step (C.Write (on 66) 2 20) ok ((7, 0) ∷ (23, 4) ∷ (68, 2) ∷ (70, 1) ∷ (71, 20) ∷ (72, 2) ∷ [])
    ∷ step (C.Commit (on 65) (Named (to 5)) Settle) (commit 5)
    ((5, 2) ∷ (7, 1) ∷ (9, 1) ∷ (11, 1) ∷ (17, 0) ∷ (19, 0) ∷ (25, 5) ∷ (26, 10) ∷ (28, 0) ∷ (35, 1) ∷ (37, 2)
    ∷ (42, 0) ∷ (45, 2) ∷ (57, 3) ∷ (67, 0) ∷ [])
    ∷ step (C.Commit (on 66) (Named (to 5)) Settle) (commit 5)
    ((5, 0) ∷ (6, 2) ∷ (7, 2) ∷ (14, 2) ∷ (21, 0) ∷ (23, 0) ∷ (29, 5) ∷ (30, 20) ∷ (37, 0) ∷ (50, 2) ∷ (62, 4)
    ∷ (72, 1) ∷ [])
    ∷ []

pub record EqualOnWords : Type 0 where
  pub calls : calls_of equal_steps ≡ equal_calls
  pub words : InWords equal_counts equal_steps 73

pub record EqualIn (o : Seq ℕ) : Type 0 where
  pub serial : SerialIn equal_counts equal_steps o
  pub first : EndsWith equal_counts equal_steps o 0 none 0
  pub second : EndsWith equal_counts equal_steps o 1 (some 10) 5
  pub third : EndsWith equal_counts equal_steps o 2 (some 20) 5

-- there are two orders, and both end with the same values
pub record EqualWordsSerial : Type 0 where
  pub commits : commits_of (heard_of equal_counts equal_steps) ≡ ε ▸ (1, 5) ▸ (2, 5)
  pub as_begun : EqualIn (ε ▸ 1 ▸ 2)
  pub reversed : EqualIn (ε ▸ 2 ▸ 1)
  pub only : (o : Seq ℕ) → CommitOrder (heard_of equal_counts equal_steps) o → (o ≡ ε ▸ 1 ▸ 2) ⊎ (o ≡ ε ▸ 2 ▸ 1)
