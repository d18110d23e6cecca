-- The laws of the desk, as statements: the order of its own refusals, that a refusal changes nothing, and, point by
-- point, what becomes of the interval. The theorem of each is in proofs/Laws, under the same name. Rests on Desk.
use Rattle.std.specs.Prelude.{ℕ, ◌+◌, ◌≤◌, ◌<◌, ◌≡◌, ◌⊎◌, true, false, List, []}
use Rattle.types.specs.Limits.{LAST}
use Rattle.types.specs.Values.{Val}
use Rattle.types.specs.Replies.{Reply, ok, edit, locked, read, own, again, commit, nopoint, refusing, refused}
use Rattle.types.specs.declared.Extent.TheVariants.{Part}
use Rattle.types.specs.declared.Finish.TheVariants.{Settle}
use Rattle.types.specs.declared.Pick.TheVariants.{Named}
use Rattle.types.specs.Values.{Value}
use Rattle.meaning.specs.Store.{Store}
use Rattle.meaning.specs.Outcomes.{Outcome, knows}
use Rattle.meaning.specs.Edits.{beginning, writing}
use Rattle.meaning.specs.Locking.{locking, reading}
use Rattle.meaning.specs.Ending.{committing, aborting}
use Rattle.meaning.specs.Sound.{sound_store}
use Rattle.tables.specs.Words.{lent, sound_words}
use Rattle.store.specs.Promises.{Does}
use Rattle.layers.specs.Programs.{Played, play, denied}
use Rattle.layers.specs.Serial.{Layer}
use Rattle.desk.specs.Replies.{Opening, opened, declined, told, emptied, After, says}
use Rattle.desk.specs.Desk.{ended, between, named, good_start, desk_open, desk_read, desk_write, desk_commit}
use Rattle.desk.specs.Desk.{DeskCall, program}
use Rattle.desk.specs.Desk as D
use Rattle.desk.specs.declared.Setting.{Setting}
use Rattle.desk.specs.declared.Setting.TheVariants.{Earliest, Latest}
use Rattle.desk.specs.declared.Session.{Session}

-- Intervals, point by point.

-- p is a point of the session's interval
pub record Has (s : Session) (p : ℕ) : Type 0 where
  pub from : s.low.0 ≤ p
  pub upto : p ≤ s.high.0

-- the points of the session are those of which P holds
pub record HasJust (s : Session) (P : ℕ → Type 0) : Type 0 where
  pub all : (p : ℕ) → P p → Has s p
  pub only : (p : ℕ) → Has s p → P p

-- a session has ended exactly if it has no point
pub record EndedHasNone (s : Session) : Type 0 where
  pub none : ended s ≡ true → (p : ℕ) → Has s p → ⊥
  pub some : ended s ≡ false → (p : ℕ) × Has s p

abbrev pub EndedIsEmpty : Type 0
EndedIsEmpty = (s : Session) → EndedHasNone s

-- what a call leaves of a session: all but the interval
pub record Same (s s' : Session) : Type 0 where
  pub handle : s'.handle ≡ s.handle
  pub width : s'.width ≡ s.width
  pub setting : s'.setting ≡ s.setting

abbrev pub OnlyTheInterval : Type 0
OnlyTheInterval = (c : DeskCall) (s : Session) (t : Store) → Same s (play (program c s) t).told.session

-- Refusals.

-- 1 comes first, whatever the session, or the start
abbrev pub UnsoundSaysOne : Type 0
UnsoundSaysOne = (c : DeskCall) (s : Session) → denied (program c s) ≡ says s (refusing 1 [])

abbrev pub UnsoundOpensNone : Type 0
UnsoundOpensNone = (t width : ℕ) (setting : Setting) → denied (desk_open t width setting) ≡ declined (refusing 1 [])

-- an answer that leaves the store as it is
abbrev pub unchanged : {A : Type 0} → A → Store → Played A
unchanged a t = record { told = a; store = t }

-- "an ended session gives 3, after 1"
abbrev pub EndedSaysThree : Type 0
EndedSaysThree = (c : DeskCall) (s : Session) (t : Store) → ended s ≡ true
    → play (program c s) t ≡ unchanged (says s (refusing 3 [])) t

-- "A store's refusal is passed on": that of the call which the desk makes first
abbrev pub first : DeskCall → Session → Store → Outcome
first (D.read rec) s t = reading s.handle.0 rec s.high.0 Part t
first (D.write rec v) s t = locking s.handle.0 rec s.low.0 s.high.0 Part t
first D.commit s t = committing s.handle.0 (Named (named s)) Settle t

abbrev pub RefusalIsPassedOn : Type 0
RefusalIsPassedOn = (c : DeskCall) (s : Session) (t : Store) (n : ℕ) (more : List ℕ) → ended s ≡ false
    → (first c s t).reply ≡ refusing n more
    → (play (program c s) t).told ≡ says s (refusing n more)

-- "All memory stays the same", the session too
abbrev pub OpenRefusalKeeps : Type 0
OpenRefusalKeeps = (t width : ℕ) (setting : Setting) (w w' : List ℕ) (n : ℕ) (more : List ℕ)
    → Layer (desk_open t width setting) w w' (declined (refusing n more)) → lent w' ≡ lent w

abbrev pub ReadRefusalKeeps : Type 0
ReadRefusalKeeps = (s s' : Session) (rec : ℕ) (w w' : List ℕ) (n : ℕ) (more : List ℕ)
    → Layer (desk_read s rec) w w' (says s' (refusing n more)) → (lent w' ≡ lent w) × (s ≡ s')

abbrev pub CommitRefusalKeeps : Type 0
CommitRefusalKeeps = (s s' : Session) (w w' : List ℕ) (n : ℕ) (more : List ℕ)
    → Layer (desk_commit s) w w' (says s' (refusing n more)) → (lent w' ≡ lent w) × (s ≡ s')

-- "where a write's lock was granted and its value met 10, lock and shrunken interval remain"
pub record LockRemains (s s' : Session) (rec : ℕ) (w w' : List ℕ) (n : ℕ) : Type 0 where
  pub low : ℕ
  pub high : ℕ
  pub lock : Does (locking s.handle.0 rec s.low.0 s.high.0 Part) w w' (locked low high)
  pub interval : between s low high ≡ s'
  pub ten : sound_words (lent w) ≡ true → n ≡ 10

abbrev pub WriteRefusalKeeps : Type 0
WriteRefusalKeeps = (s s' : Session) (rec : ℕ) (v : Val) (w w' : List ℕ) (n : ℕ) (more : List ℕ)
    → Layer (desk_write s rec v) w w' (says s' (refusing n more))
    → ((lent w' ≡ lent w) × (s ≡ s')) ⊎ LockRemains s s' rec w w' n

-- Opening.

-- "t 0, or t + width above LAST, is 6"
pub record StartIs (t width : ℕ) : Type 0 where
  pub good : 1 ≤ t → t + width ≤ LAST → good_start t width ≡ true
  pub zero : t ≡ 0 → good_start t width ≡ false
  pub above : LAST < t + width → good_start t width ≡ false

abbrev pub GoodStartIs : Type 0
GoodStartIs = (t width : ℕ) → StartIs t width

-- a bad start: what Begin would be refused with, 13, and else 6; nothing changes
pub record BadStart (begun : Outcome) (s : Store) (o : Played Opening) : Type 0 where
  pub refusal : (n : ℕ) (more : List ℕ) → begun.reply ≡ refusing n more → o ≡ unchanged (declined (refusing n more)) s
  pub six : (h : ℕ) → begun.reply ≡ edit h → o ≡ unchanged (declined (refusing 6 [])) s

abbrev pub BadStartOrder : Type 0
BadStartOrder = (t width : ℕ) (setting : Setting) (s : Store) → good_start t width ≡ false
    → BadStart (beginning s) s (play (desk_open t width setting) s)

-- a good one: what Begin does and replies; "A desk edit has a working interval t to t + width"
pub record OpensAt (t wide : ℕ) (chosen : Setting) (h : ℕ) (s : Session) : Type 0 where
  pub handle : s.handle.0 ≡ h
  pub interval : HasJust s (λ p. (t ≤ p) × (p ≤ t + wide))
  pub width : s.width ≡ wide
  pub setting : s.setting ≡ chosen

pub record GoodStart (t width : ℕ) (setting : Setting) (begun : Outcome) (o : Played Opening) : Type 0 where
  pub store : o.store ≡ begun.store
  pub edit : (h : ℕ) → begun.reply ≡ edit h → (s : Session) × (o.told ≡ opened s) × OpensAt t width setting h s
  pub refusal : (n : ℕ) (more : List ℕ) → begun.reply ≡ refusing n more → o.told ≡ declined (refusing n more)

abbrev pub GoodStartOpens : Type 0
GoodStartOpens = (t width : ℕ) (setting : Setting) (s : Store) → good_start t width ≡ true
    → GoodStart t width setting (beginning s) (play (desk_open t width setting) s)

-- Read.

-- "The interval shrinks to what was granted: for a read, the part of it within the lock"; "Left empty, ... the desk is
-- told": emptied exactly if no point is left
pub record ReadLeaves (s : Session) (tr end : ℕ) (q : Reply) (a : After) : Type 0 where
  pub interval : HasJust a.session (λ p. Has s p × (tr < p) × (p ≤ end))
  pub left : (p : ℕ) → Has a.session p → a.report ≡ told q
  pub none : ((p : ℕ) → Has a.session p → ⊥) → a.report ≡ emptied

abbrev pub ReadShrinks : Type 0
ReadShrinks = (s : Session) (rec tr end : ℕ) (v : Value) (t : Store) → ended s ≡ false
    → (first (D.read rec) s t).reply ≡ read tr end v
    → ReadLeaves s tr end (read tr end v) (play (desk_read s rec) t).told

-- "an own or repeated read leaves it"
abbrev pub OwnAndAgainLeave : Type 0
OwnAndAgainLeave = (s : Session) (rec : ℕ) (t : Store) (q : Reply) → ended s ≡ false
    → (first (D.read rec) s t).reply ≡ q
    → ((v : Val) × (q ≡ own v)) ⊎ ((tr : ℕ) × (v : Value) × (q ≡ again tr v))
    → (play (desk_read s rec) t).told ≡ says s q

-- "Left empty, it aborts and settles the edit": the abort is granted, on the store that the read left, and the handle
-- names no edit then
pub record Aborted (h : ℕ) (read : Store) (after : Store) : Type 0 where
  pub granted : (aborting h Settle read).reply ≡ ok
  pub store : after ≡ (aborting h Settle read).store
  pub unknown : knows after h ≡ false

abbrev pub EmptiedIsAborted : Type 0
EmptiedIsAborted = (s : Session) (rec : ℕ) (t : Store) → (play (desk_read s rec) t).told.report ≡ emptied
    → Aborted s.handle.0 (first (D.read rec) s t).store (play (desk_read s rec) t).store

-- Write.

-- "The interval shrinks to what was granted": to the points locked, which lie inside it and are never none
pub record Inside (s' s : Session) : Type 0 where
  pub within : (p : ℕ) → Has s' p → Has s p
  pub some : (p : ℕ) × Has s' p

abbrev pub WriteShrinks : Type 0
WriteShrinks = (s : Session) (rec low high : ℕ) (v : Val) (t : Store) → sound_store t ≡ true → ended s ≡ false
    → (first (D.write rec v) s t).reply ≡ locked low high
    → HasJust (play (desk_write s rec v) t).told.session (λ p. (low ≤ p) × (p ≤ high))
    × Inside (play (desk_write s rec v) t).told.session s

-- "and then stores the value": what Write does and replies, on the store that the lock left
abbrev pub WriteStores : Type 0
WriteStores = (s : Session) (rec low high : ℕ) (v : Val) (t : Store) → ended s ≡ false
    → (first (D.write rec v) s t).reply ≡ locked low high
    → ((play (desk_write s rec v) t).told.report ≡ told (writing s.handle.0 rec v (first (D.write rec v) s t
    ).store).reply)
    × ((play (desk_write s rec v) t).store ≡ (writing s.handle.0 rec v (first (D.write rec v) s t).store).store)

-- Commit.

-- "Commit names the earliest or the latest point of the interval left, by a setting"
pub record CommitsAt (s : Session) (p : ℕ) : Type 0 where
  pub point : Has s p
  pub earliest : s.setting ≡ Earliest → (x : ℕ) → Has s x → p ≤ x
  pub latest : s.setting ≡ Latest → (x : ℕ) → Has s x → x ≤ p

abbrev pub CommitNames : Type 0
CommitNames = (s : Session) (t : Store) (p : ℕ) → (play (desk_commit s) t).told.report ≡ told (commit p)
    → CommitsAt s p

-- "and settles": unless it is refused, with a point or none, the session has ended and its handle names no edit
pub record Settled (s : Session) (q : Reply) (o : Played After) : Type 0 where
  pub replied : (q ≡ nopoint) ⊎ ((p : ℕ) × (q ≡ commit p))
  pub over : ended o.told.session ≡ true
  pub unknown : knows o.store s.handle.0 ≡ false

abbrev pub CommitSettles : Type 0
CommitSettles = (s : Session) (t : Store) (q : Reply) → (play (desk_commit s) t).told.report ≡ told q
    → refused q ≡ false
    → Settled s q (play (desk_commit s) t)
