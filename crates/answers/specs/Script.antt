-- What a line of a script prints and what the program has after it: "Before the first F that succeeds every other call
-- prints `no 1`; a refused F keeps the earlier store". Rests on the calls of meaning, the words of tables,
-- `format_room`, `fields` and `replies`.
use Rattle.std.specs.Prelude.{ℕ, ◌≤◌, ◌≡◌, Bool, true, false, List, [], length, take, Some, None}
use Rattle.meaning.specs.Store.{Store, fresh}
use Rattle.meaning.specs.Calls.{act}
use Rattle.types.specs.declared.Call.{Call}
use Rattle.types.specs.declared.Counts.{Counts}
use Rattle.tables.specs.Words.{lent, decode, sound_words}
use Rattle.types.specs.declared.Refusal.{Refusal}
use Rattle.types.specs.Replies.{of_refusal, refusing}
use Rattle.format.specs.Format.{formatted_words}
use Rattle.format_room.specs.Room.{room_for}
use Rattle.replies.specs.Lines.{line_of}
use Rattle.replies.specs.declared.Line.{Line}
use Rattle.replies.specs.declared.Line.TheVariants as L
use Rattle.fields.specs.Fields.{Parsed}
use Rattle.fields.specs.declared.Command.TheVariants as P

-- the store, if a Format has succeeded
pub data Has : Type 0 where
  nothing : Has
  one : Store → Has

-- the words in use are what the program has
abbrev pub Stands : Has → List ℕ → Type 0
Stands nothing w = w ≡ []
Stands (one s) w = (sound_words (lent w) ≡ true) × (decode (lent w) ≡ s)

pub record Said : Type 0 where
  pub line : Line
  pub has : Has

abbrev pub formatted : Counts → Bool → Has → Said
formatted c true h = record { line = L.Ok; has = one (fresh c) }
formatted c false h = record { line = L.No 16; has = h }

abbrev pub called : Call → Has → Said
called c nothing = record { line = L.No 1; has = nothing }
called c (one s) = record { line = line_of (act c s).reply; has = one (act c s).store }

abbrev pub kept : Has → Said
kept h = record { line = L.Malformed; has = h }

abbrev pub said : ℕ → Parsed → Has → Said
said room None = kept
said room (Some (P.Format c)) = formatted c (room_for room c)
said room (Some (P.Call c)) = called c

-- what is printed and left, whatever the program had
pub record Says (f : Has → Said) (before : List ℕ) (l : Line) (after : List ℕ) : Type 0 where
  pub line : (h : Has) → Stands h before → l ≡ (f h).line
  pub leaves : (h : Has) → Stands h before → Stands (f h).has after

-- the same of all words, of which the first are in use
pub record Answers (f : Has → Said) (words : List ℕ) (used : ℕ) (l : Line) (words' : List ℕ) (used' : ℕ) : Type 0 where
  pub inside : used' ≤ length words'
  pub says : Says f (take used words) l (take used' words')

-- Format lays out a store of n words
pub record LaidOut (c : Counts) (words words' : List ℕ) (n : ℕ) : Type 0 where
  pub room : room_for (length words) c ≡ true
  pub inside : n ≤ length words'
  pub store : take n words' ≡ formatted_words c

-- Format is refused, and leaves every word
pub record Refused (c : Counts) (words words' : List ℕ) (r : Refusal) : Type 0 where
  pub no_room : room_for (length words) c ≡ false
  pub refusal : of_refusal r ≡ refusing 16 []
  pub same : words' ≡ words
