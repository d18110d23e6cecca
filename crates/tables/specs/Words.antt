-- What a call is lent, what it means, and when it is sound: the clauses that speak of words, and those that speak of
-- the meaning. Rests on Decode.
use Rattle.std.specs.Prelude.{ℕ, suc, ◌≤◌, ◌<◌, ◌≡◌, Bool, true, ◌&&◌, List, [], ◌∷◌, leb, eqb}
use Rattle.chains.specs.Lists.{all_to, all_of}
use Rattle.chains.specs.Table.{field}
use Rattle.chains.specs.Partition.{partition}
use Rattle.meaning.specs.Lists.{every}
use Rattle.meaning.specs.Store.{Store}
use Rattle.types.specs.declared.Counts.{Counts}
use Rattle.meaning.specs.Sound.{sound_store}
use Rattle.tables.specs.Layout
use Rattle.tables.specs.Decode.{lock_rows, access_rows, decode_at}

-- what a call is lent
pub record Lent : Type 0 where
  pub words : List ℕ

abbrev pub lent : List ℕ → Lent
lent w = record { words = w }

unfoldable pub decode : Lent → Store
decode l = decode_at (Layout.counts_of l.words) l.words

module _ (c : Counts) (w : List ℕ) where
  -- "every row is on exactly one chain (free, a record's, an edit's)"
  unfoldable pub versions_parted : Bool
  versions_parted = partition (Layout.version_table c) (Layout.version_heads c) w

  unfoldable pub locks_parted : Bool
  locks_parted = partition (Layout.lock_table c) (Layout.lock_heads c) w

  unfoldable pub accesses_parted : Bool
  accesses_parted = partition (Layout.access_table c) (Layout.access_heads c) w

  -- "lock rows name their chain's record"
  abbrev pub names_record : ℕ → ℕ → Bool
  names_record r i = eqb (field (Layout.lock_table c) w i Layout.L_RECORD) r

  unfoldable pub locks_named : Bool
  locks_named = all_to c.records (λ r. all_of (names_record r) (lock_rows c w r))

  -- "written marks ... are among those listed": 0 or 1
  abbrev pub marked : ℕ → Bool
  marked i = leb (field (Layout.access_table c) w i Layout.A_WRITTEN) 1

  unfoldable pub marks_listed : Bool
  marks_listed = all_to c.edits (λ k. all_of marked (access_rows c w (suc k)))

  unfoldable pub formed_at : Bool
  formed_at = every (versions_parted ∷ locks_parted ∷ accesses_parted ∷ locks_named ∷ marks_listed ∷ [])

  -- the same as plain facts: well formed is the part of soundness that every mutator keeps by itself
  pub record Well : Type 0 where
    pub fits : Layout.Fits c w
    pub versions_parted_lem : partition (Layout.version_table c) (Layout.version_heads c) w ≡ true
    pub locks_parted_lem : partition (Layout.lock_table c) (Layout.lock_heads c) w ≡ true
    pub accesses_parted_lem : partition (Layout.access_table c) (Layout.access_heads c) w ≡ true
    pub named : (r : ℕ) → r < c.records → all_of (names_record r) (lock_rows c w r) ≡ true
    pub marks : (k : ℕ) → 1 ≤ k → k ≤ c.edits → all_of marked (access_rows c w k) ≡ true

unfoldable pub formed : List ℕ → Bool
formed w = Layout.header_ok w && formed_at (Layout.counts_of w) w

unfoldable pub sound_words : Lent → Bool
sound_words l = formed l.words && sound_store (decode l)
