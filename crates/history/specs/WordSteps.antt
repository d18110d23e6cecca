-- Lists of calls over words, written down: each call with its reply and the words that it changes. Rests on the words
-- of `tables` and `format`.
use Rattle.std.specs.Prelude.{ℕ, List, [], ◌∷◌, set}
use Rattle.chains.specs.Lists.{occ, sum_to, all_to, all_of}
use Rattle.chains.specs.Walk.{among, rows, ends}
use Rattle.chains.specs.Table.{place, field, chain, ended, head_cell, head_of, rows_of, ended_of}
use Rattle.chains.specs.Partition.{on_chains, partition}
use Rattle.types.specs.Replies.{Reply}
use Rattle.meaning.specs.Records.{good_counts}
use Rattle.types.specs.declared.Call.{Call}
use Rattle.tables.specs.Layout.{slot_base, version_base, lock_base, access_base, size_of, record_table, slot_table}
use Rattle.tables.specs.Layout.{version_table, lock_table, access_table, version_heads, lock_heads, access_heads}
use Rattle.tables.specs.Layout.{counts_of}
use Rattle.tables.specs.Layout.{header_ok}
use Rattle.tables.specs.Decode.{build, version_at, lock_at, access_at, version_rows, lock_rows, access_rows}
use Rattle.tables.specs.Decode.{versions_of}
use Rattle.tables.specs.Decode.{locks_of, accesses_of, floor_of, record_at, slot_at, records_of, edits_of, decode_at}
use Rattle.tables.specs.Words.{decode, versions_parted, locks_parted, accesses_parted, locks_named, marks_listed}
use Rattle.tables.specs.Words.{formed_at}
use Rattle.tables.specs.Words.{formed}
use Rattle.format.specs.Format.{blank_words, next_free, linked_to, linked, formatted_words}

-- places, from 0, and the words that are put there
abbrev pub Changes : Type 0
Changes = List (ℕ × ℕ)

unfoldable pub changed : Changes → List ℕ → List ℕ
changed [] w = w
changed ((i, v) ∷ cs) w = changed cs (set w i v)

pub record Step : Type 0 where
  pub call : Call
  pub reply : Reply
  pub changes : Changes

abbrev pub step : Call → Reply → Changes → Step
step c q d = record { call = c; reply = q; changes = d }

unfoldable pub calls_of : List Step → List Call
calls_of [] = []
calls_of (s ∷ ss) = s.call ∷ calls_of ss

unfoldable pub replies_of : List Step → List Reply
replies_of [] = []
replies_of (s ∷ ss) = s.reply ∷ replies_of ss

-- the words after the steps
unfoldable pub end_of : List Step → List ℕ → List ℕ
end_of [] w = w
end_of (s ∷ ss) w = end_of ss (changed s.changes w)

-- `unfolding readable` opens every definition that closed words and steps compute with: their form, their meaning,
-- formatted words
unfoldable pub readable : Unit {0}
unfolding changed calls_of replies_of end_of blank_words next_free linked_to linked formatted_words
    decode build version_at
    lock_at access_at version_rows lock_rows access_rows versions_of locks_of accesses_of floor_of
    record_at slot_at records_of
    edits_of decode_at slot_base version_base lock_base access_base size_of record_table slot_table
    version_table lock_table
    access_table version_heads lock_heads access_heads counts_of header_ok versions_parted locks_parted accesses_parted
    locks_named marks_listed formed_at formed place field chain ended head_cell head_of rows_of
    ended_of among rows ends occ
    sum_to all_to all_of on_chains partition good_counts
readable = tt
