-- Document 02, M-105, over the words of the store: what the public calls reply and leave means what the old table
-- means, which is one of definitions alone. The theorem is in proofs/OldTable, under the same name. Rests on StoreWords
-- and on OldTable of `meaning`.
use Rattle.std.specs.Prelude.{ℕ, ◌≡◌, Bool, List, []}
use Rattle.types.specs.Replies.{Reply, refusing}
use Rattle.types.specs.declared.Counts.{Counts}
use Rattle.types.specs.declared.Call.{Call}
use Rattle.meaning.specs.Store.{Store, fresh}
use Rattle.meaning.specs.OldTable.{old_act, Alike}
use Rattle.tables.specs.Words.{Lent, decode, sound_words}
use Rattle.history.specs.Words.{Calls, done, then}
use Rattle.history.specs.StoreWords.{HistoryOn}

-- calls on what is lent and the same calls on the old table, "up to but without the first call that the old one refuses
-- with 11"
module _ (Lent : Type 0) (decode : Lent → Store) (sound_lent : Lent → Bool) where
  abbrev pub AlikeCalls : {w end : Lent} {cs : List Call} {qs : List Reply} → Calls Lent decode sound_lent w cs qs end
      → Store → Type 0
  AlikeCalls done old = Unit {0}
  AlikeCalls (then {w₁ = w₁} {c = c} {q = q} does more) old = ((old_act c old).reply ≡ refusing 11 [] → ⊥)
      → Alike (old_act c old).reply q (old_act c old).store (decode w₁) (AlikeCalls more (old_act c old).store)

-- "from the same Format"
abbrev pub StoreWordsMeanOldTable : Type 0
StoreWordsMeanOldTable =
    (counts : Counts) (cs : List Call) (qs : List Reply) (end : List ℕ) (h : HistoryOn counts cs qs end)
    → AlikeCalls Lent decode sound_words h.calls (fresh counts)
