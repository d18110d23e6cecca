-- The words of the store mean what the old table means (specs/OldTable): by the contracts each reply and what the words
-- mean are those of the meaning. Rests on OverStore and on OldTable of `meaning`.
use mathlib.Core.Path.{◌≡◌, refl}
use mathlib.Core.Bool.{Bool, true}
use mathlib.Core.List.{List}
use Rattle.types.specs.Replies.{Reply}
use Rattle.types.specs.declared.Call.{Call}
use Rattle.meaning.specs.Store.{Store}
use Rattle.meaning.specs.Calls.{act}
use Rattle.meaning.specs.OldTable.{old_act, AlikeAlong}
use Rattle.meaning.proofs.OldTable.{new_table_is_old}
use Rattle.tables.specs.Words.{Lent, decode, sound_words}
use Rattle.history.specs.Words.{Calls, done, then}
use Rattle.history.specs.OldTable.{AlikeCalls, StoreWordsMeanOldTable}
use Rattle.history.proofs.OverStore.{formats}

module _ (Lent : Type 0) (decode : Lent → Store) (sound_lent : Lent → Bool) where
  alike_calls : {w end : Lent} {cs : List Call} {qs : List Reply} (calls : Calls Lent decode sound_lent w cs qs end)
      → sound_lent w ≡ true → (old new : Store) → decode w ≡ new → AlikeAlong cs old new
      → AlikeCalls Lent decode sound_lent calls old
  alike_calls done s old new e a = tt
  alike_calls (then {w = w} {w₁ = w₁} {c = c} {q = q} {cs = cs} d more) s old new e a =
      λ n.
      let k = a n in
      record {
        reply = rw (d.reply s, e) k.reply;
        modes = rw (d.store s, e) k.modes;
        rest = alike_calls more (d.stays s) (old_act c old).store (act c new).store (rw (d.store s, e) refl)
            k.rest;
      }

pub store_words_mean_old_table : StoreWordsMeanOldTable
store_words_mean_old_table counts cs qs end h =
    let f = formats h.formats in
    alike_calls Lent decode sound_words h.calls f.stays _ _ f.store (new_table_is_old counts f.good cs)
