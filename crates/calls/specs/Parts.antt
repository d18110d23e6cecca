-- What is left of a call once its first tests have passed. Rests on the definitions of `meaning`.
use Rattle.std.specs.Prelude.{ℕ}
use Rattle.meaning.specs.Store.{Store}
use Rattle.types.specs.Values.{Val}
use Rattle.types.specs.Replies.{ok, read}
use Rattle.meaning.specs.Outcomes.{Outcome, replies, pass, needs, unless, access_room, lock_room}
use Rattle.meaning.specs.Edits.{written}
use Rattle.meaning.specs.Locking.{read_store}
use Rattle.types.specs.declared.Version.{Version}

-- Write, by the open edit of slot k on a record that is there: 10
unfoldable pub write_open : Store → ℕ → ℕ → Val → Outcome
write_open s k r v = unless s (needs (access_room s k r) 10 pass) (replies (written s k r v) ok)

-- Read, of the version v, with the points from..end free to lock: 10, 11
unfoldable pub read_taken : Store → ℕ → ℕ → ℕ → ℕ → Version → Outcome
read_taken s k r from end v =
    unless s (needs (access_room s k r) 10 (needs (lock_room s) 11 pass))
    (replies (read_store s k r from end) (read v.point end v.value))
