-- A layer above the store as a program: it answers, or makes a call of the store, or looks, and goes on by the reply.
-- What it comes to on every store follows from that. Rests on Calls of `meaning` and Promises of `store`.
use Rattle.std.specs.Prelude.{ℕ, []}
use Rattle.types.specs.Replies.{Reply, refusing}
use Rattle.types.specs.declared.Call.{Call}
use Rattle.meaning.specs.Store.{Store}
use Rattle.meaning.specs.Outcomes.{Outcome}
use Rattle.meaning.specs.Calls.{act}
use Rattle.meaning.specs.Records.{viewing}
use Rattle.store.specs.Promises.{may_begin}

-- The functions of the store that only look: they are lent the words to read, so that not one word changes. (View is a
-- call too; what is promised of a call in a list is the meaning of the words after it, and not the words)
pub data Look : Type 0 where
  slot : Look
  view : ℕ → ℕ → Look

abbrev pub shown : Look → Store → Outcome
shown slot s = may_begin s
shown (view r p) s = viewing r p s

pub data Program (A : Type 0) : Type 0 where
  answer : A → Program A
  ask : Call → (Reply → Program A) → Program A
  look : Look → (Reply → Program A) → Program A

-- its answer, and the store after it
pub record Played (A : Type 0) : Type 0 where
  pub told : A
  pub store : Store

-- on a sound store: each reply is that of the call's definition, on the store that the call before left
unfoldable pub play : {A : Type 0} → Program A → Store → Played A
play (answer a) s = record { told = a; store = s }
play (ask c f) s = play (f (act c s).reply) (act c s).store
play (look l f) s = play (f (shown l s).reply) s

-- on an unsound one: every reply is 1
unfoldable pub denied : {A : Type 0} → Program A → A
denied (answer a) = a
denied (ask c f) = denied (f (refusing 1 []))
denied (look l f) = denied (f (refusing 1 []))
