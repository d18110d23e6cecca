-- The contract of a function of a layer, over what the store is lent: its answer and the meaning of the store are
-- settled for every slice, and what it did is a list of calls of the store with their replies, each keeping its
-- contract. Rests on Programs and on Contract of `meaning`.
use Rattle.std.specs.Prelude.{◌≡◌, Bool, true, false, List, [], ◌∷◌, ◌++◌}
use Rattle.types.specs.Replies.{Reply}
use Rattle.types.specs.declared.Call.{Call}
use Rattle.meaning.specs.Store.{Store}
use Rattle.meaning.specs.Calls.{act}
use Rattle.meaning.specs.Contract.{Does, Shows}
use Rattle.meaning.specs.Sound.{sound_store}
use Rattle.layers.specs.Programs.{Program, answer, ask, look, Look, shown, play, denied}

module _ (Lent : Type 0) (decode : Lent → Store) (sound_lent : Lent → Bool) where
  -- a program followed step by step, with the calls made and their replies: each call and each look keeps the contract
  -- of its function, on what the step before it left, and the program goes on by that reply
  pub data Follows {A : Type 0} : Program A → Lent → List Call → List Reply → Lent → A → Type 0 where
    ends : {w : Lent} {a : A} → Follows (answer a) w [] [] w a
    asks : {w w₁ w₂ : Lent} {c : Call} {f : Reply → Program A} {q : Reply} {cs : List Call} {qs : List Reply} {a : A}
        → Does Lent decode sound_lent (act c) w w₁ q
        → Follows (f q) w₁ cs qs w₂ a
        → Follows (ask c f) w (c ∷ cs) (q ∷ qs) w₂ a
    looks : {w w₂ : Lent} {l : Look} {f : Reply → Program A} {q : Reply} {cs : List Call} {qs : List Reply} {a : A}
        → Shows Lent decode sound_lent (shown l) w q
        → Follows (f q) w cs qs w₂ a
        → Follows (look l f) w cs qs w₂ a

  pub record Layer {A : Type 0} (p : Program A) (before after : Lent) (a : A) : Type 0 where
    pub unsound : sound_lent before ≡ false → (a ≡ denied p) × (after ≡ before)
    pub told : sound_lent before ≡ true → a ≡ (play p (decode before)).told
    pub store : sound_lent before ≡ true → decode after ≡ (play p (decode before)).store
    pub stays : sound_lent before ≡ true → sound_lent after ≡ true
    -- the calls made, with their replies
    pub calls : List Call
    pub replies : List Reply
    pub follows : Follows p before calls replies after a

  -- a list in which calls of the store and of layers stand in any order, by the calls of the store that it comes to
  pub data Steps : Lent → List Call → List Reply → Lent → Type 1 where
    none : {w : Lent} → Steps w [] [] w
    call : {w w₁ w₂ : Lent} {c : Call} {q : Reply} {cs : List Call} {qs : List Reply}
        → Does Lent decode sound_lent (act c) w w₁ q
        → Steps w₁ cs qs w₂
        → Steps w (c ∷ cs) (q ∷ qs) w₂
    layer : {w w₁ w₂ : Lent} {cs : List Call} {qs : List Reply} {A : Type 0} {p : Program A} {a : A}
        → (l : Layer p w w₁ a)
        → Steps w₁ cs qs w₂
        → Steps w (l.calls ++ cs) (l.replies ++ qs) w₂

-- The contract can be met: the abstract store itself, lent as it is and sound, keeps it for every program.
abbrev pub EveryProgramIsALayer : Type 1
EveryProgramIsALayer = (A : Type 0) (p : Program A) (s : Store) → sound_store s ≡ true
    → Layer Store (λ t. t) sound_store p s (play p s).store (play p s).told
