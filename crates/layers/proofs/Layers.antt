-- The contract of a layer step by step, from what follows a program and back, and that a list of calls of the store
-- and of layers is a list of calls of the store. Rests on the contract records, and on Contracts of `history`.
use mathlib.Core.Path.{◌≡◌, refl, ap, ◌∙◌}
use mathlib.Core.Bool.{Bool, true}
use mathlib.Core.List.{List, [], ◌∷◌, ◌++◌}
use Rattle.types.specs.Replies.{Reply, refused, refusing}
use Rattle.types.specs.declared.Call.{Call}
use Rattle.meaning.specs.Store.{Store}
use Rattle.meaning.specs.Calls.{act}
use Rattle.meaning.specs.Contract.{Does, Shows}
use Rattle.meaning.specs.Sound.{sound_store}
use Rattle.meaning.proofs.Laws.{calls_keep_sound}
use Rattle.meaning.proofs.Lists.{not_both}
use Rattle.history.specs.Words.{Calls, done, then}
use Rattle.history.proofs.Contracts.{does_act}
use Rattle.layers.specs.Programs as P
use Rattle.layers.specs.Programs.{Program, Look, shown, play, denied}
use Rattle.layers.specs.Layers.{Follows, ends, asks, looks, Layer, EveryProgramIsALayer, Steps, none, call, layer}

module _ (Lent : Type 0) (decode : Lent → Store) (sound_lent : Lent → Bool) where
  -- The contract of an answer, and of a call or a look in front of what follows it.
  pub by_answer : {A : Type 0} {w : Lent} {a : A} → Layer Lent decode sound_lent (P.answer a) w w a
  unfolding play denied
  by_answer =
      record {
        unsound = λ u. (refl, refl);
        told = λ s. refl;
        store = λ s. refl;
        stays = λ s. s;
        calls = [];
        replies = [];
        follows = ends;
      }

  pub by_ask : {A : Type 0} {w w₁ w₂ : Lent} {c : Call} {f : Reply → Program A} {q : Reply} {a : A}
      → Does Lent decode sound_lent (act c) w w₁ q → Layer Lent decode sound_lent (f q) w₁ w₂ a
      → Layer Lent decode sound_lent (P.ask c f) w w₂ a
  unfolding play denied
  by_ask {A} {w} {w₁} {w₂} {c} {f} {q} {a} d l =
      record {
        unsound = λ u.
            let e : q ≡ refusing 1 [] = d.unsound u in
            let same : w₁ ≡ w = d.unchanged (ap refused e) in
            let n = l.unsound (ap sound_lent same ∙ u) in
            (n.0 ∙ ap (λ (x : Reply). denied (f x)) e, n.1 ∙ same);
        told = λ s.
            l.told (d.stays s)
            ∙ ap (λ (x : Reply). (play (f x) (decode w₁)).told) (d.reply s)
            ∙ ap (λ (x : Store). (play (f (act c (decode w)).reply) x).told) (d.store s);
        store = λ s.
            l.store (d.stays s)
            ∙ ap (λ (x : Reply). (play (f x) (decode w₁)).store) (d.reply s)
            ∙ ap (λ (x : Store). (play (f (act c (decode w)).reply) x).store) (d.store s);
        stays = λ s. l.stays (d.stays s);
        calls = c ∷ l.calls;
        replies = q ∷ l.replies;
        follows = asks d l.follows;
      }

  pub by_look : {A : Type 0} {w w₂ : Lent} {k : Look} {f : Reply → Program A} {q : Reply} {a : A}
      → Shows Lent decode sound_lent (shown k) w q → Layer Lent decode sound_lent (f q) w w₂ a
      → Layer Lent decode sound_lent (P.look k f) w w₂ a
  unfolding play denied
  by_look {A} {w} {w₂} {k} {f} {q} {a} d l =
      record {
        unsound = λ u.
            let n = l.unsound u in
            (n.0 ∙ ap (λ (x : Reply). denied (f x)) (d.unsound u), n.1);
        told = λ s. l.told s ∙ ap (λ (x : Reply). (play (f x) (decode w)).told) (d.reply s);
        store = λ s. l.store s ∙ ap (λ (x : Reply). (play (f x) (decode w)).store) (d.reply s);
        stays = l.stays;
        calls = l.calls;
        replies = l.replies;
        follows = looks d l.follows;
      }

  -- what follows a program has its contract
  pub follows_layer : {A : Type 0} {p : Program A} {w w' : Lent} {cs : List Call} {qs : List Reply} {a : A}
      → Follows Lent decode sound_lent p w cs qs w' a
      → Layer Lent decode sound_lent p w w' a
  follows_layer ends = by_answer
  follows_layer (asks d r) = by_ask d (follows_layer r)
  follows_layer (looks d r) = by_look d (follows_layer r)

  -- And back, step by step: what a law about a program goes by.
  pub of_answer_lem : {A : Type 0} {a b : A} {w w' : Lent} {cs : List Call} {qs : List Reply}
      → Follows Lent decode sound_lent (P.answer a) w cs qs w' b
      → (w' ≡ w) × (a ≡ b)
  of_answer_lem ends = (refl, refl)

  pub of_ask : {A : Type 0} {c : Call} {f : Reply → Program A} {w w' : Lent} {cs : List Call} {qs : List Reply} {b : A}
      → Follows Lent decode sound_lent (P.ask c f) w cs qs w' b
      → (q : Reply) × (w₁ : Lent) × Does Lent decode sound_lent (act c) w w₁ q
      × Layer Lent decode sound_lent (f q) w₁ w' b
  of_ask (asks {w₁ = v} {q = q} d r) = (q, v, d, follows_layer r)

  pub of_look : {A : Type 0} {k : Look} {f : Reply → Program A} {w w' : Lent} {cs : List Call} {qs : List Reply} {b : A}
      → Follows Lent decode sound_lent (P.look k f) w cs qs w' b
      → (q : Reply) × Shows Lent decode sound_lent (shown k) w q × Layer Lent decode sound_lent (f q) w w' b
  of_look (looks {q = q} d r) = (q, d, follows_layer r)

  -- the calls made in front of further ones
  onward : {A : Type 0} {p : Program A} {w w₁ w₂ : Lent} {cs ds : List Call} {qs rs : List Reply} {a : A}
      → Follows Lent decode sound_lent p w cs qs w₁ a → Calls Lent decode sound_lent w₁ ds rs w₂
      → Calls Lent decode sound_lent w (cs ++ ds) (qs ++ rs) w₂
  onward ends b = b
  onward (asks d r) b = then d (onward r b)
  onward (looks d r) b = onward r b

  pub steps_are_calls : {w w' : Lent} {cs : List Call} {qs : List Reply} → Steps Lent decode sound_lent w cs qs w'
      → Calls Lent decode sound_lent w cs qs w'
  steps_are_calls none = done
  steps_are_calls (call d r) = then d (steps_are_calls r)
  steps_are_calls (layer l r) = onward l.follows (steps_are_calls r)

-- the abstract store keeps the contract of every program
pub every_program_is_a_layer : EveryProgramIsALayer
unfolding play
every_program_is_a_layer A p s h = go p s h
  where
    go : (p : Program A) (s : Store) → sound_store s ≡ true
        → Layer Store (λ t. t) sound_store p s (play p s).store (play p s).told
    go (P.answer a) s h = by_answer Store (λ t. t) sound_store
    go (P.ask c f) s h =
        by_ask Store (λ t. t) sound_store (does_act c s h)
        (go (f (act c s).reply) (act c s).store (calls_keep_sound c s h))
    go (P.look l f) s h =
        by_look Store (λ t. t) sound_store (record { unsound = λ u. absurd (not_both h u); reply = λ k. refl })
        (go (f (shown l s).reply) s h)
