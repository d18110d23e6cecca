-- Demand 3 over what the store is lent (`words_serializable`), from demand 3 of its meaning: by the contracts the
-- replies and the store at the end are those of the meaning. Rests on Theorem.
use mathlib.Core.Path.{◌≡◌, refl, ap, ◌∙◌, subst}
use mathlib.Core.Bool.{Bool, true}
use mathlib.Core.List.{List, ◌∷◌}
use Rattle.types.specs.Limits.{LAST}
use Rattle.meaning.specs.Store.{Store, fresh}
use Rattle.types.specs.Replies.{Reply}
use Rattle.meaning.specs.Records.{viewing}
use Rattle.meaning.specs.Calls.{act, run, run_by, after, after_by}
use Rattle.types.specs.declared.Counts.{Counts}
use Rattle.types.specs.declared.Call.{Call}
use Rattle.serial.specs.Serializable.{CommitOrder}
use Rattle.history.specs.Heard.{history}
use Rattle.history.specs.Statement.{replied}
use Rattle.history.specs.Words.{Calls, done, then, Listed, WordsSerializable, WordsOrderExists, WordsPointIsOne}
use Rattle.history.proofs.Theorem.{store_serializable, store_order_exists, store_point_is_one}

module _ (Lent : Type 0) (decode : Lent → Store) (sound_lent : Lent → Bool) where
  record Follows (w w' : Lent) (cs : List Call) (qs : List Reply) : Type 0 where
    replies : qs ≡ run cs (decode w)
    ends : decode w' ≡ after cs (decode w)
    holds : sound_lent w' ≡ true

  follows : {w w' : Lent} {cs : List Call} {qs : List Reply} → Calls Lent decode sound_lent w cs qs w'
      → sound_lent w ≡ true → Follows w w' cs qs
  unfolding run_by after_by
  follows done s = record { replies = refl; ends = refl; holds = s }
  follows (then {w = w} {w₁ = w₁} {c = c} {q = q} {cs = cs} {qs = qs} d r) s =
      let f = follows r (d.stays s) in
      record {
        replies = ap (λ (p : Reply). p ∷ qs) (d.reply s)
            ∙ ap (λ (ps : List Reply). (act c (decode w)).reply ∷ ps)
            (f.replies ∙ ap (λ (t : Store). run cs t) (d.store s));
        ends = f.ends ∙ ap (λ (t : Store). after cs t) (d.store s);
        holds = f.holds;
      }

  -- the list is that of the calls on a fresh store, with the same replies
  module _ (counts : Counts) (cs : List Call) (qs : List Reply) (end : Lent)
      (l : Listed Lent decode sound_lent counts cs qs end) where
    listed : Follows l.start end cs qs
    listed = follows l.calls l.format.stays

    same_history : history cs qs ≡ replied counts cs
    same_history =
        ap (λ (ps : List Reply). history cs ps) (listed.replies ∙ ap (λ (t : Store). run cs t) l.format.store)

    same_end : decode end ≡ after cs (fresh counts)
    same_end = listed.ends ∙ ap (λ (t : Store). after cs t) l.format.store

  pub words_serializable : WordsSerializable Lent decode sound_lent
  words_serializable counts cs qs end l o order =
      let q = same_history counts cs qs end l in
      let p = store_serializable counts cs l.format.good o (subst (λ h. CommitOrder h o) q order) in
      rw q (
      record {
        reads = p.reads;
        newest = λ r a h d.
            let n = p.newest r h in (
              n.0,
              d.reply (listed counts cs qs end l).holds
                  ∙ ap (λ (t : Store). (viewing r LAST t).reply) (same_end counts cs qs end l) ∙ n.1,
            );
      }
      )

  pub words_order_exists : WordsOrderExists Lent decode sound_lent
  words_order_exists counts cs qs end l =
      rw (same_history counts cs qs end l) (store_order_exists counts cs l.format.good)

  pub words_point_is_one : WordsPointIsOne Lent decode sound_lent
  words_point_is_one counts cs qs end l =
      rw (same_history counts cs qs end l) (store_point_is_one counts cs l.format.good)
