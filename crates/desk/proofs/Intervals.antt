-- The points of a session's interval, and what a granted read leaves of them. Rests on specs/Desk and specs/Laws.
use Prim.Native.Nat.{ℕ, suc, ◌≤◌, ◌<◌}
use native.Mathlib.Omega.{arith}
use native.Mathlib.Nat.{min-le_left, min-le_right, le-max_left, le-max_right, le-min, max-le}
use mathlib.Core.Path.{◌≡◌, refl}
use mathlib.Core.Bool.{Bool, true, false, cond}
use borrow.Author.Tests.{ltb-true, ltb-false}
use Rattle.types.specs.Replies.{Reply}
use Rattle.meaning.specs.Store.{Store}
use Rattle.meaning.specs.Calls.{act_by}
use Rattle.layers.specs.Programs.{answer, play}
use Rattle.desk.specs.Replies.{says}
use Rattle.desk.specs.Desk.{ended, between, within, empty, shrink}
use Rattle.desk.specs.Laws.{Has, HasJust, EndedIsEmpty, Same, ReadLeaves}
use Rattle.desk.specs.declared.Session.{Session}

pub ended_is_empty : EndedIsEmpty
unfolding ended
ended_is_empty s =
    record {
      none = λ e p h.
          let l = ltb-true s.high.0 s.low.0 e in
          let a = h.from in
          let b = h.upto in
          omega arith;
      some = λ e. (s.low.0, record { from = omega arith; upto = ltb-false s.high.0 s.low.0 e });
    }

-- the points of a session with another interval
pub just_between : (s : Session) (low high : ℕ) → HasJust (between s low high) (λ p. (low ≤ p) × (p ≤ high))
just_between s low high =
    record {
      all = λ p h. record { from = h.0; upto = h.1 };
      only = λ p h. (h.from, h.upto);
    }

pub same_between : (s : Session) (low high : ℕ) → Same s (between s low high)
same_between s low high = record { handle = refl; width = refl; setting = refl }

-- the points of the part within tr + 1 to end
just_within : (s : Session) (tr end : ℕ) → HasJust (within s (suc tr) end) (λ p. Has s p × (tr < p) × (p ≤ end))
just_within s tr end =
    record {
      all = λ p h. record { from = max-le h.0.from h.1; upto = le-min h.0.upto h.2 };
      only = λ p h.
          let a = h.from in
          let b = h.upto in (
            record {
              from = omega (arith, le-max_left s.low.0 (suc tr));
              upto = omega (arith, min-le_left s.high.0 end);
            },
            omega (arith, le-max_right s.low.0 (suc tr)),
            omega (arith, min-le_right s.high.0 end),
          );
    }

pub read_leaves : (s : Session) (tr end : ℕ) (q : Reply) (t : Store)
    → ReadLeaves s tr end q (play (shrink s q (within s (suc tr) end)) t).told
unfolding play act_by
read_leaves s tr end q t = go (ended (within s (suc tr) end)) refl
  where
    next : Session
    next = within s (suc tr) end

    go : (b : Bool) → ended (within s (suc tr) end) ≡ b
        → ReadLeaves s tr end q (play (cond b (empty s) (answer (says (within s (suc tr) end) q))) t).told
    go true e =
        record {
          interval = record {
            all = λ p h. absurd ((ended_is_empty (within s (suc tr) end)).none e p ((just_within s tr end).all p h));
            only = λ p h.
                let a = h.from in
                let b = h.upto in
                absurd (omega arith);
          };
          left = λ p h.
              let a = h.from in
              let b = h.upto in
              absurd (omega arith);
          none = λ n. refl;
        }
    go false e =
        record {
          interval = just_within s tr end;
          left = λ p h. refl;
          none = λ n.
              let x = (ended_is_empty (within s (suc tr) end)).some e in
              absurd (n x.0 x.1);
        }
