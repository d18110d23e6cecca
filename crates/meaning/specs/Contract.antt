-- What the public calls promise of what they are lent: the meaning and the soundness of it are parameters. Rests on
-- Outcomes and Records.
use Rattle.std.specs.Prelude.{◌≡◌, Bool, true, false, []}
use Rattle.meaning.specs.Store.{Store, fresh}
use Rattle.types.specs.Replies.{Reply, refused, refusing}
use Rattle.meaning.specs.Outcomes.{Outcome}
use Rattle.meaning.specs.Records.{good_counts}
use Rattle.types.specs.declared.Counts.{Counts}

module _ (Lent : Type 0) (decode : Lent → Store) (sound_lent : Lent → Bool) where
  -- "settles its reply and the meaning of the lent store afterwards for every slice and argument, refused ones too": a
  -- call that may change the store
  pub record Does (call : Store → Outcome) (before after : Lent) (r : Reply) : Type 0 where
    pub unsound : sound_lent before ≡ false → r ≡ refusing 1 []
    pub reply : sound_lent before ≡ true → r ≡ (call (decode before)).reply
    pub store : sound_lent before ≡ true → decode after ≡ (call (decode before)).store
    pub stays : sound_lent before ≡ true → sound_lent after ≡ true
    pub unchanged : refused r ≡ true → after ≡ before

  -- the same of a call that only looks, View: its reply
  pub record Shows (call : Store → Outcome) (lent : Lent) (r : Reply) : Type 0 where
    pub unsound : sound_lent lent ≡ false → r ≡ refusing 1 []
    pub reply : sound_lent lent ≡ true → r ≡ (call (decode lent)).reply

  -- "one Format that replied `ok`", whatever the slice held before
  pub record Formats (counts : Counts) (after : Lent) : Type 0 where
    pub good : good_counts counts ≡ true
    pub stays : sound_lent after ≡ true
    pub store : decode after ≡ fresh counts
