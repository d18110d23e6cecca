-- The sessions of specs/Examples, by computation. Rests on nothing.
use mathlib.Core.Path.{refl}
use Rattle.meaning.specs.Calls.{opened}
use Rattle.layers.specs.Programs.{play}
use Rattle.desk.specs.Desk.{ended, named, good_start, desk_open, desk_read, desk_write, desk_commit}
use Rattle.desk.specs.Examples.{heard, after_calls, PlainSession, EmptiedSession, LatestSession}

pub plain_session : PlainSession
unfolding opened play heard ended named good_start desk_open desk_read desk_write desk_commit
plain_session = record { opens = refl; hears = refl }

pub emptied_session : EmptiedSession
unfolding opened play heard after_calls ended named good_start desk_open desk_read desk_write desk_commit
emptied_session = record { opens = refl; hears = refl }

pub latest_session : LatestSession
unfolding opened play heard ended named good_start desk_open desk_read desk_write desk_commit
latest_session = record { opens = refl; hears = refl }
