-- The session's replies, by computation. Rests on nothing.
use mathlib.Core.Path.{refl}
use Rattle.meaning.specs.Session.{session, session_replies, SessionRight}
use Rattle.meaning.specs.Calls.{opened}

pub session_right : SessionRight
unfolding session session_replies opened
session_right s = refl
