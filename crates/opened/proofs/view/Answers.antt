-- `opened::view` meets its contract. Rests on Viewing of `calls` and on Doing of `store`.
use Rattle.calls.proofs.Viewing.{sound_header}
use Rattle.store.proofs.Doing.{shows_sound}
use Rattle.opened.proofs.view.Goals as goal

pub view-requires : goal.view-requires
view-requires c = sound_header _ c.requires

pub returns : goal.returns
returns c = shows_sound c.requires c.view.ensures
