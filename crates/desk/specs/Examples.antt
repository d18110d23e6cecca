-- Sessions of the desk, computed: one that reads, writes and commits, one that a version empties, one that commits at
-- its latest point. Rests on Desk.
use Rattle.std.specs.Prelude.{ℕ, ◌≡◌, List, [], ◌∷◌, None}
use Rattle.types.specs.Replies as R
use Rattle.meaning.specs.Store.{Store, fresh}
use Rattle.layers.specs.Programs.{play}
use Rattle.desk.specs.Replies.{opened, Report, told, emptied}
use Rattle.desk.specs.Desk.{starting, desk_open, DeskCall, read, write, commit, program}
use Rattle.desk.specs.declared.Setting.{Setting}
use Rattle.desk.specs.declared.Setting.TheVariants.{Earliest, Latest}
use Rattle.desk.specs.declared.Session.{Session}

-- what a desk is told, call by call
unfoldable pub heard : List DeskCall → Session → Store → List Report
heard [] s t = []
heard (c ∷ cs) s t =
    (play (program c s) t).told.report ∷ heard cs (play (program c s) t).told.session (play (program c s) t).store

-- the store after them
unfoldable pub after_calls : List DeskCall → Session → Store → Store
after_calls [] s t = t
after_calls (c ∷ cs) s t = after_calls cs (play (program c s) t).told.session (play (program c s) t).store

-- a session of these calls: opened at t with this width and setting, it has the handle h and is told rs
pub record Runs (t width : ℕ) (setting : Setting) (store : Store) (cs : List DeskCall) (h : ℕ) (rs : List Report)
    : Type 0 where
  pub opens : (play (desk_open t width setting) store).told ≡ opened (starting t width setting h)
  pub hears : heard cs (starting t width setting h) (play (desk_open t width setting) store).store ≡ rs

-- and the store after it
abbrev pub left : ℕ → ℕ → Setting → Store → List DeskCall → ℕ → Store
left t width setting store cs h =
    after_calls cs (starting t width setting h) (play (desk_open t width setting) store).store

abbrev pub start : Store
start = fresh (record { records = 2; edits = 2; versions = 4; locks = 8; accesses = 8 })

-- 4 to 8 opened, record 0 read and written, committed at 4; then 3
abbrev pub calls : List DeskCall
calls = read 0 ∷ write 0 501 ∷ read 0 ∷ commit ∷ commit ∷ []

abbrev pub PlainSession : Type 0
PlainSession =
    Runs 4 4 Earliest start calls 65
    (told (R.read 0 8 None) ∷ told R.ok ∷ told (R.own 501) ∷ told (R.commit 4) ∷ told (R.refusing 3 []) ∷ [])

-- 4 alone opened after that: the version at 4 cuts the read to 3
abbrev pub EmptiedSession : Type 0
EmptiedSession =
    Runs 4 0 Earliest (left 4 4 Earliest start calls 65) (read 0 ∷ read 0 ∷ []) 129
    (emptied ∷ told (R.refusing 3 []) ∷ [])

-- the same calls as the first, with the other setting: committed at 8
abbrev pub LatestSession : Type 0
LatestSession =
    Runs 4 4 Latest start calls 65
    (told (R.read 0 8 None) ∷ told R.ok ∷ told (R.own 501) ∷ told (R.commit 8) ∷ told (R.refusing 3 []) ∷ [])
