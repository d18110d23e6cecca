-- A refusal other than 8 has its bare number. Rests on Codes.
use Prim.Native.Nat.{ℕ}
use mathlib.Core.Path.{◌≡◌, refl}
use mathlib.Core.List.{List, [], ◌∷◌}
use types.Run.{OneOf, miss}
use denote.Enum.Declared.{tag_of}
use Rattle.types.specs.Replies.{number, of_refusal}
use Rattle.types.specs.declared.Refusal.{Refusal}
use Rattle.types.specs.contracts.Refusal.{the_type}
use Rattle.types.specs.declared.Refusal.TheVariants.{Unsound, NoEdit, EditEnded, EditOpen, NoRecord, BadPoint}
use Rattle.types.specs.declared.Refusal.TheVariants.{BelowFloor, Held, Frozen, NoAccessRow, NoLockRow, NoVersionRow}
use Rattle.types.specs.declared.Refusal.TheVariants.{NoSlot, NotCommon, LockedBelow, BadFormat}
use Rattle.codes.specs.Codes.{code_of}

-- the variants of Refusal but Held, by their place
abbrev others : List ℕ
others = 0 ∷ 1 ∷ 2 ∷ 3 ∷ 4 ∷ 5 ∷ 6 ∷ 8 ∷ 9 ∷ 10 ∷ 11 ∷ 12 ∷ 13 ∷ 14 ∷ 15 ∷ []

-- a refusal other than 8 has its bare number
pub bare : (r : Refusal) → OneOf others (tag_of the_type r) → number r ≡ code_of (of_refusal r)
bare Unsound k = refl
bare NoEdit k = refl
bare EditEnded k = refl
bare EditOpen k = refl
bare NoRecord k = refl
bare BadPoint k = refl
bare BelowFloor k = refl
bare (Held h) k = absurd (miss others 7 tt k)
bare Frozen k = refl
bare NoAccessRow k = refl
bare NoLockRow k = refl
bare NoVersionRow k = refl
bare NoSlot k = refl
bare NotCommon k = refl
bare LockedBelow k = refl
bare BadFormat k = refl
