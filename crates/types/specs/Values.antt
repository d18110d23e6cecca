-- The value of a record, and what an edit writes, named once. Rests on the types of src/lib.rt.
use Rattle.std.specs.Prelude.{ℕ, Option, None, Some}
use Rattle.types.specs.declared.Pending.{Pending}
use Rattle.types.specs.declared.Pending.TheVariants.{Written, Unwritten}

-- "a pending value (any 64 bits)": what an edit writes
abbrev pub Val : Type 0
Val = ℕ

-- Layout, access: "value (0 until written)"
abbrev pub blank : Val
blank = 0

-- what an access writes, and the word that stands in its value's place
abbrev pub pending_value : Pending → Option Val
pending_value (Written v) = Some v
pending_value (Unwritten x) = None

abbrev pub pending_word : Pending → ℕ
pending_word (Written v) = v
pending_word (Unwritten x) = x

-- "a value (never written, or any 64 bits)"
abbrev pub Value : Type 0
Value = Option Val
