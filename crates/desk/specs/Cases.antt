-- Which reply of the store it is: what the desk goes on by. Rests on Replies of `types`.
use Rattle.std.specs.Prelude.{ℕ, Bool, true, false, eqb}
use Rattle.types.specs.Replies.{Reply, ok, edit, locked, read, own, again, commit, nopoint, purged, at, point, refusing}

-- `edit` h goes on with h, any other reply is x
abbrev pub on_edit : {A : Type 0} → Reply → A → (ℕ → A) → A
on_edit ok x f = x
on_edit (edit h) x f = f h
on_edit (locked low high) x f = x
on_edit (read tr end v) x f = x
on_edit (own v) x f = x
on_edit (again tr v) x f = x
on_edit (commit p) x f = x
on_edit nopoint x f = x
on_edit (purged vs ls) x f = x
on_edit (at p v) x f = x
on_edit (point p) x f = x
on_edit (refusing n more) x f = x

-- `locked` low high goes on with these
abbrev pub on_locked : {A : Type 0} → Reply → A → (ℕ → ℕ → A) → A
on_locked ok x f = x
on_locked (edit h) x f = x
on_locked (locked low high) x f = f low high
on_locked (read tr end v) x f = x
on_locked (own v) x f = x
on_locked (again tr v) x f = x
on_locked (commit p) x f = x
on_locked nopoint x f = x
on_locked (purged vs ls) x f = x
on_locked (at p v) x f = x
on_locked (point p) x f = x
on_locked (refusing n more) x f = x

-- `read` tr end goes on with these; "an own or repeated read leaves it"
abbrev pub on_read : {A : Type 0} → Reply → A → (ℕ → ℕ → A) → A
on_read ok x f = x
on_read (edit h) x f = x
on_read (locked low high) x f = x
on_read (read tr end v) x f = f tr end
on_read (own v) x f = x
on_read (again tr v) x f = x
on_read (commit p) x f = x
on_read nopoint x f = x
on_read (purged vs ls) x f = x
on_read (at p v) x f = x
on_read (point p) x f = x
on_read (refusing n more) x f = x

-- `commit` and `nopoint` end the edit
abbrev pub ends_edit : Reply → Bool
ends_edit ok = false
ends_edit (edit h) = false
ends_edit (locked low high) = false
ends_edit (read tr end v) = false
ends_edit (own v) = false
ends_edit (again tr v) = false
ends_edit (commit p) = true
ends_edit nopoint = true
ends_edit (purged vs ls) = false
ends_edit (at p v) = false
ends_edit (point p) = false
ends_edit (refusing n more) = false

-- 1: "store not sound"
abbrev pub says_one : Reply → Bool
says_one ok = false
says_one (edit h) = false
says_one (locked low high) = false
says_one (read tr end v) = false
says_one (own v) = false
says_one (again tr v) = false
says_one (commit p) = false
says_one nopoint = false
says_one (purged vs ls) = false
says_one (at p v) = false
says_one (point p) = false
says_one (refusing n more) = eqb n 1
