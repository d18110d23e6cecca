-- What the plain run makes of a call and its reply: document 01, "The plain, serial run", whose sentences stand in
-- quotes at what states them. The events and the plain run over them are the crate serial's. Rests on the calls and
-- replies of the crate meaning.
use Rattle.std.proofs.Math.Option.{Option, some, none}
use Rattle.std.specs.Prelude.{List, [], ◌∷◌, ℕ, Some, None}
use Rattle.types.specs.Values.{Val}
use Rattle.types.specs.Replies.{Reply, ok, edit, locked, read, own, again, commit, nopoint, purged, at, point}
use Rattle.types.specs.Replies.{refusing}
use Rattle.types.specs.Values.{Value}
use Rattle.types.specs.declared.Call.{Call}
use Rattle.types.specs.declared.Call.TheVariants as C
use Rattle.serial.specs.Serializable.{ε, ◌▸◌, ReadReply, Event, begun, call, other, History}
use Rattle.serial.specs.Serializable as H

-- a value of the store and one of the plain run, whose `none` is never written
abbrev pub told_value : Value → Option Val
told_value None = none
told_value (Some v) = some v

abbrev pub shown_value : Option Val → Value
shown_value none = None
shown_value (some v) = Some v

-- a Begin "that gave its handle"
abbrev gave : Call → ℕ → Event Val
gave C.Begin h = begun h
gave (C.Write g r v) h = other
gave (C.Lock g r low high w) h = other
gave (C.Read g r m w) h = other
gave (C.Commit g pick f) h = other
gave (C.Abort g f) h = other
gave (C.Settle g) h = other
gave (C.Purge r b) h = other
gave (C.View r p) h = other

-- "A Write that replied `ok`"
abbrev done : Call → Event Val
done C.Begin = other
done (C.Write h r v) = call h.0 (H.wrote r v)
done (C.Lock h r low high w) = other
done (C.Read h r m w) = other
done (C.Commit h pick f) = other
done (C.Abort h f) = other
done (C.Settle h) = other
done (C.Purge r b) = other
done (C.View r p) = other

-- "A Read that replied `read`, `own` or `again`", with the value in its reply
abbrev showed : Call → ReadReply → Option Val → Event Val
showed C.Begin a x = other
showed (C.Write h r v) a x = other
showed (C.Lock h r low high w) a x = other
showed (C.Read h r m w) a x = call h.0 (H.read r a x)
showed (C.Commit h pick f) a x = other
showed (C.Abort h f) a x = other
showed (C.Settle h) a x = other
showed (C.Purge r b) a x = other
showed (C.View r p) a x = other

-- "An edit is committed if a call of it replied `commit`"
abbrev saved : Call → ℕ → Event Val
saved C.Begin t = other
saved (C.Write h r v) t = other
saved (C.Lock h r low high w) t = other
saved (C.Read h r m w) t = other
saved (C.Commit h pick f) t = call h.0 (H.commits t)
saved (C.Abort h f) t = other
saved (C.Settle h) t = other
saved (C.Purge r b) t = other
saved (C.View r p) t = other

-- `other`: "any other call, or a refused one"
abbrev pub heard : Call → Reply → Event Val
heard c ok = done c
heard c (edit h) = gave c h
heard c (locked low high) = other
heard c (read tr end v) = showed c (H.from tr) (told_value v)
heard c (own v) = showed c H.own (some v)
heard c (again tr v) = showed c (H.again tr) (told_value v)
heard c (commit t) = saved c t
heard c nopoint = other
heard c (purged versions locks) = other
heard c (at p v) = other
heard c (point p) = other
heard c (refusing n more) = other

-- "the list's calls with their replies", in list order, after what was heard before them
abbrev pub heard_after : History Val → List Call → List Reply → History Val
heard_after l [] qs = l
heard_after l (c ∷ cs) [] = l
heard_after l (c ∷ cs) (q ∷ qs) = heard_after (l ▸ heard c q) cs qs

-- "The plain run is fed the Format and the list's calls with their replies, nothing else." Of the Format it takes that
-- every record is "at first never written": the history of a list starts empty
abbrev pub history : List Call → List Reply → History Val
history cs qs = heard_after ε cs qs
