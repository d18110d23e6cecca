-- Which call a script line is, by document 01: "F records edits versions locks accesses; B; W handle record value; L
-- handle record low high flag; R handle record m flag; C handle E, L or point, S or K; A handle S or K; S handle; P
-- record b; V record p". Any other line, one of more than 200 bytes among them, is malformed. Rests on Fields and Kinds
-- of the crate `fields` and the types of `types`.
use Rattle.std.specs.Prelude.{ℕ, cond, List, length, leb, eqb, Some}
use Prim.Native.Char.{code}
use Rattle.fields.specs.Fields.{Parsed, Malformed, fields, number, done}
use Rattle.fields.specs.Kinds.{Fields, handle, point, letter, extent, finish, pick}
use Rattle.fields.specs.declared.Command.TheVariants as P
use Rattle.types.specs.declared.Counts.{Counts}
use Rattle.types.specs.declared.Call.{Call}
use Rattle.types.specs.declared.Point.{Point}
use Rattle.types.specs.declared.Call.TheVariants as C

abbrev pub counts : ℕ → ℕ → ℕ → ℕ → ℕ → Counts
counts r e v l a = record { records = r; edits = e; versions = v; locks = l; accesses = a }

unfoldable pub formatting : Fields → Parsed
formatting fs =
    number fs (λ r fs. number fs (λ e fs. number fs (λ v fs. number fs (λ l fs. number fs (λ a fs.
    done fs (Some (P.Format (counts r e v l a))))))))

unfoldable pub beginning : Fields → Parsed
beginning fs = done fs (Some (P.Call C.Begin))

unfoldable pub writing : Fields → Parsed
writing fs =
    number fs (λ h fs. number fs (λ r fs. number fs (λ v fs. done fs (Some (P.Call (C.Write (handle h) r v))))))

unfoldable pub locking : Fields → Parsed
locking fs =
    number fs (λ h fs. number fs (λ r fs. number fs (λ low fs. number fs (λ high fs. extent fs (λ w fs.
    done fs (Some (P.Call (C.Lock (handle h) r (point low) (point high) w))))))))

unfoldable pub reading : Fields → Parsed
reading fs =
    number fs (λ h fs. number fs (λ r fs. number fs (λ m fs. extent fs (λ w fs.
    done fs (Some (P.Call (C.Read (handle h) r (point m) w)))))))

unfoldable pub committing : Fields → Parsed
committing fs =
    number fs (λ h fs. pick fs (λ p fs. finish fs (λ f fs. done fs (Some (P.Call (C.Commit (handle h) p f))))))

unfoldable pub aborting : Fields → Parsed
aborting fs = number fs (λ h fs. finish fs (λ f fs. done fs (Some (P.Call (C.Abort (handle h) f)))))

unfoldable pub settling : Fields → Parsed
settling fs = number fs (λ h fs. done fs (Some (P.Call (C.Settle (handle h)))))

-- a record and a point, and what call is made of the two
unfoldable pub recording : (ℕ → Point → Call) → Fields → Parsed
recording made fs = number fs (λ r fs. number fs (λ p fs. done fs (Some (P.Call (made r (point p))))))

unfoldable pub purging : Fields → Parsed
purging fs = number fs (λ r fs. number fs (λ b fs. done fs (Some (P.Call (C.Purge r (point b))))))

unfoldable pub viewing : Fields → Parsed
viewing fs = number fs (λ r fs. number fs (λ p fs. done fs (Some (P.Call (C.View r (point p))))))

-- by the letter
unfoldable pub called : ℕ → Fields → Parsed
called b fs =
    cond (eqb b (code "F")) (formatting fs)
    (cond (eqb b (code "B")) (beginning fs)
    (cond (eqb b (code "W")) (writing fs)
    (cond (eqb b (code "L")) (locking fs)
    (cond (eqb b (code "R")) (reading fs)
    (cond (eqb b (code "C")) (committing fs)
    (cond (eqb b (code "A")) (aborting fs)
    (cond (eqb b (code "S")) (settling fs)
    (cond (eqb b (code "P")) (purging fs)
    (cond (eqb b (code "V")) (viewing fs) Malformed)))))))))

-- "over 200 bytes"
abbrev pub LONGEST : ℕ
LONGEST = 200

unfoldable pub parsed : List ℕ → Parsed
parsed s = cond (leb (length s) LONGEST) (letter (fields s) called) Malformed
