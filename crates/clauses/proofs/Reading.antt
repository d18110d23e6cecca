-- A record read, as the code tests it: its version, its read lock. Rests on Decoded of the crate `tables`.
use Prim.Native.Nat.{ℕ, suc, ◌<◌}
use mathlib.Core.Path.{◌≡◌, refl}
use mathlib.Core.Bool.{Bool, ◌&&◌, ◌||◌}
use mathlib.Core.List.{List, [], ◌∷◌}
use lib.Dec.{eqb, eqb-suc-suc}
use Rattle.meaning.specs.Lists.{any}
use Rattle.meaning.specs.Store.{Rec}
use Rattle.meaning.specs.Sound.{is_present}
use Rattle.types.specs.declared.Version.{Version}
use Rattle.types.specs.declared.Access.{Access}
use Rattle.types.specs.declared.Counts.{Counts}
use Rattle.tables.specs.Decode.{record_at, records_of}
use Rattle.tables.proofs.Decoded.{rec_of_lem}
use Rattle.clauses.specs.Clauses.{read_of, read_sound}

-- a version that stands on p is one whose point + 1 is p + 1
stands : (p : ℕ) (vs : List Version) → any (λ v. eqb v.point p) vs ≡ any (λ v. eqb (suc v.point) (suc p)) vs
stands p [] = refl
stands p (v ∷ vs) = rw (eqb-suc-suc v.point p, stands p vs) refl

-- b says whether a version stands on p, f is the floor
pub present_is : (x : Rec) (p : ℕ) {b : Bool} {f : ℕ} → b ≡ any (λ v. eqb v.point p) x.versions → f ≡ x.floor
    → (b || (eqb p 0 && eqb f 0)) ≡ is_present x (suc p)
unfolding is_present
present_is x p e g = rw (e, g, stands p x.versions, eqb-suc-suc p 0) refl

-- r is the record as a row number, j the slot as a word
pub read_is : (c : Counts) (w : List ℕ) (k : ℕ) (a : Access) {r j : ℕ} → a.rec < c.records → r ≡ a.rec → j ≡ k
    → read_of (record_at c w r) j a.from ≡ read_sound (records_of c w) k a
unfolding read_sound
read_is c w k a l er ej = rw (rec_of_lem c w a.rec l, er, ej) refl
