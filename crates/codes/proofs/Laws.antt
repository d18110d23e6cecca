-- The laws of specs/Laws: 0 is granted alone, since no call refuses with 0; a holder's handle is below HANDLES, since
-- its slot is in use and its generation listed. Rests on the laws of `meaning`.
use Prim.Native.Nat.{ℕ, ◌/◌, ◌%◌, ◌≤◌, ◌<◌}
use native.Mathlib.Omega.{arith}
use mathlib.Core.Path.{◌≡◌, refl, ap}
use mathlib.Core.Bool.{true, false}
use mathlib.Core.List.{List, [], ◌∷◌}
use lib.Dec.{leb}
use borrow.Author.Tests.{leb-true}
use Rattle.meaning.specs.Lists.{all}
use Rattle.meaning.specs.Store.{Store, rec_at}
use Rattle.types.specs.Replies.{Reply, ok, edit, locked, read, own, again, commit, nopoint, purged, at, point}
use Rattle.types.specs.Replies.{refusing, refused}
use Rattle.meaning.specs.Outcomes.{handle_at}
use Rattle.meaning.specs.Calls.{act}
use Rattle.meaning.specs.Pointwise.{LowestHolder}
use Rattle.meaning.specs.Order.{Refuses, concerns, HeldByLowest}
use Rattle.meaning.specs.Sound.{sound_store}
use Rattle.types.specs.declared.Call.{Call}
use Rattle.types.specs.declared.Call.TheVariants as C
use Rattle.meaning.proofs.Lists.{all_out}
use Rattle.meaning.proofs.SoundParts.{sound_out}
use Rattle.meaning.proofs.ForCause.{owner_slot}
use Rattle.meaning.proofs.Laws.{only_own_numbers, holder_is_lowest}
use Rattle.codes.specs.Codes.{HANDLES, CODES, code_of, code_with}
use Rattle.codes.specs.Laws.{ZeroIsGranted, HolderReadsBack}

-- no call refuses with 0
positive : (c : Call) → all (leb 1) (concerns c) ≡ true
positive C.Begin = refl
positive (C.Write h r v) = refl
positive (C.Lock h r low high w) = refl
positive (C.Read h r m w) = refl
positive (C.Commit h pick f) = refl
positive (C.Abort h f) = refl
positive (C.Settle h) = refl
positive (C.Purge r b) = refl
positive (C.View r p) = refl

from_1 : (c : Call) (s : Store) (n : ℕ) → Refuses n (act c s).reply → 1 ≤ n
from_1 c s n q = leb-true 1 n (all_out (leb 1) (concerns c) (positive c) n (only_own_numbers c s n q))

with_positive : (n : ℕ) (more : List ℕ) → 1 ≤ n → code_with n more ≡ 0 → ⊥
with_positive n [] p z = omega (arith, p, z)
with_positive n (h ∷ more) p z = omega (arith, p, z)

granted_at : (r : Reply) → ((n : ℕ) → Refuses n r → 1 ≤ n) → code_of r ≡ 0 → refused r ≡ false
granted_at ok f z = refl
granted_at (edit h) f z = refl
granted_at (locked low high) f z = refl
granted_at (read tr end v) f z = refl
granted_at (own v) f z = refl
granted_at (again tr v) f z = refl
granted_at (commit p) f z = refl
granted_at nopoint f z = refl
granted_at (purged vs ls) f z = refl
granted_at (at p v) f z = refl
granted_at (point p) f z = refl
granted_at (refusing n more) f z = absurd (with_positive n more (f n (more, refl)) z)

no_nopoint : {r : Reply} → code_of r ≡ 0 → r ≡ nopoint → ⊥
no_nopoint z e = omega (arith, z, ap code_of e)

pub zero_is_granted : ZeroIsGranted
zero_is_granted c s z = (granted_at (act c s).reply (from_1 c s) z, no_nopoint z)

-- the owner of a lock is below SLOTS, so its handle is below HANDLES
handle_fits : (s : Store) → sound_store s ≡ true → (r : ℕ) {mode k p h : ℕ}
    → (o : ℕ) × LowestHolder mode k (rec_at s r) p o × (h ≡ handle_at s o) → h < HANDLES
handle_fits s g r {mode} {k} {p} q =
    omega (arith, owner_slot s g r mode k p _ q.1.holds, ((sound_out s g).edits q.0).generation, q.2)

held_fits : (c : Call) (s : Store) (h : ℕ) → sound_store s ≡ true → HeldByLowest c s h → h < HANDLES
held_fits C.Begin s h g z = absurd z
held_fits (C.Write x r v) s h g z = absurd z
held_fits (C.Lock x r low high w) s h g z = handle_fits s g r z.2
held_fits (C.Read x r m w) s h g z = handle_fits s g r z.2
held_fits (C.Commit x pick f) s h g z = absurd z
held_fits (C.Abort x f) s h g z = absurd z
held_fits (C.Settle x) s h g z = absurd z
held_fits (C.Purge r b) s h g z = absurd z
held_fits (C.View r p) s h g z = absurd z

-- a handle that fits is read back
reads_back : (h : ℕ) → h < HANDLES
    → (code_of (refusing 8 (h ∷ [])) % CODES ≡ 8) × (code_of (refusing 8 (h ∷ [])) / CODES ≡ h)
reads_back h f = (omega (arith, f), omega (arith, f))

pub holder_reads_back : HolderReadsBack
holder_reads_back c s h g e = rw e (reads_back h (held_fits c s h g (holder_is_lowest c s h g e)))
