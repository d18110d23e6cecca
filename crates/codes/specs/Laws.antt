-- What the number of a reply tells: statements, which proofs/Laws proves. Rests on Codes and the calls of `meaning`.
use Rattle.std.specs.Prelude.{ℕ, ◌/◌, ◌%◌, ◌≡◌, true, false, [], ◌∷◌}
use Rattle.meaning.specs.Store.{Store}
use Rattle.types.specs.Replies.{refused, nopoint, refusing}
use Rattle.meaning.specs.Sound.{sound_store}
use Rattle.meaning.specs.Calls.{act}
use Rattle.types.specs.declared.Call.{Call}
use Rattle.codes.specs.Codes.{CODES, code_of}

-- 0 is for granted calls alone
abbrev pub ZeroIsGranted : Type 0
ZeroIsGranted = (c : Call) (s : Store) → code_of (act c s).reply ≡ 0
    → (refused (act c s).reply ≡ false) × ((act c s).reply ≡ nopoint → ⊥)

-- "8 also the holder's handle": of a sound store the number and the handle can be read back
abbrev pub HolderReadsBack : Type 0
HolderReadsBack = (c : Call) (s : Store) (h : ℕ) → sound_store s ≡ true → (act c s).reply ≡ refusing 8 (h ∷ [])
    → (code_of (act c s).reply % CODES ≡ 8) × (code_of (act c s).reply / CODES ≡ h)
