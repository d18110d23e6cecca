-- The clauses of a record, in the order in which the check tests them, are those of `sound_rec`. Rests on Passing and
-- Versions, on Agreeing of the crate `sweeps` and on Lists of the crate `meaning`.
use Prim.Native.Nat.{ℕ}
use mathlib.Core.Path.{◌≡◌, refl, sym, ap, ◌∙◌}
use mathlib.Core.Logic.{◌⊎◌, inl, inr}
use mathlib.Core.Bool.{Bool, true, false, ◌&&◌}
use mathlib.Core.List.{List, [], ◌∷◌}
use native.Mathlib.Omega.{arith}
use Rattle.types.specs.declared.Lock.{Lock}
use Rattle.meaning.specs.Lists.{all, pairwise}
use Rattle.meaning.specs.Points.{no_later, apart_reads}
use Rattle.meaning.specs.Store.{Rec, Edit}
use Rattle.meaning.specs.Sound.{modes_listed, versions_fall, versions_lie, versions_end, none_at_zero, locks_lie}
use Rattle.meaning.specs.Sound.{owners_in_use}
use Rattle.meaning.specs.Sound.{agree, writes_apart, locks_rise, reads_joined, versions_backed, sound_rec}
use Rattle.meaning.proofs.Lists.{and_in, and_left, and_right, all_in, all_out, every_at}
use Rattle.meaning.proofs.Lists.{both, test}
use Rattle.sweeps.specs.declared.Swept.{Swept}
use Rattle.sweeps.specs.Sweep.{swept_now, passed, passing, no_swept}
use Rattle.sweeps.proofs.Agreeing.{Proper, passing_both, swept_is}
use Rattle.clauses.specs.Clauses.{mode_listed, span_lies, owner_used, lock_sound, lock_now, versions_sound, locks_pass}
use Rattle.clauses.proofs.Steps.{and_on}
use Rattle.clauses.proofs.Passing.{lock_lies}
use Rattle.clauses.proofs.Versions.{versions_out, versions_in}

-- locks
locks_out : (es : List Edit) (x : Rec) → all (lock_sound es x.floor) x.locks ≡ true
    → (locks_lie x ≡ true) × (modes_listed x ≡ true) × (owners_in_use es x ≡ true)
unfolding lock_sound locks_lie modes_listed owners_in_use
locks_out es x h =
    let at = all_out (lock_sound es x.floor) x.locks h in (
      all_in (span_lies x.floor) x.locks (λ l m. and_left (span_lies x.floor l) _ (at l m)),
      all_in mode_listed x.locks
          (λ l m. and_left (mode_listed l) (owner_used es l) (and_right (span_lies x.floor l) _ (at l m))),
      all_in (owner_used es) x.locks
          (λ l m. and_right (mode_listed l) (owner_used es l) (and_right (span_lies x.floor l) _ (at l m))),
    )

locks_in : (es : List Edit) (x : Rec) → locks_lie x ≡ true → modes_listed x ≡ true → owners_in_use es x ≡ true
    → all (lock_sound es x.floor) x.locks ≡ true
unfolding lock_sound locks_lie modes_listed owners_in_use
locks_in es x a b d =
    all_in (lock_sound es x.floor) x.locks (λ l m.
    and_in (all_out (span_lies x.floor) x.locks a l m)
    (and_in (all_out mode_listed x.locks b l m) (all_out (owner_used es) x.locks d l m)))

-- the locks in one pass: each by itself, and how they stand to one another
module _ (es : List Edit) (x : Rec) where
  each : (s : Swept) (ls : List Lock)
      → passing (λ s l. lock_sound es x.floor l) s ls ≡ all (lock_sound es x.floor) ls
  unfolding passing
  each s [] = refl
  each s (l ∷ ls) = ap (λ b. lock_sound es x.floor l && b) (each (passed s l) ls)

  proper : all (lock_sound es x.floor) x.locks ≡ true → Proper x.locks
  proper h l m =
      let lies = lock_lies es x.floor l (all_out (lock_sound es x.floor) x.locks h l m) in
      (omega (arith, lies.0), lies.1)

  locks_passed : locks_pass es x
      ≡ (all (lock_sound es x.floor) x.locks && (locks_rise x && (reads_joined x && writes_apart x)))
  unfolding lock_now locks_rise reads_joined writes_apart
  locks_passed =
      passing_both (λ s l. lock_sound es x.floor l) swept_now no_swept x.locks
      ∙ ap (λ b. b && passing swept_now no_swept x.locks) (each no_swept x.locks)
      ∙ go (test (all (lock_sound es x.floor) x.locks))
    where
      go : (all (lock_sound es x.floor) x.locks ≡ true) ⊎ (all (lock_sound es x.floor) x.locks ≡ false)
          → (all (lock_sound es x.floor) x.locks && passing swept_now no_swept x.locks)
          ≡ (all (lock_sound es x.floor) x.locks
          && (pairwise no_later x.locks && (pairwise apart_reads x.locks && pairwise agree x.locks)))
      go (inl e) = ap (λ b. all (lock_sound es x.floor) x.locks && b) (swept_is x.locks (proper e))
      go (inr e) = rw e refl

  -- what locks that pass say
  record Passed : Type 0 where
    each : all (lock_sound es x.floor) x.locks ≡ true
    rise : locks_rise x ≡ true
    joined : reads_joined x ≡ true
    apart : writes_apart x ≡ true

  pass_out : locks_pass es x ≡ true → Passed
  pass_out h =
      let a = all (lock_sound es x.floor) x.locks in
      let t = sym locks_passed ∙ h in
      let o = and_right a (locks_rise x && (reads_joined x && writes_apart x)) t in
      let j = and_right (locks_rise x) (reads_joined x && writes_apart x) o in
      record {
        each = and_left a (locks_rise x && (reads_joined x && writes_apart x)) t;
        rise = and_left (locks_rise x) (reads_joined x && writes_apart x) o;
        joined = and_left (reads_joined x) (writes_apart x) j;
        apart = and_right (reads_joined x) (writes_apart x) j;
      }

  pub locks_rise_lem : locks_pass es x ≡ true → pairwise no_later x.locks ≡ true
  unfolding locks_rise
  locks_rise_lem h = (pass_out h).rise

-- the three parts of the check
module _ (es : List Edit) (r : ℕ) (x : Rec) where
  abbrev rec_parts : Bool
  rec_parts = locks_pass es x && (versions_sound x && versions_backed es r x)

  forth : rec_parts ≡ true → sound_rec es r x ≡ true
  unfolding sound_rec
  forth h =
      let p = pass_out es x (and_left (locks_pass es x) (versions_sound x && versions_backed es r x) h) in
      let l = locks_out es x p.each in
      let rest = and_right (locks_pass es x) (versions_sound x && versions_backed es r x) h in
      let v = versions_out x (and_left (versions_sound x) (versions_backed es r x) rest) in
      and_in l.1
      (and_in v.fall (and_in v.lie (and_in v.end (and_in v.nonzero (and_in l.0 (and_in l.2
      (and_in p.apart (and_in (and_right (versions_sound x) (versions_backed es r x) rest)
      (and_in p.rise (and_in p.joined refl))))))))))

  back : sound_rec es r x ≡ true → rec_parts ≡ true
  unfolding sound_rec
  back h =
      let at =
      every_at
      (modes_listed x ∷ versions_fall x ∷ versions_lie x ∷ versions_end x ∷ none_at_zero x ∷ locks_lie x
      ∷ owners_in_use es x
      ∷ writes_apart x ∷ versions_backed es r x ∷ locks_rise x ∷ reads_joined x ∷ [])
      h in
      and_in
      (locks_passed es x ∙ and_in (locks_in es x (at 5) (at 0) (at 6)) (and_in (at 9) (and_in (at 10) (at 7))))
      (and_in (versions_in x (record { fall = at 1; lie = at 2; end = at 3; nonzero = at 4 })) (at 8))

  parts : rec_parts ≡ sound_rec es r x
  parts = both rec_parts (sound_rec es r x) forth back

  -- where the locks pass, the rest of the clauses; the locks of a sound record do
  pub rec_checked : {q : Bool} → locks_pass es x ≡ true → q ≡ (versions_sound x && versions_backed es r x)
      → q ≡ sound_rec es r x
  rec_checked h e = and_on h e ∙ parts

  pub rec_passes : sound_rec es r x ≡ true → locks_pass es x ≡ true
  rec_passes h = and_left (locks_pass es x) (versions_sound x && versions_backed es r x) (parts ∙ h)
