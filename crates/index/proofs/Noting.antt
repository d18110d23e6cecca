-- The index after a call is right of the store after it. Rests on Calls.
use Prim.Native.Nat.{ℕ, ◌≤◌, ◌<◌}
use native.Mathlib.Omega.{arith}
use native.Mathlib.Decide.{ℕ_discrete}
use mathlib.Core.Path.{◌≡◌, refl, sym, ◌∙◌}
use mathlib.Core.Logic.{◌⊎◌, inl, inr}
use mathlib.Core.Bool.{true, false}
use mathlib.Core.List.{List}
use lib.Dec.{leb}
use lib.ListN.{length}
use borrow.Author.Tests.{eqb-true, leb-true}
use Rattle.std.specs.Prelude.{Result, Ok}
use Rattle.types.specs.Limits.{SLOTS, FREE, SETTLED}
use Rattle.types.specs.Replies.{Reply, edit, of_begin}
use Rattle.types.specs.declared.Refusal.{Refusal}
use Rattle.types.specs.declared.Call.TheVariants as C
use Rattle.types.specs.declared.Handle.{Handle}
use Rattle.types.specs.declared.Point.{Point}
use Rattle.types.specs.declared.Extent.{Extent}
use Rattle.types.specs.declared.Pick.{Pick}
use Rattle.types.specs.declared.Finish.{Finish}
use Rattle.meaning.specs.Lists.{any}
use Rattle.meaning.specs.Store.{Store, counts_of, handle, slot_of, next_generation, edit_at, rec_at, names}
use Rattle.meaning.specs.Points.{is_owned}
use Rattle.meaning.specs.Outcomes.{Verdict, pass, refuse, unless, replies}
use Rattle.meaning.specs.Edits.{beginning, begin_checks, begun, free_slot}
use Rattle.meaning.specs.Calls.{act_by}
use Rattle.meaning.specs.Sound.{sound_store}
use Rattle.meaning.proofs.Lists.{or_out, not_both, false_in, any_out}
use Rattle.meaning.proofs.Verdicts.{needs_pass}
use Rattle.meaning.proofs.SoundParts.{sound_out}
use Rattle.meaning.proofs.Granted.{free_found}
use Rattle.tables.proofs.Header.{good_ranged}
use Rattle.index.specs.Index.{MARKS, touched, silent, Met, Indexed, Notes, Touched, Marked, Cleared, Begun}
use Rattle.index.proofs.Says.{met_among}
use Rattle.index.proofs.Calls.{begin_after, write_after, lock_after, read_after, commit_after, abort_after}
use Rattle.index.proofs.Calls.{settle_after, purge_after, view_after}

module _ (s s' : Store) (ix ix' : List ℕ) (I : Indexed s ix) where
  abbrev Less : Type 0
  Less = (k r : ℕ) → 1 ≤ k → touched s' k r ≡ true → touched s k r ≡ true

  pub kept : Less → Indexed s' ix
  kept f =
      record {
        quiet = λ k r h l m e. false_in (touched s' k r) (λ q. not_both (f k r h q) (I.quiet k r h l m e));
        whole = I.whole;
      }

  touched_kept : (g i : ℕ) → Touched ix ix' g i
      → ((k r : ℕ) → 1 ≤ k → touched s' k r ≡ true → (touched s k r ≡ true) ⊎ ((k ≡ slot_of g) × (r ≡ i)))
      → Indexed s' ix'
  touched_kept g i T f =
      record {
        quiet = λ k r h l m e. false_in (touched s' k r) (λ q. go k r h l m e (f k r h q));
        whole = T.whole I.whole;
      }
    where
      go : (k r : ℕ) → 1 ≤ k → k < SLOTS → r < MARKS → silent ix' k r ≡ true
          → (touched s k r ≡ true) ⊎ ((k ≡ slot_of g) × (r ≡ i)) → ⊥
      go k r h l m e (inl t) = not_both t (I.quiet k r h l m (T.less k r l m e))
      go k r h l m e (inr z) = not_both e (rw (z.0, z.1) (T.here (omega (arith, z.1))))

  cleared_kept : (j : ℕ) → Cleared ix ix' j → Less → ((r : ℕ) → touched s' j r ≡ false) → Indexed s' ix'
  cleared_kept j D f n =
      record { quiet = λ k r h l m e. go k r h l m e (ℕ_discrete k j); whole = D.whole I.whole }
    where
      go : (k r : ℕ) → 1 ≤ k → k < SLOTS → r < MARKS → silent ix' k r ≡ true → Dec (k ≡ j) → touched s' k r ≡ false
      go k r h l m e (yes z) = rw z (n r)
      go k r h l m e (no z) =
          false_in (touched s' k r) (λ q. not_both (f k r h q) (I.quiet k r h l m (D.less k r z l m e)))

-- every record that a slot has touched is met
pub met_all : {s : Store} {ix : List ℕ} {k r n : ℕ} → Indexed s ix → 1 ≤ k → k < SLOTS → n ≤ MARKS → r < n
    → touched s k r ≡ true → Met ix k n r
met_all {s} {ix} {k} {r} {n} I h l m e t =
    met_among ix k n r e (I.whole k r l (omega arith) (false_in (silent ix k r) (λ q.
    not_both t (I.quiet k r h l (omega arith) q))))

-- a free slot has touched nothing
module _ (s : Store) (sound : sound_store s ≡ true) where
  free_untouched : (k r : ℕ) → 1 ≤ k → (edit_at s k).state ≡ FREE → touched s k r ≡ true → ⊥
  unfolding touched names
  free_untouched k r h e q = go (or_out _ _ q)
    where
      owner : (o : ℕ) → o ≡ k → (o ≡ SETTLED) ⊎ ((edit_at s o).state ≡ FREE → ⊥) → ⊥
      owner o z (inl p) = omega (arith, p)
      owner o z (inr p) = p (rw z e)

      go : (names (edit_at s k) r ≡ true) ⊎ (any (is_owned k) (rec_at s r).locks ≡ true) → ⊥
      go (inl p) = not_both (rw (((sound_out s sound).edits k).idle e) at p) refl
      go (inr p) =
          let m = any_out (is_owned k) (rec_at s r).locks p in
          owner m.0.owner (eqb-true m.0.owner k m.2) (((sound_out s sound).recs r).owner m.0 m.1)

  passed : (v : Verdict) (s' : Store) (g h : ℕ) → edit h ≡ (unless s v (replies s' (edit g))).reply → (v ≡ pass) × (h ≡
      g)
  passed pass s' g h e = (refl, cc)
  passed (refuse n more) s' g h e = absurd (let z : ◌≡◌ {A = ℕ} 0 1 = cc in omega arith)

  new_untouched : (h : ℕ) → edit h ≡ (beginning s).reply → (r : ℕ) → touched (beginning s).store (slot_of h) r ≡ false
  unfolding beginning begin_checks
  new_untouched h e r =
      let k = free_slot s in
      let g = handle (next_generation (edit_at s k).generation) k in
      let p = passed (begin_checks s) (begun s k) g h e in
      let t = needs_pass (leb k (length s.edits)) 13 pass p.0 in
      let f = free_found s.edits (leb-true k (length s.edits) t.0) in
      let few = (good_ranged (counts_of s) (sound_out s sound).counts).edits_high in
      let low : 1 ≤ k = f.range.from in
      let z : slot_of h ≡ k = omega (arith, p.1, f.range.upto, few) in
      false_in (touched (beginning s).store (slot_of h) r) (λ q.
      free_untouched k r low f.free (rw z at (begin_after (slot_of h) r (omega (arith, z)) s q)))

-- each call
module _ (ix ix' : List ℕ) (r : Reply) where
  pub notes_begin : Begun ix ix' r → Notes C.Begin r ix ix'
  unfolding act_by
  notes_begin B = record { keeps = λ s g e I. go s g e I B }
    where
      go : (s : Store) → sound_store s ≡ true → r ≡ (beginning s).reply → Indexed s ix → Begun ix ix' r
          → Indexed (beginning s).store ix'
      go s g e I (inl z) = rw z (kept s (beginning s).store ix ix I (λ k q h. begin_after k q h s))
      go s g e I (inr z) =
          cleared_kept s (beginning s).store ix ix' I (slot_of z.0) z.2 (λ k q h. begin_after k q h s)
          (new_untouched s g z.0 (sym z.1 ∙ e))

  pub notes_write : (h : Handle) (i v : ℕ) → Touched ix ix' h.0 i → Notes (C.Write h i v) r ix ix'
  unfolding act_by
  notes_write h i v T =
      record { keeps = λ s g e I. touched_kept s _ ix ix' I h.0 i T (λ k q l. write_after k q l s h.0 i v) }

  pub notes_lock : (h : Handle) (i : ℕ) (low high : Point) (w : Extent) → Touched ix ix' h.0 i
      → Notes (C.Lock h i low high w) r ix ix'
  unfolding act_by
  notes_lock h i low high w T =
      record {
        keeps = λ s g e I.
            touched_kept s _ ix ix' I h.0 i T (λ k q l. lock_after k q l s h.0 i low.0 high.0 w);
      }

  pub notes_read : (h : Handle) (i : ℕ) (m : Point) (w : Extent) → Touched ix ix' h.0 i
      → Notes (C.Read h i m w) r ix ix'
  unfolding act_by
  notes_read h i m w T =
      record {
        keeps = λ s g e I. touched_kept s _ ix ix' I h.0 i T (λ k q l. read_after k q l s h.0 i m.0 w);
      }

module _ (ix : List ℕ) (r : Reply) where
  pub notes_commit : (h : Handle) (pick : Pick) (f : Finish) → Notes (C.Commit h pick f) r ix ix
  unfolding act_by
  notes_commit h pick f =
      record { keeps = λ s g e I. kept s _ ix ix I (λ k q l. commit_after k q l s h.0 pick f) }

  pub notes_abort : (h : Handle) (f : Finish) → Notes (C.Abort h f) r ix ix
  unfolding act_by
  notes_abort h f = record { keeps = λ s g e I. kept s _ ix ix I (λ k q l. abort_after k q l s h.0 f) }

  pub notes_settle : (h : Handle) → Notes (C.Settle h) r ix ix
  unfolding act_by
  notes_settle h = record { keeps = λ s g e I. kept s _ ix ix I (λ k q l. settle_after k q l s h.0) }

  pub notes_purge : (i : ℕ) (b : Point) → Notes (C.Purge i b) r ix ix
  unfolding act_by
  notes_purge i b = record { keeps = λ s g e I. kept s _ ix ix I (λ k q l. purge_after k q l s i b.0) }

  pub notes_view : (i : ℕ) (p : Point) → Notes (C.View i p) r ix ix
  unfolding act_by
  notes_view i p = record { keeps = λ s g e I. kept s _ ix ix I (λ k q l. view_after k q l s i p.0) }

-- the slot of a handle and a record as numbers
pub touch_marked : (ix ix' : List ℕ) (h rec k r : ℕ) → k ≡ slot_of h → r ≡ rec → Marked ix ix' k r
    → Touched ix ix' h rec
touch_marked ix ix' h rec k r e f M =
    record { less = M.less; here = λ l. rw (e, f) at M.here; whole = M.whole }

pub touch_none : (ix : List ℕ) (h rec r : ℕ) → r ≡ rec → MARKS ≤ r → Touched ix ix h rec
touch_none ix h rec r e n = record { less = λ i j l m e. e; here = λ l. absurd (omega arith); whole = λ W. W }

pub begun_clear : (ix ix' : List ℕ) (b : Result Handle Refusal) (h : Handle) (k : ℕ) → b ≡ Ok h → k ≡ slot_of h.0
    → Cleared ix ix' k → Begun ix ix' (of_begin b)
begun_clear ix ix' b h k z e D = inr (h.0, rw z refl, rw e at D)
