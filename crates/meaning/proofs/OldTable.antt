-- The new table means what the old one means (specs/OldTable): one case for each call, and a list by its first call.
-- Rests on AlikeStores and AlikeEnding, and on what every call keeps (Laws).
use Prim.Native.Nat.{ℕ, zero, suc, ◌≤◌}
use native.Mathlib.Omega.{arith}
use mathlib.Core.Path.{◌≡◌, refl}
use mathlib.Core.Logic.{◌⊎◌, inl, inr}
use mathlib.Core.Bool.{true}
use mathlib.Core.List.{List, [], ◌∷◌}
use lib.ListN.{replicate}
use Rattle.types.specs.Limits.{SETTLED, COMMITTED}
use Rattle.types.specs.Replies.{ok, refusing}
use Rattle.types.specs.declared.Call.{Call}
use Rattle.types.specs.declared.Call.TheVariants as C
use Rattle.meaning.specs.Store.{Rec, Edit, Store, fresh_rec, fresh_edit, edit_of, rec_of, access_of}
use Rattle.meaning.specs.Store.{slot_of}
use Rattle.meaning.specs.Outcomes.{knows, is_open}
use Rattle.meaning.specs.Ending.{commit_checks, abort_checks, settle_checks, committing_by, aborting_by, settling_by}
use Rattle.meaning.specs.Calls.{act_by, act}
use Rattle.meaning.specs.Sound.{sound_store}
use Rattle.meaning.specs.OldTable.{old_act, SameModes, Alike, AlikeAlong, NewTableIsOld}
use Rattle.meaning.proofs.Verdicts.{needs_pass, for_open_pass, knows_out}
use Rattle.meaning.proofs.Stores.{InRange}
use Rattle.meaning.proofs.SoundParts.{sound_out}
use Rattle.meaning.proofs.Laws.{calls_keep_sound, fresh_is_sound}
use Rattle.meaning.proofs.Alike.{modes_to, modes_from}
use Rattle.meaning.proofs.AlikeRecs.{AlikeRec, Recs, Good, fresh_rec_alike}
use Rattle.meaning.proofs.AlikeStores.{Step, mk, unless_step, begin_step}
use Rattle.meaning.proofs.AlikeStores.{view_step, write_step, lock_step, read_step, purge_step}
use Rattle.meaning.proofs.AlikeEnding.{from_common, settled_step, aborted_step, commit_open_lem}

module _ (vn ln an : ℕ) where
  -- each call, on stores with the same slots es and the records rs, us: the old table refuses it with 11, or they go on
  -- alike
  module _ (es : List Edit) (rs us : List Rec) (R : Recs rs us) (sound : sound_store (mk vn ln an es us) ≡ true) where
    abbrev old : Store
    old = mk vn ln an es rs

    abbrev new : Store
    new = mk vn ln an es us

    good : Good us
    good =
        let g = sound_out (mk vn ln an es us) sound in
        record {
          proper = λ r l i. ((g.recs r).span l i).some;
          rises = λ r. (g.recs r).rises;
          joined = λ r. (g.recs r).joined;
        }

    -- a committed edit has read below its point
    reads : (k r : ℕ) → (edit_of es k).state ≡ COMMITTED → (access_of (edit_of es k) r).from ≤ (edit_of es k).point
    reads k r z =
        from_common us k (edit_of es k) (edit_of es k).point
        (((sound_out (mk vn ln an es us) sound).edits k).common z) r

    no_slot : {k : ℕ} → InRange es k → SETTLED ≡ k → ⊥
    no_slot w e = omega (arith, w.from, e)

    act_step : (c : Call) → ((old_act c old).reply ≡ refusing 11 []) ⊎ Step vn ln an (old_act c old) (act c new)
    unfolding act_by committing_by aborting_by settling_by abort_checks settle_checks commit_checks knows is_open
    act_step C.Begin = inr (begin_step vn ln an es rs us R)
    act_step (C.Write h r v) = inr (write_step vn ln an es rs us R h.0 r v)
    act_step (C.Lock h r low high w) = lock_step vn ln an es rs us R good h.0 r low.0 high.0 w
    act_step (C.Read h r m w) = read_step vn ln an es rs us R good h.0 r m.0 w
    act_step (C.Commit h pick f) =
        inr (unless_step vn ln an es rs us R (commit_checks old h.0 pick) (commit_checks new h.0 pick) _ _ refl
        (λ z.
        let a = for_open_pass old h.0 _ z in
        commit_open_lem vn ln an es rs us R (slot_of h.0) (no_slot a.known.range) a.known.range pick f))
    act_step (C.Abort h f) =
        inr (unless_step vn ln an es rs us R (abort_checks old h.0) (abort_checks new h.0) _ _ refl
        (λ z.
        let a = for_open_pass old h.0 _ z in
        aborted_step vn ln an es rs us R (slot_of h.0) (no_slot a.known.range) a.known.range ok f))
    act_step (C.Settle h) =
        inr (unless_step vn ln an es rs us R (settle_checks old h.0) (settle_checks new h.0) _ _ refl
        (λ z.
        let a = knows_out old h.0 (needs_pass (knows old h.0) 2 _ z).0 in
        settled_step vn ln an es rs us R (slot_of h.0) (no_slot a.range) ok (λ r q. reads (slot_of h.0) r q)))
    act_step (C.Purge r b) = inr (purge_step vn ln an es rs us R r b.0)
    act_step (C.View r p) = inr (view_step vn ln an es rs us R r p.0)

  modes_alike : (es : List Edit) (rs us : List Rec) → Recs rs us → SameModes (mk vn ln an es rs) (mk vn ln an es us)
  modes_alike es rs us R r o m p = (modes_to (R.each r).locks o m p, modes_from (R.each r).locks o m p)

  pub alike_along : (cs : List Call) (es : List Edit) (rs us : List Rec) → Recs rs us
      → sound_store (mk vn ln an es us) ≡ true
      → AlikeAlong cs (mk vn ln an es rs) (mk vn ln an es us)
  alike_along [] es rs us R sound = tt
  alike_along (c ∷ cs) es rs us R sound =
      λ n. go n (act_step es rs us R sound c) (λ es' rs' us'. alike_along cs es' rs' us')
    where
      go : ((old_act c (mk vn ln an es rs)).reply ≡ refusing 11 [] → ⊥)
          → ((old_act c (mk vn ln an es rs)).reply ≡ refusing 11 [])
          ⊎ Step vn ln an (old_act c (mk vn ln an es rs)) (act c (mk vn ln an es us))
          → ((es' : List Edit) (rs' us' : List Rec) → Recs rs' us' → sound_store (mk vn ln an es' us') ≡ true
          → AlikeAlong cs (mk vn ln an es' rs') (mk vn ln an es' us'))
          → Alike (old_act c (mk vn ln an es rs)).reply (act c (mk vn ln an es us)).reply
          (old_act c (mk vn ln an es rs)).store (act c (mk vn ln an es us)).store
          (AlikeAlong cs (old_act c (mk vn ln an es rs)).store (act c (mk vn ln an es us)).store)
      go n (inl z) f = absurd (n z)
      go n (inr st) f =
          let kept : sound_store (mk vn ln an st.es st.us) ≡ true =
          rw st.right at (calls_keep_sound c (mk vn ln an es us) sound) in
          record {
            reply = st.reply;
            modes = rw (st.left, st.right) (modes_alike st.es st.rs st.us st.recs);
            rest = rw (st.left, st.right) (f st.es st.rs st.us st.recs kept);
          }

fresh_alike : (n r : ℕ) → AlikeRec (rec_of (replicate n fresh_rec) r) (rec_of (replicate n fresh_rec) r)
unfolding rec_of
fresh_alike zero r = fresh_rec_alike
fresh_alike (suc n) zero = fresh_rec_alike
fresh_alike (suc n) (suc r) = fresh_alike n r

pub new_table_is_old : NewTableIsOld
new_table_is_old c good cs =
    alike_along c.versions c.locks c.accesses cs (replicate c.edits fresh_edit)
    (replicate c.records fresh_rec) (replicate c.records fresh_rec)
    (record { count = refl; each = fresh_alike c.records }) (fresh_is_sound c good)
