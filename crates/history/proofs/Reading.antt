-- Read as steps of the serial core: a new read, an own value, a repeated read. Rests on CallRuns, Changes and Simple.
use Prim.Native.Nat.{ℕ, suc, ◌-◌, ◌<◌}
use native.Mathlib.Omega.{arith}
use native.Mathlib.Decide.{ℕ_discrete}
use mathlib.Core.Path.{◌≡◌, refl, sym, ap, ◌∙◌, subst}
use mathlib.Core.Logic.{◌⊎◌, inl, inr, ◌↔◌}
use mathlib.Core.Bool.{Bool, true, false}
use lib.Dec.{eqb}
use lib.ListN.{length}
use borrow.Author.Tests.{eqb-true}
use Rattle.meaning.specs.Lists.{◌∈◌, any, find}
use Rattle.types.specs.Limits.{READ}
use Rattle.meaning.specs.Store.{Edit, Store, set_edit, edit_of, edit_at, rec_at, with_edit, with_records}
use Rattle.types.specs.Numbers.{slot_of}
use Rattle.types.specs.Values.{Val}
use Rattle.meaning.specs.Store.{access_of, has_read, first, version_on}
use Rattle.types.specs.Replies.{own, again}
use Rattle.meaning.specs.Outcomes.{replies, Verdict, has_record}
use Rattle.meaning.specs.Edits.{with_access}
use Rattle.meaning.specs.Locking.{with_lock, with_lock_by, read_version, read_end, read_verdict, read_access}
use Rattle.meaning.specs.Locking.{read_store}
use Rattle.meaning.specs.Locking.{read_store_by, read_new, read_new_by, read_open, read_open_by}
use Rattle.meaning.specs.Locking.{read_checks, reading, reading_by}
use Rattle.meaning.specs.Pointwise.{NewestIs, none, one}
use Rattle.meaning.specs.SoundFacts.{SoundStore, Present}
use Rattle.types.specs.Values.{Value}
use Rattle.types.specs.declared.Version.{Version}
use Rattle.types.specs.declared.Access.{Access}
use Rattle.types.specs.declared.Extent.{Extent}
use Rattle.types.specs.declared.Handle.{Handle}
use Rattle.types.specs.declared.Point.{Point}
use Rattle.types.specs.declared.Call.{Call}
use Rattle.types.specs.declared.Call.TheVariants as C
use Rattle.meaning.proofs.Lists.{find_out, not_both}
use Rattle.meaning.proofs.Tests.{read_out, unread_out}
use Rattle.meaning.proofs.Stores.{edit_same}
use Rattle.meaning.proofs.Newest.{newest_below_is, version_on_stands}
use Rattle.meaning.proofs.Kept.{access_read}
use Rattle.meaning.proofs.Verdicts.{needs_pass, for_open_pass, PassedOpen, has_record_out}
use Rattle.serial.specs.Serializable.{History}
use Rattle.serial.proofs.Slots.{SoundSlots, StandsIn, FirstRead, reads, reads_own, reads_again, then}
use Rattle.history.specs.Heard.{told_value}
use Rattle.history.proofs.StoreSlots.{Valued, slots}
use Rattle.history.proofs.Changes.{iff, grows_more, access_here, access_there}
use Rattle.history.proofs.CallRuns.{Runs, Good, good_facts, Continues, unless_continues, cond_continues}
use Rattle.history.proofs.CallRuns.{open_slot}
use Rattle.history.proofs.Simple.{others_stay, all_keep, lock_grows}
use Rattle.meaning.specs.Store.{has_written, written_value}

-- what a reply's point and value stand for
module _ (s : Store) (valued : Valued s) (r : ℕ) where
  abbrev Stands : ℕ → Value → Type 0
  Stands t x = StandsIn (slots s) r t (told_value x)

  stands_version : (w : Version) (t : ℕ) → w ∈ (rec_at s r).versions → w.point ≡ t → Stands t w.value
  stands_version w t m q =
      let v = valued r w m in
      subst (λ (x : Value). Stands t x) (sym v.1) (record { version = w; member = m; stands = q; value = v.1 })

  stands_first : (w : Version) (t : ℕ) → w ≡ first → t ≡ 0 → Stands t w.value
  stands_first w t q z = subst (λ (v : Version). Stands t v.value) (sym q) z

  stands_newest : (bound : ℕ) (w : Version) → NewestIs (rec_at s r).versions bound w → Stands w.point w.value
  stands_newest bound w (none q f) = stands_first w w.point q (ap (λ (v : Version). v.point) q)
  stands_newest bound w (one m b f) = stands_version w w.point m refl

  -- the version on the point of a repeated read: it is present, or no version stands on 0
  module _ (good : SoundStore s) where
    nothing_at : (t : ℕ) → t ≡ 0 → version_on (rec_at s r).versions t ≡ first
    unfolding version_on
    nothing_at t z = go (find_out on first (rec_at s r).versions)
      where
        on : Version → Bool
        on v = eqb v.point t

        go : ((find on first (rec_at s r).versions ≡ first) × (any on (rec_at s r).versions ≡ false))
            ⊎ ((find on first (rec_at s r).versions ∈ (rec_at s r).versions)
            × (on (find on first (rec_at s r).versions) ≡ true))
            → find on first (rec_at s r).versions ≡ first
        go (inl w) = w.0
        go (inr w) =
            let v = find on first (rec_at s r).versions in
            absurd (omega (arith, eqb-true v.point t w.1, z, (good.recs r).nonzero v w.0))

    stands_present : (t : ℕ) → Present (rec_at s r) t → Stands t (version_on (rec_at s r).versions t).value
    stands_present t (inl v) =
        let w = version_on_stands (rec_at s r) t v in stands_version (version_on (rec_at s r).versions t) t w.0 w.1
    stands_present t (inr z) = stands_first (version_on (rec_at s r).versions t) t (nothing_at t z.0) z.0

-- a new read
module _ (s : Store) (h r : ℕ) {rest : Verdict} (p : PassedOpen s h rest) (there : r < length s.records)
    (t end : ℕ) where
  abbrev k : ℕ
  k = slot_of h

  abbrev e : Edit
  e = edit_at s k

  abbrev a : Access
  a = read_access r (suc t)

  abbrev done : Edit
  done = with_access e a

  abbrev after : Store
  after = read_store s k r (suc t) end

  is_done : edit_at after k ≡ done
  unfolding read_store_by with_lock_by with_records with_edit
  is_done = edit_same s.edits k done p.known.range

  here : access_of (edit_at after k) r ≡ a
  here = ap (λ (d : Edit). access_of d r) is_done ∙ access_here a e

  other : (j : ℕ) → ¬ (j ≡ r) → access_of (edit_at after k) j ≡ access_of e j
  other j n = ap (λ (d : Edit). access_of d j) is_done ∙ access_there a e j n

  module _ (unread : (access_of e r).from ≡ 0) (unwritten : has_written (access_of e r) ≡ false) where
    read_at_lem : (j u : ℕ)
        → ((access_of (edit_at after k) j).from ≡ suc u) ↔ (((access_of e j).from ≡ suc u) ⊎ ((j ≡ r) × (u ≡ t)))
    read_at_lem j u = go (ℕ_discrete j r)
      where
        go : Dec (j ≡ r)
            → ((access_of (edit_at after k) j).from ≡ suc u) ↔ (((access_of e j).from ≡ suc u) ⊎ ((j ≡ r) × (u ≡ t)))
        go (no n) = (
          λ q. inl (rw (other j n) at q),
          λ q. elim q [ inl z ↦ rw (other j n) z | inr z ↦ absurd (n z.0) ],
        )
        go (yes y) =
            let z : (access_of (edit_at after k) j).from ≡ suc t = rw y (ap (λ (b : Access). b.from) here) in
            let o : (access_of e j).from ≡ 0 = rw y unread in (
              λ q. inr (y, omega (arith, q, z)),
              λ q. elim q [ inl w ↦ absurd (omega (arith, w, o)) | inr w ↦ omega (arith, z, w.1) ],
            )

    wrote : (j : ℕ) (v : Val)
        → ((has_written (access_of (edit_at after k) j) ≡ true) × (written_value (access_of (edit_at after k) j) ≡ v))
        ↔ ((has_written (access_of e j) ≡ true) × (written_value (access_of e j) ≡ v))
    wrote j v = go (ℕ_discrete j r)
      where
        go : Dec (j ≡ r) → ((has_written (access_of (edit_at after k) j) ≡ true)
            × (written_value (access_of (edit_at after k) j) ≡ v))
            ↔ ((has_written (access_of e j) ≡ true) × (written_value (access_of e j) ≡ v))
        go (no n) = iff (λ (b : Access). (has_written b ≡ true) × (written_value b ≡ v)) (other j n)
        go (yes y) = (
          λ q. absurd (not_both q.0 (rw y (ap (λ (b : Access). has_written b) here))),
          λ q. absurd (not_both q.0 (rw y unwritten)),
        )

    first_read : (x : Value) → StandsIn (slots s) r t (told_value x)
        → FirstRead (slots s) (slots after) k h r t (told_value x)
    unfolding read_store_by with_lock_by with_records with_edit with_access
    first_read x stands =
        record {
          grows =
              grows_more (λ i. edit_at s i) (λ i. edit_of (set_edit s.edits k done) i) (λ y. rec_at s y)
              (λ y. rec_at (with_lock s r READ k (suc t) end) y)
              (lock_grows s r READ k (suc t) end there)
              (all_keep s k done p.known.range (omega (arith, p.state)) refl);
          slot = open_slot s h p;
          uncommitted = λ q. omega (arith, p.state, ap (λ (d : Edit). d.state) is_done, q);
          others = others_stay s k done (λ y. rec_at (with_lock s r READ k (suc t) end) y);
          unwritten = λ v w. not_both w.0 unwritten;
          stands = stands;
          read_at = read_at_lem;
          written = wrote;
        }

pub read_continues : {l : History Val} (h : Handle) (r : ℕ) (m : Point) (w : Extent) (s : Store) → Good s → Runs l s
    → SoundSlots (slots (reading h.0 r m.0 w s).store)
    → Continues l (C.Read h r m w) (reading h.0 r m.0 w s)
unfolding reading_by read_checks read_open_by read_new_by
read_continues h r m w s good run S =
    unless_continues c s run (read_checks s h.0 r m.0) (read_open s k r m.0 w) S (λ e T.
    let p = for_open_pass s h.0 _ e in
    let a = needs_pass (has_record s r) 5 _ p.rest in
    cond_continues c s run (has_written x) (replies s (own (written_value x))) _ T
    (λ q U. then run (reads_own (record { slot = open_slot s h.0 p; own = (q, refl) })) U)
    (λ q U.
    cond_continues c s run (has_read x) (replies s (again (x.from - 1) _)) (read_new s k r m.0 w) U
    (λ b X.
    let t = read_out x b in
    let z : x.from ≡ suc (x.from - 1) = omega (arith, t.1) in
    then run
    (reads_again
    (record {
      slot = open_slot s h.0 p;
      unwritten = λ v y. not_both y.0 q;
      was = z;
      stands = stands_present s good.valued r (good_facts good) (x.from - 1) (present (x.from - 1) z);
    }))
    X)
    (λ b X.
    unless_continues c s run (read_verdict s k r m.0 w) _ X (λ d Y.
    then run
    (reads
    (first_read s h.0 r p (has_record_out s r a.0) (read_version s r m.0).point (read_end s k r m.0 w)
    (unread_out x b) q
    (read_version s r m.0).value
    (stands_newest s good.valued r m.0 (read_version s r m.0)
    (newest_below_is (rec_at s r) m.0 ((good_facts good).recs r).falls))))
    Y))))
  where
    c : Call
    c = C.Read h r m w

    k : ℕ
    k = slot_of h.0

    x : Access
    x = access_of (edit_at s (slot_of h.0)) r

    present : (t : ℕ) → x.from ≡ suc t → Present (rec_at s r) t
    present t q =
        let w = access_read (edit_at s k) r t q in
        rw w.1 at (((good_facts good).edits k).present x t w.0 q)
