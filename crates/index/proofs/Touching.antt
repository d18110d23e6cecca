-- Which records a slot has touched after a change of the store. Rests on specs.Index and Stores of `meaning`.
use Prim.Native.Nat.{ℕ, zero, suc, ◌≤◌, ◌<◌}
use native.Mathlib.Omega.{arith}
use native.Mathlib.Decide.{ℕ_discrete, dec_lt}
use mathlib.Core.Path.{◌≡◌, refl, sym, ap, ◌∙◌}
use mathlib.Core.Logic.{◌⊎◌, inl, inr}
use mathlib.Core.Bool.{Bool, true, false, not, cond}
use mathlib.Core.List.{List, [], ◌∷◌, map}
use lib.ListN.{length, set, length-set}
use borrow.Author.Tests.{eqb-true}
use Rattle.types.specs.Limits.{SETTLED}
use Rattle.meaning.specs.Lists.{◌∈◌, any, keep, map_from}
use Rattle.meaning.specs.Store.{Lock, Access, Rec, Edit, Store, edit_at, edit_of, set_edit, rec_of, rec_at, names}
use Rattle.meaning.specs.Store.{is_of}
use Rattle.meaning.specs.Store.{with_edit, with_records, with_rec}
use Rattle.meaning.specs.Points.{is_owned, add_lock, leave_settled, drop_owner, trim_to, trimmed, emptied, cut}
use Rattle.meaning.specs.Edits.{with_access}
use Rattle.meaning.proofs.Lists.{or_out, or_left, or_right, not_both, any_in, any_out, keep_out}
use Rattle.meaning.proofs.Joining.{put_out}
use Rattle.meaning.proofs.LocksLeft.{left_row, left_owner, leave_out}
use Rattle.meaning.proofs.Stores.{edit_same, edit_other, edit_past, length_set_edit, rec_same, rec_other}
use Rattle.meaning.proofs.Stores.{rec_past, rec_map, rec_map_past}
use Rattle.index.specs.Index.{touched}

-- a slot or a record after one was changed: the new one, or as before
pub edit_cases : (es : List Edit) (j k : ℕ) (e : Edit)
    → ((k ≡ j) × (edit_of (set_edit es j e) k ≡ e)) ⊎ (edit_of (set_edit es j e) k ≡ edit_of es k)
unfolding edit_of set_edit
edit_cases es j k e = go (ℕ_discrete k j)
  where
    there : Dec (length es < j) → k ≡ j
        → ((k ≡ j) × (edit_of (set_edit es j e) k ≡ e)) ⊎ (edit_of (set_edit es j e) k ≡ edit_of es k)
    there (yes p) z =
        inr (edit_past (set_edit es j e) k (omega (arith, length_set_edit es j e)) ∙ sym (edit_past es k (omega arith)))
    there (no p) z = start j refl
      where
        start : (i : ℕ) → j ≡ i
            → ((k ≡ j) × (edit_of (set_edit es j e) k ≡ e)) ⊎ (edit_of (set_edit es j e) k ≡ edit_of es k)
        start zero y = inr (rw y refl)
        start (suc i) y =
            inl (z, rw z (edit_same es j e (record { from = omega arith; upto = omega (arith, p) })))

    go : Dec (k ≡ j) → ((k ≡ j) × (edit_of (set_edit es j e) k ≡ e)) ⊎ (edit_of (set_edit es j e) k ≡ edit_of es k)
    go (yes z) = there (dec_lt (length es) j) z
    go (no z) = inr (edit_other es j k e z)

pub rec_cases : (rs : List Rec) (j r : ℕ) (x : Rec)
    → ((r ≡ j) × (rec_of (set rs j x) r ≡ x)) ⊎ (rec_of (set rs j x) r ≡ rec_of rs r)
rec_cases rs j r x = go (ℕ_discrete r j) (dec_lt j (length rs))
  where
    go : Dec (r ≡ j) → Dec (j < length rs)
        → ((r ≡ j) × (rec_of (set rs j x) r ≡ x)) ⊎ (rec_of (set rs j x) r ≡ rec_of rs r)
    go (no z) l = inr (rec_other rs j r x z)
    go (yes z) (yes l) = inl (z, rw z (rec_same rs j x l))
    go (yes z) (no l) =
        inr (rec_past (set rs j x) r (omega (arith, l, length-set rs j x)) ∙ sym (rec_past rs r (omega (arith, l))))

-- what slot k holds in a list of locks, after each change of it
module _ (k : ℕ) where
  abbrev pub Holds : List Lock → Type 0
  Holds ls = any (is_owned k) ls ≡ true

  pub holds_keep : (p : Lock → Bool) (ls : List Lock) → Holds (keep p ls) → Holds ls
  holds_keep p ls e =
      let m = any_out (is_owned k) (keep p ls) e in
      any_in (is_owned k) (keep_out p ls m.1).0 m.2

  pub holds_drop : (j : ℕ) (ls : List Lock) → Holds (drop_owner j ls) → Holds ls
  unfolding drop_owner
  holds_drop j ls e = holds_keep (λ l. not (is_owned j l)) ls e

  pub holds_settled : 1 ≤ k → (b : Bool) (mode low high : ℕ) (ls : List Lock)
      → Holds (leave_settled b mode low high ls) → Holds ls
  holds_settled h b mode low high ls e = go (leave_out b mode low high ls m.0 m.1)
    where
      m : (l : Lock) × (l ∈ leave_settled b mode low high ls) × (is_owned k l ≡ true)
      m = any_out (is_owned k) (leave_settled b mode low high ls) e

      go : ((b ≡ true) × (m.0 ≡ left_row mode low high ls)) ⊎ (m.0 ∈ ls) → Holds ls
      go (inl w) =
          absurd (omega (
            arith,
            h,
            eqb-true m.0.owner k m.2,
            ap (λ l. l.owner) w.1,
            left_owner mode low high ls,
          ))
      go (inr i) = any_in (is_owned k) i m.2

  same_owner : (v : ℕ) (l : Lock) → is_owned k (trimmed v l) ≡ is_owned k l
  same_owner v l = go (is_owned SETTLED l)
    where
      go : (b : Bool) → is_owned k (cond b
          (cut v l) l)
          ≡ is_owned k l
      go true = refl
      go false = refl

  holds_map : (v : ℕ) (ls : List Lock) → Holds (map (trimmed v) ls) → Holds ls
  holds_map v [] e = e
  holds_map v (l ∷ ls) e =
      go (or_out (is_owned k (trimmed v l)) (any (is_owned k) (map (trimmed v) ls)) e) (holds_map v ls)
    where
      go : (is_owned k (trimmed v l) ≡ true) ⊎ Holds (map (trimmed v) ls) → (Holds (map (trimmed v) ls) → Holds ls)
          → Holds (l ∷ ls)
      go (inl q) ih = or_left (any (is_owned k) ls) (sym (same_owner v l) ∙ q)
      go (inr q) ih = or_right (is_owned k l) (ih q)

  pub holds_trim : (v : ℕ) (ls : List Lock) → Holds (trim_to v ls) → Holds ls
  unfolding trim_to
  holds_trim v ls e =
      holds_keep (λ l. not (emptied v l)) ls (holds_map v (keep (λ l. not (emptied v l)) ls) e)

  pub holds_added : (l : Lock) (ls : List Lock) → Holds (add_lock l ls) → (l.owner ≡ k) ⊎ Holds ls
  unfolding add_lock
  holds_added l ls e = let m = any_out (is_owned k) (add_lock l ls) e in go m.0 m.2 (put_out l ls m.1)
    where
      go : (x : Lock) → is_owned k x ≡ true → (x ≡ l) ⊎ (x ∈ ls) → (l.owner ≡ k) ⊎ Holds ls
      go x q (inl z) = inl (eqb-true l.owner k (rw z at q))
      go x q (inr i) = inr (any_in (is_owned k) i q)

-- an access put
module _ (r : ℕ) (a : Access) where
  abbrev Named : List Access → Type 0
  Named acc = any (is_of r) acc ≡ true

  abbrev put : Access → Access
  put b = cond (is_of a.rec b) a b

  one_of : (b : Access) (acc : List Access) (t : Bool) → (is_of r (cond t a b) ≡ true) ⊎ Named (map put acc)
      → (Named (map put acc) → (a.rec ≡ r) ⊎ Named acc) → (a.rec ≡ r) ⊎ Named (b ∷ acc)
  one_of b acc true (inl p) ih = inl (eqb-true a.rec r p)
  one_of b acc false (inl p) ih = inr (or_left (any (is_of r) acc) p)
  one_of b acc t (inr p) ih = more (ih p)
    where
      more : (a.rec ≡ r) ⊎ Named acc → (a.rec ≡ r) ⊎ Named (b ∷ acc)
      more (inl z) = inl z
      more (inr z) = inr (or_right (is_of r b) z)

  within : (acc : List Access) → Named (map put acc) → (a.rec ≡ r) ⊎ Named acc
  within [] q = inr q
  within (b ∷ acc) q = one_of b acc (is_of a.rec b) (or_out _ _ q) (within acc)

  first_of : (acc : List Access) → (is_of r a ≡ true) ⊎ Named acc → (a.rec ≡ r) ⊎ Named acc
  first_of acc (inl p) = inl (eqb-true a.rec r p)
  first_of acc (inr p) = inr p

  pub named_put : (e : Edit) → names (with_access e a) r ≡ true → (a.rec ≡ r) ⊎ (names e r ≡ true)
  unfolding names with_access
  named_put e q = go (names e a.rec) q
    where
      go : (t : Bool) → Named (cond t (map put e.accesses) (a ∷ e.accesses)) → (a.rec ≡ r) ⊎ Named e.accesses
      go true q = within e.accesses q
      go false q = first_of e.accesses (or_out (is_of r a) (any (is_of r) e.accesses) q)

-- one slot changed, the records changed
module _ {A : Type 0} (s : Store) (k r : ℕ) where
  pub by_names : (touched s k r ≡ true → A) → names (edit_at s k) r ≡ true → A
  unfolding touched
  by_names f q = f (or_left (any (is_owned k) (rec_at s r).locks) q)

  pub by_locks : (touched s k r ≡ true → A) → Holds k (rec_at s r).locks → A
  unfolding touched
  by_locks f q = f (or_right (names (edit_at s k) r) q)

  pub edit_change : (j : ℕ) (e : Edit) → (k ≡ j → names e r ≡ true → A) → (touched s k r ≡ true → A)
      → touched (with_edit s j e) k r ≡ true → A
  unfolding touched with_edit
  edit_change j e new old q = go (or_out _ _ q)
    where
      named : ((k ≡ j) × (edit_of (set_edit s.edits j e) k ≡ e))
          ⊎ (edit_of (set_edit s.edits j e) k ≡ edit_of s.edits k)
          → names (edit_of (set_edit s.edits j e) k) r ≡ true → A
      named (inl z) p = new z.0 (rw z.1 at p)
      named (inr z) p = by_names old (rw z at p)

      go : (names (edit_of (set_edit s.edits j e) k) r ≡ true) ⊎ Holds k (rec_at s r).locks → A
      go (inl p) = named (edit_cases s.edits j k e) p
      go (inr p) = by_locks old p

  pub recs_change : (rs : List Rec) → (Holds k (rec_of rs r).locks → A) → (touched s k r ≡ true → A)
      → touched (with_records s rs) k r ≡ true → A
  unfolding touched with_records
  recs_change rs new old q = go (or_out _ _ q)
    where
      go : (names (edit_at s k) r ≡ true) ⊎ Holds k (rec_of rs r).locks → A
      go (inl p) = by_names old p
      go (inr p) = new p

  pub rec_change : (j : ℕ) (x : Rec) → (r ≡ j → Holds k x.locks → A) → (touched s k r ≡ true → A)
      → touched (with_rec s j x) k r ≡ true → A
  rec_change j x new old q = recs_change (set s.records j x) (λ p. go (rec_cases s.records j r x) p) old q
    where
      go : ((r ≡ j) × (rec_of (set s.records j x) r ≡ x)) ⊎ (rec_of (set s.records j x) r ≡ rec_of s.records r)
          → Holds k (rec_of (set s.records j x) r).locks → A
      go (inl z) p = new z.0 (rw z.1 at p)
      go (inr z) p = by_locks old (rw z at p)

  pub map_change : (f : ℕ → Rec → Rec) → ((x : Rec) → Holds k (f r x).locks → Holds k x.locks)
      → (touched s k r ≡ true → A) → touched (with_records s (map_from 0 f s.records)) k r ≡ true → A
  map_change f less old q =
      recs_change (map_from 0 f s.records) (λ p. go (dec_lt r (length s.records)) p) old q
    where
      go : Dec (r < length s.records) → Holds k (rec_of (map_from 0 f s.records) r).locks → A
      go (yes l) p = by_locks old (less (rec_at s r) (rw (rec_map f s.records r l) at p))
      go (no l) p = absurd (not_both (rw (rec_map_past f s.records r (omega (arith, l))) at p) refl)
