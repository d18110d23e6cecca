-- The laws of the mutators' steps: the three stores of `relink`, and what `unlink`, `insert_after` and `move_first`
-- make of them. Rests on Relinks, Cells and Words.
use Prim.Native.Nat.{ℕ, suc, ◌≤◌}
use mathlib.Core.Path.{◌≡◌, refl, sym, ap, ◌∙◌}
use mathlib.Core.List.{List, [], ◌∷◌, ◌++◌, tail}
use native.Mathlib.Omega.{arith}
use lib.ListN.{get_or, set, length-set}
use lib.Seq.{get_or-set_other}
use Rattle.std.specs.Prelude.{Some}
use Rattle.chains.specs.declared.Table.{Table}
use Rattle.chains.specs.declared.Heads.{Heads}
use Rattle.chains.specs.Lists.{occ, first, last_or}
use Rattle.chains.specs.Walk.{IsRow}
use Rattle.chains.specs.Table.{link_cell, link, head_cell, head_of, rows_of, Laid, after_cell}
use Rattle.chains.specs.Change.{Ready, relinked, Elsewhere, Changed, Moved, Taken, Place, Follows, Inserted}
use Rattle.chains.specs.Change.{Unlinked}
use Rattle.chains.proofs.Occurs.{occ_here, occ_append, last_occ}
use Rattle.chains.proofs.Chains.{put2, put2_a, put2_b, put2_o}
use Rattle.chains.proofs.Relinks.{Relinked, unlink_rep, insert_rep}
use Rattle.chains.proofs.Cells
use Rattle.chains.proofs.Words.{WordsRep, rep_of, rep_rows, rep_part, on_chain, on_once, on_one, head_cons}
use Rattle.chains.proofs.Words.{place_in, after_first}

-- after a change any two chains are ready for the next
pub ready_after : {t : Table} {h : Heads} {w w' : List ℕ} {a b : ℕ} {A B : List ℕ} {j k : ℕ} → Laid t h w
    → Changed t h w w' a b A B → j ≤ h.owners → k ≤ h.owners → (j ≡ k → ⊥) → Ready t h w' j k
ready_after {w' = w'} l c hj hk d =
    record { laid = Cells.laid_same w' c.elsewhere.size l; parted = c.parted; a_in = hj; b_in = hk; differ = d }

-- a change of two chains, read off the words
changed_of : {t : Table} {h : Heads} {w w' : List ℕ} {a b : ℕ} (A B : List ℕ) → a ≤ h.owners → b ≤ h.owners
    → (a ≡ b → ⊥)
    → WordsRep t h w' (put2 (rows_of t h w) a A b B) → Elsewhere t h w w' → Changed t h w w' a b A B
changed_of {t} {h} {w} {w'} {a} {b} A B ha hb d R e = record {
  parted = rep_part t h w' R;
  at_a = (rep_rows t h w' R a ha).0 ∙ put2_a (rows_of t h w) a A b B;
  at_b = (rep_rows t h w' R b hb).0 ∙ put2_b (rows_of t h w) a A b B d;
  others = λ j k p o. (rep_rows t h w' R j k).0 ∙ put2_o (rows_of t h w) a A b B j p o;
  elsewhere = e;
}

-- the three stores of a change
module _ (t : Table) (h : Heads) (w : List ℕ) (a b p r x y z : ℕ) (l : Laid t h w) (ha : a ≤ h.owners)
    (hb : b ≤ h.owners) (row : IsRow t.count r) (hp : p ≤ t.count) where
  stored_links : (a ≡ b → ⊥) → (r ≡ p → ⊥)
      → Relinked t.count (suc h.owners) (link t w) (head_of h w) (link t (relinked t h w a b p r x y z))
      (head_of h (relinked t h w a b p r x y z)) a b p r x y z
  unfolding relinked
  stored_links d np =
      let w1 = set w (after_cell t h a p) x in
      let w2 = set w1 (link_cell t r) y in
      let l1 : Laid t h w1 = Cells.laid_set (after_cell t h a p) x l in
      let l2 : Laid t h w2 = Cells.laid_set (link_cell t r) y l1 in
      record {
        start =
            λ e. Cells.head_set_other l2 b z a d ∙ Cells.head_place l1 r t.off y a ha
            ∙ Cells.head_after_start l a p x ha e;
        later = λ n. (
          Cells.head_set_other l2 b z a d ∙ Cells.head_place l1 r t.off y a ha ∙ Cells.head_after_row l a p x ha n,
          Cells.link_head l2 b z p hb ∙ Cells.link_set_other l1 r y p row.low (low n) (λ q. np (sym q))
              ∙ Cells.link_after_at l a p x n hp,
        );
        row = Cells.link_head l2 b z r hb ∙ Cells.link_set l1 r y row;
        head = Cells.head_set l2 b z hb;
        heads =
            λ j q na nb. Cells.head_set_other l2 b z j nb ∙ Cells.head_place l1 r t.off y j (omega arith)
            ∙ Cells.head_after l a p x j (omega arith) na;
        links =
            λ v i nr nq. Cells.link_head l2 b z v hb ∙ Cells.link_set_other l1 r y v row.low i.low nr
            ∙ Cells.link_after l a p x v ha i.low nq;
      }
    where
      low : (p ≡ 0 → ⊥) → 1 ≤ p
      low n = omega arith

  stored_elsewhere : Elsewhere t h w (relinked t h w a b p r x y z)
  unfolding relinked
  stored_elsewhere =
      let w1 = set w (after_cell t h a p) x in
      let w2 = set w1 (link_cell t r) y in
      record {
        size = length-set w2 (head_cell h b) z ∙ length-set w1 (link_cell t r) y ∙ length-set w (after_cell t h a p) x;
        kept =
            λ c f g. get_or-set_other w2 (head_cell h b) c z 0 (f b hb) ∙ get_or-set_other w1
            (link_cell t r) c y 0 (g r row)
            ∙ Cells.after_kept l a p x c ha hp f g;
      }

-- a row after a place is a row of the table
pub follows_row : {t : Table} {h : Heads} {w : List ℕ} {a b p r : ℕ} → Ready t h w a b → Follows t h w a p r
    → IsRow t.count r
follows_row {t} {h} {w} {a} {b} {p} {r} rd f =
    on_chain t h w rd.parted a rd.a_in r
    (omega (arith, ap (occ r) f.split.parts ∙ occ_append r f.upto (r ∷ f.beyond), occ_here r f.beyond))

-- what `relink` requires for `unlink` and for `insert_after`
pub unlink_ready : {t : Table} {h : Heads} {w : List ℕ} {a b p r : ℕ} → Ready t h w a b → Follows t h w a p r
    → Ready t h w a b × IsRow t.count r × (p ≤ t.count)
unlink_ready {t} {h} {w} rd f = (rd, follows_row rd f, place_in t h w rd.parted rd.a_in f.split)

pub insert_ready : {t : Table} {h : Heads} {w : List ℕ} {a b p r : ℕ} → Ready t h w a b → Place t h w a p
    → r ≡ head_of h w b → (r ≡ 0 → ⊥) → Ready t h w a b × IsRow t.count r × (p ≤ t.count)
insert_ready {t} {h} {w} {a} {b} {p} {r} rd f e z =
    (rd, (head_cons t h w rd.parted b r rd.b_in e z).1, place_in t h w rd.parted rd.a_in f.split)

-- the code's steps of `unlink`
pub unlink_law : {t : Table} {h : Heads} {w w' : List ℕ} {a b p r x y : ℕ} → Ready t h w a b → Follows t h w a p r
    → x ≡ link t w r → y ≡ head_of h w b → w' ≡ relinked t h w a b p r x y r → Unlinked t h w w' a b p r
unfolding Unlinked
unlink_law {t} {h} {w} {w'} {a} {b} {p} {r} rd f ex ey e ks ys sp =
    let q : w' ≡ relinked t h w a b p r (link t w r) (head_of h w b) r = rw (e, ex, ey) refl in
    let k = unlink_ready rd f in
    let np : r ≡ p → ⊥ =
    λ z. omega (
      arith,
      on_once t h w rd.parted a rd.a_in r,
      ap (occ r) sp.parts ∙ occ_append r ks (r ∷ ys),
      occ_here r ys,
      last_occ ks r k.1.low (z ∙ sp.last),
    ) in
    let L =
    stored_links t h w a b p r (link t w r) (head_of h w b) r rd.laid rd.a_in rd.b_in k.1 k.2 rd.differ
    np in
    rw q (changed_of (ks ++ ys) (r ∷ rows_of t h w b) rd.a_in rd.b_in rd.differ
    (unlink_rep (rep_of t h w rd.parted) ks (omega (arith, rd.a_in)) (omega (arith, rd.b_in)) rd.differ
    sp.last ys sp.parts L)
    (stored_elsewhere t h w a b p r (link t w r) (head_of h w b) r rd.laid rd.a_in rd.b_in k.1 k.2))

-- the code's steps of `insert_after`
pub insert_law : {t : Table} {h : Heads} {w w' : List ℕ} {a b p r x y : ℕ} → Ready t h w a b → Place t h w a p
    → r ≡ head_of h w b → (r ≡ 0 → ⊥)
    → x ≡ link t w r → y ≡ get_or w (after_cell t h a p) 0 → w' ≡ relinked t h w a b p r r y x
    → Inserted t h w w' a b p r
unfolding Inserted
insert_law {t} {h} {w} {w'} {a} {b} {p} {r} rd f er z ex ey e ks ys sp =
    let q : w' ≡ relinked t h w a b p r r (first ys) (link t w r) =
    rw (e, ex, ey, after_first rd.parted rd.a_in sp) refl in
    let k = insert_ready rd f er z in
    let zs = tail (rows_of t h w b) in
    let eb : rows_of t h w b ≡ r ∷ zs = (head_cons t h w rd.parted b r rd.b_in er z).0 in
    let no_a =
    on_one t h w rd.parted b a rd.b_in rd.a_in (λ z. rd.differ (sym z)) r (rw eb (occ_here r zs)) in
    let np : r ≡ p → ⊥ =
    λ z. omega (arith, no_a, ap (occ r) sp.parts ∙ occ_append r ks ys, last_occ ks r k.1.low (z ∙ sp.last)) in
    let L =
    stored_links t h w a b p r r (first ys) (link t w r) rd.laid rd.a_in rd.b_in k.1 k.2 rd.differ
    np in
    rw q (changed_of (ks ++ r ∷ ys) zs rd.a_in rd.b_in rd.differ
    (insert_rep (rep_of t h w rd.parted) ks (omega (arith, rd.a_in)) (omega (arith, rd.b_in)) rd.differ
    sp.last ys zs sp.parts eb L)
    (stored_elsewhere t h w a b p r r (first ys) (link t w r) rd.laid rd.a_in rd.b_in k.1 k.2))

-- the code's steps of `move_first`, where there is a first row: it follows place 0
pub first_follows : {t : Table} {h : Heads} {w : List ℕ} {a b r : ℕ} → Ready t h w a b → r ≡ head_of h w a → (r ≡ 0 → ⊥)
    → Follows t h w a 0 r
unfolding last_or
first_follows {t} {h} {w} {a} {b} {r} rd e z = record {
  upto = [];
  beyond = tail (rows_of t h w a);
  split = record { parts = (head_cons t h w rd.parted a r rd.a_in e z).0; last = refl };
}

pub move_law : {t : Table} {h : Heads} {w w' : List ℕ} {a b r : ℕ} → Ready t h w a b → r ≡ head_of h w a → (r ≡ 0 → ⊥)
    → Unlinked t h w w' a b 0 r → Taken h w w' a (Some r) (Moved t h w w' a b)
unfolding Unlinked first_follows
move_law {t} {h} {w} {w'} {a} {b} {r} rd e z u =
    let c = head_cons t h w rd.parted a r rd.a_in e z in
    record {
      head = e;
      done = record {
        row = c.1;
        taken = c.0;
        changed = u [] (tail (rows_of t h w a)) (first_follows rd e z).split;
      };
    }
