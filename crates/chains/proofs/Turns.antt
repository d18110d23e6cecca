-- Unlinking by any test: the walk along chain a whose turns send the rows that pass to chain b. TurnInv is its
-- invariant, for any test on rows: turn_start, turn_ready, turn_hit, turn_miss and turn_end answer a caller's loop. A
-- step reads the row's link before the turn changes the words: m is what it ensures. Rests on Steps and Frames.
use Prim.Native.Nat.{ℕ, ◌+◌, ◌-◌, ◌≤◌, ◌<◌}
use mathlib.Core.Path.{◌≡◌, refl, sym, ap, subst, ◌∙◌}
use mathlib.Core.Bool.{Bool, true, false, false≢true}
use mathlib.Core.List.{List, [], ◌∷◌, ◌++◌, append-nil, reverse_aux}
use native.Mathlib.Omega.{arith}
use lib.ListN.{length, get_or, set, length-append}
use Rattle.chains.specs.declared.Table.{Table}
use Rattle.chains.specs.declared.Heads.{Heads}
use Rattle.chains.specs.declared.Cursor.{Cursor}
use Rattle.chains.specs.Lists.{occ, first, last_or, drop_if, push_if}
use Rattle.chains.specs.Walk.{IsRow}
use Rattle.chains.specs.Cursor.{start, Met, Halted}
use Rattle.chains.specs.Table.{place, field, link, head_of, rows_of, after_cell, Laid}
use Rattle.chains.specs.Partition.{partition}
use Rattle.chains.specs.Change.{Ready, Elsewhere, Changed, Split, Follows, Unlinked}
use Rattle.chains.proofs.Occurs.{occ_here, occ_append, last_snoc, snoc, cons_of}
use Rattle.chains.proofs.Walks.{more_in}
use Rattle.chains.proofs.Stepping.{met_in}
use Rattle.chains.proofs.Segments.{Seg, seg_split, seg_first, seg_in, seg_frame}
use Rattle.chains.proofs.Cells.{after_head, lies, place_lt, field_other}
use Rattle.chains.proofs.Words.{rep_of, on_chain, on_short, after_first}
use Rattle.chains.proofs.Steps.{ready_after}
use Rattle.chains.proofs.Frames.{put_same, put_ready, field_kept, else_refl, else_trans, else_put}

drop_hit : (p : ℕ → Bool) (x : ℕ) (xs : List ℕ) → p x ≡ true → drop_if p (x ∷ xs) ≡ drop_if p xs
unfolding drop_if
drop_hit p x xs e = rw (e, drop_if)

drop_miss : (p : ℕ → Bool) (x : ℕ) (xs : List ℕ) → p x ≡ false → drop_if p (x ∷ xs) ≡ x ∷ drop_if p xs
unfolding drop_if
drop_miss p x xs e = rw (e, drop_if)

push_hit : (p : ℕ → Bool) (x : ℕ) (xs acc : List ℕ) → p x ≡ true → push_if p (x ∷ xs) acc ≡ push_if p xs (x ∷ acc)
unfolding push_if
push_hit p x xs acc e = rw (e, push_if)

push_miss : (p : ℕ → Bool) (x : ℕ) (xs acc : List ℕ) → p x ≡ false → push_if p (x ∷ xs) acc ≡ push_if p xs acc
unfolding push_if
push_miss p x xs acc e = rw (e, push_if)

-- From words w₀, where chain a was ks before the loop's first place and ys after it: `kept` is what chain a has up to
-- the place, `ahead` what follows, linked as in w₀, where the walk stands
pub record TurnInv (t : Table) (h : Heads) (test : ℕ → Bool) (w₀ : List ℕ) (a b : ℕ) (ks ys : List ℕ) (w : List ℕ)
    (place : ℕ) (s : Cursor) : Type 0 where
  pub ready : Ready t h w a b
  pub kept : List ℕ
  pub ahead : List ℕ
  pub here : Split t h w a place kept ahead
  pub at_row : s.row ≡ first ahead
  pub fit : length ahead ≤ s.left
  pub fuel : s.left ≤ t.count
  pub met : length ahead + (t.count - s.left) ≡ length ys
  pub sofar_a : ks ++ drop_if test ys ≡ kept ++ drop_if test ahead
  pub sofar_b : push_if test ys (rows_of t h w₀ b) ≡ push_if test ahead (rows_of t h w b)
  pub others : (j : ℕ) → j ≤ h.owners → (j ≡ a → ⊥) → (j ≡ b → ⊥) → rows_of t h w j ≡ rows_of t h w₀ j
  pub elsewhere : Elsewhere t h w₀ w
  pub walk : Seg (link t w₀) t.count s.row ahead 0

ahead_fits : (t : Table) (h : Heads) (w : List ℕ) (a p : ℕ) (ks ys : List ℕ) → partition t h w ≡ true → a ≤ h.owners
    → Split t h w a p ks ys → length ys ≤ t.count
ahead_fits t h w a p ks ys s ha sp = omega (arith, on_short t h w s a ha, ap length sp.parts ∙ length-append ks ys)

ahead_seg : (t : Table) (h : Heads) (w : List ℕ) (a p : ℕ) (ks ys : List ℕ) → partition t h w ≡ true → a ≤ h.owners
    → Split t h w a p ks ys → Seg (link t w) t.count (first ys) ys 0
ahead_seg t h w a p ks ys s ha sp =
    let q = seg_split (link t w) t.count ks ys (head_of h w a) 0
    (rw sp.parts at ((rep_of t h w s).segs a (omega arith))) in
    rw (sym (seg_first (link t w) t.count ys q.0 q.2)) q.2

-- the start at a place, and at the head
pub turn_start_at : {t : Table} {h : Heads} (test : ℕ → Bool) {w : List ℕ} {a b p : ℕ} {s : Cursor} {ks ys : List ℕ}
    → Ready t h w a b → Split t h w a p ks ys → s ≡ start t (get_or w (after_cell t h a p) 0)
    → TurnInv t h test w a b ks ys w p s
turn_start_at {t} {h} test {w} {a} {b} {p} {s} {ks} {ys} rd sp e =
    rw (e, after_first rd.parted rd.a_in sp) (record {
      ready = rd;
      kept = ks;
      ahead = ys;
      here = sp;
      at_row = refl;
      fit = ahead_fits t h w a p ks ys rd.parted rd.a_in sp;
      fuel = omega arith;
      met = omega arith;
      sofar_a = refl;
      sofar_b = refl;
      others = λ j p q z. refl;
      elsewhere = else_refl t h w;
      walk = ahead_seg t h w a p ks ys rd.parted rd.a_in sp;
    })

pub turn_start : {t : Table} {h : Heads} (test : ℕ → Bool) {w : List ℕ} {a b : ℕ} {s : Cursor} → Ready t h w a b
    → s ≡ start t (head_of h w a) → TurnInv t h test w a b [] (rows_of t h w a) w 0 s
unfolding last_or
turn_start {t} {h} test {w} {a} {b} {s} rd e =
    turn_start_at test rd (record { parts = refl; last = refl }) (e ∙ ap (start t) (sym (after_head t h w a 0 refl)))

module _ {t : Table} {h : Heads} {test : ℕ → Bool} {w₀ : List ℕ} {a b : ℕ} {ks ys : List ℕ} {w : List ℕ}
    {place cur : ℕ} {s s' : Cursor} (i : TurnInv t h test w₀ a b ks ys w place s) (m : Met t w s cur s') where
  -- a row's word that is no link word is as before the loop
  pub turn_field : (o : ℕ) → o < t.stride → (o ≡ t.off → ⊥) → Ready t h w₀ a b → field t w cur o ≡ field t w₀ cur o
  turn_field o l n rd = field_kept rd.laid i.elsewhere cur o m.row.low l n

  split_cur : (zs : List ℕ) × (i.ahead ≡ cur ∷ zs)
  split_cur = cons_of i.ahead cur (m.at ∙ i.at_row) m.row.low

  -- what a turn requires
  pub turn_ready : Ready t h w a b × Follows t h w a place cur
  turn_ready =
      let q = split_cur in (
        i.ready,
        record {
          upto = i.kept;
          beyond = q.0;
          split = record { parts = i.here.parts ∙ ap (λ y. i.kept ++ y) q.1; last = i.here.last };
        },
      )

  next_first : (zs : List ℕ) → i.ahead ≡ cur ∷ zs → link t w cur ≡ first zs
  next_first zs e =
      let R = rep_of t h w i.ready.parted in
      let q =
      seg_split (link t w) t.count i.kept (cur ∷ zs) (head_of h w a) 0
      (rw (i.here.parts, e) at (R.segs a (omega (arith, i.ready.a_in)))) in
      seg_first (link t w) t.count zs (link t w cur) q.2.3

  walk_on : (zs : List ℕ) → i.ahead ≡ cur ∷ zs → Seg (link t w₀) t.count (link t w₀ cur) zs 0
  walk_on zs e = let q : Seg (link t w₀) t.count cur (cur ∷ zs) 0 = rw (← m.at, e) at i.walk in q.3

  next_kept : (zs : List ℕ) → i.ahead ≡ cur ∷ zs → link t w cur ≡ link t w₀ cur
  next_kept zs e = next_first zs e ∙ sym (seg_first (link t w₀) t.count zs (link t w₀ cur) (walk_on zs e))

  -- a row ahead is linked as before the loop, so the walk steps as in those words
  pub turn_met : Met t w₀ s cur s'
  turn_met = let q = split_cur in met_in w₀ m (next_kept q.0 q.1)

  -- the row passes
  pub turn_hit : {w' : List ℕ} → test cur ≡ true → Unlinked t h w w' a b place cur
      → TurnInv t h test w₀ a b ks ys w' place s'
  unfolding Unlinked
  turn_hit {w'} k u =
      let q = split_cur in
      let zs = q.0 in
      let eq = q.1 in
      let c = u i.kept zs (record { parts = i.here.parts ∙ ap (λ y. i.kept ++ y) eq; last = i.here.last }) in
      let rd = i.ready in
      record {
        ready = ready_after rd.laid c rd.a_in rd.b_in rd.differ;
        kept = i.kept;
        ahead = zs;
        here = record { parts = c.at_a; last = i.here.last };
        at_row = m.next ∙ next_first zs eq;
        fit = omega (arith, i.fit, m.counted, ap length eq);
        fuel = omega (arith, i.fuel, m.counted);
        met = omega (arith, i.met, i.fit, i.fuel, m.counted, ap length eq);
        sofar_a = i.sofar_a ∙ ap (λ y. i.kept ++ y) (ap (drop_if test) eq ∙ drop_hit test cur zs k);
        sofar_b =
            i.sofar_b ∙ ap (λ y. push_if test y (rows_of t h w b)) eq ∙ push_hit test cur zs (rows_of t h w b) k
            ∙ ap (push_if test zs) (sym c.at_b);
        others = λ j p x y. c.others j p x y ∙ i.others j p x y;
        elsewhere = else_trans i.elsewhere c.elsewhere;
        walk = subst (λ y. Seg (link t w₀) t.count y zs 0) (sym (m.next ∙ next_kept zs eq)) (walk_on zs eq);
      }

  -- the row does not pass
  pub turn_miss : test cur ≡ false → TurnInv t h test w₀ a b ks ys w cur s'
  turn_miss k =
      let q = split_cur in
      let zs = q.0 in
      let eq = q.1 in
      record {
        ready = i.ready;
        kept = i.kept ++ (cur ∷ []);
        ahead = zs;
        here = record {
          parts = i.here.parts ∙ ap (λ y. i.kept ++ y) eq ∙ snoc i.kept cur zs;
          last = sym (last_snoc 0 i.kept cur);
        };
        at_row = m.next ∙ next_first zs eq;
        fit = omega (arith, i.fit, m.counted, ap length eq);
        fuel = omega (arith, i.fuel, m.counted);
        met = omega (arith, i.met, i.fit, i.fuel, m.counted, ap length eq);
        sofar_a =
            i.sofar_a ∙ ap (λ y. i.kept ++ y) (ap (drop_if test) eq ∙ drop_miss test cur zs k)
            ∙ snoc i.kept cur (drop_if test zs);
        sofar_b = i.sofar_b ∙ ap (λ y. push_if test y (rows_of t h w b)) eq ∙ push_miss test cur zs (rows_of t h w b) k;
        others = i.others;
        elsewhere = i.elsewhere;
        walk = subst (λ y. Seg (link t w₀) t.count y zs 0) (sym (m.next ∙ next_kept zs eq)) (walk_on zs eq);
      }

  -- chain a loses one row, for a caller that counts them
  pub turn_count : (w' : List ℕ) → Unlinked t h w w' a b place cur
      → 1 + length (rows_of t h w' a) ≡ length (rows_of t h w a)
  unfolding Unlinked
  turn_count w' u =
      let f = turn_ready.1 in
      let c = u f.upto f.beyond f.split in
      omega (
        arith,
        ap length c.at_a,
        ap length f.split.parts,
        length-append f.upto f.beyond,
        length-append f.upto (cur ∷ f.beyond),
      )

-- the end of the walk: no row is ahead
module _ {t : Table} {h : Heads} {test : ℕ → Bool} {w₀ : List ℕ} {a b : ℕ} {ks ys : List ℕ} {w : List ℕ} {place : ℕ}
    {s s' : Cursor} (i : TurnInv t h test w₀ a b ks ys w place s) (m : Halted t w s s') where
  pub turn_none : i.ahead ≡ []
  unfolding first
  turn_none = go i.ahead refl
    where
      go : (rs : List ℕ) → i.ahead ≡ rs → i.ahead ≡ []
      go [] eq = eq
      go (x ∷ zs) eq =
          let c : s.row ≡ x = i.at_row ∙ ap first eq in
          let o : 1 ≤ occ x (rows_of t h w a) =
          omega
          (arith, ap (occ x) i.here.parts ∙ occ_append x i.kept i.ahead, ap (occ x) eq, occ_here x zs) in
          let row = on_chain t h w i.ready.parted a i.ready.a_in x o in
          absurd
          (false≢true (sym m.ends ∙ more_in t.count s.left s.row (omega (arith, i.fit, ap length eq)) (rw c row)))

  pub turn_end : Changed t h w₀ w a b (ks ++ drop_if test ys) (push_if test ys (rows_of t h w₀ b))
  unfolding drop_if push_if
  turn_end =
      let eq = turn_none in
      record {
        parted = i.ready.parted;
        at_a = i.here.parts ∙ ap (λ y. i.kept ++ y) eq ∙ sym (i.sofar_a ∙ ap (λ y. i.kept ++ drop_if test y) eq);
        at_b = sym (i.sofar_b ∙ ap (λ y. push_if test y (rows_of t h w b)) eq);
        others = i.others;
        elsewhere = i.elsewhere;
      }

-- a word of a row that is no link word stored beside the turns: it is as if the loop had begun with it
pub turn_put : {t : Table} {h : Heads} {test : ℕ → Bool} {w₀ : List ℕ} {a b : ℕ} {ks ys : List ℕ} {w : List ℕ}
    {place' : ℕ} {s : Cursor} → TurnInv t h test w₀ a b ks ys w place' s → Laid t h w₀
    → (x o v : ℕ) → IsRow t.count x → o < t.stride → (o ≡ t.off → ⊥)
    → TurnInv t h test (set w₀ (place t x o) v) a b ks ys (set w (place t x o) v) place' s
turn_put {t} {h} {test} {w₀} {a} {b} {ks} {ys} {w} {place'} {s} i l x o v q k n =
    let same₀ = put_same t h w₀ x o v l q.low k n in
    let same = put_same t h w x o v i.ready.laid q.low k n in
    record {
      ready = put_ready x o v i.ready q.low k n;
      kept = i.kept;
      ahead = i.ahead;
      here = record { parts = same.rows_kept a i.ready.a_in ∙ i.here.parts; last = i.here.last };
      at_row = i.at_row;
      fit = i.fit;
      fuel = i.fuel;
      met = i.met;
      sofar_a = i.sofar_a;
      sofar_b = ap (push_if test ys) (same₀.rows_kept b i.ready.b_in) ∙ i.sofar_b
          ∙ ap (push_if test i.ahead) (sym (same.rows_kept b i.ready.b_in));
      others = λ j p y z. same.rows_kept j p ∙ i.others j p y z ∙ sym (same₀.rows_kept j p);
      elsewhere = else_put i.elsewhere (place t x o) v (place_lt t w₀ x o (lies l) q k);
      walk = seg_frame (link t w₀) t.count (link t (set w₀ (place t x o) v)) i.ahead s.row 0 i.walk
          (λ y p. field_other t w₀ x y o t.off v q.low
          (seg_in (link t w₀) t.count i.ahead s.row 0 y i.walk p).low k l.within (λ z. n (sym z.1)));
    }

-- Every row passes: the loop of `empty_after`
pub every_row : ℕ → Bool
every_row x = true

drop_all : (ys : List ℕ) → drop_if every_row ys ≡ []
unfolding drop_if every_row
drop_all [] = refl
drop_all (y ∷ ys) = drop_all ys

push_all : (ys acc : List ℕ) → push_if every_row ys acc ≡ reverse_aux ys acc
unfolding push_if every_row
push_all [] acc = refl
push_all (y ∷ ys) acc = push_all ys (y ∷ acc)

module _ {t : Table} {h : Heads} {w₀ : List ℕ} {a b : ℕ} {ks ys : List ℕ} {w : List ℕ} {place : ℕ}
    {s s' : Cursor} (i : TurnInv t h every_row w₀ a b ks ys w place s) where
  pub empty_again : {w' : List ℕ} {cur : ℕ} → Met t w s cur s' → Unlinked t h w w' a b place cur
      → TurnInv t h every_row w₀ a b ks ys w' place s'
  unfolding every_row
  empty_again m u = turn_hit i m refl u

  pub empty_end : Halted t w s s'
      → (t.count - s'.left ≡ length ys) × Changed t h w₀ w a b ks (reverse_aux ys (rows_of t h w₀ b))
  empty_end m = (
    omega (arith, i.met, ap length (turn_none i m), ap (λ (x : Cursor). x.left) m.stays),
    rw (drop_all ys, append-nil ks, push_all ys (rows_of t h w₀ b)) at (turn_end i m),
  )
