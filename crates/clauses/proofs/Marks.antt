-- The loops that mark lock rows, and the rows ahead of a loop, which are rows of its chain. Rests on Marking, on Slots
-- and on Walks of `chains`.
use Prim.Native.Nat.{ℕ, zero, suc, ◌+◌, ◌-◌, ◌≤◌, ◌<◌}
use mathlib.Core.Path.{◌≡◌, refl, sym, ap, ◌∙◌}
use mathlib.Core.Bool.{Bool, true, false, ◌||◌}
use mathlib.Core.List.{List, [], ◌∷◌, map}
use native.Mathlib.Omega.{arith}
use native.Mathlib.Decide.{ℕ_discrete}
use native.Mathlib.Numerals.{add-one}
use lib.ListN.{length, get_or, set, replicate}
use borrow.Author.Tests.{lt-ltb, le-ltb, eq-eqb, ne_eqb}
use Rattle.std.proofs.lemmas.List.{set-get_or}
use Rattle.chains.specs.Lists.{occ}
use Rattle.chains.specs.declared.Table.{Table}
use Rattle.chains.specs.Walk.{among, IsRow, rows}
use Rattle.chains.specs.Table.{link, chain, head_of, rows_of}
use Rattle.chains.proofs.Bounded.{all_at}
use Rattle.chains.proofs.Occurs.{occ_nil, occ_other, occ_here, occ_there}
use Rattle.chains.proofs.Parts.{clear_new}
use Rattle.chains.proofs.Walks.{among_out}
use Rattle.meaning.specs.Sound.{state_listed, generation_listed, point_listed, names_existing, names_once}
use Rattle.meaning.specs.Sound.{reads_present}
use Rattle.meaning.specs.Sound.{reads_locked, point_common, free_idle, sound_edit}
use Rattle.types.specs.declared.Access.{Access}
use Rattle.types.specs.declared.Counts.{Counts}
use Rattle.types.specs.declared.Lock.{Lock}
use Rattle.meaning.specs.Lists.{any}
use Rattle.meaning.proofs.Lists.{every_at}
use Rattle.tables.specs.Layout.{Fits, lock_table, lock_heads}
use Rattle.tables.specs.Decode.{lock_at, record_at, slot_at, records_of, locks_of, lock_rows}
use Rattle.tables.specs.Words.{locks_parted}
use Rattle.clauses.specs.Clauses.{slots_sound}
use Rattle.chains.specs.Partition.{MARKS}
use Rattle.clauses.specs.Marks.{own_mark, mark_own, mark_access, mark_accesses, mark_slots, Writers}
use Rattle.clauses.proofs.Slots.{slots_all}
use Rattle.clauses.proofs.Marking.{writers}
use Rattle.meaning.specs.Store.{has_written}

-- a row met is a row of the table
rows_row : (nx : ℕ → ℕ) (n f h x : ℕ) → 1 ≤ occ x (rows nx n f h) → IsRow n x
unfolding rows
rows_row nx n zero h x o = absurd (omega (arith, occ_nil x))
rows_row nx n (suc f) h x o = go (among n h) refl o (rows_row nx n f (nx h) x)
  where
    here : Dec (x ≡ h) → among n h ≡ true → 1 ≤ occ x (h ∷ rows nx n f (nx h))
        → (1 ≤ occ x (rows nx n f (nx h)) → IsRow n x) → IsRow n x
    here (yes e) a o ih = rw e (among_out n h a)
    here (no e) a o ih = ih (omega (arith, occ_other x h (rows nx n f (nx h)) e))

    go : (b : Bool) → among n h ≡ b → 1 ≤ occ x (elim b [ true ↦ h ∷ rows nx n f (nx h) | false ↦ [] ])
        → (1 ≤ occ x (rows nx n f (nx h)) → IsRow n x) → IsRow n x
    go true a o ih = here (ℕ_discrete x h) a o ih
    go false a o ih = absurd (omega (arith, occ_nil x))

module _ (c : Counts) (w : List ℕ) (r : ℕ) where
  pub lock_row : (i : ℕ) → 1 ≤ occ i (lock_rows c w r) → IsRow c.locks i
  unfolding lock_rows rows_of chain lock_table
  lock_row i o = rows_row (link (lock_table c) w) c.locks c.locks (head_of (lock_heads c) w (suc r)) i o

  -- what a walk along record r's locks is to meet
  pub lock_walk : {t : Table} {h : ℕ} {rs : List ℕ} → rs ≡ chain t w h → t ≡ lock_table c
      → h ≡ head_of (lock_heads c) w (suc r) → rs ≡ lock_rows c w r
  unfolding lock_rows rows_of
  lock_walk e et eh = e ∙ rw (et, eh) refl

  pub locks_listed : map (lock_at c w) (lock_rows c w r) ≡ (record_at c w r).locks
  unfolding record_at locks_of
  locks_listed = refl

-- the rows rs, still to come, are rows of the chain
pub record Ahead (all rs : List ℕ) : Type 0 where
  pub within : (x : ℕ) → 1 ≤ occ x rs → 1 ≤ occ x all

pub ahead_start : {all rs : List ℕ} → rs ≡ all → Ahead all rs
ahead_start e = record { within = λ x o. omega (arith, ap (occ x) e) }

module _ {all rs rest : List ℕ} {i : ℕ} (v : Ahead all rs) (e : rs ≡ i ∷ rest) where
  pub ahead_here : 1 ≤ occ i all
  ahead_here = v.within i (omega (arith, ap (occ i) e, occ_here i rest))

  pub ahead_on : Ahead all rest
  ahead_on = record { within = λ x o. v.within x (omega (arith, ap (occ x) e, occ_there x i rest)) }

-- what stands at a place of the rows is one of them
pub row_among : (rs : List ℕ) (k x d : ℕ) → k < length rs → x ≡ get_or rs k d → 1 ≤ occ x rs
row_among [] k x d l e = absurd (omega arith)
row_among (r ∷ rs) zero x d l e = rw e (occ_here r rs)
row_among (r ∷ rs) (suc k) x d l e = omega (arith, occ_there x r rs, row_among rs k x d (omega arith) e)

-- a test of the locks in some rows is one of the rows
pub any_locks : (p : Lock → Bool) (g : ℕ → Lock) (rs : List ℕ) → any (λ i. p (g i)) rs ≡ any p (map g rs)
any_locks p g [] = refl
any_locks p g (r ∷ rs) = ap (λ b. p (g r) || b) (any_locks p g rs)

module _ (c : Counts) (w : List ℕ) (k : ℕ) (m : List Bool) where
  -- one lock row
  own_cons : (h : ℕ) (x : Bool) (rs : List ℕ) → x ≡ own_mark c w k (get_or m h false) h
      → mark_own c w k m (h ∷ rs) ≡ mark_own c w k (set m h x) rs
  unfolding mark_own
  own_cons h x rs e = ap (λ y. mark_own c w k (set m h y) rs) (sym e)

  own_nil : mark_own c w k m [] ≡ m
  unfolding mark_own
  own_nil = refl

  module _ {rs : List ℕ} {answer : List Bool} (i : mark_own c w k m rs ≡ answer) where
    own_on : {h : ℕ} {x : Bool} {rest : List ℕ} → rs ≡ h ∷ rest → x ≡ own_mark c w k (get_or m h false) h
        → mark_own c w k (set m h x) rest ≡ answer
    own_on {h} {x} {rest} e ex = sym (ap (mark_own c w k m) e ∙ own_cons h x rest ex) ∙ i

    module _ {h : ℕ} {l : Lock} {rest : List ℕ} (e : rs ≡ h ∷ rest) (el : l ≡ lock_at c w h) where
      pub own_hit : l.owner ≡ k → mark_own c w k (set m h true) rest ≡ answer
      own_hit o = own_on e (sym (rw el at (ap (λ b. b || get_or m h false) (eq-eqb l.owner k o))))

      pub own_miss : (l.owner ≡ k → ⊥) → mark_own c w k m rest ≡ answer
      own_miss o =
          sym (ap (λ n. mark_own c w k n rest) (set-get_or m h false))
          ∙ own_on e (sym (rw el at (ap (λ b. b || get_or m h false) (ne_eqb l.owner k o))))

    pub own_done : rs ≡ [] → m ≡ answer
    own_done e = sym (ap (mark_own c w k m) e ∙ own_nil) ∙ i

  -- one access
  pub access_unwritten : (a : Access) → has_written a ≡ false → m ≡ mark_access c w k m a
  unfolding mark_access
  access_unwritten a e = rw e refl

  pub access_past : (a : Access) → has_written a ≡ true → c.records ≤ a.rec → m ≡ mark_access c w k m a
  unfolding mark_access
  access_past a e l = rw (e, le-ltb a.rec c.records l) refl

  pub access_marked : {m' : List Bool} {j r : ℕ} (a : Access) → has_written a ≡ true → a.rec < c.records → j ≡ k
      → r ≡ a.rec → m' ≡ mark_own c w j m (lock_rows c w r) → m' ≡ mark_access c w k m a
  unfolding mark_access
  access_marked a e l ej er o = rw (e, lt-ltb a.rec c.records l) (o ∙ rw (ej, er) refl)

  accesses_nil : mark_accesses c w k m [] ≡ m
  unfolding mark_accesses
  accesses_nil = refl

  accesses_cons : {m' : List Bool} (a : Access) (xs : List Access) → m' ≡ mark_access c w k m a
      → mark_accesses c w k m (a ∷ xs) ≡ mark_accesses c w k m' xs
  unfolding mark_accesses
  accesses_cons a xs o = sym (ap (λ y. mark_accesses c w k y xs) o)

  module _ {xs : List Access} {answer : List Bool} (i : mark_accesses c w k m xs ≡ answer) where
    pub accesses_on : {m' : List Bool} {a : Access} {rest : List Access} → xs ≡ a ∷ rest → m' ≡ mark_access c w k m a
        → mark_accesses c w k m' rest ≡ answer
    accesses_on {a = a} {rest} e o = sym (ap (mark_accesses c w k m) e ∙ accesses_cons a rest o) ∙ i

    pub accesses_done : xs ≡ [] → m ≡ answer
    accesses_done e = sym (ap (mark_accesses c w k m) e ∙ accesses_nil) ∙ i

-- all slots
module _ (c : Counts) (w : List ℕ) (m₀ : List Bool) where
  pub slots_none : m₀ ≡ mark_slots c w m₀ 0
  unfolding mark_slots
  slots_none = refl

  pub slots_on : {m m' : List Bool} (n : ℕ) → 1 ≤ n → m ≡ mark_slots c w m₀ (n - 1)
      → m' ≡ mark_accesses c w n m (slot_at c w n).accesses → m' ≡ mark_slots c w m₀ n
  unfolding mark_slots
  slots_on zero l e o = absurd (omega arith)
  slots_on (suc k) l e o = let s : suc k - 1 ≡ k = omega arith in rw (e ∙ ap (mark_slots c w m₀) s) at o

  pub slots_end : {m : List Bool} {k n : ℕ} → m ≡ mark_slots c w m₀ k → k ≡ n → m ≡ mark_slots c w m₀ n
  slots_end e z = e ∙ ap (mark_slots c w m₀) z

-- the marks of the new array serve every record
pub writers_new : (c : Counts) (w : List ℕ) (n : ℕ) {m : List Bool} → n ≡ MARKS → Fits c w → locks_parted c w ≡ true
    → slots_sound c w ≡ true → m ≡ mark_slots c w (replicate n false) c.edits → (r : ℕ)
    → r < c.records → Writers c w r m
unfolding locks_parted sound_edit
writers_new c w n e f d s o r l =
    rw o (writers c w (replicate n false) d f.ranged.locks_high (clear_new n e).size (clear_new n e).clear once r l)
  where
    once : (k : ℕ) → IsRow c.edits k → names_once (slot_at c w k) ≡ true
    once zero row = absurd (omega (arith, row.low))
    once (suc k) row =
        every_at
        (state_listed (slot_at c w (suc k)) ∷ generation_listed (slot_at c w (suc k))
        ∷ point_listed (slot_at c w (suc k))
        ∷ names_existing (records_of c w) (slot_at c w (suc k)) ∷ names_once (slot_at c w (suc k))
        ∷ reads_present (records_of c w) (slot_at c w (suc k)) ∷ reads_locked (records_of c w)
        (suc k) (slot_at c w (suc k))
        ∷ point_common (records_of c w) (suc k) (slot_at c w (suc k)) ∷ free_idle (slot_at c w (suc k)) ∷ [])
        (all_at (λ j. sound_edit (records_of c w) (suc j) (slot_at c w (suc j))) c.edits k (slots_all c w ∙ s)
        (omega (arith, row.high))) 4
