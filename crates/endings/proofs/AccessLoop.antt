-- A walk along an edit's accesses that changes the record of each: what is left to do makes the answer of the present
-- store. `m` is what the walk's step ensures. Rests on Walks of `chains`, Decoded of `tables`, and what a change of
-- versions or locks keeps.
use Prim.Native.Nat.{ℕ, zero, suc}
use mathlib.Core.Path.{◌≡◌, refl, sym, ap, ◌∙◌}
use mathlib.Core.Bool.{Bool, true, false}
use mathlib.Core.List.{List, [], ◌∷◌, map}
use Rattle.chains.specs.declared.Cursor.{Cursor}
use Rattle.chains.specs.Walk.{among, IsRow, rows}
use Rattle.chains.specs.Table.{link, chain, front, head_of, rows_of}
use Rattle.chains.specs.Cursor.{start, Met, Halted}
use Rattle.chains.proofs.Walks.{among_out, rows_stop, rows_suc}
use Rattle.types.specs.declared.Access.{Access}
use Rattle.types.specs.declared.Counts.{Counts}
use Rattle.meaning.specs.Store.{Rec, Edit, Store, edit_at}
use Rattle.tables.specs.Layout.{access_table, access_heads}
use Rattle.tables.specs.Decode.{access_at, slot_at, access_rows, accesses_of, decode_at}
use Rattle.tables.specs.Words.{Well}
use Rattle.tables.proofs.Decoded.{edit_at_lem}
use Rattle.changes.specs.Becomes.{Becomes, AccessesKept, Beside}
use Rattle.endings.specs.Steps.{changed, along}

-- the accesses from row h on, at most f of them
abbrev pub accesses_from : Counts → List ℕ → ℕ → ℕ → List Access
accesses_from c w f h = map (access_at c w) (front (access_table c) w f h)

module _ {c : Counts} {w w' : List ℕ} (kept : AccessesKept c w w') where
  from_kept : (f h : ℕ) → accesses_from c w' f h ≡ accesses_from c w f h
  unfolding front access_table rows
  from_kept zero h = refl
  from_kept (suc f) h = go (among c.accesses h) refl (from_kept f (link (access_table c) w h))
    where
      go : (b : Bool) → among c.accesses h ≡ b
          → accesses_from c w' f (link (access_table c) w h) ≡ accesses_from c w f (link (access_table c) w h)
          → accesses_from c w' (suc f) h ≡ accesses_from c w (suc f) h
      go true e ih =
          let q = among_out c.accesses h e in
          rw (
            rows_suc (link (access_table c) w') c.accesses f h e,
            rows_suc (link (access_table c) w) c.accesses f h e,
            kept.entry h q,
            kept.next h q,
            ih,
          )
      go false e ih =
          rw (
            rows_stop (link (access_table c) w') c.accesses (suc f) h e,
            rows_stop (link (access_table c) w) c.accesses (suc f) h e,
          )

-- P is what the walk needs of the accesses to come
pub record Along (g : Access → Rec → Rec) (P : List Access → Store → Type 0) (c : Counts) (answer : Store) (w : List ℕ)
    (s : Cursor) : Type 0 where
  pub well : Well c w
  pub same : along g (accesses_from c w s.left s.row) (decode_at c w) ≡ answer
  pub need : P (accesses_from c w s.left s.row) (decode_at c w)

module _ (g : Access → Rec → Rec) (P : List Access → Store → Type 0) (c : Counts) where
  pub along_start : (w : List ℕ) (k : ℕ) (s : Cursor) → Well c w → IsRow c.edits k
      → s ≡ start (access_table c) (head_of (access_heads c) w k)
      → P (edit_at (decode_at c w) k).accesses (decode_at c w)
      → Along g P c (along g (edit_at (decode_at c w) k).accesses (decode_at c w)) w s
  unfolding slot_at accesses_of access_rows rows_of chain front
  along_start w k s W q e p =
      let same : accesses_from c w s.left s.row ≡ (edit_at (decode_at c w) k).accesses =
      ap (λ (x : Cursor). accesses_from c w x.left x.row) e
      ∙ ap (λ (x : Edit). x.accesses) (sym (edit_at_lem c w k q)) in
      record { well = W; same = ap (λ acc. along g acc (decode_at c w)) same; need = rw same p }

  module _ {answer : Store} {w : List ℕ} {s : Cursor} (I : Along g P c answer w s) where
    module _ {x : ℕ} {s' : Cursor} (m : Met (access_table c) w s x s') where
      pub along_row : IsRow c.accesses x
      unfolding access_table
      along_row = m.row

      abbrev rest : List Access
      rest = accesses_from c w s'.left s'.row

      split : accesses_from c w s.left s.row ≡ access_at c w x ∷ rest
      split = ap (map (access_at c w)) m.rest

      -- what the access at hand needs
      pub along_need : P (access_at c w x ∷ rest) (decode_at c w)
      along_need = rw split at I.need

      pub along_again : ((a : Access) (acc : List Access) (z : Store) → P (a ∷ acc) z → P acc (changed g a z))
          → {w' : List ℕ} → Beside c w w' (changed g (access_at c w x) (decode_at c w)) → Along g P c answer w' s'
      unfolding along
      along_again on {w'} B =
          let list : accesses_from c w' s'.left s'.row ≡ rest = from_kept B.accesses s'.left s'.row in
          record {
            well = B.becomes.well;
            same = rw (list, B.becomes.means) (sym (ap (λ acc. along g acc (decode_at c w)) split) ∙ I.same);
            need = rw (list, B.becomes.means) (on (access_at c w x) rest (decode_at c w) along_need);
          }

    pub along_end : {s' : Cursor} → Halted (access_table c) w s s' → Becomes c w answer
    unfolding along
    along_end m =
        let none : accesses_from c w s.left s.row ≡ [] = ap (map (access_at c w)) m.rest in
        record { well = I.well; means = rw none at I.same }
