-- Rows: a row read as a chunk, a row copied into its place, and a row put after the rows before it. Rests on Encoding.
use Prim.Native.Nat.{ℕ, zero, suc, ◌+◌, ◌-◌, ◌*◌, ◌≤◌, ◌<◌}
use mathlib.Core.Path.{◌≡◌, refl, sym, ap, ◌∙◌}
use mathlib.Core.List.{List, [], ◌∷◌, ◌++◌, append-nil, append_assoc}
use native.Mathlib.Omega.{arith}
use native.Mathlib.Numerals.{add-one}
use native.Mathlib.Nat.{zero-mul, suc-mul}
use lib.ListN.{length, take, drop, get_or, length-append, length-drop}
use lib.Seq.{sets, sets-eq, length-take-le, length-sets, take_at, drop-append-add, drop-drop}
use borrow.Rule.Slice.PartMut.{put_mid}
use Rattle.std.specs.Simd.{first_chunks}
use Rattle.std.proofs.lemmas.List.{get_or-take, get_or-drop}
use Rattle.types.specs.Replies.{Reply}
use Rattle.codes.specs.Codes.{numbers_of}
use Rattle.encoding.specs.Encoding.{padded, row_of, rows_of}

-- word k of row i, and its first word
pub chunk_at : (w n i k : ℕ) (xs : List ℕ) → i < n → k < w
    → get_or (get_or (first_chunks w n xs) i []) k 0 ≡ get_or xs (i * w + k) 0
chunk_at w zero i k xs h l = absurd (omega arith)
chunk_at w (suc n) zero k xs h l = get_or-take w xs k 0 l ∙ ap (λ (j : ℕ). get_or xs j 0) (omega (arith, zero-mul w))
chunk_at w (suc n) (suc i) k xs h l =
    chunk_at w n i k (drop w xs) (omega arith) l ∙ get_or-drop w xs (i * w + k) 0
    ∙ ap (λ (j : ℕ). get_or xs j 0) (omega (arith, suc-mul i w))

pub chunk_first : (w n i : ℕ) (xs : List ℕ) → i < n → 0 < w
    → get_or (get_or (first_chunks w n xs) i []) 0 0 ≡ get_or xs (i * w) 0
chunk_first w n i xs h l = chunk_at w n i 0 xs h l ∙ ap (λ (j : ℕ). get_or xs j 0) (add-zero (i * w))
  where
    add-zero : (n : ℕ) → n + 0 ≡ n
    add-zero n = omega arith

-- a row copied into the place of as many words
pub put_stored : (at k : ℕ) (area row : List ℕ) {ys : List ℕ} → ys ≡ row → length ys ≡ length (take k (drop at area))
    → at + k ≤ length area → put_mid at k area ys ≡ sets area at row
put_stored at k area row {ys} e w h =
    let n : length (drop at area) ≡ length area - at = length-drop at area in
    let l : length (take k (drop at area)) ≡ k = length-take-le k (drop at area) (omega (arith, n, h)) in
    let room : at + length row ≤ length area = omega (arith, ap length e, w, l, h) in
    ap (λ xs. take at area ++ (xs ++ drop k (drop at area))) e
    ∙ ap (λ xs. take at area ++ (row ++ xs))
    (drop-drop k at area ∙ ap (λ n. drop (at + n) area) (sym l ∙ sym w ∙ ap length e))
    ∙ sym (append_assoc (take at area) row (drop (at + length row) area))
    ∙ sym (sets-eq row area at room)

-- how wide rows are
padded_wide : (n : ℕ) (xs : List ℕ) → length (padded n xs) ≡ n
padded_wide zero xs = refl
padded_wide (suc n) [] = ap suc (padded_wide n [])
padded_wide (suc n) (x ∷ xs) = ap suc (padded_wide n xs)

pub row_wide : (n : ℕ) (q : Reply) → length (row_of n q) ≡ suc n
row_wide n q = ap suc (padded_wide n (numbers_of q []))

-- the rows of one reply more
rows_more : (n : ℕ) (qs : List Reply) (q : Reply) → rows_of n (qs ++ (q ∷ [])) ≡ rows_of n qs ++ row_of n q
rows_more n [] q = append-nil (row_of n q)
rows_more n (p ∷ qs) q =
    ap (λ xs. row_of n p ++ xs) (rows_more n qs q) ∙ sym (append_assoc (row_of n p) (rows_of n qs) (row_of n q))

-- the first i rows of the area are those of replies; the words after them are as they were
pub record Told (n : ℕ) (area₀ : List ℕ) (i : ℕ) (qs : List Reply) (area : List ℕ) : Type 0 where
  pub wide : length (rows_of n qs) ≡ i * suc n
  pub rows : area ≡ rows_of n qs ++ drop (i * suc n) area₀
  pub size : length area ≡ length area₀

pub told_none : (n : ℕ) (area : List ℕ) → Told n area 0 [] area
told_none n area =
    let z : 0 * suc n ≡ 0 = zero-mul (suc n) in
    record { wide = sym z; rows = ap (λ k. drop k area) (sym z); size = refl }

-- one reply more: its row stands where the next one is to stand
module _ (n : ℕ) (area₀ : List ℕ) (i : ℕ) (qs : List Reply) (area : List ℕ) (t : Told n area₀ i qs area) where
  before : take (i * suc n) area ≡ rows_of n qs
  before = ap (take (i * suc n)) t.rows ∙ take_at (rows_of n qs) (drop (i * suc n) area₀) (i * suc n) t.wide

  behind : drop (i * suc n + suc n) area ≡ drop (i * suc n + suc n) area₀
  behind =
      ap (drop (i * suc n + suc n)) t.rows
      ∙ ap (λ k. drop (k + suc n) (rows_of n qs ++ drop (i * suc n) area₀)) (sym t.wide)
      ∙ drop-append-add (rows_of n qs) (drop (i * suc n) area₀) (suc n) ∙ drop-drop (suc n) (i * suc n) area₀

  pub told_more : (q : Reply) {area' : List ℕ} → (i + 1) * suc n ≤ length area₀
      → area' ≡ sets area (i * suc n) (row_of n q)
      → Told n area₀ (i + 1) (qs ++ (q ∷ [])) area'
  told_more q {area'} h e =
      let m : (i + 1) * suc n ≡ i * suc n + suc n = rw add-one (suc-mul i (suc n)) in
      let w : length (row_of n q) ≡ suc n = row_wide n q in
      let room : i * suc n + length (row_of n q) ≤ length area = omega (arith, m, w, h, t.size) in
      record {
        wide = ap length (rows_more n qs q) ∙ length-append (rows_of n qs) (row_of n q) ∙ omega (arith, m, w, t.wide);
        rows =
            e ∙ sets-eq (row_of n q) area (i * suc n) room
            ∙ ap (λ k. take (i * suc n) area ++ row_of n q ++ drop (i * suc n + k) area) w
            ∙ ap (λ xs. xs ++ row_of n q ++ drop (i * suc n + suc n) area) before
            ∙ ap (λ xs. rows_of n qs ++ row_of n q ++ xs) behind
            ∙ ap (λ xs. xs ++ drop (i * suc n + suc n) area₀) (sym (rows_more n qs q))
            ∙ ap (λ k. rows_of n (qs ++ (q ∷ [])) ++ drop k area₀) (sym m);
        size = ap length e ∙ length-sets area (i * suc n) (row_of n q) ∙ t.size;
      }
