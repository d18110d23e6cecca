-- Formatted words are well formed, mean the fresh store, and are sound. Rests on Links and on fresh-is-sound of the
-- crate `meaning`.
use Prim.Native.Nat.{ℕ, zero, suc, ◌+◌, ◌-◌, ◌*◌, ◌≤◌, ◌<◌}
use mathlib.Core.Path.{◌≡◌, refl, ap, ◌∙◌}
use mathlib.Core.Bool.{true}
use mathlib.Core.List.{List, [], ◌++◌}
use native.Mathlib.Omega.{arith}
use lib.ListN.{length, get_or, replicate, length-append, length-replicate}
use Rattle.chains.specs.Lists.{all_of}
use Rattle.chains.specs.Walk.{IsRow}
use Rattle.chains.specs.Table.{field, link, place, head_cell, head_of}
use Rattle.chains.proofs.Parts.{zeros}
use Rattle.meaning.specs.Records.{good_counts}
use Rattle.meaning.specs.Store.{fresh_rec, fresh_edit, fresh}
use Rattle.meaning.specs.Sound.{sound_store}
use Rattle.types.specs.declared.Counts.{Counts}
use Rattle.meaning.proofs.Lists.{and_in}
use Rattle.meaning.proofs.SoundParts.{fresh_is_sound}
use Rattle.tables.specs.Layout as Layout
use Rattle.tables.specs.Layout.{HEADER, R_FLOOR, S_STATE, S_GENERATION, S_POINT, Fits, size_of, slot_base, version_base}
use Rattle.tables.specs.Layout.{lock_base, access_base, record_table, slot_table, version_table, lock_table}
use Rattle.tables.specs.Layout.{access_table}
use Rattle.tables.specs.Layout.{version_heads, lock_heads, access_heads}
use Rattle.tables.specs.Decode.{build, record_at, slot_at, floor_of, records_of, edits_of, decode_at, version_rows}
use Rattle.tables.specs.Decode.{lock_rows}
use Rattle.tables.specs.Decode.{access_rows, versions_of, locks_of, accesses_of}
use Rattle.tables.specs.Words.{Well, names_record, marked, decode, sound_words}
use Rattle.tables.proofs.Bridge.{well_in}
use Rattle.tables.proofs.Header.{good_ranged}
use Rattle.tables.proofs.Places
use Rattle.tables.proofs.Header.{size_least}
use Rattle.format.specs.Format.{header_words, blank_words, next_free, linked, formatted_words, FormattedIsSound}
use Rattle.format.specs.Format.{FormattedIsFresh}
use Rattle.format.proofs.Laying.{next_in, linked_size, versions_lie_lem, locks_lie_lem, accesses_lie}
use Rattle.format.proofs.Links.{linked_below, linked_link, free_parted, free_rows}

-- the blank words: the header, then zeros
past_header : (c : Counts) (n j : ℕ)
    → get_or (header_words c ++ replicate n 0) (suc (suc (suc (suc (suc (suc (suc (suc j)))))))) 0 ≡ 0
past_header c n j = zeros n j

blank_zero : (c : Counts) (a : ℕ) → HEADER ≤ a → get_or (blank_words c) a 0 ≡ 0
unfolding blank_words
blank_zero c a l =
    let e : a ≡ suc (suc (suc (suc (suc (suc (suc (suc (a - HEADER)))))))) = omega arith in
    ap (λ k. get_or (header_words c ++ replicate (size_of c - HEADER) 0) k 0) e
    ∙ past_header c (size_of c - HEADER) (a - HEADER)

blank_size : (c : Counts) → length (blank_words c) ≡ size_of c
unfolding blank_words
blank_size c =
    omega (
      arith,
      length-append (header_words c) (replicate (size_of c - HEADER) 0),
      length-replicate {A = ℕ} (size_of c - HEADER) 0,
      size_least c,
    )

-- a list built of one element
build_same : {A : Type 0} (n : ℕ) (f : ℕ → A) (a : A) → ((i : ℕ) → i < n → f i ≡ a) → build n f ≡ replicate n a
unfolding build
build_same zero f a h = refl
build_same (suc n) f a h = rw (h 0 (omega arith), build_same n (λ i. f (suc i)) a (λ i l. h (suc i) (omega arith))) refl

-- the three steps, each with its links
module _ (c : Counts) where
  abbrev first : List ℕ
  first = linked (version_table c) (blank_words c)

  abbrev second : List ℕ
  second = linked (lock_table c) first

  first_size : length first ≡ size_of c
  unfolding linked
  first_size = linked_size (version_table c) (version_table c).count (blank_words c) ∙ blank_size c

  second_size : length second ≡ size_of c
  unfolding linked
  second_size = linked_size (lock_table c) (lock_table c).count first ∙ first_size

  pub formatted_size : length (formatted_words c) ≡ size_of c
  unfolding formatted_words linked
  formatted_size = linked_size (access_table c) (access_table c).count second ∙ second_size

  below_access : (a : ℕ) → a < access_base c → get_or (formatted_words c) a 0 ≡ get_or second a 0
  unfolding formatted_words linked access_table
  below_access a l = linked_below (access_table c) c.accesses second a l

  below_lock : (a : ℕ) → a < lock_base c → get_or second a 0 ≡ get_or first a 0
  unfolding linked lock_table
  below_lock a l = linked_below (lock_table c) c.locks first a l

  below_version : (a : ℕ) → a < version_base c → get_or first a 0 ≡ get_or (blank_words c) a 0
  unfolding linked version_table
  below_version a l = linked_below (version_table c) c.versions (blank_words c) a l

  low : (a : ℕ) → a < version_base c → get_or (formatted_words c) a 0 ≡ get_or (blank_words c) a 0
  low a l =
      let b = Places.bases c in
      below_access a (omega (arith, b.2, b.3)) ∙ below_lock a (omega (arith, b.2)) ∙ below_version a l

  -- words of records and slots
  zero_word : (a : ℕ) → HEADER ≤ a → a < version_base c → get_or (formatted_words c) a 0 ≡ 0
  zero_word a p q = low a q ∙ blank_zero c a p

  record_zero : (r o : ℕ) → r < c.records → o < (record_table c).stride
      → field (record_table c) (formatted_words c) (suc r) o ≡ 0
  unfolding field
  record_zero r o l p =
      let b = Places.record_word c (suc r) o (record { low = omega arith; high = omega arith }) p in
      zero_word (place (record_table c) (suc r) o) b.0 (omega (arith, b.1, (Places.bases c).1))

  slot_zero : (k o : ℕ) → IsRow c.edits k → o < (slot_table c).stride → field (slot_table c) (formatted_words c) k o ≡ 0
  unfolding field
  slot_zero k o l p =
      let b = Places.slot_word c k o l p in
      zero_word (place (slot_table c) k o) (omega (arith, b.0, (Places.bases c).0)) b.1

  -- links
  version_links : (i : ℕ) → IsRow (version_table c).count i
      → link (version_table c) (formatted_words c) i ≡ next_free (version_table c).count i
  unfolding field linked
  version_links i l =
      let p = Places.version_word c i (version_table c).off l
      (versions_lie_lem c (blank_words c) (blank_size c)).within in
      let b = Places.bases c in
      below_access (place (version_table c) i (version_table c).off) (omega (arith, p.1, b.3))
      ∙ below_lock (place (version_table c) i (version_table c).off) p.1
      ∙ linked_link (version_table c) (blank_words c) (versions_lie_lem c (blank_words c) (blank_size c))
      (version_table c).count (omega arith) i l.low l.high

  lock_links : (i : ℕ) → IsRow (lock_table c).count i
      → link (lock_table c) (formatted_words c) i ≡ next_free (lock_table c).count i
  unfolding field linked
  lock_links i l =
      let p = Places.lock_word c i (lock_table c).off l (locks_lie_lem c first first_size).within in
      below_access (place (lock_table c) i (lock_table c).off) p.1
      ∙ linked_link (lock_table c) first (locks_lie_lem c first first_size) (lock_table c).count (omega arith) i l.low
      l.high

  access_links : (i : ℕ) → IsRow (access_table c).count i
      → link (access_table c) (formatted_words c) i ≡ next_free (access_table c).count i
  unfolding formatted_words linked
  access_links i l =
      linked_link (access_table c) second (accesses_lie c second second_size) (access_table c).count (omega arith) i
      l.low l.high

  -- the header
  head_low : (a : ℕ) → a < HEADER → a < version_base c
  unfolding version_base
  head_low a l = omega arith

  header_word : (a : ℕ) → a < HEADER
      → get_or (formatted_words c) a 0 ≡ get_or (header_words c ++ replicate (size_of c - HEADER) 0) a 0
  unfolding blank_words
  header_word a l = low a (head_low a l)

  counts_kept : Layout.counts_of (formatted_words c) ≡ c
  unfolding Layout.counts_of
  counts_kept =
      rw (
        header_word 0 (omega arith),
        header_word 1 (omega arith),
        header_word 2 (omega arith),
        header_word 3 (omega arith),
        header_word 4 (omega arith),
      ) refl

  -- heads
  first_free_lem : (n : ℕ) → 1 ≤ n → ◌≡◌ {A = ℕ} 1 (next_free n 0)
  first_free_lem n l = next_in n 0 (omega arith)

  module _ (g : good_counts c ≡ true) where
    fits : Fits c (formatted_words c)
    fits = record { counts = counts_kept; ranged = good_ranged c g; size = formatted_size }

    version_free : head_of (version_heads c) (formatted_words c) 0 ≡ next_free (version_table c).count 0
    unfolding head_of head_cell version_heads version_table
    version_free = header_word 5 (omega arith) ∙ first_free_lem c.versions fits.ranged.versions_low

    lock_free : head_of (lock_heads c) (formatted_words c) 0 ≡ next_free (lock_table c).count 0
    unfolding head_of head_cell lock_heads lock_table
    lock_free = header_word 6 (omega arith) ∙ first_free_lem c.locks fits.ranged.locks_low

    access_free : head_of (access_heads c) (formatted_words c) 0 ≡ next_free (access_table c).count 0
    unfolding head_of head_cell access_heads access_table
    access_free = header_word 7 (omega arith) ∙ first_free_lem c.accesses fits.ranged.accesses_low

    version_heads_lem : (k : ℕ) → k < (version_heads c).owners → head_of (version_heads c)
        (formatted_words c) (suc k) ≡ 0
    unfolding head_of version_heads head_cell version_base
    version_heads_lem k l = zero_word (HEADER + 0 + k * 3) (omega arith) (omega arith)

    lock_heads_lem : (k : ℕ) → k < (lock_heads c).owners → head_of (lock_heads c) (formatted_words c) (suc k) ≡ 0
    unfolding head_of lock_heads head_cell version_base
    lock_heads_lem k l = zero_word (HEADER + 1 + k * 3) (omega arith) (omega arith)

    access_heads_lem : (k : ℕ) → k < (access_heads c).owners → head_of (access_heads c) (formatted_words c) (suc k) ≡ 0
    unfolding head_of access_heads head_cell version_base slot_base
    access_heads_lem k l = zero_word (slot_base c + 2 + k * 4) (omega arith) (omega arith)

    -- rows in use: none
    no_versions : (r : ℕ) → r < c.records → version_rows c (formatted_words c) r ≡ []
    unfolding version_rows version_heads
    no_versions r l =
        free_rows (version_table c) (version_heads c) (formatted_words c) version_links version_free
        version_heads_lem r l

    no_locks : (r : ℕ) → r < c.records → lock_rows c (formatted_words c) r ≡ []
    unfolding lock_rows lock_heads
    no_locks r l = free_rows (lock_table c) (lock_heads c) (formatted_words c) lock_links lock_free lock_heads_lem r l

    no_accesses : (k : ℕ) → IsRow c.edits k → access_rows c (formatted_words c) k ≡ []
    unfolding access_rows access_heads
    no_accesses zero l = absurd (omega (arith, l.low))
    no_accesses (suc k) l =
        free_rows (access_table c) (access_heads c) (formatted_words c) access_links access_free access_heads_lem k
        (omega (arith, l.high))

    pub formatted_well : Well c (formatted_words c)
    unfolding all_of
    formatted_well =
        record {
          fits = fits;
          versions_parted_lem =
              free_parted (version_table c) (version_heads c) (formatted_words c) version_links
              version_free version_heads_lem;
          locks_parted_lem = free_parted (lock_table c) (lock_heads c) (formatted_words c) lock_links
              lock_free lock_heads_lem;
          accesses_parted_lem =
              free_parted (access_table c) (access_heads c) (formatted_words c) access_links
              access_free access_heads_lem;
          named = λ r l. ap (all_of (names_record c (formatted_words c) r)) (no_locks r l);
          marks = λ k p q. ap (all_of (marked c (formatted_words c))) (no_accesses k (record { low = p; high = q }));
        }

    -- the meaning
    fresh_record : (r : ℕ) → r < c.records → record_at c (formatted_words c) r ≡ fresh_rec
    unfolding record_at versions_of locks_of floor_of record_table
    fresh_record r l = rw (no_versions r l, no_locks r l, record_zero r R_FLOOR l (omega arith)) refl

    fresh_slot : (k : ℕ) → IsRow c.edits k → slot_at c (formatted_words c) k ≡ fresh_edit
    unfolding slot_at accesses_of slot_table
    fresh_slot k l =
        rw (
          no_accesses k l,
          slot_zero k S_STATE l (omega arith),
          slot_zero k S_GENERATION l (omega arith),
          slot_zero k S_POINT l (omega arith),
        ) refl

    decoded : decode_at c (formatted_words c) ≡ fresh c
    unfolding decode_at records_of edits_of
    decoded =
        rw (
          build_same c.records (record_at c (formatted_words c)) fresh_rec fresh_record,
          build_same c.edits (λ i. slot_at c (formatted_words c) (suc i)) fresh_edit
              (λ i l. fresh_slot (suc i) (record { low = omega arith; high = omega arith })),
        ) refl

pub formatted_fresh : FormattedIsFresh
unfolding decode
formatted_fresh c g = ap (λ d. decode_at d (formatted_words c)) (counts_kept c) ∙ decoded c g

pub formatted_sound : FormattedIsSound
unfolding sound_words
formatted_sound c g =
    and_in (well_in c (formatted_words c) (formatted_well c g))
    (ap sound_store (formatted_fresh c g) ∙ fresh_is_sound c g)
