-- A store stays sound where a lock is added that fits; Lock and Read as instances. Rests on Kept and AccessPut.
use Prim.Native.Nat.{ℕ, suc, ◌≤◌, ◌<◌}
use native.Mathlib.Omega.{arith}
use mathlib.Core.Path.{◌≡◌, refl, sym}
use mathlib.Core.Logic.{◌⊎◌, inl, inr}
use mathlib.Core.List.{List}
use lib.ListN.{length, set, length-set}
use Rattle.meaning.specs.Lists.{◌∈◌}
use Rattle.types.specs.Limits.{READ, WRITE, SETTLED, FREE, OPEN}
use Rattle.meaning.specs.Store.{Version, Lock, Rec, Edit, Store, edit_of, rec_of, edit_at, rec_at, with_records}
use Rattle.meaning.specs.Store.{with_rec, with_locks, locks_used, accesses_used}
use Rattle.meaning.specs.Points.{add_lock}
use Rattle.meaning.specs.Locking.{with_lock, with_lock_by, read_access, read_store, read_store_by}
use Rattle.meaning.specs.Pointwise.{NoneBlocked, VersionOn}
use Rattle.meaning.specs.Sound.{versions_fall}
use Rattle.meaning.specs.SoundFacts.{Backed, Span, SoundRec, Present, ReadStarts, SoundStore}
use Rattle.meaning.proofs.Stores.{rec_same}
use Rattle.meaning.proofs.Joining.{put_out, put_old, put_new, put_rises, length_put}
use Rattle.meaning.proofs.Rows.{put_joined}
use Rattle.meaning.specs.Points.{is_settled_read}
use Rattle.meaning.proofs.Tests.{unowned_in}
use native.Mathlib.Decide.{ℕ_discrete}
use mathlib.Core.Bool.{false}
use Rattle.meaning.proofs.StoresMore.{each_rec, locks_set, versions_set}
use Rattle.meaning.proofs.Kept.{Keeps, edit_kept}
use Rattle.meaning.proofs.AccessPut.{AccessRoom, access_put}

abbrev pub locked_rec : Rec → Lock → Rec
locked_rec x l = with_locks x (add_lock l x.locks)

-- a lock that record x can get: no point of it is blocked for its owner
pub record LockFits (es : List Edit) (x : Rec) (l : Lock) : Type 0 where
  pub mode : (l.mode ≡ READ) ⊎ (l.mode ≡ WRITE)
  pub span : Span x.floor l
  pub used : (edit_of es l.owner).state ≡ FREE → ⊥
  pub free : NoneBlocked l.mode l.owner x l.low l.high

-- the versions stay
pub version_stays : (x : Rec) (l : Lock) (p : ℕ) → VersionOn x p → VersionOn (locked_rec x l) p
version_stays x l p v = record { version = v.version; member = v.member; stands = v.stands }

pub present_stays : (x : Rec) (l : Lock) (tr : ℕ) → Present x tr → Present (locked_rec x l) tr
present_stays x l tr (inl v) = inl (version_stays x l tr v)
present_stays x l tr (inr z) = inr z

-- a property of the new lock and of every old one
pub added_each : (P : Lock → Type 0) (l : Lock) (ls : List Lock) → P l → ((m : Lock) → m ∈ ls → P m) → (m : Lock)
    → m ∈ add_lock l ls → P m
unfolding add_lock
added_each P l ls new old m i = go (put_out l ls i)
  where
    go : (m ≡ l) ⊎ (m ∈ ls) → P m
    go (inl q) = rw q new
    go (inr j) = old m j

pub added_old : (l : Lock) (ls : List Lock) {m : Lock} → m ∈ ls → m ∈ add_lock l ls
unfolding add_lock
added_old l ls i = put_old l ls i

module _ (es : List Edit) (r : ℕ) (x : Rec) (l : Lock) (fit : LockFits es x l) (h : SoundRec es r x) where
  -- no write lock shares a point with a lock of another owner, of two locks
  abbrev Parted : Lock → Lock → Type 0
  Parted a b =
      a.mode ≡ WRITE → (a.owner ≡ b.owner → ⊥) → (p : ℕ) → a.low ≤ p → p ≤ a.high → b.low ≤ p → p ≤ b.high → ⊥

  new_parted : (m : Lock) → m ∈ x.locks → Parted l m
  new_parted m i w o p a b c d =
      fit.free p a b (
        m.owner,
        record { lock = m; member = i; owned = refl; other = λ q. o (sym q); against = inl w; from = c; upto = d },
      )

  old_parted : (m : Lock) → m ∈ x.locks → Parted m l
  old_parted m i w o p a b c d =
      fit.free p c d
      (m.owner, record { lock = m; member = i; owned = refl; other = o; against = inr w; from = a; upto = b })

  unsettled : is_settled_read l ≡ false
  unfolding edit_of
  unsettled = ne_settled (ℕ_discrete l.owner SETTLED)
    where
      free_settled : l.owner ≡ SETTLED → (edit_of es l.owner).state ≡ FREE
      free_settled z = rw z refl

      ne_settled : Dec (l.owner ≡ SETTLED) → is_settled_read l ≡ false
      ne_settled (yes z) = absurd (fit.used (free_settled z))
      ne_settled (no d) = rw (unowned_in SETTLED l d) refl

  pub rec_locked : SoundRec es r (locked_rec x l)
  unfolding versions_fall add_lock
  rec_locked =
      record {
        mode = added_each (λ m. (m.mode ≡ READ) ⊎ (m.mode ≡ WRITE)) l x.locks fit.mode h.mode;
        falls = h.falls;
        low = h.low;
        high = h.high;
        base = λ f. version_stays x l x.floor (h.base f);
        nonzero = h.nonzero;
        span = added_each (λ m. Span x.floor m) l x.locks fit.span h.span;
        owner =
            added_each (λ m. (m.owner ≡ SETTLED) ⊎ ((edit_of es m.owner).state ≡ FREE → ⊥)) l x.locks
            (inr fit.used) h.owner;
        apart = λ a b i j. added_each (λ c. Parted c b) l x.locks (newer b j) (λ c n. older c n b j) a i;
        backed = λ v m f. backed v (h.backed v m f);
        rises = put_rises l x.locks h.rises;
        joined = put_joined l x.locks unsettled h.rises h.joined;
      }
    where
      newer : (b : Lock) → b ∈ add_lock l x.locks → Parted l b
      newer b j = added_each (λ c. Parted l c) l x.locks (λ w o. absurd (o refl)) new_parted b j

      older : (c : Lock) → c ∈ x.locks → (b : Lock) → b ∈ add_lock l x.locks → Parted c b
      older c n b j = added_each (λ d. Parted c d) l x.locks (old_parted c n) (λ d m. h.apart c d n m) b j

      backed : (v : Version) → Backed es r v.point x.locks → Backed es r v.point (add_lock l x.locks)
      backed v b = record {
        lock = b.lock;
        member = added_old l x.locks b.member;
        write = b.write;
        from = b.from;
        upto = b.upto;
        owner = b.owner;
      }

module _ (s : Store) (h : SoundStore s) (r : ℕ) (there : r < length s.records) where
  -- every edit keeps its locks and the versions that it read
  module _ (l : Lock) where
    abbrev after : List Rec
    after = set s.records r (locked_rec (rec_at s r) l)

    locks_kept : (k : ℕ) (e : Edit) → Keeps k e s.records after
    locks_kept k e =
        record {
          count = omega (arith, length-set s.records r (locked_rec (rec_at s r) l));
          lock = λ a i m o.
              each_rec (λ j y. m ∈ (rec_of s.records j).locks → m ∈ y.locks) s.records r (locked_rec (rec_at s r) l)
              there
              (added_old l (rec_at s r).locks) (λ j n. n) a.rec;
          version = λ a tr i q.
              each_rec (λ j y. Present (rec_of s.records j) tr → Present y tr) s.records r
              (locked_rec (rec_at s r) l) there
              (present_stays (rec_at s r) l tr) (λ j n. n) a.rec;
        }

    pub lock_added : LockFits s.edits (rec_at s r) l → locks_used s < s.lock_rows
        → SoundStore (with_rec s r (locked_rec (rec_at s r) l))
    unfolding with_records accesses_used add_lock
    lock_added fit room =
        record {
          counts = rw (length-set s.records r (locked_rec (rec_at s r) l)) h.counts;
          versions_fit = omega (arith, h.versions_fit, versions_set s r (locked_rec (rec_at s r) l) there);
          locks_fit =
              omega (arith, room, length_put l (rec_at s r).locks, locks_set s r (locked_rec (rec_at s r) l) there);
          accesses_fit = h.accesses_fit;
          recs =
              each_rec (λ i y. SoundRec s.edits i y) s.records r (locked_rec (rec_at s r) l) there
              (rec_locked s.edits r (rec_at s r) l fit (h.recs r)) h.recs;
          edits = λ k. edit_kept k (edit_at s k) s.records after (locks_kept k (edit_at s k)) (h.edits k);
        }

  module _ (k low high : ℕ) (room : locks_used s < s.lock_rows) where
    -- Lock
    pub locked_sound : (mode : ℕ)
        → LockFits s.edits (rec_at s r) (record { low = low; high = high; mode = mode; owner = k })
        → SoundStore (with_lock s r mode k low high)
    unfolding with_lock_by
    locked_sound mode fit = lock_added (record { low = low; high = high; mode = mode; owner = k }) fit room

    abbrev new : Lock
    new = record { low = low; high = high; mode = READ; owner = k }

    starts : (t : ℕ) → low ≡ suc t → ReadStarts k (suc t) (add_lock new (rec_at s r).locks)
    unfolding add_lock
    starts t z =
        record {
          lock =
              new;
          member = put_new new (rec_at s r).locks;
          owned = refl;
          mode = λ w. omega (arith, w);
          starts = z;
        }

    -- Read: the edit gets the access of the point read besides
    pub read_sound_lem : (tr : ℕ) → low ≡ suc tr → Present (rec_at s r) tr → LockFits s.edits (rec_at s r) new
        → (edit_at s k).state ≡ OPEN → AccessRoom s k r → SoundStore (read_store s k r low high)
    unfolding read_store_by with_lock_by with_records accesses_used
    read_sound_lem tr q present fit o access =
        let same = rec_same s.records r (locked_rec (rec_at s r) new) there in
        access_put (with_lock s r READ k low high) (locked_sound READ fit) k o (read_access r low)
        (record {
          existing = omega (arith, there, length-set s.records r (locked_rec (rec_at s r) new));
          present = λ t z. rw same (present_stays (rec_at s r) new t (shown t (omega (arith, q, z))));
          locked = λ t z. rw same (starts t z);
        })
        access
      where
        shown : (t : ℕ) → tr ≡ t → Present (rec_at s r) t
        shown t z = rw z at present
