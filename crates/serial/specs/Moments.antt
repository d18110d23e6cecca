-- A chart is one moment of the plan, on one page: what View at a point shows of the plain run. Sentences in quotes are
-- document 01's. The theorems are `charts_are_moments`, `charts_stay` and `charts_of_reads_stay`, in proofs/Moments.
-- Rests on Serializable.
use Rattle.std.specs.Prelude.{ℕ, ◌≤◌, ◌<◌, ◌≡◌, ◌⊎◌}
use Rattle.std.proofs.Math.Option.{Option, some, none}
use Rattle.serial.specs.Serializable.{Seq, ◌▸◌, ◌∈◌, ReadReply, wrote, read, History, calls_of, Commits, plain_end}
use Rattle.serial.specs.Serializable.{pending, State, Run, CommitOrder}

-- a is a prefix of s: of an order of edits, those that ran first; of a list of calls, the list when it had come so far
pub data Prefix {A : Type 0} (a : Seq A) : Seq A → Type 0 where
  whole : Prefix a a
  more : {s : Seq A} {b : A} → Prefix a s → Prefix a (s ▸ b)

module _ {X : Type 0} where
  -- a is the moment p of the order o: its prefix that has exactly the edits that committed at or below p
  pub record Moment (l : History X) (p : ℕ) (o a : Seq ℕ) : Type 0 where
    pub prefix : Prefix a o
    pub only : (e : ℕ) → e ∈ a → (t : ℕ) × Commits l e t × (t ≤ p)
    pub all : (e t : ℕ) → Commits l e t → t ≤ p → e ∈ a

  -- "the newest version at or below p" of versions by point and value: it stands at q and has the value x. `none`:
  -- there is none, and "Point 0 belongs to the first, never written state"
  abbrev pub NewestTo : (ℕ → X → Type 0) → ℕ → ℕ → Option X → Type 0
  NewestTo version p q none = (q ≡ 0) × ((r : ℕ) (w : X) → version r w → p < r)
  NewestTo version p q (some v) = version q v × (q ≤ p) × ((r : ℕ) (w : X) → version r w → r ≤ p → r ≤ q)

  -- "View a record at p" is granted, since its floor is not above p, and replies `at q x`
  pub record Views (S : State X) (k p q : ℕ) (x : Option X) : Type 0 where
    pub granted : S.floor k ≤ p
    pub newest : NewestTo (S.version k) p q x

  -- View of k at p shows x wherever it is granted, and nothing else
  pub record Shows (S : State X) (k p : ℕ) (x : Option X) : Type 0 where
    pub granted : S.floor k ≤ p → (q : ℕ) × Views S k p q x
    pub only : (q : ℕ) (y : Option X) → Views S k p q y → y ≡ x

  -- an edit that wrote k committed at t, and v is what it wrote last
  abbrev pub Saves : History X → ℕ → ℕ → X → Type 0
  Saves l k t v = (e : ℕ) × Commits l e t × (pending (calls_of l e) k ≡ some v)

  -- A chart at p: the order has its moment p, and View at p shows of each record the value that the plain run has after
  -- it, "never written included", with the greatest commit point at or below p of an edit that wrote the record, or 0.
  -- So the records of a chart are of one state of the plain run
  pub record Chart (l : History X) (S : State X) (o : Seq ℕ) (p : ℕ) : Type 0 where
    pub has_moment : (a : Seq ℕ) × Moment l p o a
    pub shows : (a : Seq ℕ) → Moment l p o a → (k : ℕ) → Shows S k p (plain_end l a k)
    pub points : (k q : ℕ) (x : Option X) → Views S k p q x → NewestTo (Saves l k) p q x

  -- since l no edit that wrote k has committed at or below p: whoever has done so by the end of m had by the end of l
  abbrev pub NoCommitSince : History X → History X → ℕ → ℕ → Type 0
  NoCommitSince l m k p = (e t : ℕ) (v : X) → Commits m e t → t ≤ p → pending (calls_of m e) k ≡ some v → Commits l e t

  -- A reply `at q x` of View of k at p, when the list has come to m: View still gives it wherever it is granted, and
  -- granted or not x is the value at the moment p of m, and q its point
  pub record Stays (m : History X) (M : State X) (k p q : ℕ) (x : Option X) : Type 0 where
    pub reply : M.floor k ≤ p → Views M k p q x
    pub value : (o a : Seq ℕ) → CommitOrder m o → Moment m p o a → x ≡ plain_end m a k
    pub point : NewestTo (Saves m k) p q x

  -- the edit e read the record k, with any reply, or wrote it
  abbrev pub Touches : History X → ℕ → ℕ → Type 0
  Touches l e k =
      ((a : ReadReply) × (x : Option X) × (read k a x ∈ calls_of l e)) ⊎ ((v : X) × (wrote k v ∈ calls_of l e))

  -- A chart of records that e, which committed at t, has read or written: e has its place in the order, after the edits
  -- of some a; View at t shows what the plain run of l has right after e: what e wrote last, or else what e read
  pub record AfterEdit (l : History X) (S : State X) (o : Seq ℕ) (e t k : ℕ) : Type 0 where
    pub place : (a : Seq ℕ) × Prefix (a ▸ e) o
    pub shows : (a : Seq ℕ) → Prefix (a ▸ e) o → Shows S k t (plain_end l (a ▸ e) k)
    pub as_written : (x : X) → pending (calls_of l e) k ≡ some x
        → (a : Seq ℕ) → Prefix (a ▸ e) o → plain_end l (a ▸ e) k ≡ some x
    pub as_read : (b : ReadReply) (x : Option X) → read k b x ∈ calls_of l e → pending (calls_of l e) k ≡ none
        → (a : Seq ℕ) → Prefix (a ▸ e) o → plain_end l (a ▸ e) k ≡ x

-- The moment, "for every order of equal points" and for every p
abbrev pub ChartsAreMoments : Type 1
ChartsAreMoments = (X : Type 0) (l : History X) (S : State X) → Run l S → (o : Seq ℕ) → CommitOrder l o
    → (p : ℕ) → Chart l S o p

-- It stays: what View at p replied of a record, as long as since then no edit that wrote the record has committed at or
-- below p
abbrev pub ChartsStay : Type 1
ChartsStay = (X : Type 0) (l m : History X) (S M : State X) → Run l S → Run m M → Prefix l m
    → (k p : ℕ) → NoCommitSince l m k p
    → (q : ℕ) (x : Option X) → Views S k p q x
    → Stays m M k p q x

-- A chart that nobody can change: of the records that a committed edit has read or written, at its commit point, when
-- it has committed and ever after, whatever else commits at that point. Nobody writes behind a committed read
abbrev pub ChartsOfReadsStay : Type 1
ChartsOfReadsStay = (X : Type 0) (l m : History X) (S M : State X) → Run l S → Run m M → Prefix l m
    → (o : Seq ℕ) → CommitOrder l o
    → (e t k : ℕ) → Commits l e t → Touches l e k
    → AfterEdit l M o e t k
