-- A chart is one moment of the plan: what View at p shows is the newest at or below p of all that was saved, and so is
-- the plain run's value after the edits that committed at or below p. Rests on Newest, Onward, Prefixes, PlainRun,
-- Order.
use Prim.Native.Nat.{ℕ, ◌≤◌, ◌<◌}
use mathlib.Core.Path.{◌≡◌, refl, sym, ◌∙◌, ap, subst}
use mathlib.Core.Logic.{◌⊎◌, inl, inr}
use mathlib.Core.Option.{Option, some, none}
use native.Mathlib.Decide.{dec_lt}
use native.Mathlib.Omega.{arith}
use Rattle.serial.specs.Serializable.{Seq, ◌▸◌, ◌∈◌, ReadReply, from, read, History, calls_of, Commits, plain_end}
use Rattle.serial.specs.Serializable.{PlainFits, pending, State, Run, CommitOrder}
use Rattle.serial.specs.Moments.{Prefix, Moment, NewestTo, Views, Shows, Saves, Chart}
use Rattle.serial.specs.Moments.{ChartsAreMoments, ChartsStay, ChartsOfReadsStay}
use Rattle.serial.proofs.Memory.{known, not_both, after_kept, after_wrote}
use Rattle.serial.proofs.Invariant.{Saved, saved_one, Invariant}
use Rattle.serial.proofs.Runs.{invariant}
use Rattle.serial.proofs.PlainRun.{Now, plain_run}
use Rattle.serial.proofs.Order.{order_exists}
use Rattle.serial.proofs.Newest.{newest_alike, newest_one, newest_saved, newest_stands, now_newest}
use Rattle.serial.proofs.Onward.{calls_stay, commits_stay, Accessed, touched, fits_read}
use Rattle.serial.proofs.Prefixes.{prefix_in, prefix_through, prefix_rises, prefix_closed, moment_exists}

module _ {X : Type 0} (l : History X) (S : State X) (I : Invariant (calls_of l) S) where
  saved_newest : (k p q r : ℕ) (x y : Option X) → NewestTo (Saved (calls_of l) k) p q x
      → NewestTo (Saved (calls_of l) k) p r y
      → (q ≡ r) × (x ≡ y)
  saved_newest k p q r x y = newest_one p q r x y (λ i v w s t. saved_one I.consistent s t)

  viewed_newest : (k p q : ℕ) (x : Option X) → Views S k p q x → NewestTo (Saved (calls_of l) k) p q x
  viewed_newest k p q x s = newest_saved I k p s.granted q x s.newest

  -- who saved it
  newest_saves : (k p q : ℕ) (x : Option X) → NewestTo (Saved (calls_of l) k) p q x → NewestTo (Saves l k) p q x
  newest_saves k p q x =
      newest_alike p q x
      (λ t v h. (
        λ s. (s.by, s.committed, s.wrote),
        λ (e, c, w). record { by = e; committed = c; wrote = w },
      ))

  -- View shows the newest of all that was saved
  shows_newest : (k p : ℕ) (x : Option X) → (q : ℕ) × NewestTo (Saved (calls_of l) k) p q x → Shows S k p x
  shows_newest k p x (q, n) =
      record {
        granted = λ f. (q, record { granted = f; newest = newest_stands I k p f q x n });
        only = λ r y s. (saved_newest k p r q y x (viewed_newest k p r y s) n).1;
      }

  module _ (o : Seq ℕ) (C : CommitOrder l o) where
    -- the plain run of a prefix
    run : (a : Seq ℕ) → Prefix a o
        → PlainFits l a × ((k : ℕ) → Now l I.consistent a k (plain_end l a k))
    run a g =
        plain_run l I.consistent a (prefix_rises l g C.rises) (λ e i. (C.each e).0 (prefix_in g e i))
        (λ d e p t c i b lt. prefix_closed l g C.rises d e p t ((C.each d).1 (p, c)) c i b lt)

    -- after the edits that committed at or below p it has the newest at or below p
    moment_newest : (p : ℕ) (a : Seq ℕ) → Moment l p o a
        → (k : ℕ) → (q : ℕ) × NewestTo (Saved (calls_of l) k) p q (plain_end l a k)
    moment_newest p a u k =
        now_newest l I.consistent a k p (λ e i. let c = u.only e i in (c.0, c.1, omega (arith, c.2)))
        (λ e t v c h w. u.all e t c h)
        (plain_end l a k) ((run a u.prefix).1 k)

    chart : (p : ℕ) → Chart l S o p
    chart p =
        record {
          has_moment = moment_exists l I.consistent.once p o C;
          shows = λ a u k. shows_newest k p (plain_end l a k) (moment_newest p a u k);
          points = λ k q x s. newest_saves k p q x (viewed_newest k p q x s);
        }

    -- right after the edit e
    module _ (e t : ℕ) (c : Commits l e t) (a : Seq ℕ) (g : Prefix (a ▸ e) o) where
      -- it has run with all edits below t, and with none above
      below : (d p : ℕ) → d ∈ (a ▸ e) → Commits l d p → p ≤ t
      below d p (inl i) b = ((prefix_rises l g C.rises).1 d i).1 p t b c
      below d p (inr q) b = omega (arith, I.consistent.once e p t (subst (λ n. Commits l n p) q b) c)

      -- whoever wrote at or below t what e has read or written has run
      all_ran : (k : ℕ) → Accessed (calls_of l e) k → (d p : ℕ) (v : X) → Commits l d p → p ≤ t
          → pending (calls_of l d) k ≡ some v → d ∈ (a ▸ e)
      all_ran k seen d p v b h w = go seen (dec_lt p t)
        where
          go : Accessed (calls_of l e) k → Dec (p < t) → d ∈ (a ▸ e)
          go seen (yes lt) = prefix_closed l g C.rises d e p t ((C.each d).1 (p, b)) b (inr refl) c lt
          go (inl (u, x, r)) (no n) =
              inr
              (sym
              (I.consistent.gap e t k u x d p v c r b w
              (let z = I.consistent.before e t k u x c r in omega arith) h))
          go (inr (y, q)) (no n) =
              let z : p ≡ t = omega arith in
              inr (sym (I.consistent.one e d t k y v c (subst (λ i. Commits l d i) z b) q w))

      after_newest : (k : ℕ) → Accessed (calls_of l e) k
          → (q : ℕ) × NewestTo (Saved (calls_of l) k) t q (plain_end l (a ▸ e) k)
      after_newest k seen =
          now_newest l I.consistent (a ▸ e) k t
          (λ d i. let b = (C.each d).0 (prefix_in g d i) in (b.0, b.1, below d b.0 i b.1))
          (all_ran k seen)
          (plain_end l (a ▸ e) k) ((run (a ▸ e) g).1 k)

      -- the value is what e wrote, or what e read
      after_write : (k : ℕ) (v : X) → pending (calls_of l e) k ≡ some v → plain_end l (a ▸ e) k ≡ some v
      after_write k v w = after_wrote (calls_of l e) (plain_end l a) k v w

      after_read : (k : ℕ) (b : ReadReply) (x : Option X) → read k b x ∈ calls_of l e → pending (calls_of l e) k ≡ none
          → plain_end l (a ▸ e) k ≡ x
      after_read k b x r n =
          after_kept (calls_of l e) (plain_end l a) k n
          ∙ fits_read (calls_of l e) (plain_end l a) k b x (run (a ▸ e) g).0.1 r n

pub views_one : {X : Type 0} {l : History X} {S : State X} → Run l S → (k p q r : ℕ) (x y : Option X) → Views S k p q x
    → Views S k p r y → (q ≡ r) × (x ≡ y)
views_one {l = l} {S = S} r k p q i x y a b =
    saved_newest l S (invariant r) k p q i x y (viewed_newest l S (invariant r) k p q x a)
    (viewed_newest l S (invariant r) k p i y b)

pub charts_are_moments : ChartsAreMoments
charts_are_moments X l S r o C p = chart l S (invariant r) o C p

pub charts_stay : ChartsStay
charts_stay X l m S M r s g k p none-since q x shown =
    record {
      reply = λ f. record { granted = f; newest = newest_stands J k p f q x still };
      value = λ o a C u.
          let n = moment_newest m M J o C p a u k in
          (saved_newest m M J k p q n.0 x (plain_end m a k) still n.1).1;
      point = newest_saves m M J k p q x still;
    }
  where
    J : Invariant (calls_of m) M
    J = invariant s

    kept : (q : ℕ) (v : X) → Saved (calls_of l) k q v → Saved (calls_of m) k q v
    kept q v a =
        record {
          by = a.by;
          committed = commits_stay s g a.by q a.committed;
          wrote = ap (λ cs. pending cs k) (calls_stay s g a.by q a.committed) ∙ a.wrote;
        }

    came : (q : ℕ) (v : X) → q ≤ p → Saved (calls_of m) k q v → Saved (calls_of l) k q v
    came q v h a =
        let c = none-since a.by q v a.committed h a.wrote in
        record {
          by = a.by;
          committed = c;
          wrote = sym (ap (λ cs. pending cs k) (calls_stay s g a.by q c)) ∙ a.wrote;
        }

    still : NewestTo (Saved (calls_of m) k) p q x
    still =
        newest_alike p q x (λ i v h. (kept i v, came i v h)) (viewed_newest l S (invariant r) k p q x shown)

pub charts_of_reads_stay : ChartsOfReadsStay
charts_of_reads_stay X l m S M r s g o C e t k c touch =
    record {
      place = prefix_through o e ((C.each e).1 (t, c));
      shows = λ a h.
          subst (λ x. Shows M k t x) (alike a h)
          (shows_newest m M J k t (plain_end m (b ▸ e) k)
          (after_newest m M J n D e t d b i k (subst (λ cs. Accessed cs k) (sym calls) seen)));
      as_written = λ x w a h. after_write l S I o C e t c a h k x w;
      as_read = λ y x i n a h. after_read l S I o C e t c a h k y x i n;
    }
  where
    I : Invariant (calls_of l) S
    I = invariant r

    J : Invariant (calls_of m) M
    J = invariant s

    calls : calls_of m e ≡ calls_of l e
    calls = calls_stay s g e t c

    d : Commits m e t
    d = commits_stay s g e t c

    seen : Accessed (calls_of l e) k
    seen = touched r e k touch

    -- an order of m, and the edits before e in it
    n : Seq ℕ
    n = (order_exists X m M s).0

    D : CommitOrder m n
    D = (order_exists X m M s).1

    b : Seq ℕ
    b = (prefix_through n e ((D.each e).1 (t, d))).0

    i : Prefix (b ▸ e) n
    i = (prefix_through n e ((D.each e).1 (t, d))).1

    -- right after e the plain runs of both histories have the same
    alike : (a : Seq ℕ) → Prefix (a ▸ e) o → plain_end m (b ▸ e) k ≡ plain_end l (a ▸ e) k
    alike a h = go (known (pending (calls_of l e) k)) seen
      where
        go : (pending (calls_of l e) k ≡ none) ⊎ ((v : X) × (pending (calls_of l e) k ≡ some v))
            → Accessed (calls_of l e) k
            → plain_end m (b ▸ e) k ≡ plain_end l (a ▸ e) k
        go (inr (v, w)) z =
            after_write m M J n D e t d b i k v (ap (λ cs. pending cs k) calls ∙ w)
            ∙ sym (after_write l S I o C e t c a h k v w)
        go (inl y) (inr (v, w)) = absurd (not_both y w)
        go (inl y) (inl (u, x, z)) =
            after_read m M J n D e t d b i k (from u) x
            (subst (λ cs. read k (from u) x ∈ cs) (sym calls) z)
            (ap (λ cs. pending cs k) calls ∙ y)
            ∙ sym (after_read l S I o C e t c a h k (from u) x z y)
