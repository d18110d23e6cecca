-- View on the abstract store: when it is granted, and that what it then shows is a view of the serial core. Rests on
-- StoreSlots and CallRuns, on the newest versions of `meaning`.
use Prim.Native.Nat.{ℕ, suc, ◌≤◌, ◌<◌}
use native.Mathlib.Omega.{arith}
use mathlib.Core.Path.{◌≡◌, refl, sym, ap, ◌∙◌}
use mathlib.Core.Bool.{Bool, true, false}
use mathlib.Core.Option.{Option, some, none}
use mathlib.Core.List.{[]}
use lib.Dec.{leb}
use lib.ListN.{length}
use borrow.Author.Tests.{lt-ltb, le-leb, leb-true}
use Rattle.types.specs.Limits.{LAST}
use Rattle.types.specs.Values.{Val}
use Rattle.types.specs.Replies.{at, refusing}
use Rattle.types.specs.Values.{Value}
use Rattle.types.specs.declared.Version.{Version}
use Rattle.meaning.specs.Store.{Store, rec_at, newest_at}
use Rattle.meaning.specs.Outcomes.{has_record, replies, pass, needs, unless}
use Rattle.meaning.specs.Records.{view_checks, viewing}
use Rattle.meaning.specs.Pointwise.{NewestIs, none, one}
use Rattle.meaning.proofs.Newest.{newest_at_is}
use Rattle.serial.specs.Serializable.{History}
use Rattle.serial.specs.Moments.{Views}
use Rattle.serial.proofs.SlotRuns.{by_edit}
use Rattle.history.specs.Heard.{shown_value}
use Rattle.history.proofs.StoreSlots.{slots}
use Rattle.history.proofs.CallRuns.{Good, good_facts}

module _ (s : Store) (r p : ℕ) where
  abbrev pub newest : Version
  newest = newest_at (rec_at s r).versions p

  pub view_granted : r < length s.records → p ≤ LAST → (rec_at s r).floor ≤ p
      → (viewing r p s).reply ≡ at newest.point newest.value
  unfolding viewing view_checks has_record
  view_granted h low f = rw (lt-ltb r (length s.records) h, le-leb p LAST low, le-leb (rec_at s r).floor p f)

  granted_view : (q : ℕ) (v : Value) → (viewing r p s).reply ≡ at q v
      → ((rec_at s r).floor ≤ p) × (newest.point ≡ q) × (newest.value ≡ v)
  unfolding viewing view_checks
  granted_view q v e = go (has_record s r) (leb p LAST) (leb (rec_at s r).floor p) refl e
    where
      no_at : (n : ℕ) → refusing n [] ≡ at q v → ⊥
      no_at n h = let z : ◌≡◌ {A = ℕ} 0 1 = cc in omega arith

      go : (a b c : Bool) → leb (rec_at s r).floor p ≡ c
          → (unless s (needs a 5 (needs b 6 (needs c 7 pass))) (replies s (at newest.point newest.value))).reply
          ≡ at q v
          → ((rec_at s r).floor ≤ p) × (newest.point ≡ q) × (newest.value ≡ v)
      go true true true h e = (leb-true (rec_at s r).floor p h, cc, cc)
      go true true false h e = absurd (no_at 7 e)
      go true false c h e = absurd (no_at 6 e)
      go false b c h e = absurd (no_at 5 e)

-- a View that was granted is a view of the core, of what was heard of the calls that left the store
module _ (l : History Val) (s : Store) (good : Good s) (r p : ℕ) where
  pub record Seen (q : ℕ) (v : Value) : Type 0 where
    pub value : Option Val
    pub shown : v ≡ shown_value value
    pub views : Views (by_edit l (slots s)) r p q value

  pub seen : (q : ℕ) (v : Value) → (viewing r p s).reply ≡ at q v → Seen q v
  seen q v e = go (granted_view s r p q v e) (newest_at_is (rec_at s r) p ((good_facts good).recs r).falls)
    where
      go : ((rec_at s r).floor ≤ p) × ((newest s r p).point ≡ q) × ((newest s r p).value ≡ v)
          → NewestIs (rec_at s r).versions (suc p) (newest s r p)
          → Seen q v
      go (f, a, b) (none z g) =
          record {
            value = none;
            shown = sym b ∙ ap (λ (w : Version). w.value) z;
            views =
                record {
                  granted = f;
                  newest = (
                    sym a ∙ ap (λ (w : Version). w.point) z,
                    λ i w h. omega (arith, g h.version h.member, h.stands),
                  );
                };
          }
      go (f, a, b) (one m h g) =
          let y = good.valued r (newest s r p) m in
          record {
            value = some y.0;
            shown = sym b ∙ y.1;
            views =
                record {
                  granted = f;
                  newest = (
                    record { version = newest s r p; member = m; stands = a; value = y.1 },
                    omega (arith, a),
                    λ i w k low. omega (arith, a, k.stands, g k.version k.member (omega (arith, k.stands))),
                  );
                };
          }
