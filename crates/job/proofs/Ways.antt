-- Where the nodes before node i are in order, all records between one on the way up from the record before and node i stand below it; so on this way right below the parent
-- stands the nearest earlier record with the same parent. Assumes nothing.
use mathlib.Core.Path.{◌≡◌, ap, ◌∙◌}
use mathlib.Core.Bool.{true}
use Rattle.std.specs.Prelude.{None, Some}
use mathlib.Core.List.{List}
use Prim.Native.Nat.{ℕ, zero, suc, ◌+◌, ◌-◌, ◌≤◌, ◌<◌}
use native.Mathlib.Omega.{arith}
use native.Mathlib.Decide.{ℕ_discrete}
use borrow.Author.Tests.{ne_eqb}
use Rattle.rules.specs.Check.{parent, parent_rule, nearest, order_rule}
use Rattle.rules.proofs.Accepted.{parent_before}
use Rattle.rules.proofs.Ordered.{Up, here, above, up_up, up_path, path_is_up}
use Rattle.fields.specs.Siblings.{Rooted}
use Rattle.job.specs.Hanging.{Ordered, Fit, AllFit}
use Rattle.fields.proofs.Siblings.{none_before, near_here, near_past}

module _ (b : List ℕ) (base : ℕ) where
  -- a is record j or an ancestor of it
  pub record On (j a : ℕ) : Type 0 where
    pub way : Up (parent b base) j a

  pub on_start : (j : ℕ) → On j j
  on_start j = record { way = here }

  pub on_up : {j a : ℕ} → (a ≡ 0 → ⊥) → On j a → On j (parent b base a)
  on_up n o = record { way = up_up o.way (above n here) }

  -- on a way up stand earlier records only
  up_low : (m : ℕ) → ((k : ℕ) → k < m → parent_rule b base k ≡ true) → {j a : ℕ} → Up (parent b base) j a → j < m → a ≤ j
  up_low m parents here h = omega arith
  up_low m parents {j} (above n u) h =
      let l = parent_before b base j n (parents j h) in let r = up_low m parents u (omega arith) in omega arith

  in_order : (k : ℕ) → (k ≡ 0 → ⊥) → order_rule b base k ≡ true → Up (parent b base) (k - 1) (parent b base k)
  unfolding order_rule
  in_order k n h = path_is_up b base (parent b base k) k (k - 1) (rw (ne_eqb k 0 n) at h)

  -- between a record on the way up and node i
  between : (i : ℕ) → ((k : ℕ) → k < i → parent_rule b base k ≡ true) → ((k : ℕ) → k < i → order_rule b base k ≡ true)
      → {j w : ℕ} → suc j ≡ i → Up (parent b base) j w → (k : ℕ) → w < k → k < i → w ≤ parent b base k
  between zero parents orders e u k h l = absurd (omega arith)
  between (suc i) parents orders {j} {w} e here k h l = absurd (omega arith)
  between (suc i) parents orders {j} {w} e (above n u) k h l =
      by (ℕ_discrete k j)
      (λ q. between i (λ m g. parents m (omega arith)) (λ m g. orders m (omega arith)) {j = j - 1} {w = w} (omega arith)
      (up_up (in_order j n (orders j (omega arith))) u) k h (omega arith))
    where
      low : parent b base j < j
      low = parent_before b base j n (parents j (omega arith))

      by : Dec (k ≡ j) → ((k ≡ j → ⊥) → w ≤ parent b base k) → w ≤ parent b base k
      by (yes q) r = rw q (up_low (suc i) parents u (let z = low in omega arith))
      by (no q) r = r q

  -- a search back that passes only records with other parents
  back_to : (w p d : ℕ) → parent b base w ≡ p → ((k : ℕ) → w < k → k < suc w + d → parent b base k ≡ p → ⊥) → nearest b base p (suc w + d) ≡ Some w
  back_to w p zero e h = ap (nearest b base p) {x = suc w + 0} {y = suc w} (omega arith) ∙ near_here b base p w e
  back_to w p (suc d) e h =
      ap (nearest b base p) {x = suc w + suc d} {y = suc (suc w + d)} (omega arith)
      ∙ near_past b base p (suc w + d) (h (suc w + d) (omega arith) (omega arith)) ∙ back_to w p d e (λ k l m. h k l (omega arith))

-- node i, where those before it are in order
module _ (b : List ℕ) (base i : ℕ) (n : i ≡ 0 → ⊥) (r : Rooted b base i) (f : Ordered b base i) where
  before : (k : ℕ) → k < i → parent_rule b base k ≡ true
  before k l = r.parents k (omega arith)

  -- it is in order where its parent is on the way up
  pub on_order : On b base (i - 1) (parent b base i) → order_rule b base i ≡ true
  unfolding order_rule
  on_order w = rw (ne_eqb i 0 n) (up_path b base i before w.way i (omega arith) (omega arith))

  -- right below that stands its left sibling
  pub on_left : (k : ℕ) → On b base (i - 1) k → parent b base k ≡ parent b base i → parent b base i < k → k < i → nearest b base (parent b base i) i ≡ Some k
  on_left k w e l m =
      ap (nearest b base (parent b base i)) {x = i} {y = suc k + (i - suc k)} (omega arith)
      ∙ back_to b base k (parent b base i) (i - suc k) e
      (λ x g h q. let z = between b base i before f.each (omega arith) w.way x g (omega arith) in omega arith)

  -- the first child of the record before it has none
  pub on_first : suc (parent b base i) ≡ i → nearest b base (parent b base i) i ≡ None
  on_first e = none_before b base (parent b base i) (omega (arith, r.few)) i (omega arith) before

pub fit_next : (top : ℕ) (b : List ℕ) (base i : ℕ) → AllFit top b base i → Fit top b base i → AllFit top b base (suc i)
fit_next top b base i f g = record { each = λ k l. pick k l (ℕ_discrete k i) }
  where
    pick : (k : ℕ) → k < suc i → Dec (k ≡ i) → Fit top b base k
    pick k l (yes e) = rw e g
    pick k l (no e) = f.each k (omega arith)
