-- A table that agrees with another on the places of a forest, or of the stack of free places, stores it too. Assumes nothing.
use mathlib.Core.Path.{◌≡◌, ap, ◌∙◌}
use Prim.Native.Nat.{ℕ, ◌<◌, ◌≤◌}
use native.Mathlib.Omega.{arith}
use Rattle.table.specs.Cells.{Table, gone}
use Rattle.table.specs.Holds.{Placed, empty, node, Stored, Spare, end, more, Linked, Free, times, spare_times}
use Rattle.table.specs.Steps.{orphan}
use Rattle.table.proofs.Counting.{hit_same}

module _ (m m' : Table) {b b' : ℕ} (le : b ≤ b') where
  pub stored : (u v : ℕ) (f : Placed) → ((y : ℕ) → 0 < times y f → m' y ≡ m y) → Stored m b u v f → Stored m' b' u v f
  stored u v empty ag h = tt
  stored u v (node x l c r) ag h = (
    omega arith,
    ag x (omega (arith, hit_same x)) ∙ h.1,
    stored x gone c (λ y q. ag y (omega arith)) h.2,
    stored u x r (λ y q. ag y (omega arith)) h.3,
    h.4,
  )

  -- of a removed forest the parent words do not count
  pub linked_by : (f : Placed) → ((y : ℕ) → 0 < times y f → orphan (m' y) ≡ orphan (m y)) → Linked m b f → Linked m' b' f
  linked_by empty ag h = tt
  linked_by (node x l c r) ag h =
      let e = ag x (omega (arith, hit_same x)) in (
        omega arith,
        ap (λ a. a.first) e ∙ h.1,
        ap (λ a. a.right) e ∙ h.2,
        linked_by c (λ y q. ag y (omega arith)) h.3,
        linked_by r (λ y q. ag y (omega arith)) h.4,
      )

  pub linked : (f : Placed) → ((y : ℕ) → 0 < times y f → m' y ≡ m y) → Linked m b f → Linked m' b' f
  linked f ag h = linked_by f (λ y q. ap orphan (ag y q)) h

  pub freed : (s : Spare) → ((y : ℕ) → 0 < spare_times y s → m' y ≡ m y) → Free m b s → Free m' b' s
  freed end ag h = tt
  freed (more x c r s) ag h =
      let e = ag x (omega (arith, hit_same x)) in (
        omega arith,
        ap (λ a. a.first) e ∙ h.1,
        ap (λ a. a.right) e ∙ h.2,
        ap (λ a. a.parent) e ∙ h.3,
        linked c (λ y q. ag y (omega arith)) h.4,
        linked r (λ y q. ag y (omega arith)) h.5,
        freed s (λ y q. ag y (omega arith)) h.6,
      )

-- a stored forest is linked
pub still_linked : (m : Table) (b u v : ℕ) (f : Placed) → Stored m b u v f → Linked m b f
still_linked m b u v empty h = tt
still_linked m b u v (node x l c r) h =
    (h.0, ap (λ a. a.first) h.1, ap (λ a. a.right) h.1, still_linked m b x gone c h.2, still_linked m b u x r h.3)
