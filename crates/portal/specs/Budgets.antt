-- R-14 in what C sees of two calls with the same job and area, under two budgets. Assumes nothing.
use Rattle.std.specs.Prelude.{◌≡◌, ℕ, ◌*◌, take}
use mathlib.Core.List.{List, IsPrefix}
use Rattle.rules.specs.Run.{spent, stop_number}
use Rattle.rules.specs.Budget.{Raised}
use Rattle.portal.specs.Portal.{Handed, portal}
use Rattle.portal.specs.Secrecy.{ending_in, count_in}

-- the bytes of all lines
unfoldable pub all_lines : Handed → List ℕ
all_lines h = take (5 * count_in h) h.area

-- "an ending other than 25 under the smaller is the same under the larger", and so is the area; "After a 25, the lines are a beginning of those under the larger budget"
pub record ProlongedPortal (h k : Handed) : Type 0 where
  pub same : (ending_in h ≡ stop_number spent → ⊥) → h ≡ k
  pub lines : IsPrefix (all_lines h) (all_lines k)

-- two calls that keep the contract, "With the same job and buffers and two budgets from 1 to 1,000,000"
unfoldable pub PortalBudgets : Type 0
PortalBudgets =
    (b : List ℕ) (n m : ℕ) (area : List ℕ) (h k : Handed) → h ≡ portal b n area → k ≡ portal b m area → Raised n m → ProlongedPortal h k
