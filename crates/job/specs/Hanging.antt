-- What the one pass over the nodes goes by. Assumes nothing.
use Rattle.std.specs.Prelude.{◌≡◌, true, List, ℕ, ◌<◌, Option, MatchOption, ⊤}
use Rattle.rules.specs.Check.{order_rule, node_clean}
use Rattle.fields.specs.Fits.{node_in}
use Rattle.fields.specs.Siblings.{beside}

-- what is known of node i, by its left sibling or its parent; of one that is out of order nothing
abbrev pub Hangs : List ℕ → ℕ → ℕ → Option ℕ → Type 0
Hangs b base i o = MatchOption o ⊤ (λ k. (order_rule b base i ≡ true) × (k ≡ beside b base i))

-- the first n nodes are in order
pub record Ordered (b : List ℕ) (base n : ℕ) : Type 0 where
  pub each : (i : ℕ) → i < n → order_rule b base i ≡ true

-- node i passes the checks 13, 6 and 12, where top is the highest level
pub record Fit (top : ℕ) (b : List ℕ) (base i : ℕ) : Type 0 where
  pub order : order_rule b base i ≡ true
  pub node : node_in top b base i ≡ true
  pub clean : node_clean b base i ≡ true

-- the first n nodes do
pub record AllFit (top : ℕ) (b : List ℕ) (base n : ℕ) : Type 0 where
  pub each : (i : ℕ) → i < n → Fit top b base i
