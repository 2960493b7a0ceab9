-- What check 6 goes by: the node itself, the nodes before it and the last child of each, and its left sibling. Assumes nothing.
use Rattle.std.specs.Prelude.{◌≡◌, Bool, true, ◌&&◌, cond, List, ℕ, zero, suc, ◌+◌, ◌≤◌, ◌<◌, eqb, ltb, length, get_or, Option, None, Some}
use Rattle.std.specs.Option.{unwrap_or}
use Rattle.rules.specs.Limits.{max_nodes, node_size}
use Rattle.rules.specs.Level.{public, not_above}
use Rattle.rules.specs.Bytes.{node_place}
use Rattle.rules.specs.Check.{parent, existence, parent_rule, nearest}
use Rattle.fields.specs.Fits.{label_in}

-- n nodes lie within the bytes, and their parents are right
pub record Linked (b : List ℕ) (base n : ℕ) : Type 0 where
  pub inside : node_place base n ≤ length b
  pub few : n ≤ max_nodes
  pub parents : (k : ℕ) → k < n → parent_rule b base k ≡ true

-- node i lies within the bytes, and the parents are right as far as there
pub record Rooted (b : List ℕ) (base i : ℕ) : Type 0 where
  pub inside : node_place base i + node_size ≤ length b
  pub few : i < max_nodes
  pub parents : (k : ℕ) → k ≤ i → parent_rule b base k ≡ true

-- a child by its record; 0, which is the root's, stands for none
unfoldable pub child : ℕ → Option ℕ
child zero = None
child (suc k) = Some (suc k)

-- the list has for each node the last of its children among the first i nodes
pub record Lasts (b : List ℕ) (base i : ℕ) (xs : List ℕ) : Type 0 where
  pub size : length xs ≡ max_nodes
  pub each : (p : ℕ) → p < max_nodes → nearest b base p i ≡ child (get_or xs p 0)

-- where the search for a child of p starts, by the last one: behind it, or behind p where there is none
unfoldable pub behind : ℕ → ℕ → ℕ
behind last p = cond (ltb last p) (suc p) (suc last)

-- what check 6 asks of node i alone, where top is the highest level
unfoldable pub own_rule : ℕ → List ℕ → ℕ → ℕ → Bool
own_rule top b base i = label_in top b base i && cond (eqb i 0) (not_above (existence b base i) public) true

-- the left sibling of node i
abbrev pub left : List ℕ → ℕ → ℕ → Option ℕ
left b base i = nearest b base (parent b base i) i

-- the left sibling of node i, or its parent where it has none
unfoldable pub beside : List ℕ → ℕ → ℕ → ℕ
beside b base i = unwrap_or (left b base i) (parent b base i)
