-- What the functions over lent node records promise. Assumes nothing.
use Rattle.std.specs.Prelude.{◌≡◌, Bool, true, List, ℕ, ◌<◌, ◌≤◌, min, length, get_or}
use Rattle.std.specs.Int.{w32}
use Rattle.std.proofs.Common.{SFits}
use Rattle.rules.specs.Limits.{max_nodes}
use Rattle.rules.specs.Tree.{Forest}
use Rattle.lent.specs.declared.node.Node.{Node}
use Rattle.table.specs.Cells.{gone}
use Rattle.lent.specs.Lent.{blank, nodes_table, loaded}
use Rattle.lent.specs.Stands.{Stands, Decided, Marked}

-- a tree stands in the records, in all that a link can lead to
abbrev pub StandsIn : List Node → Forest → Type 0
StandsIn table t = Stands (nodes_table table) (min (length table) gone) t

-- the words after the first n records were copied into them; each has a value of 32 bits
pub record Loads (table : List Node) (n : ℕ) (w w' : List ℕ) : Type 0 where
  pub words : w' ≡ loaded table n w
  pub fit : (x : ℕ) → x < n → SFits w32 (get_or table x blank).value

-- no place has a mark
pub record Unmarked (marks : List ℕ) : Type 0 where
  pub long : max_nodes ≤ length marks
  pub none : (x : ℕ) → x < max_nodes → get_or marks x 0 ≡ 0

-- r tells whether a tree stands in the records, and the marks at which places
pub record Surveys (table : List Node) (marks : List ℕ) (r : Bool) : Type 0 where
  pub decided : Decided (nodes_table table) (min (length table) gone) r
  pub marked : r ≡ true → Marked (nodes_table table) (min (length table) gone) marks
