-- What the run over lent node records promises, beside what every run promises (`Promises` of crate monitor). Assumes nothing.
use Rattle.std.specs.Prelude.{List, ℕ}
use Rattle.rules.specs.Tree.{Forest, Place}
use Rattle.lent.specs.declared.node.Node.{Node}
use Rattle.table.specs.Holds.{Holds}
use Rattle.lent.specs.Lent.{nodes_table}
use Rattle.monitor.specs.declared.entry.Outcome.{Outcome}
use Rattle.monitor.specs.declared.entry.Outcome.TheVariants.{Refused, Finished, Stopped}

-- The records, one to a place, hold a tree with the cursor at a place of it. Two things are left open: in which place each node stands, which is one
-- where no live node stood when the node came (`Holds` has every used place once), and what the records of free places say.
pub record Tree (table : List Node) (places : ℕ) (t : Forest) (p : Place) : Type 0 where
  pub used : ℕ
  pub free : ℕ
  pub at : ℕ
  pub holds : Holds (nodes_table table) places used free at t p

-- how many of n records a run fills: none where the job was turned back
unfoldable pub kept_of : Outcome → ℕ → ℕ
kept_of (Refused k i) n = 0
kept_of (Finished s l) n = n
kept_of (Stopped k i s l) n = n
