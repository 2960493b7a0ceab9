-- R-8: "After the load and after every command each live node's count equals the number of its live children in the tree, and children answers from it."
-- Assumes nothing.
use Rattle.std.specs.Prelude.{◌≡◌, true, List, ℕ, ◌<◌, ◌≤◌, pos}
use Rattle.rules.specs.Limits.{max_nodes, bad_follow_on}
use Rattle.rules.specs.Tree.{Forest, Place}
use Rattle.rules.specs.Script.{Operand}
use Rattle.rules.specs.Check.{parent_rule}
use Rattle.rules.specs.Job.{tree_of}
use Rattle.rules.specs.Run as Run
use Rattle.rules.specs.Run.{Buffers, Ended, operand_value}
use Rattle.rules.specs.Outcome as Rules
use Rattle.rules.specs.Outcome.{run_job}
use Rattle.rules.specs.History.{Store, after}
use Rattle.table.specs.Cells.{Table, cells}
use Rattle.table.specs.Promises.{Loaded}
use Rattle.lent.specs.Children.{Counts, WrongCount}
use Rattle.actions.specs.declared.memory.Memory.{Memory}
use Rattle.actions.specs.declared.control.Running.{Running}
use Rattle.actions.specs.Shows.{Slices, Shows}
use Rattle.monitor.specs.declared.entry.Outcome.{Outcome}
use Rattle.monitor.specs.declared.entry.Outcome.TheVariants.{Refused}
use Rattle.interpreter.specs.Steps.{Held, Comes}
use Rattle.monitor.specs.Promises.{Lent, lent_by, Promises}
use Rattle.monitor.specs.Follow.{HoldsStore, follow_on, Follows}

-- inside a run
pub record CountsInside : Type 0 where
  -- "After the load": of n node records
  pub load : (b : List ℕ) (base n : ℕ) (m : Table) → ((i : ℕ) → i < n → parent_rule b base i ≡ true) → n ≤ max_nodes → Loaded b base n m
      → Counts m (tree_of b base n)
  -- "and after every command": in every state that a run comes to
  pub on_the_way : (h : Held) (lent : Buffers) (total : ℕ) (e : Ended) (x : Slices) (k : List ℕ) (r : Running) (c : Comes h lent total e x k r)
      → Counts (cells x.words) c.s.memory.tree
  -- "children answers from it": from the record at the cursor
  pub answers : (places vars : ℕ) (x : Slices) (m : Memory) (μ : Run.Memory) → Shows places vars x m μ
      → operand_value μ Operand.children ≡ pos (cells x.words m.cursor).children

-- of calls, with node tables of any kind, whose cells are `spelt`
module _ {T : Type 0} (places : T → ℕ) (HoldsTree : T → ℕ → Forest → Place → Type 0) (StandsIn : T → Forest → Type 0) (spelt : T → Table) where
  pub record CountsKept : Type 0 where
    -- what a run over a job leaves; its budgets 1, 2, 3, .. fix what stands after each command
    pub jobs : (b : List ℕ) (budget : ℕ) (x x' : Lent T) (r : Outcome) (e : Ended) → Promises places HoldsTree b budget x x' r
        → run_job b budget (lent_by places x) ≡ Rules.ran e → Counts (spelt x'.table) e.last.memory.tree
    -- every tree that stands
    pub standing : (x : Lent T) (s : Store) → HoldsStore StandsIn x s → Counts (spelt x.table) s.tree
    -- what a follow-on script leaves
    pub scripts : (b : List ℕ) (budget : ℕ) (x x' : Lent T) (r : Outcome) (s : Store) → Follows places HoldsTree StandsIn b budget x x' r
        → HoldsStore StandsIn x s → Counts (spelt x'.table) (after s (follow_on places b budget x)).tree
    -- "A lent table in which a live node's count is wrong is turned away with 11.", and nothing has changed
    pub wrong : (b : List ℕ) (budget : ℕ) (x x' : Lent T) (r : Outcome) → Follows places HoldsTree StandsIn b budget x x' r
        → WrongCount (spelt x.table) → (r ≡ Refused bad_follow_on 0) × (x' ≡ x)
