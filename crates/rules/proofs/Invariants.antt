-- What holds after every step of every run over job bytes: the last state of a run is valid, whatever its budget, and the budgets 1, 2, 3, ..
-- fix each state on the way. Assumes nothing.
use mathlib.Core.Path.{◌≡◌, ◌∙◌}
use Prim.Native.Nat.{ℕ}
use mathlib.Core.List.{List}
use lib.ListN.{length}
use Rattle.rules.specs.Tree.{TreeRules}
use Rattle.rules.specs.Script.{Command, number_at}
use Rattle.rules.specs.Blocks.{parts}
use Rattle.rules.specs.Check.{accepted, check_bytes}
use Rattle.rules.specs.Job.{script}
use Rattle.rules.specs.Run.{State, Buffers, run}
use Rattle.rules.specs.Outcome.{begin}
use Rattle.rules.proofs.Nests.{nest_depth}
use Rattle.rules.proofs.Runs.{run_keeps}
use Rattle.rules.proofs.Control.{Closed, Valid, step_valid}
use Rattle.rules.proofs.Noninterference.{loads, begin_valid}

module _ (lent : Buffers) (cs : List Command) (closed : Closed cs) where
  pub run_valid : (n : ℕ) (s : State) → Valid cs s → Valid cs (run lent cs n s).last
  run_valid = run_keeps lent cs (Valid cs) (λ s e h. step_valid lent cs closed s h e)

-- the state of an accepted job's run after at most n steps
module _ (lent : Buffers) (b : List ℕ) (ok : check_bytes b ≡ accepted) (n : ℕ) where
  abbrev reached : State
  reached = (run lent (script b) n (begin b)).last

  pub reached_valid : Valid (script b) reached
  reached_valid = let l = loads b ok in run_valid lent (script b) l.script n (begin b) (begin_valid b l)

  -- "Every tree, at start and after each step" keeps the tree rules
  pub tree_kept : TreeRules reached.memory.tree
  tree_kept = reached_valid.memory.rules

  -- the block stack is as deep as the script's nesting at the record that comes next
  pub stack_nested : length reached.blocks ≡ length (parts (number_at (script b)) reached.at)
  stack_nested =
      reached_valid.depth ∙ nest_depth (number_at (script b)) (length (script b)) (loads b ok).script.blocks reached.at reached_valid.within
