-- What a run from the root promises, over a table and variables that stand already. Assumes nothing.
use Rattle.std.specs.Prelude.{◌≡◌, List, [], ℕ, ◌*◌, ◌<◌, ◌≤◌, length}
use Rattle.rules.specs.Limits.{max_nodes, max_records, max_budget}
use Rattle.rules.specs.Tree.{Forest, root}
use Rattle.rules.specs.Job.{Variable}
use Rattle.rules.specs.Run.{Buffers, start, run}
use Rattle.rules.specs.Outcome as Rules
use Rattle.rules.proofs.Control.{Valid}
use Rattle.table.specs.Cells.{cell_size, cells}
use Rattle.table.specs.Holds.{Holds}
use Rattle.table.specs.Promises.{Behind}
use Rattle.actions.specs.declared.guards.Guards.{Guards}
use Rattle.actions.specs.declared.control.Running.{Running}
use Rattle.actions.specs.Guards.{Holds as Guarded}
use Rattle.actions.specs.Shows.{Slices, Variables}
use Rattle.monitor.specs.declared.entry.Outcome.{Outcome}
use Rattle.interpreter.specs.Steps.{Held, script_in, Script, Lent}
use Rattle.monitor.specs.Promises.{told, Tree, Ran}
use Rattle.monitor.specs.Starting.{as_lent}

-- the record that a run starts from
abbrev pub root_of : ℕ → ℕ → ℕ → Guards → Running
root_of used free budget g =
    record { memory = record { cursor = 0; level = 0; lines = 0; free = free; used = used }; guards = g; at = 0; left = budget }

-- it has no open block
pub record AtRoot (used free budget : ℕ) (r : Running) : Type 0 where
  pub is : r ≡ root_of used free budget r.guards
  pub blockless : Guarded r.guards []

-- a script with its plan, a budget, and slices that are long enough
pub record Rooted (h : Held) (x : Slices) (budget : ℕ) : Type 0 where
  pub short : h.records ≤ max_records
  pub script : h.records < length h.plan → Script h
  pub spend : budget ≤ max_budget
  pub words : cell_size * h.places ≤ length x.words
  pub some : 0 < h.places
  pub few : h.places ≤ max_nodes
  pub levelled : h.vars ≤ length x.levels
  pub valued : h.vars ≤ length x.values

-- Its outcome and what it leaves are those of the rules' run from the root of the tree that the words hold, of which `used` places were used and
-- `free` leads to the free ones. What is behind the places stays.
pub record FromRoot (h : Held) (used free budget : ℕ) (x x' : Slices) (r : Outcome) : Type 0 where
  pub behind : Behind h.places (cells x.words) (cells x'.words)
  pub outcome : (given : Buffers) (vs : List Variable) (t : Forest) → Lent h x given → Valid (script_in h) (start vs t)
      → Variables x.levels x.values h.vars vs → Holds (cells x.words) h.places used free 0 t root
      → r ≡ told (Rules.ran (run given (script_in h) budget (start vs t)))
  pub leaves : (given : Buffers) (vs : List Variable) (t : Forest) → Lent h x given → Valid (script_in h) (start vs t)
      → Variables x.levels x.values h.vars vs → Holds (cells x.words) h.places used free 0 t root
      → Ran Tree h.vars h.places (as_lent x) (as_lent x') (run given (script_in h) budget (start vs t))
