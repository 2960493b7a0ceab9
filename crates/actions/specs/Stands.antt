-- How the lent slices and a running record stand for a state of a run. Assumes nothing.
use Rattle.std.specs.Prelude.{◌≡◌, List, ℕ, ◌+◌, ◌-◌, ◌<◌}
use Rattle.rules.specs.Limits.{max_records}
use Rattle.rules.specs.Run.{State}
use Rattle.actions.specs.declared.memory.Memory.{Memory}
use Rattle.actions.specs.declared.control.Running.{Running}
use Rattle.actions.specs.declared.control.Stepped.{Stepped}
use Rattle.actions.specs.Guards.{Holds}
use Rattle.table.specs.Cells.{cells}
use Rattle.table.specs.Since.{number}
use Rattle.actions.specs.Shows.{Slices, Shows}
use Rattle.actions.specs.Marks.{count_at, Marked}

-- the slices x, the marks k and the running record r stand for the state s, but for its steps: the record counts those that are left
pub record Stands (places vars : ℕ) (x : Slices) (k : List ℕ) (r : Running) (s : State) : Type 0 where
  pub memory : Shows places vars x r.memory s.memory
  pub guards : Holds r.guards s.blocks
  pub marks : Marked (cells x.words) places r.memory.used r.memory.free s.memory.tree k (number k count_at) s.blocks
  pub at : s.at ≡ r.at

-- one more record can be counted, and a step is left
pub record Timely (r : Running) : Type 0 where
  pub near : r.at < max_records
  pub more : 0 < r.left

-- what stands for the script's end where the number of a stop would stand
abbrev pub ended : ℕ
ended = 255

-- an answer by its parts
abbrev pub stepped : ℕ → Running → Stepped
stepped k r = record { stop = k; running = r }

-- the running record with another memory
abbrev pub with_memory : Running → Memory → Running
with_memory r m = record { memory = m; guards = r.guards; at = r.at; left = r.left }

-- one record and one step on, with a memory
abbrev pub went : Running → Memory → Stepped
went r m = stepped 0 (record { memory = m; guards = r.guards; at = r.at + 1; left = r.left - 1 })
