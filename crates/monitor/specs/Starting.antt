-- What the functions under the run over a job's bytes promise: loading the variables, the checks 9 and 10, an accepted job's run. Assumes nothing.
use Rattle.std.specs.Prelude.{◌≡◌, Bool, cond, ◌&&◌, ℕ, ◌-◌, ◌*◌, ◌<◌, ◌≤◌, List, length, get_or, ℤ, pos, eqb, leb, Result}
use Rattle.rules.specs.Limits.{max_nodes, max_budget, variable_size}
use Rattle.rules.specs.Bytes.{variable_place, variable_count, node_count, script_at, record_count}
use Rattle.rules.specs.Check as Check
use Rattle.rules.specs.Check.{check_bytes, code}
use Rattle.rules.specs.Job.{variable_of, variables, job_tree, script}
use Rattle.rules.specs.Tree.{root}
use Rattle.rules.specs.Run.{Buffers, run}
use Rattle.rules.specs.Outcome as Rules
use Rattle.rules.specs.Outcome.{check_job, begin}
use Rattle.fields.specs.declared.sections.Layout.{Layout}
use Rattle.job.specs.declared.checks.Refusal.{Refusal}
use Rattle.fields.specs.Layout.{layout_of}
use Rattle.job.specs.Plan.{Whole}
use Rattle.job.specs.Answer.{answer}
use Rattle.table.specs.Cells.{cell_size, cells, gone}
use Rattle.table.specs.Holds.{Holds}
use Rattle.table.specs.Promises.{Behind}
use Rattle.actions.specs.declared.control.Stepped.{Stepped}
use Rattle.interpreter.specs.declared.step.Frame.{Frame}
use Rattle.monitor.specs.declared.entry.Outcome.{Outcome}
use Rattle.monitor.specs.declared.entry.Outcome.TheVariants.{Finished, Stopped}
use Rattle.actions.specs.Board.{capacity}
use Rattle.actions.specs.Shows.{Slices, Variables}
use Rattle.actions.specs.Stands.{ended}
use Rattle.interpreter.specs.Steps.{Planned}
use Rattle.monitor.specs.Promises.{told, Lent, lent, Tree, Ran}

-- the outcome of a run with a budget that has ended
unfoldable pub outcome_of : ℕ → Stepped → Outcome
outcome_of budget a =
    cond (eqb a.stop ended) (Finished (budget - a.running.left) a.running.memory.lines)
    (Stopped a.stop a.running.at (budget - a.running.left) a.running.memory.lines)

-- the variables' records lie in the bytes, and there is room for them
pub record Loading (b levels : List ℕ) (values : List ℤ) (n : ℕ) : Type 0 where
  pub inside : variable_size * n ≤ length b
  pub levelled : n ≤ length levels
  pub valued : n ≤ length values

-- n variables were loaded, and what is beyond them stays
pub record VariablesLoaded (b : List ℕ) (n : ℕ) (levels levels' : List ℕ) (values values' : List ℤ) : Type 0 where
  pub level : (i : ℕ) → i < n → get_or levels' i 0 ≡ (variable_of b (variable_place i)).level
  pub value : (i : ℕ) → i < n → get_or values' i (pos 0) ≡ (variable_of b (variable_place i)).value
  pub spare_levels : (i : ℕ) → n ≤ i → get_or levels' i 0 ≡ get_or levels i 0
  pub spare_values : (i : ℕ) → n ≤ i → get_or values' i (pos 0) ≡ get_or values i (pos 0)

-- the frame of a layout, with a table of some places
abbrev pub frame_of : Layout → ℕ → Frame
frame_of l places = record { script = l.script; records = l.records; vars = l.variables; places = places }

-- an accepted job with its layout, and slices with room for its variables and nodes
pub record Room (b : List ℕ) (l : Layout) (words levels : List ℕ) (values : List ℤ) : Type 0 where
  pub accepted : check_bytes b ≡ Check.accepted
  pub layout : l ≡ layout_of b
  pub tabled : cell_size * l.nodes ≤ length words
  pub levelled : l.variables ≤ length levels
  pub valued : l.variables ≤ length values

-- a job's variables and tree were loaded, the tree into any number of places, and what is beyond them stays
pub record JobLoaded (b words words' levels levels' : List ℕ) (values values' : List ℤ) : Type 0 where
  pub variables : Variables levels' values' (variable_count b) (variables b)
  pub spare_levels : (i : ℕ) → variable_count b ≤ i → get_or levels' i 0 ≡ get_or levels i 0
  pub spare_values : (i : ℕ) → variable_count b ≤ i → get_or values' i (pos 0) ≡ get_or values i (pos 0)
  pub tree : (places : ℕ) → node_count b ≤ places → places ≤ max_nodes → Holds (cells words') places (node_count b) gone 0 (job_tree b) root
  pub behind : Behind (node_count b) (cells words) (cells words')

-- check 10 by numbers: nodes and variables of a job, places and room for variables of the buffers
unfoldable pub buffer_test : ℕ → ℕ → ℕ → ℕ → Bool
buffer_test nodes variables places room = leb 1 places && leb places max_nodes && leb nodes places && leb variables room

-- the checks 1 to 10, with so many places and room for so many variables, and the plan of a script
pub record AdmitsJob (b : List ℕ) (budget places room : ℕ) (p p' : List ℕ) (r : Result Layout Refusal) : Type 0 where
  pub answered : (given : Buffers) → given.places ≡ places → given.variables ≡ room → r ≡ answer (layout_of b) (check_job b budget given)
  pub whole : check_bytes b ≡ Check.accepted → Whole (code b (script_at b)) (record_count b) p p'

-- an accepted job with its layout and plan, a budget, and buffers that are large enough
pub record Begun (b : List ℕ) (l : Layout) (plan : List ℕ) (budget : ℕ) (x : Slices) (places : ℕ) : Type 0 where
  pub accepted : check_bytes b ≡ Check.accepted
  pub layout : l ≡ layout_of b
  pub planned : Planned b (script_at b) (record_count b) plan
  pub spend : budget ≤ max_budget
  pub words : cell_size * places ≤ length x.words
  pub few : places ≤ max_nodes
  pub nodes : l.nodes ≤ places
  pub levelled : l.variables ≤ length x.levels
  pub valued : l.variables ≤ length x.values

-- the slices as what a caller lends
abbrev pub as_lent : Slices → Lent (List ℕ)
as_lent x = lent x.words x.levels x.values x.board

-- what is left of such a job's run
pub record Left (b : List ℕ) (budget places : ℕ) (x x' : Slices) (r : Outcome) : Type 0 where
  pub outcome : (given : Buffers) → given.places ≡ places → given.lines ≡ capacity x.board
      → r ≡ told (Rules.ran (run given (script b) budget (begin b)))
  pub behind : Behind places (cells x.words) (cells x'.words)
  pub leaves : (given : Buffers) → given.places ≡ places → given.lines ≡ capacity x.board
      → Ran Tree (variable_count b) places (as_lent x) (as_lent x') (run given (script b) budget (begin b))
