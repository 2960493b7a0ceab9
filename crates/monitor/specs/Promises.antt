-- What the run over a job's bytes promises, for every job, budget and buffer. Assumes nothing.
use Rattle.std.specs.Prelude.{◌≡◌, ℕ, ◌*◌, ◌/◌, ◌≤◌, min, cond, leb, List, length, get_or, ℤ, pos}
use Rattle.rules.specs.Limits.{max_nodes, max_variables}
use Rattle.rules.specs.Tree.{Forest, Place}
use Rattle.rules.specs.Bytes.{variable_count}
use Rattle.rules.specs.Run.{Buffers, Ending, finished, stopped, stop_number, Ended}
use Rattle.rules.specs.Outcome as Rules
use Rattle.rules.specs.Outcome.{Answer, answer, run_job, board_lines}
use Rattle.table.specs.Cells.{cell_size, cells}
use Rattle.table.specs.Holds.{Holds}
use Rattle.monitor.specs.declared.entry.Outcome.{Outcome}
use Rattle.monitor.specs.declared.entry.Outcome.TheVariants.{Refused, Finished, Stopped}
use Rattle.actions.specs.Board.{capacity, written}
use Rattle.actions.specs.Shows.{Variables}

-- the paper's answer of each outcome: ending, record index, steps, line count
unfoldable pub answer_of : Outcome → Answer
answer_of (Refused k i) = record { ending = k; index = i; steps = 0; lines = 0 }
answer_of (Finished s n) = record { ending = 0; index = 0; steps = s; lines = n }
answer_of (Stopped k i s n) = record { ending = k; index = i; steps = s; lines = n }

-- the outcome that says what the rules' outcome is
unfoldable pub told_by : Ending → Ended → Outcome
told_by finished e = Finished e.last.steps (length e.last.memory.lines)
told_by (stopped k) e = Stopped (stop_number k) e.last.at e.last.steps (length e.last.memory.lines)

unfoldable pub told : Rules.Outcome → Outcome
told (Rules.rejected k i) = Refused k i
told (Rules.ran e) = told_by e.ending e

-- what a caller lends: a node table, the variables' levels and values, a byte area for lines
pub record Lent (T : Type 0) : Type 0 where
  pub table : T
  pub levels : List ℕ
  pub values : List ℤ
  pub board : List ℕ

abbrev pub lent : {T : Type 0} → T → List ℕ → List ℤ → List ℕ → Lent T
lent t l v b = record { table = t; levels = l; values = v; board = b }

-- the same as the rules count it, with a number of places for each table; both slices of the variables take part in 10
unfoldable pub lent_by : {T : Type 0} → (T → ℕ) → Lent T → Buffers
lent_by places x = record { places = places x.table; variables = min (length x.levels) (length x.values); lines = capacity x.board }

-- what a run of n variables that has ended leaves in what was lent, with a table of k places; HoldsTree says which tree such a table holds, and where
-- the cursor stands in it
pub record Ran {T : Type 0} (HoldsTree : T → ℕ → Forest → Place → Type 0) (n k : ℕ) (x x' : Lent T) (e : Ended) : Type 0 where
  pub board : x'.board ≡ written e.last.memory.lines x.board
  pub variables : Variables x'.levels x'.values n e.last.memory.variables
  pub spare_levels : (j : ℕ) → n ≤ j → get_or x'.levels j 0 ≡ get_or x.levels j 0
  pub spare_values : (j : ℕ) → n ≤ j → get_or x'.values j (pos 0) ≡ get_or x.values j (pos 0)
  pub tree : HoldsTree x'.table k e.last.memory.tree e.last.memory.cursor

-- for node tables of any kind
module _ {T : Type 0} (places : T → ℕ) (HoldsTree : T → ℕ → Forest → Place → Type 0) where
  -- a run leaves that, and a job that was turned back changes nothing
  abbrev pub Leaves : ℕ → Lent T → Lent T → Rules.Outcome → Type 0
  Leaves n x x' (Rules.rejected k i) = x' ≡ x
  Leaves n x x' (Rules.ran e) = Ran HoldsTree n (places x.table) x x' e

  -- the answer is the rules', and so is all that stands in what was lent
  pub record Promises (b : List ℕ) (budget : ℕ) (x x' : Lent T) (r : Outcome) : Type 0 where
    pub outcome : r ≡ told (run_job b budget (lent_by places x))
    pub answered : answer_of r ≡ answer (run_job b budget (lent_by places x))
    pub leaves : Leaves (variable_count b) x x' (run_job b budget (lent_by places x))

-- the largest buffers that 10 lets through, with an area for lines
unfoldable pub largest : List ℕ → Buffers
largest area = record { places = max_nodes; variables = max_variables; lines = capacity area }

-- a run that has such buffers of its own: the answer is the rules', and so is all that stands in the area
pub record PromisesLines (b : List ℕ) (budget : ℕ) (area area' : List ℕ) (r : Outcome) : Type 0 where
  pub outcome : r ≡ told (run_job b budget (largest area))
  pub lines : area' ≡ written (board_lines (run_job b budget (largest area))) area

-- a table of words has ten to a place
abbrev pub places_in : List ℕ → ℕ
places_in words = length words / cell_size

-- as many places as are asked for, in so many words; none where these are too few (no table has more than 512 places)
unfoldable pub places_for : ℕ → ℕ → ℕ
places_for n words = cond (leb (cell_size * min n max_nodes) words) n 0

-- it holds a tree with the cursor at a place, somewhere in its places: which, and what free places hold, is left open
pub record Tree (words : List ℕ) (places : ℕ) (t : Forest) (p : Place) : Type 0 where
  pub used : ℕ
  pub free : ℕ
  pub at : ℕ
  pub holds : Holds (cells words) places used free at t p
