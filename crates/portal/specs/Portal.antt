-- What a portal's call hands back: one number and the area for lines, as the rules' run over job bytes gives them. Assumes nothing.
use Rattle.std.specs.Prelude.{ℕ, ◌+◌, ◌*◌, List}
use Rattle.rules.specs.Limits.{max_nodes, max_variables}
use Rattle.rules.specs.Number.{range}
use Rattle.rules.specs.Run.{Buffers}
use Rattle.rules.specs.Outcome.{Outcome, Answer, answer, run_job, board_lines}
use Rattle.actions.specs.Board.{capacity, written}

-- "It has 512 places", and room for as many variables as a job may have; the lines go into the caller's area
unfoldable pub buffers_for : List ℕ → Buffers
buffers_for area = record { places = max_nodes; variables = max_variables; lines = capacity area }

-- "one 64-bit number: the ending times 4,294,967,296 plus the line count"
unfoldable pub number_of : Answer → ℕ
number_of a = a.ending * range + a.lines

-- what a call hands back: the number, and what then stands in the area
pub record Handed : Type 0 where
  pub number : ℕ
  pub area : List ℕ

abbrev pub handed : ℕ → List ℕ → Handed
handed n area = record { number = n; area = area }

-- an outcome, handed back: its lines at the beginning of the area, and behind them what stood there; a job that is turned back has no lines
unfoldable pub hand_back : Outcome → List ℕ → Handed
hand_back o area = handed (number_of (answer o)) (written (board_lines o) area)

-- a job's bytes, a budget and an area
unfoldable pub portal : List ℕ → ℕ → List ℕ → Handed
portal b budget area = hand_back (run_job b budget (buffers_for area)) area
