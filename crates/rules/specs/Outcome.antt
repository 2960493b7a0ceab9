-- The run over a job's bytes: the checks, then the run, and the answer. Assumes nothing.
use Rattle.std.specs.Prelude.{ℕ, Bool, ◌&&◌, List, [], length, leb}
use Rattle.rules.specs.Limits.{max_nodes, max_budget, bad_budget, bad_buffers}
use Rattle.rules.specs.Bytes.{variable_count, node_count}
use Rattle.rules.specs.Check.{Checked, accepted, refused, require, Edition, today, check_bytes_by}
use Rattle.rules.specs.Job.{variables, job_tree, script_by}
use Rattle.rules.specs.Run.{Line, State, Buffers, stop_number, Ending, finished, stopped, Ended, run, start}

-- 9: the budget is "1 to 1,000,000"
unfoldable pub budget_rule : ℕ → Bool
budget_rule budget = leb 1 budget && leb budget max_budget

-- 10: the table is "of 1 to 512 places" and not "below the node count", the variable buffer not "below the variable count"
unfoldable pub buffer_rule : List ℕ → Buffers → Bool
buffer_rule b lent =
    leb 1 lent.places && leb lent.places max_nodes && leb (node_count b) lent.places
    && leb (variable_count b) lent.variables

-- the first check, and where it accepts the second
unfoldable pub and_then : Checked → Checked → Checked
and_then accepted c = c
and_then (refused k i) c = refused k i

-- the checks of the bytes, in an edition, then 9 and 10
unfoldable pub check_job_by : Edition → List ℕ → ℕ → Buffers → Checked
check_job_by rules b budget lent =
    and_then (check_bytes_by rules b) (require bad_budget (budget_rule budget) (require bad_buffers (buffer_rule b lent) accepted))

-- by the rules of today
unfoldable pub check_job : List ℕ → ℕ → Buffers → Checked
check_job b budget lent = check_job_by today b budget lent

-- what becomes of a job: it is turned back with a number and an index, or it is run
pub data Outcome : Type 0 where
  rejected : ℕ → ℕ → Outcome
  ran : Ended → Outcome

-- the state that a job starts from
unfoldable pub begin : List ℕ → State
begin b = start (variables b) (job_tree b)

-- the run over a job's bytes, with a budget and the caller's buffers, in an edition
unfoldable pub run_job_by : Edition → List ℕ → ℕ → Buffers → Outcome
run_job_by rules b budget lent =
    elim (check_job_by rules b budget lent) [
      | refused k i ↦ rejected k i
      | accepted ↦ ran (run lent (script_by rules.sets b) budget (begin b))
    ]

-- by the rules of today
unfoldable pub run_job : List ℕ → ℕ → Buffers → Outcome
run_job b budget lent = run_job_by today b budget lent

-- "Answer: ending (0 for finished, else the number), record index, steps, line count."
pub record Answer : Type 0 where
  pub ending : ℕ
  pub index : ℕ
  pub steps : ℕ
  pub lines : ℕ

-- the ending and the index of a run that has ended; "For .. finished the index is 0"
unfoldable pub ending_number : Ending → ℕ
ending_number finished = 0
ending_number (stopped k) = stop_number k

-- the index of a run that has ended at a record
unfoldable pub ending_index : Ending → ℕ → ℕ
ending_index finished at = 0
ending_index (stopped k) at = at

-- the answer of an outcome; "steps and lines are 0 for 1 to 10"
unfoldable pub answer : Outcome → Answer
answer (rejected k i) = record { ending = k; index = i; steps = 0; lines = 0 }
answer (ran e) =
    record {
      ending = ending_number e.ending;
      index = ending_index e.ending e.last.at;
      steps = e.last.steps;
      lines = length e.last.memory.lines;
    }

-- "A run's board lines are the numbers that its commands 6 put out, in order", each with its reader set
unfoldable pub board_lines : Outcome → List Line
board_lines (rejected k i) = []
board_lines (ran e) = e.last.memory.lines
