-- Of an outcome: its four numbers, and whether the job was run; of a job: how many variables it has. Assumes nothing.
use Rattle.std.specs.Prelude.{Bool, true, false, List, ◌≡◌, ℕ, length}
use Rattle.rules.specs.Check.{Checked, accepted, refused, check_bytes}
use Rattle.rules.specs.Job.{variables}
use Rattle.rules.specs.Outcome.{Answer}
use Rattle.monitor.specs.declared.entry.Outcome.{Outcome}
use Rattle.monitor.specs.declared.entry.Outcome.TheVariants.{Refused, Finished, Stopped}

abbrev pub Says : ℕ → ℕ → ℕ → ℕ → Answer → Type 0
Says ending index steps lines a = (ending ≡ a.ending) × (index ≡ a.index) × (steps ≡ a.steps) × (lines ≡ a.lines)

unfoldable pub ran : Outcome → Bool
ran (Refused k i) = false
ran (Finished s n) = true
ran (Stopped k i s n) = true

-- how many variables a job has that the checks accept; none where they refuse it
unfoldable pub counted : List ℕ → Checked → ℕ
counted b accepted = length (variables b)
counted b (refused k i) = 0

unfoldable pub variables_in : List ℕ → ℕ
variables_in b = counted b (check_bytes b)
