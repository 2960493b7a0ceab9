-- What the checks of a follow-on script come to, which is a bare section. Assumes nothing.
use Rattle.std.specs.Prelude.{◌≡◌, List, ℕ, Result}
use Rattle.rules.specs.Limits.{bad_follow_on}
use Rattle.rules.specs.Check.{Checked, accepted, require, today, check_script, code}
use Rattle.rules.specs.History.{section_count, section_rule}
use Rattle.job.specs.declared.checks.Refusal.{Refusal}
use Rattle.job.specs.Plan.{Plans}
use Rattle.job.specs.Answer.{told}

-- the checks 11, 7, 12 and 8, of a bare section among vs variables; whether the lent tree and variables could be a job's is not asked here
unfoldable pub check_section : List ℕ → ℕ → Checked
check_section b vs = require bad_follow_on (section_rule b) (check_script today b vs 0 0 0 0 (section_count b) accepted)

-- what `prepare_section` makes of a section and the words p: the answer of the checks, and the plan of the script
pub record SectionPrepared (b : List ℕ) (vs : ℕ) (p p' : List ℕ) (r : Result (Unit {0}) Refusal) : Type 0 where
  pub answered : r ≡ told (check_section b vs)
  pub plans : Plans (code b 0) (section_count b) (check_section b vs) p p'
