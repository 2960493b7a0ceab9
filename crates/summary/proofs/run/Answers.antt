-- `run` meets its contract: of an accepted job the answer has the layout. Assumes nothing.
use mathlib.Core.Path.{sym}
use Rattle.job.proofs.Answers.{is_accepted}
use Rattle.summary.proofs.run.Goals as goal

pub report-requires : goal.report-requires
report-requires c = is_accepted _ _ _ (sym c.in-Ok.ensures)
