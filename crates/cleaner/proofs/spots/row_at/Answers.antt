-- `row_at` meets its contract: behind the last row there is none. Assumes nothing.
use mathlib.Core.Path.{sym, ap}
use mathlib.Core.Bool.{false}
use lib.ListN.{get_or-eq_default}
use Rattle.rules.specs.Script.{rows, row}
use Rattle.fields.specs.Fields.{row_held}
use Rattle.cleaner.proofs.spots.row_at.Goals as goal

pub returns : goal.returns
unfolding rows row_held
returns c = sym (ap row_held (get_or-eq_default rows (row false false false false false false) c.if-command-lt-COMMANDS.false))
