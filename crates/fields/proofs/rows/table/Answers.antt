-- `table` meets its contract: the list of the rules, row by row, is the constant. Assumes nothing.
use mathlib.Core.Path.{refl}
use Rattle.rules.specs.Script.{rows}
use Rattle.fields.specs.Fields.{row_held}
use Rattle.fields.proofs.rows.table.Goals as goal

pub returns : goal.returns
unfolding rows row_held
returns c = refl
