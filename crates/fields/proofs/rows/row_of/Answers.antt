-- `row_of` meets its contract: the list of the rules, row by row, is the constant. Assumes nothing.
use lib.ListN.{get_or-map}
use Rattle.rules.specs.Script.{rows, row}
use mathlib.Core.Bool.{false}
use Rattle.fields.specs.Fields.{row_held}
use Rattle.fields.proofs.rows.row_of.Goals as goal

pub returns : goal.returns
unfolding rows row_held
returns c = get_or-map row_held rows c.args.command (row false false false false false false)
