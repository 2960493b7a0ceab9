-- `used` meets its contract: the list of the rules, row by row, is one constant or the other. Assumes nothing.
use mathlib.Core.Path.{refl}
use Rattle.rules.specs.Script.{rows}
use Rattle.fields.specs.Fields.{row_used}
use Rattle.fields.proofs.rows.used.Goals as goal

pub returns-then-sets : goal.returns-then-sets
unfolding rows row_used
returns-then-sets c = rw c.if-sets.true refl

pub returns-else-sets : goal.returns-else-sets
unfolding rows row_used
returns-else-sets c = rw c.if-sets.false refl
