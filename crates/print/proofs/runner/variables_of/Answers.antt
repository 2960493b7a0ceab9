-- `variables_of` meets its contract, as the checks answer. Assumes nothing.
use mathlib.Core.Path.{sym}
use borrow.Author.Rules.{rules}
use Rattle.print.proofs.Accepted.{accepted_count, refused_count}
use Rattle.print.proofs.runner.variables_of.Goals as goal

pub returns-in-Ok : goal.returns-in-Ok
returns-in-Ok c = accepted_count _ _ (sym c.in-Ok.ensures)

pub returns-in-Err : goal.returns-in-Err
returns-in-Err c = (search rules, refused_count _ _ (sym c.in-Err.ensures))
