-- `monitor::guards::push` meets its contract: as the highest byte of the upper word is zero, the two words shifted up by a byte are 256 times the number,
-- and the new context is its lowest digit. Assumes nothing.
use mathlib.Core.Path.{◌∙◌}
use native.Mathlib.Omega.{arith}
use Rattle.actions.proofs.Contexts.{up_fits, held_push}
use Rattle.actions.proofs.guards.push.Goals as goal

pub overflow_add-result-2 : goal.overflow_add-result-2
overflow_add-result-2 c = record { fits = up_fits _ _ (omega arith) (omega arith) }

pub returns : goal.returns
returns c = λ b bs h d e. held_push _ _ b bs (omega arith) h d (c.from.ensures ∙ e)
