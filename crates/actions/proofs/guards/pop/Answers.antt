-- `monitor::guards::pop` meets its contract: the two words shifted down by a byte are the quotient by 256, which has the digits but the lowest.
-- Assumes nothing.
use native.Mathlib.Omega.{arith}
use Rattle.actions.proofs.Contexts.{down_fits, held_pop}
use Rattle.actions.proofs.guards.pop.Goals as goal

pub overflow_add-result : goal.overflow_add-result
overflow_add-result c = record { fits = down_fits _ _ (omega arith) (omega arith) }

pub returns : goal.returns
returns c = λ bs h. held_pop _ bs h
