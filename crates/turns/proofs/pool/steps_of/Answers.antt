-- `pool::steps_of` meets its contract: case by case. Assumes nothing.
use Rattle.turns.specs.Pool.{steps_of}
use borrow.Author.Rules.{rules}
use Rattle.turns.proofs.pool.steps_of.Goals as goal

pub returns-in-Refused : goal.returns-in-Refused
unfolding steps_of
returns-in-Refused c = search rules

pub returns-in-Finished : goal.returns-in-Finished
unfolding steps_of
returns-in-Finished c = search rules
