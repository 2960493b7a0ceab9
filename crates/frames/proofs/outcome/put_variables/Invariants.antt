use Rattle.frames.specs.Answers.{variable_rows}
use Rattle.frames.specs.Pieces.{Writes}
use Rattle.frames.proofs.outcome.put_variables.Given as goal

abbrev pub invariant-loop-i : goal.invariant-loop-i
invariant-loop-i l = Writes (variable_rows l.i l.levels l.values) l.initial.out l.out
