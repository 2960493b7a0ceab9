-- `put_variable` meets its contract: a line of two numbers. Assumes nothing.
use Rattle.std.proofs.Common.{[], ◌∷◌, ◌∙◌, ap, w32}
use mir.Facts.{to_z-of_z}
use Rattle.rules.specs.Number.{bits}
use Rattle.frames.specs.Answers.{variable_row}
use Rattle.frames.proofs.Putting.{lined}
use Rattle.frames.proofs.outcome.put_variable.Goals as goal

pub returns : goal.returns
unfolding variable_row
returns c = record { same = c.row.ensures.same; puts = lined (λ i. c.from.ensures i ∷ (c.bits.ensures ∙ ap bits (to_z-of_z {w = w32} c.ranges.value)) i ∷ []) c.row.ensures.row }
