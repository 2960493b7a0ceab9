-- `put_variables` meets its contract: each turn puts the next variable. Assumes nothing.
use Rattle.std.proofs.Common.{[], ◌∷◌, ℤ, get_or, refl, subst, w32, rules}
use mir.Facts.{to_z-of_z}
use Rattle.frames.specs.Pieces.{Writes, none, first}
use Rattle.frames.specs.Answers.{variable_row, variable_rows}
use Rattle.frames.proofs.Putting.{onward}
use Rattle.frames.proofs.outcome.put_variables.Goals as goal

pub loop-i-init : goal.loop-i-init
unfolding variable_rows first
loop-i-init c = record { same = refl; puts = none }

pub loop-i-preserved : goal.loop-i-preserved
unfolding variable_rows
loop-i-preserved c = onward _ _ c.loop-i.invariant
    (subst (λ (v : ℤ). Writes (variable_row (get_or c.args.levels.now c.loop-i.i 0) v ∷ []) c.loop-i.out c.put_variable.new.out) (to_z-of_z {w = w32} (record { sfits = search rules })) c.put_variable.ensures)
