-- `entry::load_variables` meets its contract. The loop's invariant: the first i variables are loaded, and the rest is as it was. Assumes nothing.
use mathlib.Core.Path.{◌≡◌, refl, ◌∙◌}
use mir.Syntax.{w32}
use mir.Facts.{to_z-of_z}
use native.Mathlib.Omega.{arith}
use Rattle.monitor.proofs.Started.{loaded_more}
use Rattle.monitor.proofs.entry.load_variables.Goals as goal

pub loop-i-init : goal.loop-i-init
loop-i-init c =
    record { level = λ k q. absurd (omega arith); value = λ k q. absurd (omega arith); spare_levels = λ k q. refl; spare_values = λ k q. refl }

pub loop-i-preserved : goal.loop-i-preserved
loop-i-preserved c = let q = c.requires in
    loaded_more _ _ _ _ _ _ _ _ c.loop-i.invariant (omega (arith, q.levelled)) (omega (arith, q.valued)) c.level_at.ensures
    (to_z-of_z {w = w32} (record { sfits = c.value_at.type_inv }) ∙ c.value_at.ensures)

pub returns : goal.returns
returns c = let e : c.args.vars ≡ c.loop-i.i = omega arith in rw e c.loop-i.invariant
