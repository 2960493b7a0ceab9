-- The invariant: the first variables are written. Assumes nothing.
use mathlib.Core.Path.{◌≡◌, refl, sym, ap, ◌∙◌}
use mathlib.Core.List.{flat_map}
use Prim.Native.Nat.{◌*◌}
use native.Mathlib.Omega.{arith}
use lib.ListN.{length, get_or}
use borrow.Author.Count.{below_more}
use mir.Syntax.{w32}
use mir.Facts.{to_z-of_z}
use Rattle.rules.specs.Limits.{variable_size}
use Rattle.rules.specs.Job.{listed}
use Rattle.rules.specs.Write.{variable, variable_bytes}
use Rattle.writer.specs.Area.{replaced, lent_variable}
use Rattle.writer.proofs.Area.{replaced_none, variables_more}
use Rattle.writer.proofs.variables.put_variables.Goals as goal

pub loop-i-init : goal.loop-i-init
unfolding listed flat_map
loop-i-init c = (refl, sym (replaced_none _ 0), λ k lt. absurd (omega arith))

pub put_variable-requires : goal.put_variable-requires
put_variable-requires c = omega (arith, c.requires.1, c.loop-i.invariant.0)

pub loop-i-preserved : goal.loop-i-preserved
loop-i-preserved c = let v = c.loop-i.invariant in (
  c.area-1.given ∙ v.0,
  variables_more c.args.levels.now c.args.values.now c.args.area.now c.loop-i.area _ c.loop-i.i (omega (arith, c.requires.1)) v.1
      (c.put_variable.ensures
      ∙ ap (λ z. replaced c.loop-i.area (variable_size * c.loop-i.i) (variable (get_or c.args.levels.now c.loop-i.i 0) z))
      (to_z-of_z {w = w32} (record { sfits = c.put_variable-arg-in-loop-i-1.given }))),
  below_more _ _ v.2 c.put_variable-arg-in-loop-i-1.given,
)

pub shape_of-area : goal.shape_of-area
shape_of-area c = c.loop-i.invariant.0

pub returns : goal.returns
returns c = let v = c.loop-i.invariant in
    let e : c.loop-i.i ≡ length c.args.levels.now = omega arith in
    record {
      bytes = v.1 ∙ ap (λ k. replaced c.args.area.now 0 (flat_map variable_bytes (listed (lent_variable c.args.levels.now c.args.values.now) k 0))) e;
      fits = λ k lt. v.2 k (omega arith);
    }
