-- `numbers::mean` meets its contract: 64 bits hold the exact sum, and shifting it halves it, rounded down. Assumes nothing.
use mathlib.Core.Path.{◌≡◌, ap, ap₂}
use native.Mathlib.Omega.{arith}
use lib.IntN.{ℤ, ◌+ℤ◌}
use lib.Signed.{shr_z}
use mir.Syntax.{w32, w64}
use mir.Val.{SFits}
use mir.Facts.{to_z-of_z}
use Rattle.rules.specs.Number.{mean}
use Rattle.rules.proofs.Number.{mag_sum, mean_fits}
use Rattle.rules.proofs.Machine.{kept, read_as, in_wide}
use Rattle.rules.proofs.numbers.mean.Goals as goal

pub returns : goal.returns
unfolding mean
returns c =
    let a : SFits w32 c.args.a = record { sfits = c.requires.0 } in
    let b : SFits w32 c.args.b = record { sfits = c.requires.1 } in
    let e : kept w64 (kept w64 c.args.a +ℤ kept w64 c.args.b) ≡ c.args.a +ℤ c.args.b =
    read_as {w = w64} (ap₂ ◌+ℤ◌ (to_z-of_z c.ranges.a) (to_z-of_z c.ranges.b)) (record { sfits = omega (arith, mag_sum a b) }) in
    read_as (ap (λ (z : ℤ). shr_z z 2) e) (in_wide (mean_fits a b))
