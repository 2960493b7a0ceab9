-- `numbers::fitting` meets its contract: what the library converts is what fits, and it comes back as it was. Assumes nothing.
use mathlib.Core.Path.{◌≡◌, sym, ap, subst, ◌∙◌}
use native.Mathlib.Decide.{dec_lt}
use native.Mathlib.Omega.{arith}
use lib.IntN.{ℤ}
use lib.Signed.{mag}
use mir.Syntax.{w32}
use mir.Val.{SFits}
use mir.Facts.{to_z-of_z}
use Rattle.std.specs.Prelude.{◌<◌, ◌≤◌, Result, Ok, Err, Some}
use Rattle.std.specs.Result.{OkIff, result_ok}
use Rattle.rules.specs.Number.{half_range, fitting}
use Rattle.rules.proofs.Number.{fitting_in, fitting_out}
use Rattle.rules.proofs.numbers.fitting.Goals as goal

converted : {E : Type 0} (z : ℤ) (r : Result ℤ E) → OkIff r (SFits w32 z) z → result_ok r ≡ fitting z
converted z (Ok x) h = ap Some h.1 ∙ sym (fitting_in z h.0)
converted z (Err e) h = sym (fitting_out z (go (dec_lt (mag z) half_range)))
  where
    go : Dec (mag z < half_range) → half_range ≤ mag z
    go (yes l) = absurd (h (record { sfits = l }))
    go (no l) = omega arith

pub returns : goal.returns
returns c =
    c.ok.ensures.value
    ∙ converted c.args.z c.try_from.result (subst (λ (z : ℤ). OkIff c.try_from.result (SFits w32 z) z) (to_z-of_z c.ranges.z) c.try_from.ensures)
