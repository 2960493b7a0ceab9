-- The left operand alone where the operator is 0, and else both with the operator's exact result, if that is a number, and their joined levels.
-- Assumes nothing.
use mathlib.Core.Path.{◌≡◌, ap, ◌∙◌}
use Prim.Native.Nat.{◌<◌}
use lib.IntN.{ℤ}
use lib.Signed.{mag}
use mir.Syntax.{w64}
use mir.Facts.{to_z-of_z}
use Rattle.rules.specs.Number.{fitting}
use Rattle.rules.proofs.Machine.{kept}
use Rattle.actions.proofs.Evaluation.{read, one_operand, two_operands}
use Rattle.actions.proofs.evaluate.evaluate.Goals as goal

pub returns-then-operator-eq0 : goal.returns-then-operator-eq0
returns-then-operator-eq0 c = one_operand c.args.f c.if-operator-eq0.true c.operand-left.ensures

-- a number of 64 bits comes back from its bits
exact : {z : ℤ} → mag z < 9223372036854775808 → kept w64 z ≡ z
exact h = to_z-of_z {w = w64} (record { sfits = h })

pub returns : goal.returns
returns c = let x = c.operand-left.ensures in
    let y = c.operand-right.ensures in
    let z = c.apply-z in
    two_operands c.args.f c.if-operator-eq0.false x y (exact c.from.type_inv ∙ c.from.ensures ∙ read x.fits) (exact c.from-2.type_inv ∙ c.from-2.ensures ∙ read y.fits)
    z.ensures (c.fitting.ensures ∙ ap fitting (exact z.type_inv)) c.join.ensures
