-- Each arm calls the function of the operator that its number stands for; above 4 there is only the mean. Assumes nothing.
use native.Mathlib.Omega.{arith}
use lib.IntN.{◌+ℤ◌, ◌-ℤ◌}
use Rattle.rules.specs.Number.{equal, less, mean}
use Rattle.rules.specs.Script.{Operator}
use Rattle.actions.proofs.Evaluation.{is_sum, is_difference, is_equal, is_less, is_mean, exact_sum, exact_difference, exact_equal, exact_less, exact_mean, applies}
use Rattle.actions.proofs.evaluate.apply.Goals as goal

pub returns-in-1 : goal.returns-in-1
returns-in-1 c = applies Operator.sum ◌+ℤ◌ (is_sum c.args.operator c.in-1.is) c.ranges.a c.ranges.b (record { sfits = c.sum.type_inv })
    (exact_sum c.args.a c.args.b) c.sum.ensures

pub returns-in-2 : goal.returns-in-2
returns-in-2 c = applies Operator.difference ◌-ℤ◌ (is_difference c.args.operator c.in-2.is) c.ranges.a c.ranges.b (record { sfits = c.difference.type_inv })
    (exact_difference c.args.a c.args.b) c.difference.ensures

pub returns-in-3 : goal.returns-in-3
returns-in-3 c = applies Operator.equal equal (is_equal c.args.operator c.in-3.is) c.ranges.a c.ranges.b (record { sfits = c.equal.type_inv })
    (exact_equal c.args.a c.args.b) c.equal.ensures

pub returns-in-4 : goal.returns-in-4
returns-in-4 c = applies Operator.less less (is_less c.args.operator c.in-4.is) c.ranges.a c.ranges.b (record { sfits = c.less.type_inv })
    (exact_less c.args.a c.args.b) c.less.ensures

pub returns-in_default : goal.returns-in_default
returns-in_default c = applies Operator.mean mean (is_mean c.args.operator (omega arith)) c.ranges.a c.ranges.b (record { sfits = c.mean.type_inv })
    (exact_mean c.args.a c.args.b c.requires.1) c.mean.ensures
