-- `numbers::is_zero` meets its contract: a number of 32 bits is zero where its bits are. Assumes nothing.
use native.Mathlib.Omega.{arith}
use lib.IntN.{pos}
use Rattle.rules.specs.Number.{is_zero}
use Rattle.rules.proofs.Machine.{same_bits}
use Rattle.rules.proofs.numbers.is_zero.Goals as goal

pub returns : goal.returns
unfolding is_zero
returns c = same_bits {b = pos 0} c.ranges.a (record { sfits = omega arith })
