-- `report` comes to an end: each change lies further behind. Assumes nothing.
use mathlib.Core.Path.{sym}
use native.Mathlib.Omega.{arith}
use Rattle.cleaner.proofs.Handed.{found_later}
use Rattle.clean.proofs.report.Goals as goal

pub loop-change-smaller : goal.loop-change-smaller
loop-change-smaller c = let l = found_later _ _ _ (sym c.in-Some.ensures) in omega (arith, l.0, l.1)
