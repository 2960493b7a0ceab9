use Prim.Native.Nat.{◌-◌}
use lib.ListN.{length}
use Rattle.clean.proofs.report.Given as goal

-- each change lies behind the one before it
abbrev pub decreases-loop-change : goal.decreases-loop-change
decreases-loop-change l = length l.job - l.from
