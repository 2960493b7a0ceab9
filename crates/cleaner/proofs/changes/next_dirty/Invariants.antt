use mathlib.Core.Path.{◌≡◌}
use Prim.Native.Nat.{◌-◌}
use lib.ListN.{length}
use Rattle.rules.specs.Blocks.{first_from}
use Rattle.rules.specs.Clean.{is_dirty}
use Rattle.cleaner.specs.Cleaner.{next_place}
use Rattle.cleaner.proofs.changes.next_dirty.Given as goal

-- what is found from the start is what is found from here on
abbrev pub invariant-loop-at : goal.invariant-loop-at
invariant-loop-at l = next_place l.job l.from ≡ first_from (is_dirty l.job) (length l.job - l.at) l.at
