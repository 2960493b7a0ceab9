use Rattle.std.proofs.Common.{[], ◌≤◌, ◌-◌}
use Rattle.frames.proofs.Coming.{Came}
use Rattle.frames.proofs.input.Input.skip.Given as goal

abbrev pub invariant-loop-count : goal.invariant-loop-count
invariant-loop-count l = (l.count ≤ l.n) × Came l.initial.self [] [] l.self l.count

abbrev pub decreases-loop-count : goal.decreases-loop-count
decreases-loop-count l = l.n - l.count
