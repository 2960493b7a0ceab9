use Rattle.std.proofs.Common.{◌≡◌}
use Rattle.print.specs.Waiting.{Listed}
use Rattle.print.proofs.Out.lines.Given as goal

abbrev pub invariant-loop-i : goal.invariant-loop-i
invariant-loop-i l = (l.self.fd ≡ l.initial.self.fd) × Listed l.name l.area l.initial.self.waits l.i l.self.waits
