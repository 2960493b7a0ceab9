use Rattle.std.proofs.Common.{◌≡◌}
use Rattle.print.specs.Waiting.{Numbers}
use Rattle.print.proofs.Out.row.Given as goal

abbrev pub invariant-loop-i : goal.invariant-loop-i
invariant-loop-i l = (l.self.fd ≡ l.initial.self.fd) × Numbers l.numbers l.below l.initial.self.waits l.i l.self.waits
