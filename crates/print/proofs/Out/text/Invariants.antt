use Rattle.std.proofs.Common.{◌≡◌}
use lib.ListN.{take}
use Rattle.print.specs.Waiting.{pushes}
use Rattle.print.proofs.Out.text.Given as goal

abbrev pub invariant-loop-b : goal.invariant-loop-b
invariant-loop-b l = (l.self.fd ≡ l.initial.self.fd) × (l.self.waits ≡ pushes l.initial.self.waits (take l.b-index l.bytes))
