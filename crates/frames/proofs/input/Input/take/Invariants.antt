use Rattle.frames.proofs.Coming.{Came}
use Rattle.frames.proofs.input.Input.take.Given as goal

abbrev pub invariant-loop-i : goal.invariant-loop-i
invariant-loop-i l = Came l.initial.self l.initial.to l.to l.self l.i
