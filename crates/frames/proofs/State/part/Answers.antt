-- `part` meets its contract: what waits is settled, and what is taken fills the part or ends the input. Assumes nothing.
use Rattle.std.proofs.Common.{rules}
use Rattle.frames.proofs.Settling.{filled, broken}
use Rattle.frames.proofs.State.part.Goals as goal

pub returns-then-take-to : goal.returns-then-take-to
returns-then-take-to c = broken c.settle.ensures.input c.settle.ensures.out c.take.ensures (search rules) c.truncated.ensures.value c.truncated.ensures.ended

pub returns : goal.returns
returns c = filled c.settle.ensures.input c.settle.ensures.out c.take.ensures (search rules)
