-- `pass` meets its contract: what waits is settled, and what is skipped is all that was wanted or ends the input. Assumes nothing.
use Rattle.std.proofs.Common.{rules}
use Rattle.frames.proofs.Settling.{filled, broken}
use Rattle.frames.proofs.State.pass.Goals as goal

pub returns-then-skip-n : goal.returns-then-skip-n
returns-then-skip-n c = broken c.settle.ensures.input c.settle.ensures.out c.skip.ensures (search rules) c.truncated.ensures.value c.truncated.ensures.ended

pub returns : goal.returns
returns c = filled c.settle.ensures.input c.settle.ensures.out c.skip.ensures (search rules)
