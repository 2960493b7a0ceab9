-- `settle` meets its contract: what waits is written out where the block does not have so many bytes. Assumes nothing.
use Rattle.std.proofs.Common.{sym, ◌∙◌, rules}
use Rattle.frames.proofs.Settling.{outs, settles, stays}
use Rattle.frames.proofs.State.settle.Goals as goal

pub returns-then-left-n-clause-out : goal.returns-then-left-n-clause-out
returns-then-left-n-clause-out c = outs c.flush.ensures.0 c.flush.ensures.1 ∙ sym (settles _ _ (search rules))

pub returns-else-left-n-clause-out : goal.returns-else-left-n-clause-out
returns-else-left-n-clause-out c = sym (stays _ _ (search rules))
