-- `next` meets its contract: the block is made ready before the header is read, and the input may have ended. Assumes nothing.
use Rattle.std.proofs.Common.{rules}
use Rattle.frames.proofs.Settling.{nothing_comes, begins, keeps, keeps_on, settles_keeps}
use Rattle.frames.proofs.State.next.Goals as goal

pub returns-then-left-eq0-clause-reads : goal.returns-then-left-eq0-clause-reads
returns-then-left-eq0-clause-reads c = λ pos. nothing_comes _ c.settle.ensures.input c.settle.ensures.out c.ready.ensures pos (search rules) c.finish.ensures.value c.finish.ensures.ended

pub returns-clause-reads : goal.returns-clause-reads
returns-clause-reads c = λ pos. begins c.settle.ensures.input c.settle.ensures.out c.ready.ensures pos c.part.ensures

pub returns-clause-keeps : goal.returns-clause-keeps
returns-clause-keeps c = keeps_on c.args.self.now.out c.settle.new.self.out c.part.new.self.out (settles_keeps _ _ c.settle.ensures.out) (keeps c.part.ensures)
