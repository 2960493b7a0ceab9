-- `flush` meets its contract: the buffer holds zeros alone. Assumes nothing.
use Rattle.print.specs.Zeros.{count}
use Rattle.print.proofs.Padding.{cleared}
use Rattle.print.proofs.Out.flush.Goals as goal

pub invariant_of-self : goal.invariant_of-self
invariant_of-self c = cleared c.self.invariant c.fill.new.self _ (count c.self.invariant) (c.fill.ensures.after (λ y e. e))
