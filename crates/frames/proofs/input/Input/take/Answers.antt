-- `take` meets its contract: each turn takes a byte, and puts it behind those that came before. Assumes nothing.
use Rattle.std.proofs.Common.{rules}
use Rattle.std.proofs.lemmas.List.{set-get_or}
use Rattle.frames.proofs.Coming.{begun, byte, short, dry, whole}
use Rattle.frames.proofs.input.Input.take.Goals as goal

pub loop-i-init : goal.loop-i-init
loop-i-init c = begun _ _

pub loop-i-preserved : goal.loop-i-preserved
loop-i-preserved c = byte c.loop-i.invariant c.in-Some.ensures

pub returns-in-None : goal.returns-in-None
returns-in-None c = rw (set-get_or c.loop-i.to c.loop-i.i 0) (short c.loop-i.invariant _ c.loop-i-test.true (dry c.in-None.ensures.0 c.in-None.ensures.1) c.in-None.ensures.0 c.in-None.ensures.1)

pub returns : goal.returns
returns c = whole c.loop-i.invariant _ _ (search rules) (search rules)
