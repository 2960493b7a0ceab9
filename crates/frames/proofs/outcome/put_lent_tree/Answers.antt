-- `put_lent_tree` meets its contract: no tree stands in no place, nor in more than 512. Assumes nothing.
use Rattle.std.proofs.Common.{arith}
use Rattle.frames.proofs.outcome.put_lent_tree.Goals as goal

pub returns-then-places-lt1 : goal.returns-then-places-lt1
returns-then-places-lt1 c = λ used free x t p h. absurd (omega (arith, c.if-places-lt1.true, h.live, h.room))

pub returns-then-places-gt512 : goal.returns-then-places-gt512
returns-then-places-gt512 c = λ used free x t p h. absurd (omega (arith, c.if-places-gt512.true, h.few))
