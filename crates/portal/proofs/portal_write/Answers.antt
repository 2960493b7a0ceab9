-- A length and a number are handed back as they are. Assumes nothing.
use Rattle.std.specs.Prelude.{refl}
use Rattle.portal.proofs.portal_write.Goals as goal

pub returns-in-Ok : goal.returns-in-Ok
returns-in-Ok c = record { answer = _; promise = c.in-Ok.ensures; number = refl }

pub returns-in-Err : goal.returns-in-Err
returns-in-Err c = record { answer = _; promise = c.in-Err.ensures; number = c.from.ensures }
