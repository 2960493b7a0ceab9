-- `read_body` meets its contract: no more bytes are asked for than the buffer has places, and the others of the body are passed over. Assumes nothing.
use Rattle.std.proofs.Common.{refl}
use Rattle.std.proofs.lemmas.Result.{err_from_is_err_and}
use Rattle.frames.proofs.Settling.{cut, body, failed, passed}
use Rattle.frames.proofs.State.read_body.Goals as goal

pub returns-in_err-part-clause-reads : goal.returns-in_err-part-clause-reads
returns-in_err-part-clause-reads c = let p = err_from_is_err_and c.from_residual.result c.from_residual.ensures.1 in
    failed (cut _ _ c.min-count.ensures c.part.ensures c.in_err-part.was) c.in_err-part.was p.1

pub returns-in_err-pass-clause-reads : goal.returns-in_err-pass-clause-reads
returns-in_err-pass-clause-reads c = let p = err_from_is_err_and c.from_residual-in_err-pass.result c.from_residual-in_err-pass.ensures.1 in
    failed (body _ _ c.min-count.ensures c.part.ensures c.in_ok-part.was c.pass.ensures) c.in_err-pass.was p.1

pub returns-clause-reads : goal.returns-clause-reads
returns-clause-reads c = passed (body _ _ c.min-count.ensures c.part.ensures c.in_ok-part.was c.pass.ensures) c.in_ok-pass.was refl
