-- `next_event` meets its contract: kind and header are read of the sixteen bytes. Assumes nothing.
use Rattle.std.proofs.Common.{refl, arith}
use Rattle.std.proofs.lemmas.Result.{err_from_is_err_and}
use Rattle.frames.proofs.Settling.{failed, passed}
use Rattle.frames.proofs.State.next_event.Goals as goal

pub returns-in_err-next-clause-comprises : goal.returns-in_err-next-clause-comprises
returns-in_err-next-clause-comprises c = let p = err_from_is_err_and c.from_residual.result c.from_residual.ensures.1 in
    record { bytes = c.next.new.head; reads = failed (c.next.ensures.reads (omega arith)) c.in_err-next.was p.1; event = rw p.1 tt }

pub returns-clause-comprises : goal.returns-clause-comprises
returns-clause-comprises c = record {
  bytes = c.next.new.head;
  reads = passed (c.next.ensures.reads (omega arith)) c.in_ok-next.was refl;
  event = (c.full_at.ensures, c.read_header.ensures.0);
}
