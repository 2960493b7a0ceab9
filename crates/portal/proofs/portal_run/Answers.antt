-- What the run with buffers of its own promises is what the portal hands back. Assumes nothing.
use Rattle.portal.proofs.Handed.{few, hands}
use Rattle.portal.proofs.portal_run.Goals as goal

pub number-requires : goal.number-requires
number-requires c = few _ _ _ _ _ c.run_lines.ensures

pub returns : goal.returns
returns c = hands _ _ _ _ _ c.run_lines.ensures _ c.number.ensures
