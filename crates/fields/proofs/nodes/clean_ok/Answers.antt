-- `clean_ok` meets its contract: three bytes that are zero. Assumes nothing.
use Rattle.fields.proofs.Fits.{node_rest}
use Rattle.fields.proofs.nodes.clean_ok.Goals as goal

pub returns : goal.returns
returns c = rw (node_rest _ _ _, c.rest_at.ensures)
