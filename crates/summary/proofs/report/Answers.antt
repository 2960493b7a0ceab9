-- `report` meets its contract: the layout says where the nodes are. Assumes nothing.
use Rattle.summary.proofs.Summing.{node_sections}
use Rattle.summary.proofs.report.Goals as goal

pub put_summary-requires : goal.put_summary-requires
put_summary-requires c = let n = node_sections c.args.job.now c.args.l c.requires.1 in (c.requires.0, n.0, n.1)
