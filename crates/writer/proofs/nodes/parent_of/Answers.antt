-- No node above, or the index that stands by its depth. Assumes nothing.
use mathlib.Core.Path.{sym, ap}
use Rattle.writer.specs.Nodes.{parent_in}
use Rattle.writer.proofs.Walked.{parent_above}
use Rattle.writer.proofs.nodes.parent_of.Goals as goal

pub returns-then-deep-eq0 : goal.returns-then-deep-eq0
unfolding parent_in
returns-then-deep-eq0 c = ap (parent_in c.args.indexes.now) (sym c.if-deep-eq0.true)

pub returns : goal.returns
returns c = parent_above _ _ c.if-deep-eq0.false
