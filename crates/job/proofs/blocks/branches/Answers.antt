-- `branches` meets its contract: it is the definition. Assumes nothing.
use mathlib.Core.Path.{refl}
use Rattle.rules.specs.Blocks.{branches}
use Rattle.job.proofs.blocks.branches.Goals as goal

pub returns : goal.returns
unfolding branches
returns c = refl
