use Rattle.std.proofs.Common.{arith}
use Rattle.std.proofs.lemmas.Grind.{common_steps}
use Rattle.fields.specs.Siblings.{beside}
use Rattle.fields.proofs.nodes.beside.Goals as goal

pub returns : goal.returns
unfolding beside
returns c = grind (arith, common_steps)
