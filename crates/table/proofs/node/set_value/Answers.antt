-- One store to the value word sets the value. Assumes nothing.
use Rattle.table.proofs.Valuing.{valued}
use Rattle.table.proofs.node.set_value.Goals as goal

pub returns-clause-by_index : goal.returns-clause-by_index
returns-clause-by_index c = λ used free t p h. valued c.args.v h c.store.ensures
