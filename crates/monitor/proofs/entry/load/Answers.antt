-- The variables, then the nodes. Assumes nothing.
use Rattle.monitor.proofs.Started.{loading, loadable, loaded_by}
use Rattle.monitor.proofs.entry.load.Goals as goal

pub load_variables-requires : goal.load_variables-requires
load_variables-requires c = loading _ _ _ _ _ c.requires

pub load-requires : goal.load-requires
load-requires c = loadable _ _ _ _ _ c.requires

pub returns : goal.returns
returns c = loaded_by _ _ _ _ _ c.requires _ _ _ c.load_variables.ensures c.load.ensures.loaded c.load.ensures.behind
