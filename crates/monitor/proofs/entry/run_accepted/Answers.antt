-- What the functions called ask for holds of an accepted job, and the run that begins with it leaves what the promise says. Assumes nothing.
use mathlib.Core.Path.{refl}
use Rattle.actions.specs.Shows.{slices}
use Rattle.monitor.proofs.Started.{roomy, rooted_at, left_of_law}
use Rattle.monitor.proofs.entry.run_accepted.Goals as goal

pub load-requires : goal.load-requires
load-requires c = roomy _ _ _ (slices _ _ _ _) _ _ c.requires

pub from_root-requires : goal.from_root-requires
from_root-requires c = rooted_at _ _ _ _ _ _ c.requires _ c.frame_of.ensures (slices _ _ _ _) c.words-1.given c.levels-1.given c.values-1.given

pub returns : goal.returns
returns c = left_of_law _ _ _ _ _ _ c.requires _ c.frame_of.ensures (slices _ _ _ _) (slices _ _ _ _) c.load.ensures refl _ c.from_root.ensures
