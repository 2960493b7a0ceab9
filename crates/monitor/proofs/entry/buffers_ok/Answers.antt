-- `entry::buffers_ok` meets its contract: it computes the test. Assumes nothing.
use mathlib.Core.Path.{refl}
use Rattle.monitor.specs.Starting.{buffer_test}
use Rattle.monitor.proofs.entry.buffers_ok.Goals as goal

pub returns : goal.returns
unfolding buffer_test
returns c = refl
