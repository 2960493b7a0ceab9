-- `levels::not_above` meets its contract: a set that adds nothing has nothing in common with what lies outside. Assumes nothing.
use mathlib.Core.Path.{sym}
use native.Mathlib.Omega.{arith}
use Rattle.rules.proofs.Lattice.{above_outside}
use Rattle.rules.proofs.levels.not_above.Goals as goal

pub returns : goal.returns
returns c = sym (above_outside c.args.a c.args.b (omega arith) (omega arith))
