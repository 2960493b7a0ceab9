-- `levels::is_level` meets its contract: a byte is at most 255, and less than 256. Assumes nothing.
use mathlib.Core.Path.{sym, ◌∙◌}
use native.Mathlib.Omega.{arith}
use borrow.Author.Tests.{le-leb}
use Rattle.rules.proofs.Lattice.{byte_level}
use Rattle.rules.proofs.levels.is_level.Goals as goal

pub returns : goal.returns
returns c = le-leb c.args.a 255 (omega arith) ∙ sym (byte_level c.args.a (omega arith))
