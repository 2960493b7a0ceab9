-- The two arms of `placesFor`. Assumes nothing.
use Prim.Native.Nat.{◌*◌, min}
use native.Mathlib.Omega.{arith}
use borrow.Author.Tests.{le-leb, lt-leb}
use Rattle.rules.specs.Limits.{max_nodes}
use Rattle.table.specs.Cells.{cell_size}
use Rattle.monitor.specs.Promises.{places_for}
use Rattle.monitor.proofs.entry.asked.Goals as goal

pub returns-then-min-words : goal.returns-then-min-words
unfolding places_for
returns-then-min-words c = rw (le-leb (cell_size * min c.args.places max_nodes) c.args.words (omega (arith, c.min.ensures, c.if-min-words.true)))

pub returns-else-min-words : goal.returns-else-min-words
unfolding places_for
returns-else-min-words c = rw (lt-leb (cell_size * min c.args.places max_nodes) c.args.words (omega (arith, c.min.ensures, c.if-min-words.false)))
