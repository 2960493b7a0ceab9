-- `queue::pass` meets its contract: the front goes behind the last. Assumes nothing.
use mathlib.Core.Path.{ap}
use mathlib.Core.List.{List}
use Prim.Native.Nat.{ℕ}
use Rattle.places.proofs.Orders.{whole_rotated, passed}
use Rattle.places.proofs.queue.pass.Goals as goal

pub returns : goal.returns
returns c = (whole_rotated _ c.requires.0 _ c.turned.ensures _ c.requires.0.few, passed _ c.requires.0 _ c.turned.ensures, ap (λ (xs : List ℕ). record { order = xs; count = c.args.q.count }) c.turned.ensures)
