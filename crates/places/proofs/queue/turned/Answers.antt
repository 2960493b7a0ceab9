-- `queue::turned` meets its contract: the entries of the unended runs move up, and the first goes behind them. Assumes nothing.
use Rattle.places.proofs.Orders.{rotated_left}
use Rattle.places.proofs.queue.turned.Goals as goal

pub returns : goal.returns
returns c = let w = c.requires.0 in rotated_left _ _ _ w.eight c.requires.1 w.few c.rotate_left.ensures.len c.rotate_left.ensures.by_index
