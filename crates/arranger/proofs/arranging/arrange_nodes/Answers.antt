-- `arrange_nodes` meets its contract: weights, new indexes, the copy, and every record put. Assumes nothing.
use mathlib.Core.Path.{sym, ap, ◌∙◌}
use native.Mathlib.Nat.{zero-add}
use native.Mathlib.Omega.{arith}
use Rattle.rules.specs.Bytes.{byte}
use Rattle.arranger.proofs.Putting.{nodes_linked, nodes_some}
use Rattle.arranger.proofs.arranging.arrange_nodes.Goals as goal

pub weights_of-weights-requires : goal.weights_of-weights-requires
weights_of-weights-requires c = let q = c.requires in (nodes_linked _ _ _ q.0 q.1 q.2, nodes_some _ _ _ q.0 q.1 q.2)

pub places_of-own-requires : goal.places_of-own-requires
places_of-own-requires c = let q = c.requires in (nodes_linked _ _ _ q.0 q.1 q.2, nodes_some _ _ _ q.0 q.1 q.2, c.weights_of-weights.ensures)

pub overflow_mul-count : goal.overflow_mul-count
overflow_mul-count c = let q = c.requires in omega (arith, (nodes_linked _ _ _ q.0 q.1 q.2).few)

pub copy-requires : goal.copy-requires
copy-requires c = let q = c.requires in let l = nodes_linked _ _ _ q.0 q.1 q.2 in (omega (arith, l.few), l.inside)

pub put_all-requires : goal.put_all-requires
put_all-requires c = let q = c.requires in
    let s = c.copy.ensures in
    record {
      taken = q.0;
      tree = q.1;
      count = q.2;
      size = s.long;
      copied = λ x h. ap (byte c.copy.new.to) (sym (zero-add x)) ∙ s.done x h;
      placed = c.places_of-own.ensures;
    }
