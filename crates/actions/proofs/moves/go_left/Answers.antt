-- `go_to` gets the target that the node table's walk leads to. Assumes nothing.
use Rattle.rules.specs.Tree.{left_of}
use Rattle.actions.proofs.moves.go_left.Goals as goal

pub returns : goal.returns
returns c = λ l v b vars. c.go_to.ensures l v b vars (λ t p. left_of p) (record { leads = c.left-place.ensures _ _ })
