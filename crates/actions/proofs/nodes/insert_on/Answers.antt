-- On each side its function inserts. Assumes nothing.
use Rattle.actions.proofs.nodes.insert_on.Goals as goal

pub returns-in-First : goal.returns-in-First
returns-in-First c = λ l b v vars x e. rw c.in-First.is (c.insert_first.ensures l b v vars x e)

pub returns-in-Right : goal.returns-in-Right
returns-in-Right c = λ l b v vars x e. rw c.in-Right.is (c.insert_right.ensures l b v vars x e)
