-- `control::come_back` meets its contract: it stops where the node has gone, and else the cursor is back. Assumes nothing.
use Rattle.actions.proofs.Entered.{restores_lost, restores_found}
use Rattle.actions.proofs.control.come_back.Goals as goal

pub returns-in_default : goal.returns-in_default
returns-in_default c = restores_lost _ _ _ _ c.in_default.ensures c.halt.ensures

pub returns : goal.returns
returns c = rw c.drop.ensures (restores_found _ _ _ _ _ c.in-Some.ensures c.requires.1.0 _ c.pop.ensures)
