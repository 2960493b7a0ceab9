-- `turn` meets its contract: what has ended can be looked up. Assumes nothing.
use Rattle.turns.proofs.Housing.{shows_turn}
use Rattle.rounds.proofs.event.turn.Goals as goal

pub put_turn-requires : goal.put_turn-requires
put_turn-requires c = shows_turn _ _ _ _ c.requires c.turn-a.ensures
