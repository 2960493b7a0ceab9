-- The job is loaded, no block remembers anything, and the run stands at the root. Assumes nothing.
use Rattle.turns.proofs.Turning.{freshens}
use Rattle.turns.proofs.turn.fresh.Goals as goal

pub returns : goal.returns
returns c = freshens _ _ _ _ _ _ _ c.args.marks.now _ _ _ c.load.ensures c.words-1.given c.levels-1.given c.values-1.given c.clear.ensures c.requires.1 _ c.requires.0.layout c.rooted.ensures
