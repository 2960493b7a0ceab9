-- `put_turn` meets its contract: what a run that has ended leaves is at the first free place. Assumes nothing.
use borrow.Author.Rules.{rules}
use Rattle.rounds.proofs.show.put_turn.Goals as goal

pub ended-i-requires : goal.ended-i-requires
ended-i-requires c = let h = c.requires in (h.whole, h.free _ _ _ c.in-Answers.is)

pub put_ended-requires : goal.put_ended-requires
put_ended-requires c = let l = c.ended-i.ensures.1 in (l, c.requires.sized _ l, search rules, search rules, search rules, search rules)
