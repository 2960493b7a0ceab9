-- The words are asked for a tree. Assumes nothing.
use mathlib.Core.List.{[]}
use Rattle.monitor.proofs.Taken.{surveyed, over_words}
use borrow.Author.Rules.{rules}
use Rattle.monitor.proofs.follow.follow_words.Goals as goal

pub follow_places-requires : goal.follow_places-requires
follow_places-requires c = (surveyed _ [] _ c.survey-stands.ensures, search rules)

pub returns : goal.returns
returns c = (
  over_words _ _ _ c.survey-stands.ensures _ _ _ _ _ _ _ _ c.words-1.given c.follow_places.ensures,
  c.follow_places.ensures.behind,
)
