-- The words are asked for a tree. Assumes nothing.
use mathlib.Core.List.{[]}
use Rattle.monitor.proofs.Taken.{surveyed}
use Rattle.writer.proofs.Lifted.{over_words}
use borrow.Author.Rules.{rules}
use Rattle.writer.proofs.write.write_words.Goals as goal

pub write_places-requires : goal.write_places-requires
write_places-requires c = (surveyed _ [] _ c.survey-stands.ensures, search rules)

pub returns : goal.returns
returns c = let a = c.args in
    over_words a.words.now c.survey-stands.ensures a.levels.now a.values.now a.area.now c.write_places.ensures
