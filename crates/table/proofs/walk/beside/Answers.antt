-- The link words lead one step down, or on. Assumes nothing.
use Rattle.table.proofs.Moves.{to_side}
use Rattle.table.proofs.Words.{link_word}
use Rattle.table.proofs.walk.beside.Goals as goal

pub returns : goal.returns
returns c = λ used free t p h. rw (c.link.ensures, c.word_on.ensures.0, link_word _ _ _) (to_side h _)
