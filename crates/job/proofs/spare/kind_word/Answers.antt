-- `kind_word` meets its contract: it is the definition. Assumes nothing.
use borrow.Author.Rules.{rules}
use Rattle.fields.specs.Fits.{kind_word}
use Rattle.job.proofs.spare.kind_word.Goals as goal

pub returns-then-sets : goal.returns-then-sets
unfolding kind_word
returns-then-sets c = rw c.if-sets.true (search rules)

pub returns : goal.returns
unfolding kind_word
returns c = rw (c.if-sets.false, ← c.full_at.ensures)
