-- `section_ok` meets its contract: it is the definition. Assumes nothing.
use Rattle.rules.specs.History.{section_count, section_rule}
use borrow.Author.Rules.{rules}
use Rattle.job.proofs.follow_on.section_ok.Goals as goal

pub returns : goal.returns
unfolding section_rule section_count
returns c = search rules
