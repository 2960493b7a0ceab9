-- `check_blocks` meets its contract: check 8 as its pass found it. Assumes nothing.
use mathlib.Core.Path.{sym, ap}
use Rattle.rules.specs.Limits.{bad_block}
use Rattle.rules.proofs.Checks.{stopped, through}
use Rattle.job.specs.Answer.{told, from_blocks}
use Rattle.job.proofs.Answers.{plans_whole, plans_partly}
use borrow.Author.Rules.{rules}
use Rattle.job.proofs.checks.check_blocks.Goals as goal

pub returns-in-Some : goal.returns-in-Some
unfolding told from_blocks
returns-in-Some c = let f = c.in-Some.ensures in
    let e = stopped bad_block _ _ _ f.0 (search rules) in
    record { answered = sym (ap told e); plans = plans_partly _ _ _ _ _ _ e f.2 }

pub returns-in-None : goal.returns-in-None
unfolding told from_blocks
returns-in-None c = let f = c.in-None.ensures in
    let e = through bad_block _ _ _ f.0 (search rules) in
    record { answered = sym (ap told e); plans = plans_whole _ _ _ _ _ e f.1 }
