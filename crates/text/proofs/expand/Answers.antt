-- `expand` meets its contract: what is left to be stored is what the rest of the text spells, behind the bracket that a turn has come to. Assumes nothing.
use native.Mathlib.Omega.{arith}
use Rattle.io.proofs.Counting.{prefix_len_of_le}
use borrow.Author.Rules.{rules}
use Rattle.text.proofs.Spelling.{expanding, turned, ended}
use Rattle.text.proofs.expand.Goals as goal

pub loop-i-init : goal.loop-i-init
loop-i-init c = (search rules, search rules, expanding _ _)

pub loop-i-preserved : goal.loop-i-preserved
loop-i-preserved c = (
  search rules,
  search rules,
  turned c.loop-i.invariant.2 c.loop-i-test.true c.find-open.ensures.first c.find-star.ensures.first c.find-close.ensures.first c.decimal-times.ensures.1
      c.append-n.ensures.by_index c.repeat-n.ensures.by_index,
)

pub returns : goal.returns
returns c = let e = ended c.loop-i.invariant.2 (omega (arith, c.loop-i-test.false)) in record { prefix_len = (prefix_len_of_le _ _ (search rules), omega (arith, e.count)); bytes_after = e.same }
