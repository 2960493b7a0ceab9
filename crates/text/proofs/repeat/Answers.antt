-- `repeat` meets its contract: what is left to be stored is what the turns that are left put. Assumes nothing.
use Rattle.std.proofs.Common.{◌+◌, ◌-◌, ◌++◌, arith, rules}
use Rattle.text.specs.Hex.{plain, times}
use Rattle.text.proofs.Spelling.{then, instead, times_past, times_end}
use Rattle.text.proofs.repeat.Goals as goal

pub loop-i-preserved : goal.loop-i-preserved
loop-i-preserved c = (
  search rules,
  search rules,
  λ k.
      let one = plain c.args.text.now in
      let left = c.args.often - (c.loop-i.i + 1) in
      let past = times_past (c.args.often - c.loop-i.i) left one k (omega (arith, c.loop-i-test.true)) in
      then (instead past (c.loop-i.invariant.2 k)) (c.append-count.ensures.by_index (times left one ++ k)),
)

pub returns-clause-by_index : goal.returns-clause-by_index
returns-clause-by_index c = λ k. instead (times_end (c.args.often - c.loop-i.i) (plain c.args.text.now) k (omega (arith, c.loop-i-test.false))) (c.loop-i.invariant.2 k)
