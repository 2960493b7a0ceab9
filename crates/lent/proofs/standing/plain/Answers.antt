-- Three words, each below 256. Assumes nothing.
use mathlib.Core.Path.{sym}
use mathlib.Core.Bool.{true≢false}
use native.Mathlib.Omega.{arith}
use borrow.Author.Tests.{lt-ltb, ltb-true}
use Rattle.table.specs.Cells.{cells}
use Rattle.lent.proofs.standing.plain.Goals as goal

pub returns-then-words-at-ge256 : goal.returns-then-words-at-ge256
unfolding cells
returns-then-words-at-ge256 c = (λ e. absurd (true≢false (sym e)), λ b. absurd (omega (arith, b.existence, c.if-words-at-ge256.true)))

pub returns-then-words-at-ge256-2 : goal.returns-then-words-at-ge256-2
unfolding cells
returns-then-words-at-ge256-2 c = (λ e. absurd (true≢false (sym e)), λ b. absurd (omega (arith, b.content, c.if-words-at-ge256-2.true)))

pub returns : goal.returns
unfolding cells
returns c = (
  λ e.
      record {
        existence = omega (arith, c.if-words-at-ge256.false);
        content = omega (arith, c.if-words-at-ge256-2.false);
        structure = ltb-true _ 256 e;
      },
  λ b. lt-ltb _ 256 b.structure,
)
