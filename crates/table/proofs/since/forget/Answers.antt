-- The place is cleared; what hangs below it is pushed onto an empty stack, and cleared. Assumes nothing.
use native.Mathlib.Omega.{arith}
use Rattle.table.specs.Cells.{cells, gone}
use Rattle.table.proofs.Behind.{then_behind}
use Rattle.table.proofs.Effects.{pushed_behind}
use Rattle.table.proofs.Forgetting.{forgotten}
use Rattle.table.proofs.Words.{fits}
use Rattle.table.proofs.since.forget.Goals as goal

pub returns : goal.returns
unfolding cells
returns c = let p = rw (c.get-first.ensures, c.word_of.ensures, fits gone (omega arith)) at c.push-below.ensures in
    let w = c.clear.ensures in
    record {
      behind = then_behind (pushed_behind p) w.behind;
      done = λ used d room e h once. forgotten d (omega (arith, c.requires.0.few)) room (omega (arith, c.requires)) p w e h once;
    }
