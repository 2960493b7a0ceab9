-- The invariant: the records from x on are linked, if the parent rule holds, and the places behind n are as they were. Assumes nothing.
use mathlib.Core.Path.{◌≡◌, refl, ◌∙◌}
use native.Mathlib.Omega.{arith}
use Rattle.table.proofs.Behind.{then_behind}
use Rattle.table.proofs.Effects.{entered_behind}
use Rattle.table.proofs.Jobs.{linking_start, linking_step, loaded}
use Rattle.table.proofs.records.load.Goals as goal

pub loop-x-init : goal.loop-x-init
loop-x-init c = (c.requires.some, refl, λ _. linking_start c.args.job.now c.args.base c.args.n c.clear.ensures.cleared, record { same = λ _ _. refl })

pub loop-x-preserved : goal.loop-x-preserved
loop-x-preserved c = let i = c.loop-x.invariant in (
  omega arith,
  c.enter.auto.words ∙ i.1,
  λ r.
      linking_step c.args.job.now c.args.base c.loop-x.x c.requires.few c.loop-x-test.true c.loop-x.auto.x r (i.2 r)
      c.enter.ensures,
  then_behind i.3 (entered_behind (omega arith) c.enter.ensures),
)

pub returns-clause-loaded : goal.returns-clause-loaded
returns-clause-loaded c = let e : c.loop-x.x ≡ 1 = omega arith in
    loaded c.args.job.now c.args.base c.args.n c.requires.some (rw e at c.loop-x.invariant.2) c.enter-2.ensures
