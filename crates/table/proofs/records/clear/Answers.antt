-- The invariant: the places before x have no children, those behind n are as they were, and the slice keeps its length. Assumes nothing.
use mathlib.Core.Path.{refl, ◌∙◌}
use native.Mathlib.Omega.{arith}
use Rattle.table.specs.Steps.{Cleared}
use Rattle.table.proofs.Behind.{put_behind, then_behind}
use Rattle.table.proofs.Effects.{cleared_more}
use Rattle.table.proofs.records.clear.Goals as goal

pub loop-x-init : goal.loop-x-init
unfolding Cleared
loop-x-init c = (refl, λ x z. absurd (omega arith), record { same = λ _ _. refl })

pub loop-x-preserved : goal.loop-x-preserved
loop-x-preserved c = let i = c.loop-x.invariant in
    let s = c.clear in
    (s.auto.words ∙ i.0, cleared_more i.1 s.ensures, then_behind i.2 (put_behind c.loop-x-test.true s.ensures))
