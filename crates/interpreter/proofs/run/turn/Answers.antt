-- All steps are made, or what comes next is carried out. Assumes nothing.
use mathlib.Core.Path.{◌∙◌, ap}
use native.Mathlib.Omega.{arith}
use Rattle.actions.specs.Stands.{stepped}
use Rattle.interpreter.proofs.Looped.{still_turn, carried_turn}
use Rattle.interpreter.proofs.run.turn.Goals as goal

pub returns-then-r-eq0 : goal.returns-then-r-eq0
returns-then-r-eq0 c = let p = c.requires in
    still_turn _ p.script p.safe (c.halt.ensures ∙ ap (λ k. stepped k c.args.r) c.over.ensures) c.if-r-eq0.true

pub carry_out-requires : goal.carry_out-requires
carry_out-requires c = let p = c.requires in
    (p.script, (p.safe, omega (arith, c.if-r-eq0.false)))

pub returns : goal.returns
returns c = let p = c.requires in
    carried_turn _ p.script p.safe (omega (arith, c.if-r-eq0.false)) c.carry_out.ensures
