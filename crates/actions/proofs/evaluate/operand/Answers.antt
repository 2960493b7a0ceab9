-- Each arm reads what its kind of operand stands for: the number itself, a variable, or a word of the cell at the cursor. Assumes nothing.
use native.Mathlib.Omega.{arith}
use mathlib.Core.Path.{refl, ap, ◌∙◌}
use Rattle.rules.specs.Level.{join}
use Rattle.actions.proofs.Evaluation.{kind_constant, kind_variable, operates_as, constant, variable, node_read}
use Rattle.actions.proofs.evaluate.operand.Goals as goal

pub returns-in-0 : goal.returns-in-0
returns-in-0 c = let a = c.args in
    operates_as (kind_constant a.kind a.number c.in-0.is) (constant c.signed.type_inv c.signed.ensures)

pub returns-in-1 : goal.returns-in-1
returns-in-1 c = let k = c.in-1.is in
    operates_as (kind_variable c.args.kind c.args.number k) (variable refl (c.requires.1.variable k) (omega arith))

pub returns-in_default : goal.returns-in_default
returns-in_default c = let v = c.read in
    let l = c.level_read in
    operates_as refl
    (node_read c.args.kind c.args.number v.result l.result (omega arith) c.requires.1.known c.from-k.ensures
    c.signed-in_default.type_inv c.signed-in_default.ensures
    (c.join.ensures ∙ ap (λ z. join z l.result) c.level_of.ensures) v.ensures l.ensures)
