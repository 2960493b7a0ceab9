-- By the command's number, each arm gives `move_to` or `go_to` the target that the node table's walks lead to. Assumes nothing.
use native.Mathlib.Omega.{arith}
use mathlib.Core.Path.{refl}
use mathlib.Core.Option.{some}
use Rattle.rules.specs.Tree.{up, root, to, child, sibling}
use Rattle.actions.proofs.Moved.{at_zero, acts_move, is_root, is_up, is_child, is_sibling}
use Rattle.actions.proofs.moves.go.Goals as goal

pub returns-in-8 : goal.returns-in-8
returns-in-8 c = λ l v b vars. is_up c.args.pc c.in-8.is (c.go_to.ensures l v b vars (λ t p. up p) (record { leads = c.parent.ensures _ _ }))

pub returns-in-9 : goal.returns-in-9
returns-in-9 c = λ l v b vars.
    is_child c.args.pc c.in-9.is (c.go_to-in-9.ensures l v b vars (λ t p. some (to child p)) (record { leads = c.beside.ensures _ _ }))

pub returns-in-10 : goal.returns-in-10
returns-in-10 c = λ l v b vars.
    is_sibling c.args.pc c.in-10.is (c.go_to-in-10.ensures l v b vars (λ t p. some (to sibling p)) (record { leads = c.beside-in-10.ensures _ _ }))

pub returns-in_default : goal.returns-in_default
returns-in_default c = λ l v b vars.
    let pre = c.requires.1.0 in
    let home = c.root.ensures in
    is_root c.args.pc (omega (arith, c.requires.1.1))
    (acts_move _ pre.inside (omega (arith, at_zero home, pre.inside)) c.move_to.ensures
    (λ μ s. record { p = root; l = c.args.pc; tree = home _ _ _ _ _ _ _ s.tree; same = refl; is = refl }))
