-- The test of the place tells whether the tree has a node there, and if it has, the node table says its existence. Assumes nothing.
use mathlib.Core.Path.{ap, ◌∙◌}
use Rattle.rules.specs.Level.{join}
use Rattle.rules.specs.Tree.{sub, label}
use Rattle.rules.specs.Run.{go_to}
use Rattle.actions.proofs.Moved.{acts_absent, acts_go}
use Rattle.actions.proofs.moves.go_to.Goals as goal

pub returns-then-place-places : goal.returns-then-place-places
unfolding go_to
returns-then-place-places c = λ l v b vars o t. acts_absent _ c.args.pc c.requires.1.inside t (λ μ p. (label (sub p μ.tree)).existence) c.if-place-places.true c.halt.ensures

pub returns : goal.returns
unfolding go_to
returns c = λ l v b vars o t.
    acts_go _ c.args.pc c.requires.1.inside t (λ μ p. (label (sub p μ.tree)).existence)
    c.if-place-places.false (λ μ q s h. c.existence.ensures _ _ μ.tree q h)
    (c.join.ensures ∙ ap (λ z. join z c.existence.result) c.level_of.ensures) c.move_to.ensures
