-- The place where the node table's walk leads tells whether there is a last child, and the working node says the level of its list. Assumes nothing.
use mathlib.Core.Path.{ap, ◌∙◌}
use Rattle.rules.specs.Level.{join}
use Rattle.rules.specs.Tree.{label}
use Rattle.rules.specs.Run.{current, go_to_last}
use Rattle.actions.proofs.Moved.{acts_absent, acts_go}
use Rattle.actions.proofs.moves.go_last.Goals as goal

pub returns-then-place-places : goal.returns-then-place-places
unfolding go_to_last
returns-then-place-places c = λ l v b vars.
    acts_absent _ c.args.pc c.requires.1.inside (record { leads = c.last-place.ensures _ _ })
    (λ μ p. (label (current μ)).structure) c.if-place-places.true c.halt.ensures

pub returns : goal.returns
unfolding go_to_last current
returns c = λ l v b vars.
    acts_go _ c.args.pc c.requires.1.inside
    (record { leads = c.last-place.ensures _ _ }) (λ μ p. (label (current μ)).structure)
    c.if-place-places.false (λ μ q s h. c.structure.ensures _ _ μ.tree μ.cursor s.tree)
    (c.join.ensures ∙ ap (λ z. join z c.structure.result) c.level_of.ensures) c.move_to.ensures
