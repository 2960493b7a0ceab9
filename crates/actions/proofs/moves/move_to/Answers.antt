-- The two ends of the test are the two arms of `moved_to`. Assumes nothing.
use mathlib.Core.Path.{sym, ap, ◌∙◌}
use Rattle.rules.specs.Level.{not_above}
use Rattle.actions.specs.Acts.{moved_to}
use Rattle.actions.proofs.moves.move_to.Goals as goal

pub returns-then-not-not_above : goal.returns-then-not-not_above
unfolding moved_to
returns-then-not-not_above c = let f = ap (not_above _) (sym c.level_of.ensures) ∙ sym c.not_above.ensures ∙ c.if-not-not_above.true in
    (c.halt.ensures ∙ rw f, c.ranges.level.fits)

pub returns : goal.returns
unfolding moved_to
returns c = let f = ap (not_above _) (sym c.level_of.ensures) ∙ sym c.not_above.ensures ∙ c.if-not-not_above.false in
    (c.onward.ensures ∙ rw (f, c.from-level.ensures), c.ranges.level.fits)
