-- The tests in their order. Assumes nothing.
use Rattle.lent.specs.Stands.{label_fits}
use Rattle.lent.proofs.standing.label_fits.Goals as goal

pub returns-clause-value : goal.returns-clause-value
unfolding label_fits
returns-clause-value c = rw (
  c.is_level.ensures,
  c.is_level-2.ensures,
  c.is_level-3.ensures,
  c.not_above.ensures,
  c.not_above-2.ensures,
  c.not_above-3.ensures,
  c.not_above-4.ensures,
)
