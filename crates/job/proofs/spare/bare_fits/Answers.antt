-- `bare_fits` meets its contract: the two words. Assumes nothing.
use native.Mathlib.Omega.{arith}
use borrow.Author.Tests.{lt-ltb, le-ltb}
use Rattle.fields.specs.Fits.{bare_fits}
use Rattle.job.proofs.spare.bare_fits.Goals as goal

pub returns-then-double_at-gt255 : goal.returns-then-double_at-gt255
unfolding bare_fits
returns-then-double_at-gt255 c = rw (← c.double_at.ensures, le-ltb _ 256 c.if-double_at-gt255.true)

pub returns : goal.returns
unfolding bare_fits
returns c = rw (
  ← c.double_at.ensures,
  lt-ltb c.double_at.result 256 (let h = c.if-double_at-gt255.false in omega arith),
  c.double_at-2.ensures,
)
