-- `clean_byte` meets its contract: it is the definition. Assumes nothing.
use mathlib.Core.Path.{sym, ◌∙◌}
use Rattle.rules.specs.Clean.{clean_byte}
use Rattle.cleaner.proofs.spots.clean_byte.Goals as goal

pub returns-then-is_read : goal.returns-then-is_read
unfolding clean_byte
returns-then-is_read c = rw (sym c.is_read.ensures ∙ c.if-is_read.true)

pub returns : goal.returns
unfolding clean_byte
returns c = rw (sym c.is_read.ensures ∙ c.if-is_read.false)
