-- `numbers::bits` meets its contract: the machine keeps a number as its bits. Assumes nothing.
use mathlib.Core.Path.{sym, ap, ◌∙◌}
use mir.Syntax.{w32}
use mir.Val.{of_z}
use mir.Facts.{to_z-of_z}
use Rattle.rules.proofs.Number.{bits_of_z}
use Rattle.rules.proofs.numbers.bits.Goals as goal

pub returns : goal.returns
returns c = c.cast_unsigned.ensures ∙ ap (of_z w32) (to_z-of_z c.ranges.v) ∙ sym (bits_of_z c.ranges.v)
