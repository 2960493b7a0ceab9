-- `numbers::signed` meets its contract: the machine reads 32 bits so. Assumes nothing.
use mathlib.Core.Path.{sym, ◌∙◌}
use mir.Syntax.{w32}
use mir.Facts.{to_z-of_z}
use Rattle.rules.proofs.Number.{signed_to_z}
use Rattle.rules.proofs.numbers.signed.Goals as goal

pub returns : goal.returns
returns c = to_z-of_z {w = w32} (record { sfits = c.cast_signed.type_inv }) ∙ c.cast_signed.ensures ∙ sym (signed_to_z c.args.w)
