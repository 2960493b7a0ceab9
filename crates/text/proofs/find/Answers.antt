-- `find` meets its contract: where the character does not stand, it answers the length. Assumes nothing.
use Rattle.std.proofs.Common.{sym, ◌∙◌, arith}
use Rattle.text.proofs.Spelling.{absent}
use Rattle.text.proofs.find.Goals as goal

pub returns-in-None-clause-first : goal.returns-in-None-clause-first
returns-in-None-clause-first c = omega (arith, absent c.args.c c.args.from c.args.text.now c.requires (sym c.in-None.is ∙ c.place.ensures))
