-- `put_byte` meets its contract: two digits. Assumes nothing.
use Rattle.std.proofs.Common.{◌∙◌}
use Rattle.frames.specs.Pieces.{none, more}
use Rattle.frames.specs.Answers.{hex_byte}
use Rattle.frames.proofs.Putting.{paired}
use Rattle.frames.proofs.outcome.put_byte.Goals as goal

pub returns : goal.returns
unfolding hex_byte
returns c = record {
  same = c.byte-2.ensures.0 ∙ c.byte.ensures.0;
  puts = more (paired _ c.byte.ensures.1 c.byte-2.ensures.1 c.digit.ensures c.digit-2.ensures) none;
}
