use lib.ListN.{get_or}
use Rattle.frames.specs.Answers.{hex_byte}
use Rattle.frames.specs.Pieces.{Writes, first}
use Rattle.frames.proofs.outcome.put_hex.Given as goal

abbrev pub invariant-loop-b : goal.invariant-loop-b
invariant-loop-b l = Writes (first (λ j. hex_byte (get_or l.bytes j 0)) l.b-index) l.initial.out l.out
