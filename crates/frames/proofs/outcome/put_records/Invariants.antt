use Rattle.frames.specs.Answers.{record_rows}
use Rattle.frames.specs.Pieces.{Writes}
use Rattle.frames.proofs.outcome.put_records.Given as goal

abbrev pub invariant-loop-x : goal.invariant-loop-x
invariant-loop-x l = Writes (record_rows l.words l.x) l.initial.out l.out
