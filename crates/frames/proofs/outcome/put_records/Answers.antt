-- `put_records` meets its contract: each turn puts the next record. Assumes nothing.
use Rattle.std.proofs.Common.{refl}
use Rattle.frames.specs.Pieces.{none, first}
use Rattle.frames.specs.Answers.{record_rows}
use Rattle.frames.proofs.Putting.{onward}
use Rattle.frames.proofs.outcome.put_records.Goals as goal

pub loop-x-init : goal.loop-x-init
unfolding record_rows first
loop-x-init c = record { same = refl; puts = none }

pub loop-x-preserved : goal.loop-x-preserved
unfolding record_rows
loop-x-preserved c = onward _ _ c.loop-x.invariant c.put_record.ensures
