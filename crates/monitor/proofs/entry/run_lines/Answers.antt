-- What the checks answer decides; its own slices are the largest that they let through. Assumes nothing.
use lib.ListN.{length-replicate}
use Rattle.actions.specs.Shows.{slices}
use Rattle.monitor.proofs.Answered.{lines_back, begun_largest, lines_run}
use Rattle.monitor.proofs.entry.run_lines.Goals as goal

pub run_accepted-requires : goal.run_accepted-requires
run_accepted-requires c = begun_largest _ _ _ _ (slices _ _ _ _) (simp length-replicate) (simp length-replicate) (simp length-replicate) _ c.in-Ok.ensures

pub returns-in-Err : goal.returns-in-Err
returns-in-Err c = lines_back _ _ _ _ _ _ c.in-Err.ensures

pub returns-in-Ok : goal.returns-in-Ok
returns-in-Ok c = lines_run _ _ _ _ (slices _ _ _ _) (simp length-replicate) (simp length-replicate) (simp length-replicate) _
    c.in-Ok.ensures (slices _ _ _ _) _ c.run_accepted.ensures
