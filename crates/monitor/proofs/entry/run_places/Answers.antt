-- What the checks answer decides. Assumes nothing.
use mathlib.Core.Path.{refl, sym, subst}
use Prim.Native.Nat.{◌≤◌}
use Rattle.actions.specs.Shows.{slices}
use Rattle.monitor.proofs.Answered.{turned_back_law, begun, is_run, room_for, counted_so}
use Rattle.monitor.proofs.entry.run_places.Goals as goal

pub run_accepted-requires : goal.run_accepted-requires
run_accepted-requires c = begun _ _ _ _ _ _ (slices _ _ _ _) c.min-room.ensures _ c.in-Ok.ensures (room_for _ _ _ c.asked-held.ensures)

pub returns-in-Err : goal.returns-in-Err
returns-in-Err c = (
  counted_so _ _ c.asked-held.ensures (turned_back_law _ _ _ _ _ _ (slices _ _ _ _) c.min-room.ensures _ c.in-Err.ensures),
  record { same = λ y h. refl },
)

pub returns-in-Ok : goal.returns-in-Ok
returns-in-Ok c = (
  counted_so _ _ c.asked-held.ensures (is_run _ _ _ _ _ _ (slices _ _ _ _) c.min-room.ensures _ c.in-Ok.ensures (slices _ _ _ _) _ c.run_accepted.ensures),
  record { same = λ y h. c.run_accepted.ensures.behind.same y (subst (λ k. k ≤ y) (sym c.asked-held.ensures) h) },
)
