use mathlib.Core.Path.{◌≡◌}
use Prim.Native.Nat.{ℕ, ◌≤◌}
use lib.ListN.{length}
use Rattle.table.specs.Cells.{cells}
use Rattle.table.specs.Holds.{Spare, top, Free, spare_times}
use Rattle.table.specs.Promises.{Behind}
use Rattle.table.proofs.Forgetting.{Going}
use Rattle.table.proofs.since.clear.Given as goal

abbrev pub invariant-loop-left : goal.invariant-loop-left
invariant-loop-left l = (length l.words ≡ length l.initial.words) × (length l.since ≡ length l.initial.since) × Behind l.places (cells l.initial.words) (cells l.words)
    × ((used : ℕ) (s : Spare) → used ≤ l.places → Free (cells l.initial.words) used s → top s ≡ l.x → ((y : ℕ) → spare_times y s ≤ 1)
    → Going l.places used s (cells l.initial.words) (cells l.words) l.initial.since l.since l.next l._left)
