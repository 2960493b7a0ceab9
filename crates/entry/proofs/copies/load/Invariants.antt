-- The places before x are those of their records, whose values are of 32 bits. Assumes nothing.
use Rattle.std.proofs.Common.{◌≡◌, ◌<◌, ℕ, get_or, SFits}
use Rattle.std.specs.Int.{w32}
use Rattle.lent.specs.Lent.{blank, loaded}
use Rattle.entry.proofs.copies.load.Given as goal

abbrev pub invariant-loop-x : goal.invariant-loop-x
invariant-loop-x l = (l.words ≡ loaded l.table l.x l.initial.words) × ((k : ℕ) → k < l.x → SFits w32 (get_or l.table k blank).value)
