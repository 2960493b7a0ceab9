-- The first places are filled; the others stand behind them. Assumes nothing.
use mathlib.Core.Path.{refl, ◌∙◌}
use Prim.Native.Nat.{◌<◌}
use native.Mathlib.Omega.{arith}
use lib.ListN.{length}
use Rattle.rules.specs.Limits.{max_nodes}
use Rattle.std.proofs.lemmas.List.{get_or_append_left, length-take-le}
use Rattle.lent.proofs.standing.clear.Goals as goal

pub returns : goal.returns
returns c = let first = length-take-le max_nodes c.args.marks.now c.requires in
    λ z lt. let in_first : z < length c.fill.new.self = omega (arith, c.fill.ensures.len, first) in
    get_or_append_left _ _ 0 z in_first ∙ c.fill.ensures.clones z 0 (omega (arith, first)) refl
