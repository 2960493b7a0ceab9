-- `lent::put` meets its contract: ten stores into a slice that keeps its length. Assumes nothing.
use mathlib.Core.Path.{◌∙◌, ap}
use Prim.Native.Nat.{◌+◌, ◌*◌}
use lib.ListN.{set}
use mir.Syntax.{w32}
use mir.Facts.{to_z-of_z}
use Rattle.rules.specs.Number.{bits}
use Rattle.table.specs.Cells.{cell_size}
use Rattle.lent.specs.Lent.{put_node}
use Rattle.lent.proofs.node.put.Goals as goal

pub returns : goal.returns
unfolding put_node
returns c = let a = c.args in
    let d = a.node in
    let at = cell_size * a.x in
    let value = c.bits-value.ensures ∙ ap bits (to_z-of_z {w = w32} (record { sfits = c.struct_told-1.given.1.1.1.1.1.1.0.1 })) in
    λ i.
    set (set (set (set (set (set (set (set (set (set a.words.now at d.first) (at + 1) d.right) (at + 2) d.parent) (at + 3) (c.from-existence.ensures i))
    (at + 4) (value i)) (at + 5) d.children) (at + 6) (c.from-content.ensures i)) (at + 7) (c.from-structure.ensures i)) (at + 8) d.left) (at + 9) d.last
