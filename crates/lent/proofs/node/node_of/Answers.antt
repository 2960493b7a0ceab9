-- `lent::node_of` meets its contract: each field is read where the cell has it, and a value that fits 32 bits comes out of them as it was. Assumes nothing.
use mathlib.Core.Path.{◌≡◌, ◌∙◌}
use Prim.Native.Nat.{ℕ, ◌+◌, ◌*◌}
use native.Mathlib.Omega.{arith}
use lib.ListN.{get_or}
use mir.Syntax.{w32}
use mir.Facts.{to_z-of_z}
use Rattle.table.specs.Cells.{cell_size, word, cells}
use Rattle.lent.proofs.node.node_of.Goals as goal

pub returns : goal.returns
unfolding cells
returns c = let a = c.args in
    let w : ℕ → ℕ = word a.words.now a.x in
    let start : cell_size * a.x ≡ cell_size * a.x + 0 = omega arith in
    λ i.
    record {
      first = get_or a.words.now (start i) 0;
      right = w 1;
      parent = w 2;
      children = w 5;
      left = w 8;
      last = w 9;
      value = (to_z-of_z {w = w32} (record { sfits = c.signed.type_inv }) ∙ c.signed.ensures) i;
      existence = c.low.ensures i;
      content = c.low-2.ensures i;
      structure = c.low-3.ensures i;
    }
