-- A lent table: a slice of node records, one to a place, each of which says what the cell of its place says. Assumes nothing.
use Rattle.std.specs.Prelude.{List, ℕ, zero, suc, ◌+◌, ◌*◌, ◌%◌, get_or, set, pos}
use Rattle.rules.specs.Number.{bits}
use Rattle.lent.specs.declared.node.Node.{Node}
use Rattle.table.specs.Cells.{Cell, Table, cell_size, cells}

-- the record of a cell, which has a byte for each level; and the cell of a record
abbrev pub node_of : Cell → Node
node_of a =
    record {
      first = a.first;
      right = a.right;
      parent = a.parent;
      children = a.children;
      left = a.left;
      last = a.last;
      value = a.label.value;
      existence = a.label.existence % 256;
      content = a.label.content % 256;
      structure = a.label.structure % 256;
    }

abbrev pub cell_of : Node → Cell
cell_of d =
    record {
      first = d.first;
      right = d.right;
      parent = d.parent;
      left = d.left;
      last = d.last;
      children = d.children;
      label = record { value = d.value; existence = d.existence; content = d.content; structure = d.structure };
    }

-- the record of no numbers
abbrev pub blank : Node
blank = record { first = 0; right = 0; parent = 0; children = 0; left = 0; last = 0; value = pos 0; existence = 0; content = 0; structure = 0 }

-- the table that records spell
unfoldable pub nodes_table : List Node → Table
nodes_table ns x = cell_of (get_or ns x blank)

-- the first n records become those of the first n places of the words; the others stay
abbrev pub stored : List ℕ → ℕ → List Node → List Node
stored ws zero ns = ns
stored ws (suc n) ns = set (stored ws n ns) n (node_of (cells ws n))

-- words with those of place x those of a record
unfoldable pub put_node : List ℕ → ℕ → Node → List ℕ
put_node ws x d =
    set (set (set (set (set (set (set (set (set (set ws (cell_size * x) d.first) (cell_size * x + 1) d.right) (cell_size * x + 2) d.parent)
    (cell_size * x + 3) d.existence) (cell_size * x + 4) (bits d.value)) (cell_size * x + 5) d.children) (cell_size * x + 6) d.content)
    (cell_size * x + 7) d.structure) (cell_size * x + 8) d.left) (cell_size * x + 9) d.last

-- the first n places become those of the first n records; the others stay
abbrev pub loaded : List Node → ℕ → List ℕ → List ℕ
loaded ns zero ws = ws
loaded ns (suc n) ws = put_node (loaded ns n ws) n (get_or ns n blank)
