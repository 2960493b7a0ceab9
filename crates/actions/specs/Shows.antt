-- How the lent slices and a few numbers show a memory of the rules. Assumes nothing.
use Rattle.std.specs.Prelude.{◌≡◌, ℕ, ◌*◌, ◌%◌, ◌<◌, ◌≤◌, List, length, get_or, take, ℤ, pos}
use Rattle.rules.specs.Limits.{max_nodes}
use Rattle.rules.specs.Job.{Variable}
use Rattle.rules.specs.Run as Run
use Rattle.rules.specs.Run.{variable_at}
use Rattle.table.specs.Cells.{cell_size, cells}
use Rattle.table.specs.Holds.{Holds}
use Rattle.fields.specs.declared.records.Fields.{Fields}
use Rattle.actions.specs.declared.memory.Memory.{Memory}
use Rattle.actions.specs.Board.{spell}

-- the slices that a run works on: the node table's words, the variables' levels and values, the board's bytes
pub record Slices : Type 0 where
  pub words : List ℕ
  pub levels : List ℕ
  pub values : List ℤ
  pub board : List ℕ

abbrev pub slices : List ℕ → List ℕ → List ℤ → List ℕ → Slices
slices w l v b = record { words = w; levels = l; values = v; board = b }

-- the first n levels and values are those of the variables
pub record Variables (levels : List ℕ) (values : List ℤ) (n : ℕ) (vs : List Variable) : Type 0 where
  pub many : length vs ≡ n
  pub level : (i : ℕ) → i < n → (variable_at vs i).level ≡ get_or levels i 0
  pub value : (i : ℕ) → i < n → (variable_at vs i).value ≡ get_or values i (pos 0)

-- the board starts with the bytes of n lines
pub record Lines (board : List ℕ) (n : ℕ) (ls : List Run.Line) : Type 0 where
  pub fits : 5 * n ≤ length board
  pub are : take (5 * n) board ≡ spell ls

-- the cursor's level, the low byte of its word
abbrev pub level_in : Memory → ℕ
level_in m = m.level % 256

-- the slices, of which the table has some places and the variables are a number, show with the numbers m the memory μ
pub record Shows (places vars : ℕ) (x : Slices) (m : Memory) (μ : Run.Memory) : Type 0 where
  pub tree : Holds (cells x.words) places m.used m.free m.cursor μ.tree μ.cursor
  pub level : μ.level ≡ level_in m
  pub variables : Variables x.levels x.values vars μ.variables
  pub lines : Lines x.board m.lines μ.lines

-- what reading at the cursor and among the variables needs
pub record Readable (words levels : List ℕ) (values : List ℤ) (places vars : ℕ) (m : Memory) : Type 0 where
  pub long : cell_size * places ≤ length words
  pub few : places ≤ max_nodes
  pub cursor : m.cursor < places
  pub levelled : vars ≤ length levels
  pub valued : vars ≤ length values

-- an operand is of one of the four kinds, and one that is a variable is there
pub record Named (vars kind number : ℕ) : Type 0 where
  pub known : kind ≤ 3
  pub variable : kind ≡ 1 → number < vars

-- the operands that an expression reads
pub record Reads (vars : ℕ) (f : Fields) : Type 0 where
  pub left : Named vars f.leftkind f.left
  pub right : (f.operator ≡ 0 → ⊥) → Named vars f.rightkind f.right
