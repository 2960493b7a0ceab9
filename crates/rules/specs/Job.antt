-- What the bytes of an accepted job hold: variables, tree and script. Assumes nothing.
use Rattle.std.specs.Prelude.{ℕ, zero, suc, ◌+◌, ◌-◌, ◌%◌, Bool, true, false, ◌&&◌, cond, List, [], ◌∷◌, get_or, eqb, ℤ}
use Rattle.rules.specs.Level.{Level, public, is_level}
use Rattle.rules.specs.Number.{signed}
use Rattle.rules.specs.Tree.{Label, Forest, nil, tree}
use Rattle.rules.specs.Script.{Operand, Operator, Expression, alone, both, Command, act, Action, commands}
use Rattle.rules.specs.Bytes.{byte, full, nodes_at, script_at, variable_count, node_count, record_count, variable_place, node_place, record_place}
use Rattle.rules.specs.Check.{parent, existence, content, structure}

-- "A variable has a fixed level and a signed 32-bit value."
pub record Variable : Type 0 where
  pub level : Level
  pub value : ℤ

-- the levels of variables are levels
unfoldable pub all_levels : List Variable → Bool
all_levels [] = true
all_levels (v ∷ vs) = is_level v.level && all_levels vs

-- f i, f (i + 1), .., n of them
unfoldable pub listed {ℓ} : {A : Type ℓ} → (ℕ → A) → ℕ → ℕ → List A
listed f zero i = []
listed f (suc n) i = f i ∷ listed f n (suc i)

-- the variable whose record stands at a place: "byte 0 level, 1 to 3 ignored, 4 to 7 value"
unfoldable pub variable_of : List ℕ → ℕ → Variable
variable_of b at = record { level = byte b at; value = signed (full b (at + 4)) }

-- the variables of a job
unfoldable pub variables : List ℕ → List Variable
variables b = listed (λ i. variable_of b (variable_place i)) (variable_count b) 0

module _ (b : List ℕ) (base : ℕ) where
  -- the label of node i: "2 existence, 3 content, 4 list, 5 to 7 ignored, 8 to 11 value"
  unfoldable pub label_of : ℕ → Label
  label_of i =
      record { value = signed (full b (node_place base i + 8)); existence = existence b base i; content = content b base i; structure = structure b base i }

  -- of the n nodes from i on, those with parent p in record order, each with its children, which come after it
  unfoldable pub children_of : ℕ → ℕ → ℕ → Forest
  children_of p zero i = nil
  children_of p (suc n) i =
      elim (eqb (parent b base i) p) [ true ↦ tree (label_of i) (children_of i n (suc i)) (children_of p n (suc i)) | false ↦ children_of p n (suc i) ]

  -- the tree of n nodes: "siblings stand left to right in record order"
  unfoldable pub tree_of : ℕ → Forest
  tree_of n = tree (label_of 0) (children_of 0 (n - 1) 1) nil

-- the tree of a job
unfoldable pub job_tree : List ℕ → Forest
job_tree b = tree_of b (nodes_at b) (node_count b)

-- an operand by its kind and its number
unfoldable pub operand : ℕ → ℕ → Operand
operand kind n = get_or (Operand.constant (signed n) ∷ Operand.variable n ∷ Operand.value ∷ []) kind Operand.children

-- an expression by its operator and its two sides
unfoldable pub expression : ℕ → Operand → Operand → Expression
expression o l r =
    get_or (alone l ∷ both Operator.sum l r ∷ both Operator.difference l r ∷ both Operator.equal l r ∷ both Operator.less l r ∷ []) o (both Operator.mean l r)

-- the expression of the record at a place: "2 operator, 3 left kind, 4 right kind, .. 8 to 11 left number, 12 to 15 right number"
unfoldable pub expression_of : List ℕ → ℕ → Expression
expression_of b at = expression (byte b (at + 2)) (operand (byte b (at + 3)) (full b (at + 8))) (operand (byte b (at + 4)) (full b (at + 12)))

-- where records hold sets, as they do from R-12 on, or do not
module _ (sets : Bool) where
  -- the set that the byte at a place holds, public where there is none; a set has eight parties, so that of a byte it is the byte itself
  unfoldable pub set_at : List ℕ → ℕ → Level
  set_at b at = cond sets (byte b at % 256) public

  -- the command of the record at a place: "0 command, 1 target", which may be a set, and the sets of bytes 5 and 6
  unfoldable pub command_by : List ℕ → ℕ → Command
  command_by b at =
      get_or (commands (byte b (at + 1)) (set_at b (at + 1)) (set_at b (at + 5)) (set_at b (at + 6)) (expression_of b at)) (byte b at) (act Action.skip)

  -- the n script records of a section that starts at base
  unfoldable pub script_from : List ℕ → ℕ → ℕ → List Command
  script_from b base n = listed (λ i. command_by b (record_place base i)) n 0

  -- the script of a job
  unfoldable pub script_by : List ℕ → List Command
  script_by b = script_from b (script_at b) (record_count b)

-- today: a command
abbrev pub command_of : List ℕ → ℕ → Command
command_of b at = command_by true b at

-- a section's script
abbrev pub script_of : List ℕ → ℕ → ℕ → List Command
script_of b base n = script_from true b base n

-- a job's script
abbrev pub script : List ℕ → List Command
script b = script_by true b
