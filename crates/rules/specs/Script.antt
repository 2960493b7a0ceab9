-- The script: operands, expressions, commands with their numbers, and the table of twenty rows. Assumes nothing.
use Rattle.std.specs.Prelude.{ℕ, ◌%◌, Bool, true, false, cond, List, [], ◌∷◌, get_or, ℤ, eqb, leb, Some}
use Rattle.rules.specs.Level.{Level, public, secret, join}
use Rattle.rules.specs.Number as Number
use Rattle.rules.specs.Tree.{Side, child, sibling}

-- "Kinds: 0 constant (the number, signed), 1 variable (the number is its index), 2 value, 3 children."
pub data Operand : Type 0 where
  constant : ℤ → Operand
  variable : ℕ → Operand
  value children : Operand

-- "1 sum, 2 difference (left minus right), 3 equal, 4 left less than right (each 1 or 0), 5 mean"
pub data Operator : Type 0 where
  sum difference equal less mean : Operator

-- "0 left alone (right side ignored)", or an operator with both sides
pub data Expression : Type 0 where
  alone : Operand → Expression
  both : Operator → Operand → Operand → Expression

-- the commands that work on variables, tree, cursor and board; `output` has its line's reader set, `insert` the sets that a new node's content and list join,
-- `raise`, the paper's cover, the set that the cursor level joins
pub data Action : Type 0 where
  skip : Action
  assign : ℕ → Expression → Action
  output : Level → Expression → Action
  goRoot goParent goLeft goLast : Action
  go : Side → Action
  insert : Side → Level → Level → Expression → Action
  remove : Side → Action
  write : Expression → Action
  raise : Level → Action

-- the commands: an action, or one of the five that say which record comes next; `ifBack` is the if that comes back
pub data Command : Type 0 where
  act : Action → Command
  if while ifBack : Expression → Command
  else end : Command

-- what an operator makes of two numbers, if that is a number
unfoldable pub apply : Operator → ℤ → ℤ → Number.Value
apply sum a b = Number.sum a b
apply difference a b = Number.difference a b
apply equal a b = Some (Number.equal a b)
apply less a b = Some (Number.less a b)
apply mean a b = Some (Number.mean a b)

-- 1, the first party, where the test holds
unfoldable pub secret_if : Bool → Level
secret_if t = cond t secret public

-- "Script byte 5 gives a set to join to a new node's content"; "the old mark still joins 1", if it is odd
unfoldable pub content_set : ℕ → Level → Level
content_set mark p = join p (secret_if (eqb (mark % 2) 1))

-- "and byte 6 one for its list"; the mark joins 1 if it is 2 or 3
unfoldable pub list_set : ℕ → Level → Level
list_set mark q = join q (secret_if (leb 2 mark))

-- "Command 16 joins the set in byte 5 to the cursor level, or 1 where it is zero."
unfoldable pub cover_set : Level → Level
cover_set p = cond (eqb p 0) secret p

-- the commands in the order of their numbers, with a target, the reader set that it is, the sets of bytes 5 and 6, and an expression
unfoldable pub commands : ℕ → Level → Level → Level → Expression → List Command
commands t r p q e =
    act Action.skip  -- 0
    ∷ act (Action.assign t e)  -- 1
    ∷ Command.if e  -- 2
    ∷ Command.else  -- 3
    ∷ Command.while e  -- 4
    ∷ Command.end  -- 5
    ∷ act (Action.output r e)  -- 6
    ∷ act Action.goRoot  -- 7
    ∷ act Action.goParent  -- 8 up
    ∷ act (Action.go child)  -- 9 first child
    ∷ act (Action.go sibling)  -- 10 right sibling
    ∷ act (Action.insert child (content_set t p) (list_set t q) e)  -- 11 new first child
    ∷ act (Action.insert sibling (content_set t p) (list_set t q) e)  -- 12 new right sibling
    ∷ act (Action.remove child)  -- 13 remove first child
    ∷ act (Action.remove sibling)  -- 14 remove right sibling
    ∷ act (Action.write e)  -- 15
    ∷ act (Action.raise (cover_set p))  -- 16 cover
    ∷ Command.ifBack e  -- 17
    ∷ act Action.goLeft  -- 18 left sibling
    ∷ act Action.goLast  -- 19 last child
    ∷ []

-- the number of an action
unfoldable pub action_number : Action → ℕ
action_number Action.skip = 0
action_number (Action.assign t e) = 1
action_number (Action.output r e) = 6
action_number Action.goRoot = 7
action_number Action.goParent = 8
action_number (Action.go child) = 9
action_number (Action.go sibling) = 10
action_number (Action.insert child c l e) = 11
action_number (Action.insert sibling c l e) = 12
action_number (Action.remove child) = 13
action_number (Action.remove sibling) = 14
action_number (Action.write e) = 15
action_number (Action.raise l) = 16
action_number Action.goLeft = 18
action_number Action.goLast = 19

-- the number of a command
unfoldable pub number : Command → ℕ
number (act a) = action_number a
number (Command.if e) = 2
number Command.else = 3
number (Command.while e) = 4
number (Command.ifBack e) = 17
number Command.end = 5

-- a row of the table: whether a command reads its target as a variable's index, its target as a mark, its expression, and from R-12 on its target as a reader set and
-- the sets of bytes 5 and 6
pub record Row : Type 0 where
  pub target : Bool
  pub mark : Bool
  pub expression : Bool
  pub readers : Bool
  pub fifth : Bool
  pub sixth : Bool

-- a row by its six fields
abbrev pub row : Bool → Bool → Bool → Bool → Bool → Bool → Row
row t m e r p q = record { target = t; mark = m; expression = e; readers = r; fifth = p; sixth = q }

-- "One fixed table of seventeen rows", here with three more, "says which fields each command reads; the others are ignored."
unfoldable pub rows : List Row
rows =
    row false false false false false false  -- 0
    ∷ row true false true false false false  -- 1
    ∷ row false false true false false false  -- 2 if
    ∷ row false false false false false false  -- 3 else
    ∷ row false false true false false false  -- 4 while
    ∷ row false false false false false false  -- 5 end
    ∷ row false false true true false false  -- 6
    ∷ row false false false false false false  -- 7 root
    ∷ row false false false false false false  -- 8 up
    ∷ row false false false false false false  -- 9 first child
    ∷ row false false false false false false  -- 10 right sibling
    ∷ row false true true false true true  -- 11 new first child
    ∷ row false true true false true true  -- 12 new right sibling
    ∷ row false false false false false false  -- 13 remove first child
    ∷ row false false false false false false  -- 14 remove right sibling
    ∷ row false false true false false false  -- 15
    ∷ row false false false false true false  -- 16 cover
    ∷ row false false true false false false  -- 17 if that comes back
    ∷ row false false false false false false  -- 18 left sibling
    ∷ row false false false false false false  -- 19 last child
    ∷ []

-- the row of a command's number
abbrev pub row_of : ℕ → Row
row_of k = get_or rows k (row false false false false false false)

-- the record at an index
unfoldable pub fetch : List Command → ℕ → Command
fetch cs i = get_or cs i (act Action.skip)

-- the number of the command at an index
unfoldable pub number_at : List Command → ℕ → ℕ
number_at cs i = number (fetch cs i)
