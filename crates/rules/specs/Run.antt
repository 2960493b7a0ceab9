-- One run of a script over variables and a tree. Assumes nothing.
use Rattle.std.specs.Prelude.{ℕ, zero, suc, Bool, true, false, cond, List, [], ◌∷◌, ◌++◌, map, length, get_or, set, ℤ, pos, ltb, None, Some}
use Rattle.std.proofs.Math.Option
use Rattle.std.proofs.Math.Option.{Option, none, some, bind}
use Rattle.rules.specs.Level.{Level, public, join, not_above}
use Rattle.rules.specs.Number.{Value, is_zero}
use Rattle.rules.specs.Tree.{Label, Forest, nil, tree, child, along, Place, root, to, up, left_of, last_of, label, exists, count, size, sub, change, set_value, after_insert, after_remove}
use Rattle.rules.specs.Tree as Tree
use Rattle.rules.specs.Script.{Operand, Expression, alone, both, Action, Command, act, apply, fetch, number_at}
use Rattle.rules.specs.Blocks.{goes_to}
use Rattle.rules.specs.Job.{Variable}

-- a board line: "A line keeps its reader set"
pub record Line : Type 0 where
  pub number : ℤ
  pub readers : Level

-- what a script works on: the variables, the tree, the cursor with its level, and the board's lines so far
pub record Memory : Type 0 where
  pub variables : List Variable
  pub tree : Forest
  pub cursor : Place
  pub level : Level
  pub lines : List Line

-- what an if that comes back remembers: where the working node stands now, nowhere if it was removed meanwhile, and the cursor level
pub record Saved : Type 0 where
  pub place : Option Place
  pub level : Level

-- an open block: its guard's level and, of an if that comes back, what it remembers
pub record Block : Type 0 where
  pub guard : Level
  pub saved : Option Saved

-- a run between two steps: at is the record that comes next, blocks are the open ones, innermost first
pub record State : Type 0 where
  pub memory : Memory
  pub blocks : List Block
  pub at : ℕ
  pub steps : ℕ

-- how many places the caller lends for nodes, variables and board lines
pub record Buffers : Type 0 where
  pub places : ℕ
  pub variables : ℕ
  pub lines : ℕ

-- why a run stops
pub data Stop : Type 0 where
  flow absent tableFull boardFull spent overflow : Stop

-- "Ways a job can end": the number of a stop
unfoldable pub stop_number : Stop → ℕ
stop_number flow = 21
stop_number absent = 22
stop_number tableFull = 23
stop_number boardFull = 24
stop_number spent = 25
stop_number overflow = 27

-- what a step gives: something to go on with, or a stop
pub data Result (A : Type 0) : Type 0 where
  next : A → Result A
  stop : Stop → Result A

-- the rest, or the stop k where the test fails
unfoldable pub need : {A : Type 0} → Stop → Bool → Result A → Result A
need k true r = r
need k false r = stop k

-- "a sum or difference that leaves the range ends the command": the rest with the value of an expression, or the stop 27 where it has none
unfoldable pub given : {A : Type 0} → Value → (ℤ → Result A) → Result A
given (Some z) r = r z
given None r = stop overflow

-- no variable
unfoldable pub no_variable : Variable
no_variable = record { level = public; value = pos 0 }

-- the variable with an index
unfoldable pub variable_at : List Variable → ℕ → Variable
variable_at vs i = get_or vs i no_variable

-- "The context level joins the guards of all open blocks."
unfoldable pub context : List Block → Level
context [] = public
context (b ∷ bs) = join b.guard (context bs)

module _ (m : Memory) where
  -- the working node, with its children and right siblings
  unfoldable pub current : Forest
  current = sub m.cursor m.tree

  -- the value of an operand
  unfoldable pub operand_value : Operand → ℤ
  operand_value (Operand.constant z) = z
  operand_value (Operand.variable i) = (variable_at m.variables i).value
  operand_value Operand.value = (label current).value
  operand_value Operand.children = pos (count (along child current))

  -- "a constant is 0, a variable its level, value the cursor level with the node's content, children the cursor level with its list level"
  unfoldable pub operand_level : Operand → Level
  operand_level (Operand.constant z) = public
  operand_level (Operand.variable i) = (variable_at m.variables i).level
  operand_level Operand.value = join m.level (label current).content
  operand_level Operand.children = join m.level (label current).structure

  -- the value of an expression, if it has one
  unfoldable pub value : Expression → Value
  value (alone a) = Some (operand_value a)
  value (both o a b) = apply o (operand_value a) (operand_value b)

  -- E: "the join over the operands read"
  unfoldable pub level_of : Expression → Level
  level_of (alone a) = operand_level a
  level_of (both o a b) = join (operand_level a) (operand_level b)

  -- the memory with other variables
  unfoldable pub with_variables : List Variable → Memory
  with_variables vs = record { variables = vs; tree = m.tree; cursor = m.cursor; level = m.level; lines = m.lines }

  -- the memory with another tree
  unfoldable pub with_tree : Forest → Memory
  with_tree t = record { variables = m.variables; tree = t; cursor = m.cursor; level = m.level; lines = m.lines }

  -- the memory with the cursor at another place or level
  unfoldable pub with_cursor : Place → Level → Memory
  with_cursor p l = record { variables = m.variables; tree = m.tree; cursor = p; level = l; lines = m.lines }

  -- the memory with one board line more
  unfoldable pub with_line : Line → Memory
  with_line l = record { variables = m.variables; tree = m.tree; cursor = m.cursor; level = m.level; lines = m.lines ++ (l ∷ []) }

-- the actions, in a context of level pc
module _ (pc : Level) (m : Memory) where
  -- C: "context joined with cursor level"
  unfoldable pub position : Level
  position = join pc m.level

  -- L: "E joined with C"
  unfoldable pub flow_of : Expression → Level
  flow_of e = join (level_of m e) position

  -- the same without the cursor level, for what stands at no node: "the cursor level counts only where the expression reads value or children"
  unfoldable pub context_flow : Expression → Level
  context_flow e = join (level_of m e) pc

  -- 1: E joined with the context not above its level, for the variable v of index i
  unfoldable pub assign : ℕ → Variable → Expression → Result Memory
  assign i v e =
      need flow (not_above (context_flow e) v.level)
      (given (value m e) λ z. next (with_variables m (set m.variables i (record { level = v.level; value = z }))))

  -- 6: E joined with the context is contained in the reader set r, then 27, then 24 where the line buffer, of a capacity, is full
  unfoldable pub output : ℕ → Level → Expression → Result Memory
  output capacity r e =
      need flow (not_above (context_flow e) r)
      (given (value m e) λ z. need boardFull (ltb (length m.lines) capacity) (next (with_line m (record { number = z; readers = r }))))

  -- the rule of 7 to 10, 16, 18 and 19: "context not above cursor level"
  unfoldable pub move_to : Place → Level → Result Memory
  move_to p l = need flow (not_above pc m.level) (next (with_cursor m p l))

  -- a move to a node: 22 where it "does not exist"; the cursor level joins the level l, which may be that of the new node
  unfoldable pub go_joining : (Place → Level) → Option Place → Result Memory
  go_joining l none = stop absent
  go_joining l (some p) = need absent (exists (sub p m.tree)) (move_to p (join m.level (l p)))

  -- 8, 9, 10 and 18: "cursor level joins the new node's existence"
  unfoldable pub go_to : Option Place → Result Memory
  go_to q = go_joining (λ p. (label (sub p m.tree)).existence) q

  -- 19: "joins the parent's list level, because a house child may stand last in one run only"
  unfoldable pub go_to_last : Result Memory
  go_to_last = go_joining (λ p. (label (current m)).structure) (last_of m.cursor m.tree)

  -- "C not above .. the existence of" a node, if there is one
  unfoldable pub may_touch : Forest → Bool
  may_touch nil = true
  may_touch (tree l c r) = not_above position l.existence

  -- "content is L", "list is C", each joined with a set
  unfoldable pub new_label : Level → Level → Expression → ℤ → Label
  new_label c l e z = record { value = z; existence = position; content = join (flow_of e) c; structure = join position l }

  -- 11 and 12: a new node at the place p under the parent at q, in a table of places; 22 with no parent, 21, 27, then 23
  unfoldable pub insert_at : ℕ → Place → Option Place → Level → Level → Expression → Result Memory
  insert_at places p none c l e = stop absent
  insert_at places p (some q) c l e =
      need flow (not_above position (label (sub q m.tree)).structure)
      (need flow (may_touch (sub p m.tree))
      (given (value m e) λ z.
      need tableFull (ltb (size m.tree) places) (next (with_tree m (change p (Tree.insert (new_label c l e z)) m.tree)))))

  -- 13 and 14: 22, then "C not above its existence"
  unfoldable pub remove_at : Place → Result Memory
  remove_at p =
      need absent (exists (sub p m.tree))
      (need flow (may_touch (sub p m.tree)) (next (with_tree m (change p Tree.remove m.tree))))

  -- 15: "L not above its content"
  unfoldable pub write : Expression → Result Memory
  write e =
      need flow (not_above (flow_of e) (label (current m)).content)
      (given (value m e) λ z. next (with_tree m (change m.cursor (set_value z) m.tree)))

-- what an action does; 7 sets the cursor level to the context, 16 (cover) joins a set to it
unfoldable pub effect : Buffers → Level → Memory → Action → Result Memory
effect lent pc m Action.skip = next m
effect lent pc m (Action.assign i e) = assign pc m i (variable_at m.variables i) e
effect lent pc m (Action.output r e) = output pc m lent.lines r e
effect lent pc m Action.goRoot = move_to pc m root pc
effect lent pc m Action.goParent = go_to pc m (up m.cursor)
effect lent pc m (Action.go d) = go_to pc m (some (to d m.cursor))
effect lent pc m Action.goLeft = go_to pc m (left_of m.cursor)
effect lent pc m Action.goLast = go_to_last pc m
effect lent pc m (Action.insert d c l e) = insert_at pc m lent.places (to d m.cursor) (up (to d m.cursor)) c l e
effect lent pc m (Action.remove d) = remove_at pc m (to d m.cursor)
effect lent pc m (Action.write e) = write pc m e
effect lent pc m (Action.raise l) = move_to pc m m.cursor (join m.level l)

-- where the node at q stands after an action with the cursor at c
unfoldable pub relocate : Action → Place → Place → Option Place
relocate Action.skip c q = some q
relocate (Action.assign i e) c q = some q
relocate (Action.output r e) c q = some q
relocate Action.goRoot c q = some q
relocate Action.goParent c q = some q
relocate (Action.go d) c q = some q
relocate Action.goLeft c q = some q
relocate Action.goLast c q = some q
relocate (Action.insert d v l e) c q = some (after_insert (to d c) q)
relocate (Action.remove d) c q = after_remove (to d c) q
relocate (Action.write e) c q = some q
relocate (Action.raise l) c q = some q

-- what is remembered, its place relocated
unfoldable pub on_saved : (Place → Option Place) → Saved → Saved
on_saved f r = record { place = bind r.place f; level = r.level }

-- a block, its remembered place relocated
unfoldable pub on_block : (Place → Option Place) → Block → Block
on_block f b = record { guard = b.guard; saved = Option.map (on_saved f) b.saved }

-- the cursor brought back to a remembered place and level: 22 where the node "was removed meanwhile"
unfoldable pub restore : Memory → Option Place → Level → Result Memory
restore m none l = stop absent
restore m (some p) l = next (with_cursor m p l)

-- what the end of a block does to the memory: of an if that comes back, it "brings both back"
unfoldable pub leave : Memory → Option Saved → Result Memory
leave m none = next m
leave m (some r) = restore m r.place r.level

module _ (s : State) where
  -- "Each record carried out is one step": the state after it, at record i
  unfoldable pub stepped : Memory → List Block → ℕ → State
  stepped m bs i = record { memory = m; blocks = bs; at = i; steps = suc s.steps }

  -- with the blocks bs on to record i
  unfoldable pub onward : List Block → ℕ → Result Memory → Result State
  onward bs i (next m) = next (stepped m bs i)
  onward bs i (stop k) = stop k

  -- the open blocks after an action, which may change where their remembered nodes stand
  unfoldable pub relocated : Action → List Block
  relocated a = map (on_block (relocate a s.memory.cursor)) s.blocks

  -- the blocks with one more, which has the guard e: "push E"
  unfoldable pub pushed : Expression → List Block
  pushed e = record { guard = level_of s.memory e; saved = none } ∷ s.blocks

  -- the blocks with one more, which "remembers the working node and the cursor level"
  unfoldable pub saving : Expression → List Block
  saving e =
      record { guard = level_of s.memory e; saved = some (record { place = some s.memory.cursor; level = s.memory.level }) } ∷ s.blocks

  -- the memory in the block: "joins the context, with its guard, to the cursor level"
  unfoldable pub raised : Expression → Memory
  raised e = with_cursor s.memory s.memory.cursor (join s.memory.level (context (saving e)))

  -- 2: "push E; zero goes past else, or to end if none", which is the record j
  unfoldable pub enter_if : ℕ → Expression → ℤ → State
  enter_if j e z = stepped s.memory (pushed e) (cond (is_zero z) j (suc s.at))

  -- 4: "nonzero: push E; zero: go past end, no push", which is the record j
  unfoldable pub enter_while : ℕ → Expression → ℤ → State
  enter_while j e z = stepped s.memory (cond (is_zero z) s.blocks (pushed e)) (cond (is_zero z) j (suc s.at))

  -- 17: an if that comes back
  unfoldable pub enter_back : ℕ → Expression → ℤ → State
  enter_back j e z = stepped (raised e) (saving e) (cond (is_zero z) j (suc s.at))

  -- 5: "pop", and with no block open nothing
  unfoldable pub leave_block : ℕ → List Block → Result State
  leave_block j [] = next (stepped s.memory [] j)
  leave_block j (b ∷ bs) = onward bs j (leave s.memory b.saved)

  -- one record carried out, which jumps to j if it jumps; 3: "when reached, go to end"; 5: "pop; of a while: back to it"
  unfoldable pub carried : Buffers → ℕ → Command → Result State
  carried lent j (act a) = onward (relocated a) (suc s.at) (effect lent (context s.blocks) s.memory a)
  carried lent j (Command.if e) = given (value s.memory e) λ z. next (enter_if j e z)
  carried lent j (Command.while e) = given (value s.memory e) λ z. next (enter_while j e z)
  carried lent j (Command.ifBack e) = given (value s.memory e) λ z. next (enter_back j e z)
  carried lent j Command.else = next (stepped s.memory s.blocks j)
  carried lent j Command.end = leave_block j s.blocks

-- one step: the record that comes next is carried out
unfoldable pub step : Buffers → List Command → State → Result State
step lent cs s = carried s lent (goes_to (number_at cs) (length cs) s.at) (fetch cs s.at)

-- how a run ends
pub data Ending : Type 0 where
  finished : Ending
  stopped : Stop → Ending

-- how a run has ended, and the state that stands then
pub record Ended : Type 0 where
  pub ending : Ending
  pub last : State

-- a run with n steps left of its budget: "At the script's end the run has finished, even with the budget used up. Otherwise, if the steps equal the budget, stop 25."
unfoldable pub run : Buffers → List Command → ℕ → State → Ended
run lent cs zero s = record { ending = cond (ltb s.at (length cs)) (stopped spent) finished; last = s }
run lent cs (suc n) s =
    elim (ltb s.at (length cs)) [
      | false ↦ record { ending = finished; last = s }
      | true ↦ elim (step lent cs s) [ next s' ↦ run lent cs n s' | stop k ↦ record { ending = stopped k; last = s } ]
    ]

-- "The cursor starts at the root with cursor level 0."
unfoldable pub start : List Variable → Forest → State
start vs t =
    record { memory = record { variables = vs; tree = t; cursor = root; level = public; lines = [] }; blocks = []; at = 0; steps = 0 }
