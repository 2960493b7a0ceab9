-- What a reader sees of variables and trees, agreement on it, and the statement of demand 3. Assumes nothing.
use Rattle.std.specs.Prelude.{◌≡◌, ◌⊎◌, ℕ, cond, ℤ}
use mathlib.Core.List.{List, [], ◌∷◌, map, IsPrefix}
use Rattle.std.proofs.Math.Option.{Option, none, some}
use Rattle.rules.specs.Level.{Level, visible}
use Rattle.rules.specs.Tree.{Label, Forest, nil, tree, Place, sub}
use Rattle.rules.specs.Check.{accepted, check_bytes}
use Rattle.rules.specs.Job.{Variable, variables, job_tree, script}
use Rattle.rules.specs.Run.{Line, State, Buffers, finished}
use Rattle.rules.specs.Outcome.{Outcome, ran, run_job, board_lines}

-- one list is the beginning of the other
abbrev pub Comparable : {A : Type 0} → List A → List A → Type 0
Comparable xs ys = IsPrefix xs ys ⊎ IsPrefix ys xs

-- a job is run and finishes, in the state s
abbrev pub Finishes : Outcome → State → Type 0
Finishes w s = w ≡ ran (record { ending = finished; last = s })

-- what a reader sees of a variable: its level, and its value where the level is visible
pub record SeenVariable : Type 0 where
  pub level : Level
  pub value : Option ℤ

-- what a reader sees of a node: "its three levels, and its value where content is" visible
pub record SeenNode : Type 0 where
  pub existence : Level
  pub content : Level
  pub structure : Level
  pub value : Option ℤ

module _ (o : Level) where
  -- a value that the reader o sees where its level is visible
  unfoldable pub seen_value : Level → ℤ → Option ℤ
  seen_value l z = cond (visible o l) (some z) none

  -- what the reader o sees of a variable
  unfoldable pub seen_variable : Variable → SeenVariable
  seen_variable v = record { level = v.level; value = seen_value v.level v.value }

  -- what the reader o sees of a node
  unfoldable pub seen_label : Label → SeenNode
  seen_label l =
      record { existence = l.existence; content = l.content; structure = l.structure; value = seen_value l.content l.value }

  -- what the reader o sees of the first node: nothing where there is none, or its existence is not visible
  unfoldable pub seen_node : Forest → Option SeenNode
  seen_node nil = none
  seen_node (tree l c r) = cond (visible o l.existence) (some (seen_label l)) none

  -- "the number and levels of all variables, the values of" visible ones are equal
  unfoldable pub AgreeVariables : List Variable → List Variable → Type 0
  AgreeVariables vs ws = map seen_variable vs ≡ map seen_variable ws

  -- "matched by the sibling places on the way from the root": at each place both show the same node, or neither shows one
  unfoldable pub AgreeTrees : Forest → Forest → Type 0
  AgreeTrees t u = (p : Place) → seen_node (sub p t) ≡ seen_node (sub p u)

  -- "Two jobs or states agree on their public parts where all of these are equal"
  pub record Agree (vs ws : List Variable) (t u : Forest) : Type 0 where
    pub variables : AgreeVariables vs ws
    pub trees : AgreeTrees t u

  -- two jobs with the same script ("alike in command and in every field that is read", which are those that a decoded script holds) that agree on what o sees
  pub record Alike (a b : List ℕ) : Type 0 where
    pub script : script a ≡ script b
    pub parts : Agree (variables a) (variables b) (job_tree a) (job_tree b)

  -- "A reader sees the lines whose set lies within their own"
  unfoldable pub seen_lines : List Line → List Line
  seen_lines [] = []
  seen_lines (l ∷ ls) = cond (visible o l.readers) (l ∷ seen_lines ls) (seen_lines ls)

  -- what two states show the reader o in the end: "the lines" that o sees "are equal and the last variables and trees agree on their public parts"
  pub record Same (s t : State) : Type 0 where
    pub lines : seen_lines s.memory.lines ≡ seen_lines t.memory.lines
    pub parts : Agree s.memory.variables t.memory.variables s.memory.tree t.memory.tree

  -- two outcomes: what o sees of "the board lines of one run" is "the beginning of the other's; if both finish," the last states are the same. A job that is turned
  -- back has no lines
  pub record Indistinguishable (w x : Outcome) : Type 0 where
    pub lines : Comparable (seen_lines (board_lines w)) (seen_lines (board_lines x))
    pub finish : (s t : State) → Finishes w s → Finishes x t → Same s t

  -- demand 3: "Any two accepted jobs with the same script that agree on their public parts, whatever their house values and house nodes, budgets, buffers"; accepted is what the checks 1 to 8 say, and a call that 9 or 10 turns back counts too
  unfoldable pub Noninterference : Type 0
  Noninterference =
      (a b : List ℕ) (n m : ℕ) (lent lent' : Buffers) → check_bytes a ≡ accepted → check_bytes b ≡ accepted → Alike a b
      → Indistinguishable (run_job a n lent) (run_job b m lent')

-- demand 3: "The secrecy rule is proved once over the reader's set, for lines, variables and nodes alike"
unfoldable pub Demand3 : Type 0
Demand3 = (o : Level) → Noninterference o
