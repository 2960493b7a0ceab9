-- The paper's twelve trials, those of the if that comes back, of left sibling and last child and of sets of parties, as job bytes with what is to come of them.
-- `trials-hold`, `back-trials-hold`, `move-trials-hold` and `set-trials-hold`, in proofs/, say that the rules give it. Assumes nothing.
use Rattle.std.specs.Prelude.{ℕ, ◌+◌, ◌*◌, length, ℤ, pos, negsuc}
use mathlib.Core.List.{List, [], ◌∷◌, ◌++◌, map, flat_map}
use Rattle.rules.specs.Limits.{variable_size, node_size, record_size, no_parent}
use Rattle.rules.specs.Level.{Level, public, secret}
use Rattle.rules.specs.Tree.{Label, Forest, nil, tree}
use Rattle.rules.specs.Run.{Line, Buffers}
use Rattle.rules.specs.Write.{four, variable, node, trailer}
use Rattle.rules.specs.Outcome.{Outcome, rejected, ran, answer, board_lines, run_job}

-- an operand's bytes: kind and number
pub record Field : Type 0 where
  pub kind : ℕ
  pub number : ℤ

-- a constant
unfoldable pub number : ℤ → Field
number z = record { kind = 0; number = z }

-- a variable
unfoldable pub v : ℕ → Field
v i = record { kind = 1; number = pos i }

-- the working node's value
unfoldable pub value : Field
value = record { kind = 2; number = pos 0 }

-- the working node's number of children
unfoldable pub children : Field
children = record { kind = 3; number = pos 0 }

-- a script record by command, target, operator, the sets of bytes 5 and 6, and operands
unfoldable pub setting : ℕ → ℕ → ℕ → Level → Level → Field → Field → List ℕ
setting command target operator p q l r =
    command ∷ target ∷ operator ∷ l.kind ∷ r.kind ∷ p ∷ q ∷ 0 ∷ (four l.number ++ four r.number)

-- a script record by command, target, operator and operands
unfoldable pub both : ℕ → ℕ → ℕ → Field → Field → List ℕ
both command target operator l r = setting command target operator public public l r

-- a script record with one operand
unfoldable pub one : ℕ → ℕ → Field → List ℕ
one command target l = both command target 0 l (number (pos 0))

-- a script record that reads its command only
unfoldable pub bare : ℕ → List ℕ
bare command = one command 0 (number (pos 0))

-- cover with a set
unfoldable pub cover : Level → List ℕ
cover p = setting 16 0 0 p public (number (pos 0)) (number (pos 0))

-- the bytes of a job's three sections and its trailer
unfoldable pub job : List (List ℕ) → List (List ℕ) → List (List ℕ) → List ℕ
job vs ns cs =
    let nodes = variable_size * length vs in
    let script = nodes + node_size * length ns in
    flat_map (λ r. r) (vs ++ (ns ++ cs)) ++ trailer nodes script (script + record_size * length cs)

-- "Variable 0 is public, 0; variable 1 is house, h."
unfoldable pub pair : ℤ → List (List ℕ)
pair h = variable public (pos 0) ∷ variable secret h ∷ []

-- "Root 10 and child 3, all levels 0."
unfoldable pub usual : ℤ → List (List ℕ) → List ℕ
usual h cs = job (pair h) (node no_parent public public public (pos 10) ∷ node 0 public public public (pos 3) ∷ []) cs

-- "a childless root of list 1"
unfoldable pub childless : List (List ℕ) → List ℕ
childless cs = job (pair (pos 0)) (node no_parent public public secret (pos 10) ∷ []) cs

-- buffers with a number of places
unfoldable pub with_places : ℕ → Buffers
with_places n = record { places = n; variables = 64; lines = 256 }

-- "Budget 100 and ample buffers unless said."
unfoldable pub try : ℤ → List (List ℕ) → Outcome
try h cs = run_job (usual h cs) 100 (with_places 512)

-- what a trial shows: ending, index and steps, the lines, the variables' values, the tree
pub record Shown : Type 0 where
  pub ending : ℕ
  pub index : ℕ
  pub steps : ℕ
  pub lines : List Line
  pub values : List ℤ
  pub tree : Forest

-- a line for a reader set
unfoldable pub line_for : Level → ℤ → Line
line_for readers z = record { number = z; readers = readers }

-- a run that the number k stops at a record, with public lines
unfoldable pub stops : ℕ → ℕ → ℕ → List ℤ → List ℤ → Forest → Shown
stops k index steps lines values t =
    record { ending = k; index = index; steps = steps; lines = map (line_for public) lines; values = values; tree = t }

-- a finished run with public lines
unfoldable pub finishes : ℕ → List ℤ → List ℤ → Forest → Shown
finishes steps lines values t = stops 0 0 steps lines values t

-- a finished run over the usual variables
unfoldable pub ends : ℕ → List Line → Forest → Shown
ends steps lines t = record { ending = 0; index = 0; steps = steps; lines = lines; values = pos 0 ∷ pos 7 ∷ []; tree = t }

-- what an outcome shows
unfoldable pub shown : Outcome → Shown
shown (rejected k i) = stops k i 0 [] [] nil
shown (ran e) =
    let a = answer (ran e) in
    record {
      ending = a.ending;
      index = a.index;
      steps = a.steps;
      lines = board_lines (ran e);
      values = map (λ w. w.value) e.last.memory.variables;
      tree = e.last.memory.tree;
    }

-- a label of three levels and a value
unfoldable pub labelled : Level → Level → Level → ℤ → Label
labelled e c s z = record { value = z; existence = e; content = c; structure = s }

-- a public node with the siblings to its right
unfoldable pub leaf : ℤ → Forest → Forest
leaf z r = tree (labelled public public public z) nil r

-- the root 10 over some children
unfoldable pub over : Forest → Forest
over c = tree (labelled public public public (pos 10)) c nil

-- the tree that the trials start from
unfoldable pub same : Forest
same = over (leaf (pos 3) nil)

-- the values of variables 0 and 1
unfoldable pub values : ℤ → ℤ → List ℤ
values a b = a ∷ b ∷ []

-- a trial: what came, what was to come
pub record Trial : Type 0 where
  pub came : Outcome
  pub due : Shown

-- a trial of an outcome
unfoldable pub trial : Outcome → Shown → Trial
trial c d = record { came = c; due = d }

-- "If v1, remove first child, end."
unfoldable pub guarded : ℕ → List (List ℕ)
guarded command = one 2 0 (v 1) ∷ bare command ∷ bare 5 ∷ []

-- "Cover, if v1, first child, end, root, print value"
unfoldable pub wandering : List (List ℕ)
wandering = bare 16 ∷ (guarded 9 ++ (bare 7 ∷ one 6 0 value ∷ []))

-- "Twelve trials", 4, 6, 8 and 12 in both halves
unfoldable pub trials : List Trial
trials =
    trial (try (pos 0) []) (finishes 0 [] (values (pos 0) (pos 0)) same)  -- 1
    ∷ trial (try (pos 0) (one 6 0 value ∷ [])) (finishes 1 (pos 10 ∷ []) (values (pos 0) (pos 0)) same)  -- 2
    ∷ trial (try (pos 7) (one 1 0 (v 1) ∷ [])) (stops 21 0 0 [] (values (pos 0) (pos 7)) same)  -- 3
    ∷ trial (try (pos 1) (guarded 13)) (stops 21 1 1 [] (values (pos 0) (pos 1)) same)  -- 4, h = 1
    ∷ trial (try (pos 0) (guarded 13)) (finishes 2 [] (values (pos 0) (pos 0)) same)  -- 4, h = 0
    ∷ trial (try (pos 1) (guarded 9)) (stops 21 1 1 [] (values (pos 0) (pos 1)) same)  -- 5
    ∷ trial (try (pos 1) wandering) (finishes 6 (pos 10 ∷ []) (values (pos 0) (pos 1)) same)  -- 6, h = 1
    ∷ trial (try (pos 0) wandering) (finishes 5 (pos 10 ∷ []) (values (pos 0) (pos 0)) same)  -- 6, h = 0
    ∷ trial (try (pos 0) (bare 9 ∷ one 12 0 (number (pos 5)) ∷ bare 8 ∷ one 1 0 children ∷ one 6 0 (v 0) ∷ []))
    (finishes 5 (pos 2 ∷ []) (values (pos 2) (pos 0)) (over (leaf (pos 3) (leaf (pos 5) nil))))  -- 7
    ∷ trial (try (pos 0) (bare 16 ∷ one 11 0 (number (pos 7)) ∷ [])) (stops 21 1 1 [] (values (pos 0) (pos 0)) same)  -- 8
    ∷ trial (run_job (childless (bare 16 ∷ one 11 0 (number (pos 7)) ∷ [])) 100 (with_places 512))
    (finishes 2 [] (values (pos 0) (pos 0))
    (tree (labelled public public secret (pos 10)) (tree (labelled secret secret secret (pos 7)) nil nil) nil))  -- 8, root of list 1
    ∷ trial (run_job (usual (pos 0) (one 4 0 (number (pos 1)) ∷ bare 5 ∷ [])) 10 (with_places 512)) (stops 25 0 10 [] (values (pos 0) (pos 0)) same)  -- 9
    ∷ trial (run_job (usual (pos 0) (bare 13 ∷ one 11 0 (number (pos 4)) ∷ [])) 100 (with_places 2))
    (finishes 2 [] (values (pos 0) (pos 0)) (over (leaf (pos 4) nil)))  -- 10
    ∷ trial (run_job (usual (pos 0) (one 6 0 value ∷ one 6 0 value ∷ [])) 1 (with_places 512))
    (stops 25 1 1 (pos 10 ∷ []) (values (pos 0) (pos 0)) same)  -- 11
    ∷ trial (try (pos 0) (both 6 0 5 (number (negsuc 2)) (number (pos 0)) ∷ [])) (finishes 1 (negsuc 1 ∷ []) (values (pos 0) (pos 0)) same)  -- 12, mean of -3 and 0
    ∷ trial (try (pos 0) (both 6 0 1 (number (pos 2147483647)) (number (pos 1)) ∷ []))
    (stops 27 0 0 [] (values (pos 0) (pos 0)) same)  -- 12, 2147483647 plus 1
    ∷ []

-- an if that comes back, with a guard, over some records
unfoldable pub returning : Field → List (List ℕ) → List (List ℕ)
returning g cs = one 17 0 g ∷ (cs ++ (bare 5 ∷ []))

-- from the first child: up, then some records, in an if that comes back
unfoldable pub from_child : List (List ℕ) → List (List ℕ)
from_child cs = bare 9 ∷ returning (number (pos 1)) (bare 8 ∷ cs)

-- the if that comes back
unfoldable pub back_trials : List Trial
back_trials =
    -- under a house guard, to the neighbour and back; with the guard zero, from behind the else
    trial (try (pos 1) (returning (v 1) (bare 9 ∷ []) ++ (one 6 0 value ∷ []))) (finishes 4 (pos 10 ∷ []) (values (pos 0) (pos 1)) same)
    ∷ trial (try (pos 0) (returning (v 1) (bare 9 ∷ bare 3 ∷ bare 16 ∷ []) ++ (one 6 0 value ∷ []))) (finishes 4 (pos 10 ∷ []) (values (pos 0) (pos 0)) same)
    -- to a node that moved among its siblings meanwhile
    ∷ trial (try (pos 0) (from_child (one 11 0 (number (pos 5)) ∷ []) ++ (one 6 0 value ∷ [])))
    (finishes 6 (pos 3 ∷ []) (values (pos 0) (pos 0)) (over (leaf (pos 5) (leaf (pos 3) nil))))
    -- to a node that was removed meanwhile, also where another stands in its place, or that an ancestor of it took along
    ∷ trial (try (pos 0) (from_child (bare 13 ∷ []))) (stops 22 4 4 [] (values (pos 0) (pos 0)) (over nil))
    ∷ trial (try (pos 0) (from_child (bare 13 ∷ one 11 0 (number (pos 5)) ∷ []))) (stops 22 5 5 [] (values (pos 0) (pos 0)) (over (leaf (pos 5) nil)))
    ∷ trial (try (pos 0) (bare 9 ∷ one 11 0 (number (pos 4)) ∷ bare 9 ∷ returning (number (pos 1)) (bare 7 ∷ bare 13 ∷ [])))
    (stops 22 6 6 [] (values (pos 0) (pos 0)) (over nil))
    -- one in another; one in a while; a guard that has no value
    ∷ trial (try (pos 1) (returning (number (pos 1)) (bare 9 ∷ (returning (v 1) (bare 8 ∷ []) ++ (one 6 0 value ∷ []))) ++ (one 6 0 value ∷ [])))
    (finishes 8 (pos 3 ∷ pos 10 ∷ []) (values (pos 0) (pos 1)) same)
    ∷ trial
    (try (pos 1)
    (both 4 0 4 (v 0) (number (pos 2))
    ∷ (returning (v 1) (bare 9 ∷ []) ++ (both 1 0 1 (v 0) (number (pos 1)) ∷ bare 5 ∷ one 6 0 value ∷ []))))
    (finishes 14 (pos 10 ∷ []) (values (pos 2) (pos 1)) same)
    ∷ trial (try (pos 0) (both 17 0 1 (number (pos 2147483647)) (number (pos 1)) ∷ bare 5 ∷ [])) (stops 27 0 0 [] (values (pos 0) (pos 0)) same)
    ∷ []

-- first child, new right sibling 5, then some records
unfoldable pub beside_new : List (List ℕ) → List (List ℕ)
beside_new cs = bare 9 ∷ one 12 0 (number (pos 5)) ∷ cs

-- a root of list 1 over two public children of list 1
unfoldable pub uncounted : List (List ℕ) → List ℕ
uncounted cs =
    job (pair (pos 0))
    (node no_parent public public secret (pos 10) ∷ node 0 public public secret (pos 3) ∷ node 0 public public secret (pos 5) ∷ []) cs

-- the tree of that job
unfoldable pub uncounted_tree : Forest
uncounted_tree =
    tree (labelled public public secret (pos 10))
    (tree (labelled public public secret (pos 3)) nil (tree (labelled public public secret (pos 5)) nil nil)) nil

-- left sibling and last child
unfoldable pub move_trials : List Trial
move_trials =
    -- right sibling and left sibling; up and last child
    trial (try (pos 0) (beside_new (bare 10 ∷ bare 18 ∷ one 6 0 value ∷ [])))
    (finishes 5 (pos 3 ∷ []) (values (pos 0) (pos 0)) (over (leaf (pos 3) (leaf (pos 5) nil))))
    ∷ trial (try (pos 0) (beside_new (bare 8 ∷ bare 19 ∷ one 6 0 value ∷ [])))
    (finishes 5 (pos 5 ∷ []) (values (pos 0) (pos 0)) (over (leaf (pos 3) (leaf (pos 5) nil))))
    -- left of the root, left of the first child, last child of a childless node
    ∷ trial (try (pos 0) (bare 18 ∷ [])) (stops 22 0 0 [] (values (pos 0) (pos 0)) same)
    ∷ trial (try (pos 0) (bare 9 ∷ bare 18 ∷ [])) (stops 22 1 1 [] (values (pos 0) (pos 0)) same)
    ∷ trial (try (pos 0) (bare 9 ∷ bare 19 ∷ [])) (stops 22 1 1 [] (values (pos 0) (pos 0)) same)
    -- under a house guard: 21 where the node exists, 22 where it does not
    ∷ trial (try (pos 1) (beside_new (bare 10 ∷ guarded 18))) (stops 21 4 4 [] (values (pos 0) (pos 1)) (over (leaf (pos 3) (leaf (pos 5) nil))))
    ∷ trial (try (pos 1) (guarded 18)) (stops 22 1 1 [] (values (pos 0) (pos 1)) same)
    ∷ trial (try (pos 1) (guarded 19)) (stops 21 1 1 [] (values (pos 0) (pos 1)) same)
    ∷ trial (try (pos 1) (bare 9 ∷ guarded 19)) (stops 22 2 2 [] (values (pos 0) (pos 1)) same)
    -- left sibling joins the existence of the node moved to, last child the list level of the node that it leaves
    ∷ trial (run_job (uncounted (bare 9 ∷ bare 10 ∷ bare 18 ∷ one 6 0 value ∷ [])) 100 (with_places 512))
    (finishes 4 (pos 3 ∷ []) (values (pos 0) (pos 0)) uncounted_tree)
    ∷ trial (run_job (uncounted (bare 19 ∷ one 6 0 value ∷ [])) 100 (with_places 512)) (stops 21 1 1 [] (values (pos 0) (pos 0)) uncounted_tree)
    ∷ []

-- sets of parties; variable 1 is the first party's, 7
unfoldable pub set_trials : List Trial
set_trials =
    -- a line for the first party, for all eight, and for the second, which does not own it
    trial (try (pos 7) (one 6 1 (v 1) ∷ one 6 255 (v 1) ∷ [])) (ends 2 (line_for 1 (pos 7) ∷ line_for 255 (pos 7) ∷ []) same)
    ∷ trial (try (pos 7) (one 6 2 (v 1) ∷ [])) (stops 21 0 0 [] (values (pos 0) (pos 7)) same)
    -- cover by two parties, then by none, which is the first
    ∷ trial (try (pos 7) (cover 6 ∷ one 6 6 value ∷ one 6 0 (v 0) ∷ [])) (ends 3 (line_for 6 (pos 10) ∷ line_for 0 (pos 0) ∷ []) same)
    ∷ trial (try (pos 7) (cover 6 ∷ cover 0 ∷ one 6 6 value ∷ [])) (stops 21 2 2 [] (values (pos 0) (pos 7)) same)
    ∷ trial (try (pos 7) (cover 6 ∷ cover 0 ∷ one 6 7 value ∷ [])) (ends 3 (line_for 7 (pos 10) ∷ []) same)
    -- a new node's content joins byte 5, its list byte 6, and the mark joins 1 to both
    ∷ trial (try (pos 7) (setting 11 0 0 4 8 (number (pos 5)) (number (pos 0)) ∷ []))
    (ends 1 [] (over (tree (labelled 0 4 8 (pos 5)) nil (leaf (pos 3) nil))))
    ∷ trial (try (pos 7) (bare 9 ∷ setting 12 3 0 4 8 (number (pos 5)) (number (pos 0)) ∷ []))
    (ends 2 [] (over (leaf (pos 3) (tree (labelled 0 5 9 (pos 5)) nil nil))))
    -- an existence that is neither above nor below: a node of the first party beside one of the second, under a parent whose list both may know
    ∷ trial
    (run_job (job (pair (pos 7)) (node no_parent public public 3 (pos 10) ∷ node 0 2 2 2 (pos 3) ∷ []) (bare 16 ∷ one 11 0 (number (pos 5)) ∷ [])) 100 (with_places 512))
    (stops 21 1 1 [] (values (pos 0) (pos 7)) (tree (labelled 0 0 3 (pos 10)) (tree (labelled 2 2 2 (pos 3)) nil nil) nil))
    -- the rule of siblings, in the checks: the same two nodes in a job
    ∷ trial (run_job (job (pair (pos 7)) (node no_parent public public 3 (pos 10) ∷ node 0 1 1 1 (pos 3) ∷ node 0 2 2 2 (pos 4) ∷ []) []) 100 (with_places 512))
    (stops 6 2 0 [] [] nil)
    ∷ []
