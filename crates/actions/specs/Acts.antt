-- What the monitor's functions promise: for every memory that the slices show, what the rules give. Assumes nothing.
use Rattle.std.specs.Prelude.{◌≡◌, Bool, cond, ◌&&◌, ℕ, suc, ◌-◌, ◌*◌, ◌<◌, ◌≤◌, List, map, length, get_or, drop, ℤ, pos, IfSome}
use Rattle.std.proofs.Math.Option.{Option, some}
use Rattle.rules.specs.Number.{Fits, fitting, bits}
use Rattle.rules.specs.Level.{join, not_above}
use Rattle.rules.specs.Tree.{Forest, Place, Side, root, to, up, sub, label, child, sibling, after_insert, after_remove}
use Rattle.rules.specs.Script.{Operand, Expression}
use Rattle.rules.specs.Run as Run
use Rattle.rules.specs.Job.{expression}
use Rattle.rules.specs.Run.{State, Result, next, on_block, onward, stop, stop_number, operand_value, operand_level, value, level_of, position, may_touch, insert_at, move_to, go_to}
use Rattle.table.specs.Cells.{cells}
use Rattle.table.specs.Holds.{Holds}
use Rattle.table.specs.Promises.{Leads, Behind}
use Rattle.table.specs.declared.Taken.{Taken}
use Rattle.table.specs.declared.shape.NewNode.{NewNode}
use Rattle.actions.specs.declared.memory.Memory.{Memory}
use Rattle.actions.specs.declared.evaluate.Valued.{Valued}
use Rattle.actions.specs.declared.evaluate.Found.{Found}
use Rattle.actions.specs.declared.control.Running.{Running}
use Rattle.actions.specs.declared.control.Stepped.{Stepped}
use Rattle.actions.specs.Shows.{Slices, slices, Shows, level_in}
use Rattle.actions.specs.Stands.{Stands, stepped, with_memory, went}

-- r is the operand's value and level
pub record Operates (words levels : List ℕ) (values : List ℤ) (places vars : ℕ) (m : Memory) (a : Operand) (r : Found) : Type 0 where
  pub fits : Fits r.value
  pub value : (b : List ℕ) (μ : Run.Memory) → Shows places vars (slices words levels values b) m μ → operand_value μ a ≡ r.value
  pub level : (b : List ℕ) (μ : Run.Memory) → Shows places vars (slices words levels values b) m μ → operand_level μ a ≡ r.level

-- r is the exact result of what the operator of a number above 0 makes of two values
pub record Applies (operator : ℕ) (a b r : ℤ) : Type 0 where
  pub is : (x y : Operand) (μ : Run.Memory) → operand_value μ x ≡ a → operand_value μ y ≡ b → value μ (expression operator x y) ≡ fitting r

-- r is the expression's value, if it has one, and its level
pub record Evaluates (words levels : List ℕ) (values : List ℤ) (places vars : ℕ) (m : Memory) (e : Expression) (r : Valued) : Type 0 where
  pub fits : IfSome r.value Fits
  pub value : (b : List ℕ) (μ : Run.Memory) → Shows places vars (slices words levels values b) m μ → value μ e ≡ r.value
  pub level : (b : List ℕ) (μ : Run.Memory) → Shows places vars (slices words levels values b) m μ → level_of μ e ≡ r.level

-- the number k and what comes after it are as a result of the rules says: 0 and what it goes on with, or the stop's number and what was before
abbrev pub Follows : {A : Type 0} → (A → Type 0) → ℕ → A → Result A → Type 0
Follows P k a (next a') = (k ≡ 0) × P a'
Follows P k a (stop j) = (k ≡ stop_number j) × P a

-- a record, so that the result can be read off
pub record Does {A : Type 0} (P : A → Type 0) (k : ℕ) (a : A) (x : Result A) : Type 0 where
  pub does : Follows P k a x

-- what no action touches: cells beyond the places, values beyond the variables, the board's bytes behind the last line
pub record Kept (places vars : ℕ) (x x' : Slices) (n n' : ℕ) : Type 0 where
  pub grown : n ≤ n'
  pub cells : Behind places (cells x.words) (cells x'.words)
  pub values : (j : ℕ) → vars ≤ j → get_or x'.values j (pos 0) ≡ get_or x.values j (pos 0)
  pub board : drop (5 * n') x'.board ≡ drop (5 * n') x.board

-- where the node at q stands after an action with the cursor at c: that moves none; that inserts or removes one on a side of the cursor's
abbrev pub keep : Place → Place → Option Place
keep c q = some q

abbrev pub shifted : Side → Place → Place → Option Place
shifted side c q = some (after_insert (to side c) q)

abbrev pub closed_up : Side → Place → Place → Option Place
closed_up side c q = after_remove (to side c) q

-- the marks stay, or one list of them becomes another
abbrev pub Same : List ℕ → List ℕ → Type 0
Same k k' = k' ≡ k

abbrev pub Becomes : List ℕ → List ℕ → List ℕ → List ℕ → Type 0
Becomes j j' k k' = (k ≡ j) × (k' ≡ j')

-- an action that moves nodes: from the slices x, the marks k and the running record r to x', k' and the answer a, as the rules' action does with the memory
pub record Acting (move : Place → Place → Option Place) (marks : List ℕ → List ℕ → Type 0) (places vars : ℕ) (x x' : Slices) (r : Running) (a : Stepped)
    (action : Run.Memory → Result Run.Memory) : Type 0 where
  pub cursor : a.running.memory.cursor < places
  pub room : 5 * r.memory.lines ≤ length x.board → 5 * a.running.memory.lines ≤ length x'.board
  pub kept : Kept places vars x x' r.memory.lines a.running.memory.lines
  pub within : (n : ℕ) → r.at < n → a.running.at ≤ n
  pub counted : a.stop ≡ 0 → a.running.left ≡ r.left - 1
  pub uncounted : (a.stop ≡ 0 → ⊥) → a.running.left ≡ r.left
  pub acts : (k k' : List ℕ) → marks k k' → (s : State) → Stands places vars x k r s
      → Does (Stands places vars x' k' a.running) a.stop s
      (onward s (map (on_block (move s.memory.cursor)) s.blocks) (suc s.at) (action s.memory))

-- an action that moves none and leaves the marks
abbrev pub Acts : (places vars : ℕ) (x x' : Slices) (r : Running) (a : Stepped) (action : Run.Memory → Result Run.Memory) → Type 0
Acts = Acting keep Same

-- the memory with the cursor at another place or level
abbrev pub with_cursor : Memory → ℕ → ℕ → Memory
with_cursor m place level = record { cursor = place; level = level; lines = m.lines; free = m.free; used = m.used }

-- the memory with other places that lead to the free ones
abbrev pub with_space : Memory → ℕ → ℕ → Memory
with_space m free used = record { cursor = m.cursor; level = m.level; lines = m.lines; free = free; used = used }

-- the cursor at another place or level, or 21 where the context pc is above its level
unfoldable pub moved_to : ℕ → Running → ℕ → ℕ → Stepped
moved_to pc r place level = cond (not_above pc (level_in r.memory)) (went r (with_cursor r.memory place level)) (stepped 21 r)

-- the move of a command's number: 7 root, 8 up, 9 first child, 10 right sibling
unfoldable pub move_of : ℕ → ℕ → Run.Memory → Result Run.Memory
move_of k pc μ =
    cond (lib.Dec.eqb k 7) (move_to pc μ root pc)
    (cond (lib.Dec.eqb k 8) (go_to pc μ (up μ.cursor))
    (cond (lib.Dec.eqb k 9) (go_to pc μ (some (to child μ.cursor))) (go_to pc μ (some (to sibling μ.cursor)))))

-- a place of the table where a move from the cursor leads
pub record Target (words : List ℕ) (places : ℕ) (m : Memory) (place : ℕ) (o : Forest → Place → Option Place) : Type 0 where
  pub leads : (t : Forest) (p : Place) → Holds (cells words) places m.used m.free m.cursor t p
      → Leads (cells words) places m.used m.free t (o t p) place

-- whether C is not above the existence of the node at a place, if it is one
pub record MayTouch (words : List ℕ) (places : ℕ) (m : Memory) (c place : ℕ) (r : Bool) : Type 0 where
  pub touch : (pc : ℕ) (μ : Run.Memory) (q : Place) → c ≡ position pc μ
      → Leads (cells words) places m.used m.free μ.tree (some q) place → r ≡ may_touch pc μ (sub q μ.tree)

-- whether C may add a node under the one at `above`, in front of what is at `old`
pub record MayAdd (words : List ℕ) (places : ℕ) (m : Memory) (above old c : ℕ) (r : Bool) : Type 0 where
  pub add : (pc : ℕ) (μ : Run.Memory) (q p : Place) → c ≡ position pc μ
      → Holds (cells words) places m.used m.free above μ.tree q → Leads (cells words) places m.used m.free μ.tree (some p) old
      → r ≡ (not_above c (label (sub q μ.tree)).structure && may_touch pc μ (sub p μ.tree))

-- what a new node shows, by its value, the level E of that and the sets that its content and its list join
abbrev pub new_node : ℤ → ℕ → ℕ → ℕ → ℕ → Memory → NewNode
new_node z e content list pc m =
    record {
      value = bits z;
      existence = join pc (level_in m);
      content = join (join e (join pc (level_in m))) content;
      structure = join (join pc (level_in m)) list;
    }

-- a is the answer once a place was asked for: one record on with what leads to the free places then, or 23 where there was none
pub record Placed (places : ℕ) (r : Running) (got : Taken) (a : Stepped) : Type 0 where
  pub taken : got.place < places → a ≡ went r (with_space r.memory got.free got.used)
  pub full : places ≤ got.place → a ≡ stepped 23 (with_memory r (with_space r.memory got.free got.used))

-- from the words w and the running record r to w' and the answer a: a new node on a side of the cursor's, with what e comes to
abbrev pub InsertsOn : (side : Side) (content list places pc : ℕ) (w w' : List ℕ) (e : Valued) (r : Running) (a : Stepped) → Type 0
InsertsOn side content list places pc w w' e r a =
    (l b : List ℕ) (v : List ℤ) (vars : ℕ) (x : Expression) → Evaluates w l v places vars r.memory x e
    → Acting (shifted side) Same places vars (slices w l v b) (slices w' l v b) r a
    (λ μ. insert_at pc μ places (to side μ.cursor) (up (to side μ.cursor)) content list x)
