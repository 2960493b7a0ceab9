-- What the commands promise that say which record comes next. Assumes nothing.
use Rattle.std.specs.Prelude.{◌≡◌, ℕ, ◌-◌, ◌<◌, ◌≤◌, length, ℤ, IfSome}
use Rattle.std.proofs.Math.Option.{some}
use mathlib.Core.List.{List, ◌∷◌, tail}
use Rattle.rules.specs.Limits.{max_depth}
use Rattle.rules.specs.Number.{Fits}
use Rattle.rules.specs.Script.{Expression}
use Rattle.rules.specs.Run.{State, Saved, Block, next, given, value, level_of, enter_back, leave_block}
use Rattle.actions.specs.declared.evaluate.Valued.{Valued}
use Rattle.actions.specs.declared.control.Running.{Running}
use Rattle.actions.specs.declared.control.Stepped.{Stepped}
use Rattle.actions.specs.Guards.{Holds}
use Rattle.actions.specs.Shows.{Slices}
use Rattle.actions.specs.Stands.{Stands}
use Rattle.actions.specs.Acts.{Does}

-- a step that does not stop and leaves the memory
pub record Passes (r : Running) (a : Stepped) : Type 0 where
  pub stop : a.stop ≡ 0
  pub memory : a.running.memory ≡ r.memory
  pub left : a.running.left ≡ r.left - 1

-- to the record j, with the same blocks
pub record Jumps (r : Running) (j : ℕ) (a : Stepped) : Type 0 where
  pub passes : Passes r a
  pub at : a.running.at ≡ j
  pub guards : a.running.guards ≡ r.guards

-- to the record j, with one block less, which remembers nothing
pub record Leaves (r : Running) (j : ℕ) (a : Stepped) : Type 0 where
  pub passes : Passes r a
  pub at : a.running.at ≡ j
  pub guards : (bs : List Block) → Holds r.guards bs → Holds a.running.guards (tail bs)

-- a step that leaves the memory, and stops or not
pub record Keeps (r : Running) (a : Stepped) : Type 0 where
  pub memory : a.running.memory ≡ r.memory
  pub counted : a.stop ≡ 0 → a.running.left ≡ r.left - 1
  pub uncounted : (a.stop ≡ 0 → ⊥) → a.running.left ≡ r.left

-- an if or a while with the guard's value and level v: as the rules' f does with the value, with j to jump to, or 27
pub record Enters (f : State → ℕ → Expression → ℤ → State) (r : Running) (v : Valued) (j : ℕ) (a : Stepped) : Type 0 where
  pub keeps : Keeps r a
  pub within : (n : ℕ) → j ≤ n → r.at < n → a.running.at ≤ n
  pub enters : (places vars : ℕ) (x : Slices) (k : List ℕ) (s : State) (e : Expression) → IfSome v.value Fits → value s.memory e ≡ v.value
      → level_of s.memory e ≡ v.level → length s.blocks < max_depth → Stands places vars x k r s
      → Does (Stands places vars x k a.running) a.stop s (given (value s.memory e) λ z. next (f s j e z))

-- what an if that comes back, or its end, leaves alone: the lines, and the cursor is at a place
pub record Stays (places : ℕ) (r : Running) (k k' : List ℕ) (j : ℕ) (a : Stepped) : Type 0 where
  pub cursor : r.memory.cursor < places → a.running.memory.cursor < places
  pub lines : a.running.memory.lines ≡ r.memory.lines
  pub counted : a.stop ≡ 0 → a.running.left ≡ r.left - 1
  pub uncounted : (a.stop ≡ 0 → ⊥) → a.running.left ≡ r.left
  pub within : (n : ℕ) → j ≤ n → r.at < n → a.running.at ≤ n
  pub long : length k' ≡ length k

-- an if that comes back, with the guard's value and level v: as the rules' does with the value, with j to jump to, or 27
pub record Saves (places : ℕ) (r : Running) (v : Valued) (j : ℕ) (k k' : List ℕ) (a : Stepped) : Type 0 where
  pub stays : Stays places r k k' j a
  pub enters : (vars : ℕ) (x : Slices) (s : State) (e : Expression) → IfSome v.value Fits → value s.memory e ≡ v.value
      → level_of s.memory e ≡ v.level → length s.blocks < max_depth → Stands places vars x k r s
      → Does (Stands places vars x k' a.running) a.stop s (given (value s.memory e) λ z. next (enter_back s j e z))

-- its end, with j to go to: as the rules' end does with the innermost block, which remembers a node
pub record Restores (places : ℕ) (r : Running) (j : ℕ) (k k' : List ℕ) (a : Stepped) : Type 0 where
  pub stays : Stays places r k k' j a
  pub leaves : (vars : ℕ) (x : Slices) (s : State) (b : Block) (bs : List Block) (q : Saved) → s.blocks ≡ b ∷ bs → b.saved ≡ some q
      → Stands places vars x k r s → Does (Stands places vars x k' a.running) a.stop s (leave_block s j s.blocks)
