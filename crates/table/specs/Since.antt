-- Since when nodes stand at their places. A block may remember a node by its place of the table. The open blocks that do are numbered, 0 the outermost, and
-- for each place a list has a number: the node that block k remembers at x stands there still exactly where the number of x is at most k. The block sees to
-- that when it is opened, and a removal clears the numbers of all that goes. Assumes nothing.
use Rattle.std.specs.Prelude.{◌≡◌, ◌⊎◌, Bool, true, cond, List, ℕ, ◌+◌, ◌<◌, ◌≤◌, ltb, length, get_or, set}
use Rattle.std.proofs.Math.Option.{Option, none, some}
use Rattle.rules.specs.Tree.{Forest, Side, Place, to, after_remove}
use Rattle.table.specs.Cells.{Table}
use Rattle.table.specs.Holds.{Placed, head, Spare, top, Linked, Free, hit, times, spare_times, Holds}
use Rattle.table.specs.Promises.{Behind}
use Rattle.table.specs.Steps.{Reparented}

-- a cleared number, above every block's
abbrev pub never : ℕ
never = 65535

-- the number of a place
abbrev pub number : List ℕ → ℕ → ℕ
number since x = get_or since x 0

-- block k remembers the node at x
unfoldable pub kept : List ℕ → ℕ → ℕ → List ℕ
kept since x k = cond (ltb k (number since x)) (set since x k) since

-- what block k remembers at the place x of a table that holds t: a node of t, or one that was removed meanwhile
pub data Remembers (m : Table) (n used free : ℕ) (t : Forest) (since : List ℕ) (k x : ℕ) : Option Place → Type 0 where
  stands : (p : Place) → Holds m n used free x t p → number since x ≤ k → Remembers m n used free t since k x (some p)
  lost : k < number since x → Remembers m n used free t since k x none

-- the numbers of some places are cleared, and no other; of the cells only the parent words of some are touched
pub record Forgotten (cleared touched : ℕ → ℕ) (m m' : Table) (since since' : List ℕ) : Type 0 where
  pub each : (y : ℕ) → 0 < cleared y → number since' y ≡ never
  pub other : (y : ℕ) → cleared y ≡ 0 → number since' y ≡ number since y
  pub links : Reparented touched m m'

-- the places of the stack that x leads to are cleared
pub record Clears (n : ℕ) (m m' : Table) (x : ℕ) (since since' : List ℕ) : Type 0 where
  pub size : length since' ≡ length since
  pub behind : Behind n m m'
  pub done : (used : ℕ) (s : Spare) → used ≤ n → Free m used s → top s ≡ x → ((y : ℕ) → spare_times y s ≤ 1)
      → Forgotten (λ y. spare_times y s) (λ y. spare_times y s) m m' since since'

-- the place x of a node that goes is cleared, and those of all below it
pub record Clearing (n : ℕ) (m m' : Table) (x : ℕ) (since since' : List ℕ) : Type 0 where
  pub behind : Behind n m m'
  pub done : (used : ℕ) (c : Placed) → used ≤ n → (m x).first ≡ head c → Linked m used c → ((y : ℕ) → hit y x + times y c ≤ 1)
      → Forgotten (λ y. hit y x + times y c) (λ y. times y c) m m' since since'

-- where the node on the side d of p is removed from t: each node that goes with it is forgotten, if any block remembers one, and no other node
pub record Forgets (remembered : Bool) (d : Side) (m : Table) (n used free : ℕ) (t : Forest) (p : Place) (since since' : List ℕ) : Type 0 where
  pub lost : remembered ≡ true → (x : ℕ) (q : Place) → Holds m n used free x t q → after_remove (to d p) q ≡ none → number since' x ≡ never
  pub other : (x : ℕ) (q r : Place) → Holds m n used free x t q → after_remove (to d p) q ≡ some r → number since' x ≡ number since x
  pub either : (y : ℕ) → (number since' y ≡ number since y) ⊎ (number since' y ≡ never)
  pub behind : (y : ℕ) → n ≤ y → number since' y ≡ number since y
