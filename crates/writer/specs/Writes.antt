-- What writing back promises, over a tree and variables that a caller lends, for every content of them. Assumes nothing.
use Rattle.std.specs.Prelude.{◌≡◌, Bool, true, false, List, ◌++◌, ℕ, ◌+◌, ◌*◌, ◌<◌, ◌≤◌, length, drop, ℤ, Result, Ok, Err}
use Rattle.rules.specs.Limits.{max_nodes, trailer_size, variable_size, node_size, bad_buffers, bad_follow_on}
use Rattle.rules.specs.Tree.{Forest, size}
use Rattle.rules.specs.Check.{Checked, accepted, refused}
use Rattle.rules.specs.History.{Store}
use Rattle.rules.specs.Write.{written, written_size, check_write, left_written, Ranged}
use Rattle.table.specs.Cells.{Table}
use Rattle.lent.specs.Stands.{Stands, Marked}
use Rattle.monitor.specs.Promises.{Lent}
use Rattle.monitor.specs.Follow.{HoldsStore, StandsAmong, Storable}
use Rattle.writer.specs.Nodes.{Listable}

-- what the checks of a store answer: "the job's length, or the number"
unfoldable pub answer : Store → Checked → Result ℕ ℕ
answer s accepted = Ok (written_size s + trailer_size)
answer s (refused k i) = Err k

-- for node tables of any kind; the area stands where a run has its lines
module _ {T : Type 0} (places : T → ℕ) (StandsIn : T → Forest → Type 0) where
  -- What is lent holds a store: then the answer and all that stands in the area are what the rules give for that store, and a job is written only of
  -- numbers of 32 bits. Or it holds none: then it is turned away with 11, and nothing has changed.
  pub data WritesBack (x : Lent T) (area' : List ℕ) (r : Result ℕ ℕ) : Type 0 where
    over : (s : Store) → HoldsStore StandsIn x s → r ≡ answer s (check_write s (places x.table) (length x.board))
        → area' ≡ left_written s (places x.table) x.board → (check_write s (places x.table) (length x.board) ≡ accepted → Ranged s)
        → WritesBack x area' r
    none : ((s : Store) → HoldsStore StandsIn x s → ⊥) → r ≡ Err bad_follow_on → area' ≡ x.board → WritesBack x area' r

-- r is the number of nodes of the tree that stands where the marks are
pub record Counted (places : ℕ) (marks : List ℕ) (r : ℕ) : Type 0 where
  pub few : r ≤ places
  pub size : (m : Table) (t : Forest) → Marked m places marks → Stands m places t → r ≡ size t

-- a tree and variables with room for their job in an area of a size; its trailer stands at `end`
pub record Whole (words : List ℕ) (places nodes : ℕ) (levels : List ℕ) (values : List ℤ) (end area : ℕ) : Type 0 where
  pub even : length levels ≡ length values
  pub tree : Listable words places nodes (variable_size * length levels) area
  pub last : end ≡ variable_size * length levels + node_size * nodes
  pub room : end + trailer_size ≤ area

-- the job stands at the beginning of the area, for every store that is held
unfoldable pub WholePut : ℕ → Lent (List ℕ) → List ℕ → Type 0
WholePut places x area' =
    (s : Store) → HoldsStore (StandsAmong places) x s → (area' ≡ written s ++ drop (written_size s + trailer_size) x.board) × Ranged s

-- by how far the checks come, with a table of so many places in which a tree stands or not: 11, 10, or all that is lent is known
pub data WritesOver (places : ℕ) (stands : Bool) (x : Lent (List ℕ)) (area' : List ℕ) (r : Result ℕ ℕ) : Type 0 where
  unstorable : Storable stands x.levels (length x.values) false → r ≡ Err bad_follow_on → area' ≡ x.board → WritesOver places stands x area' r
  crowded : Storable stands x.levels (length x.values) true → max_nodes < places → r ≡ Err bad_buffers → area' ≡ x.board
      → WritesOver places stands x area' r
  known : places ≤ max_nodes → WritesBack (λ _. places) (StandsAmong places) x area' r → WritesOver places stands x area' r
