-- What the open blocks remember that come back, in a list of numbers: for each place of the table since when its node stands there, then how many such blocks there
-- are, and of each its place and its cursor level. Assumes nothing.
use Rattle.std.specs.Prelude.{◌≡◌, cond, List, [], ◌∷◌, ℕ, suc, ◌+◌, ◌-◌, ◌*◌, ◌%◌, ◌<◌, ltb, set, Option, None, Some, IfSome}
use Rattle.std.proofs.Math.Option.{none, some}
use Rattle.rules.specs.Limits.{max_nodes, max_depth}
use Rattle.rules.specs.Tree.{Forest, Place}
use Rattle.rules.specs.Run.{Saved, Block}
use Rattle.table.specs.Cells.{Table}
use Rattle.table.specs.Holds.{Holds}
use Rattle.table.specs.Since.{number, kept, Remembers}
use Rattle.actions.specs.declared.marks.Saved as Code

-- where the number of blocks stands, and the place and the level of block k, 0 the outermost
abbrev pub count_at : ℕ
count_at = max_nodes

abbrev pub place_at : ℕ → ℕ
place_at k = 513 + 2 * k

abbrev pub level_at : ℕ → ℕ
level_at k = 513 + 2 * k + 1

-- how many numbers there are
abbrev pub marks_size : ℕ
marks_size = 545

-- the first k of the blocks that come back are those among some open blocks, the innermost first, over a table that holds the tree t
pub data Marked (m : Table) (n used free : ℕ) (t : Forest) (marks : List ℕ) : ℕ → List Block → Type 0 where
  nothing : Marked m n used free t marks 0 []
  plain : {k : ℕ} {bs : List Block} (b : Block) → b.saved ≡ none → Marked m n used free t marks k bs → Marked m n used free t marks k (b ∷ bs)
  saved : {k : ℕ} {bs : List Block} (b : Block) (r : Saved) → b.saved ≡ some r → k < max_depth → number marks (place_at k) < max_nodes
      → number marks (level_at k) % 256 ≡ r.level → Remembers m n used free t marks k (number marks (place_at k)) r.place
      → Marked m n used free t marks k bs → Marked m n used free t marks (suc k) (b ∷ bs)

-- one block more, which remembers the place x and the level l
unfoldable pub saving : List ℕ → ℕ → ℕ → List ℕ
saving marks x l =
    cond (ltb (number marks count_at) max_depth)
    (set
    (set (set (kept marks x (number marks count_at)) (place_at (number marks count_at)) x) (level_at (number marks count_at)) l)
    count_at (number marks count_at + 1))
    marks

-- the innermost block that comes back has ended
unfoldable pub dropping : List ℕ → List ℕ
dropping marks = set marks count_at (number marks count_at - 1)

-- what the innermost block that comes back remembers, q, as a place of the table and a level; none where the node was removed
pub data Recalled (m : Table) (n used free : ℕ) (t : Forest) (q : Saved) : Option Code.Saved → Type 0 where
  found : (s : Code.Saved) (p : Place) → q.place ≡ some p → Holds m n used free s.place t p → s.level % 256 ≡ q.level
      → Recalled m n used free t q (Some s)
  lost : q.place ≡ none → Recalled m n used free t q None

-- whatever is remembered is recalled, within the table of n places
pub record Recalls (marks : List ℕ) (n : ℕ) (o : Option Code.Saved) : Type 0 where
  pub within : IfSome o (λ s. s.place < n)
  pub recalls : (m : Table) (used free : ℕ) (t : Forest) (b : Block) (bs : List Block) (q : Saved)
      → Marked m n used free t marks (number marks count_at) (b ∷ bs) → b.saved ≡ some q → Recalled m n used free t q o
