-- R-11: a standing tree and variables, written back as a job with an empty script. Assumes nothing.
use Rattle.std.specs.Prelude.{◌≡◌, ℕ, suc, ◌+◌, ◌*◌, ◌/◌, ◌<◌, true, length, drop, leb, ℤ}
use mathlib.Core.List.{List, [], ◌∷◌, ◌++◌, flat_map}
use Rattle.std.proofs.Math.Seq.{slice}
use Rattle.rules.specs.Limits.{max_nodes, trailer_size, variable_size, node_size, no_parent, bad_buffers, bad_follow_on, bad_area}
use Rattle.rules.specs.Level.{Level}
use Rattle.rules.specs.Number as Number
use Rattle.rules.specs.Number.{bits}
use Rattle.rules.specs.Tree.{Label, Forest, nil, tree, size}
use Rattle.rules.specs.Bytes.{two, script_at, trailer_at, variable_count, node_count}
use Rattle.rules.specs.Check.{Checked, accepted, refused, require, check_bytes}
use Rattle.rules.specs.Job.{Variable, variables, job_tree, script}
use Rattle.rules.specs.Public.{Agree, Alike}
use Rattle.rules.specs.History.{Store, section_script, store_rule}

-- the four bytes of a signed number
unfoldable pub four : ℤ → List ℕ
four z = two (bits z) ++ two (bits z / 65536)

-- a variable's record
unfoldable pub variable : Level → ℤ → List ℕ
variable l v = l ∷ 0 ∷ 0 ∷ 0 ∷ four v

-- a node's record
unfoldable pub node : ℕ → Level → Level → Level → ℤ → List ℕ
node parent e c s v = two parent ++ (e ∷ c ∷ s ∷ 0 ∷ 0 ∷ 0 ∷ four v)

-- the trailer, by where nodes and script start and where it stands itself
unfoldable pub trailer : ℕ → ℕ → ℕ → List ℕ
trailer nodes script end = two 0 ++ (two nodes ++ (two script ++ two end))

-- a node as its record has it: its parent's index and its label
pub record Entry : Type 0 where
  pub parent : ℕ
  pub label : Label

-- siblings with parent p, listed from index i on: "each node is followed at once by its whole subtree, children from left to right"
unfoldable pub listing : ℕ → ℕ → Forest → List Entry
listing p i nil = []
listing p i (tree l c r) = record { parent = p; label = l } ∷ (listing i (suc i) c ++ listing p (suc i + size c) r)

-- the record of a listed node
unfoldable pub node_bytes : Entry → List ℕ
node_bytes e = node e.parent e.label.existence e.label.content e.label.structure e.label.value

-- the record of a variable
unfoldable pub variable_bytes : Variable → List ℕ
variable_bytes v = variable v.level v.value

-- where the script of a written store stands: behind its variables and nodes
unfoldable pub written_size : Store → ℕ
written_size s = variable_size * length s.variables + node_size * size s.tree

-- "Write the variables and live nodes as a job with an empty script, the nodes closed up in the order R-10 fixes."
unfoldable pub written : Store → List ℕ
written s =
    flat_map variable_bytes s.variables
    ++ (flat_map node_bytes (listing no_parent 0 s.tree) ++ trailer (variable_size * length s.variables) (written_size s) (written_size s))

-- the bytes of a job's script section
unfoldable pub script_section : List ℕ → List ℕ
script_section b = slice (script_at b) (trailer_at b) b

-- the same with a script: the job of a store and a bare script section
unfoldable pub job_of : Store → List ℕ → List ℕ
job_of s c =
    flat_map variable_bytes s.variables
    ++ (flat_map node_bytes (listing no_parent 0 s.tree) ++ (c ++ trailer (variable_size * length s.variables) (written_size s) (written_size s + length c)))

-- "14, the output area is shorter than the job, checked after 11 and 10 for the state as in R-1"
unfoldable pub check_write : Store → ℕ → ℕ → Checked
check_write s places area =
    require bad_follow_on (store_rule s)
    (require bad_buffers (leb places max_nodes) (require bad_area (leb (written_size s + trailer_size) area) accepted))

-- "The answer is the job's length, or the number."
unfoldable pub write_answer : Store → ℕ → ℕ → ℕ
write_answer s places area = elim (check_write s places area) [ accepted ↦ written_size s + trailer_size | refused k i ↦ k ]

-- "Bytes of the area beyond the job are untouched."; "all three leave the area untouched"
unfoldable pub left_written : Store → ℕ → List ℕ → List ℕ
left_written s places area =
    elim (check_write s places (length area)) [
      | accepted ↦ written s ++ drop (written_size s + trailer_size) area
      | refused k i ↦ area
    ]

-- the values of a tree are signed 32-bit numbers
abbrev pub RangedTree : Forest → Type 0
RangedTree nil = Unit {0}
RangedTree (tree l c r) = Number.Fits l.value × RangedTree c × RangedTree r

-- and those of variables
abbrev pub RangedVariables : List Variable → Type 0
RangedVariables [] = Unit {0}
RangedVariables (v ∷ vs) = Number.Fits v.value × RangedVariables vs

-- a store that a caller can lend: its numbers are 32 bits wide
pub record Ranged (s : Store) : Type 0 where
  pub variables : RangedVariables s.variables
  pub tree : RangedTree s.tree

-- what is written is an accepted job, and "Loading it gives the same variables and the same tree."
pub record Writes (s : Store) : Type 0 where
  pub taken : check_bytes (written s) ≡ accepted
  pub variables : variables (written s) ≡ s.variables
  pub tree : job_tree (written s) ≡ s.tree
  pub script : script (written s) ≡ []
  pub long : length (written s) ≡ written_size s + trailer_size

-- what a job of a store and a script section holds
pub record Joins (s : Store) (c : List ℕ) : Type 0 where
  pub taken : check_bytes (job_of s c) ≡ accepted
  pub variables : variables (job_of s c) ≡ s.variables
  pub tree : job_tree (job_of s c) ≡ s.tree
  pub script : script (job_of s c) ≡ section_script c
  pub section : script_section (job_of s c) ≡ c
  pub variable_count_law : variable_count (job_of s c) ≡ length s.variables
  pub node_count_law : node_count (job_of s c) ≡ size s.tree
  pub long : length (job_of s c) ≡ written_size s + length c + trailer_size

-- what writing back is for; that two stores that are the same give the same bytes needs no word, since no place is spoken of
pub record WriterRight : Type 0 where
  pub writes : (s : Store) → store_rule s ≡ true → Ranged s → Writes s
  -- "The public parts of the written job depend only on the public parts of the state.", for every reader o
  pub alike : (o : Level) (s t : Store) → store_rule s ≡ true → Ranged s → store_rule t ≡ true → Ranged t
      → Agree o s.variables t.variables s.tree t.tree → Alike o (written s) (written t)
  -- no length is one of the numbers
  pub apart : (s : Store) (places area : ℕ) → check_write s places area ≡ accepted → bad_area < write_answer s places area
