-- R-10: what the rearranger makes of a job: its node records listed the way they hang, and nothing else changed. Assumes nothing.
use Rattle.std.specs.Prelude.{◌≡◌, ℕ, zero, suc, ◌+◌, ◌-◌, ◌≤◌, ◌<◌, true, false, length, take, drop, eqb}
use mathlib.Core.List.{List, [], ◌∷◌, ◌++◌, flat_map}
use Rattle.rules.specs.Limits.{no_parent}
use Rattle.rules.specs.Bytes.{byte, two, nodes_at, script_at, node_count, node_place}
use Rattle.rules.specs.Check.{accepted, refused, parent, unordered, ordered, check_bytes_by}
use Rattle.rules.specs.Job.{listed, job_tree}
use Rattle.rules.specs.Run.{Buffers}
use Rattle.rules.specs.Outcome.{run_job_by}

-- a node record that is moved: its old index, and its parent's new one
pub record Moved : Type 0 where
  pub from : ℕ
  pub parent : ℕ

module _ (b : List ℕ) (base : ℕ) where
  -- of the n records from i on, those with parent p: "each node is followed at once by its whole subtree, children from left to right"; q is the new index of
  -- p, and j that of the first of them
  unfoldable pub moved : ℕ → ℕ → ℕ → ℕ → ℕ → List Moved
  moved p q zero i j = []
  moved p q (suc n) i j =
      elim (eqb (parent b base i) p) [
        | true ↦
            let below = moved i j n (suc i) (suc j) in
            record { from = i; parent = q } ∷ (below ++ moved p q n (suc i) (suc j + length below))
        | false ↦ moved p q n (suc i) j
      ]

  -- n records, the root first
  unfoldable pub moves : ℕ → List Moved
  moves n = record { from = 0; parent = no_parent } ∷ moved 0 0 (n - 1) 1 1

  -- "it moves whole node records, renumbers parents": bytes 0 and 1 are the parent's new index, 2 to 11 are moved as they are
  unfoldable pub moved_bytes : Moved → List ℕ
  moved_bytes m = two m.parent ++ listed (λ j. byte b (node_place base m.from + j)) 10 2

-- the bytes of a job, rearranged: the rearranger "changes nothing else"
unfoldable pub arranged : List ℕ → List ℕ
arranged b = take (nodes_at b) b ++ (flat_map (moved_bytes b (nodes_at b)) (moves b (nodes_at b) (node_count b)) ++ drop (script_at b) b)

-- the bytes that the rearranger leaves: "a job turned back so far gets its number and index and is left unchanged"
unfoldable pub left_arranged : List ℕ → List ℕ
left_arranged b = elim (check_bytes_by unordered b) [ accepted ↦ arranged b | refused k i ↦ b ]

-- of a "job accepted so far": the new rules accept the rearranged job, "the same tree comes out", it runs as the old one did, whatever budget and buffers, and
-- variables, script and trailer are untouched
pub record Arranges (b : List ℕ) : Type 0 where
  pub taken : check_bytes_by ordered (arranged b) ≡ accepted
  pub tree : job_tree (arranged b) ≡ job_tree b
  pub runs : (budget : ℕ) (lent : Buffers) → run_job_by ordered (arranged b) budget lent ≡ run_job_by unordered b budget lent
  pub long : length (arranged b) ≡ length b
  pub front : (at : ℕ) → at < nodes_at b → byte (arranged b) at ≡ byte b at
  pub behind : (at : ℕ) → script_at b ≤ at → byte (arranged b) at ≡ byte b at

-- what the rearranger is for
pub record ArrangerRight : Type 0 where
  pub arranges : (b : List ℕ) → check_bytes_by unordered b ≡ accepted → Arranges b
  -- "a job already in this order comes out byte for byte equal"
  pub stays : (b : List ℕ) → ((at : ℕ) → byte b at < 256) → check_bytes_by ordered b ≡ accepted → arranged b ≡ b
