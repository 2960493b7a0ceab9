-- R-12: the summary of a job, and that its checks refuse no byte as a level. Assumes nothing.
use Rattle.std.specs.Prelude.{◌≡◌, ℕ, ◌<◌, ◌&&◌, List, map}
use Rattle.rules.specs.Limits.{no_parent, bad_variable}
use Rattle.rules.specs.Level.{Level, join, not_above, parties}
use Rattle.rules.specs.Tree.{Label}
use Rattle.rules.specs.Bytes.{byte, nodes_at, node_count}
use Rattle.rules.specs.Check.{accepted, refused, check_bytes, existence, content, structure, label_rule}
use Rattle.rules.specs.Job.{listed, label_of, job_tree}
use Rattle.rules.specs.Write.{listing}

-- whose matters a node carries: "its three levels joined"
unfoldable pub carried : Label → Level
carried l = join (join l.existence l.content) l.structure

-- "a line for each node of a job, how many parties each node carries matters of, .. in the order of R-10"
unfoldable pub summary : List ℕ → List ℕ
summary b = map (λ e. parties (carried e.label)) (listing no_parent 0 (job_tree b))

-- the nodes of an accepted job stand in that order
unfoldable pub SummaryInOrder : Type 0
SummaryInOrder =
    (b : List ℕ) → check_bytes b ≡ accepted → summary b ≡ listed (λ i. parties (carried (label_of b (nodes_at b) i))) (node_count b) 0

-- of bytes: "4 is never given again, and 6 only for a broken tree rule"
pub record LevelsTaken : Type 0 where
  pub four : (b : List ℕ) → ((at : ℕ) → byte b at < 256) → (i : ℕ) → check_bytes b ≡ refused bad_variable i → ⊥
  pub six : (b : List ℕ) → ((at : ℕ) → byte b at < 256) → (base i : ℕ)
      → label_rule b base i ≡ (not_above (existence b base i) (content b base i) && not_above (existence b base i) (structure b base i))
