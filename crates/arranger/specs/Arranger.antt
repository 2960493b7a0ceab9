-- What the rearranger's functions hand back, from the rules' definition of the rearranged job. Assumes nothing.
use Rattle.std.specs.Prelude.{◌≡◌, ◌⊎◌, cond, List, ℕ, suc, ◌+◌, ◌-◌, ◌*◌, ◌≤◌, ◌<◌, eqb, length, get_or}
use Rattle.rules.specs.Limits.{max_nodes, node_size, no_parent}
use Rattle.rules.specs.Tree.{size}
use Rattle.rules.specs.Bytes.{byte, nodes_at, node_count, node_place}
use Rattle.rules.specs.Check.{accepted, parent, unordered, check_bytes_by}
use Rattle.rules.specs.Job.{children_of}
use Rattle.rules.specs.Arrange.{Moved, moved, moves, moved_bytes}

-- n bytes from start on were copied to at and on
pub record Copied (n : ℕ) (to : List ℕ) (at : ℕ) (from : List ℕ) (start : ℕ) (new : List ℕ) : Type 0 where
  pub long : length new ≡ length to
  pub done : (k : ℕ) → k < n → byte new (at + k) ≡ byte from (start + k)
  pub left : (x : ℕ) → (x < at) ⊎ (at + n ≤ x) → byte new x ≡ byte to x

-- the record behind the last
abbrev pub no_move : Moved
no_move = record { from = 0; parent = 0 }

-- how many of the k records from i on stand in the subtree of p, with p itself
unfoldable pub weight : List ℕ → ℕ → ℕ → ℕ → ℕ → ℕ
weight b base p k i = suc (size (children_of b base p k i))

module _ (b : List ℕ) (base n : ℕ) where
  -- the list has for each record how many of those from i on stand in its subtree
  pub record Weighed (i : ℕ) (ws : List ℕ) : Type 0 where
    pub size : length ws ≡ max_nodes
    pub each : (q : ℕ) → q < n → get_or ws q 0 ≡ weight b base q (n - i) i

  -- some moved records stand in the new order, from index j on
  pub record At (j : ℕ) (ms : List Moved) : Type 0 where
    pub within : j + length ms ≤ n
    pub stands : (k : ℕ) → k < length ms → get_or (moves b base n) (j + k) no_move ≡ get_or ms k no_move

  -- the records from i on below record q, which has come to stand at own and whose next child comes to stand at next
  abbrev pub rest : ℕ → ℕ → ℕ → ℕ → List Moved
  rest i q own next = moved b base q own (n - i) i next

  -- by the new indexes of records: record q, which is not the root, is moved to its own, with the own of its parent
  pub record Moves (own : List ℕ) (q : ℕ) : Type 0 where
    pub below : get_or own q 0 < n
    pub is : get_or (moves b base n) (get_or own q 0) no_move ≡ record { from = q; parent = get_or own (parent b base q) 0 }

  -- index k is that of one of the first i records
  pub record Met (own : List ℕ) (i k : ℕ) : Type 0 where
    pub node : ℕ
    pub before : node < i
    pub here : get_or own node 0 ≡ k

  -- or of a record below one of them
  pub record Due (own next : List ℕ) (i k : ℕ) : Type 0 where
    pub node : ℕ
    pub before : node < i
    pub from : get_or next node 0 ≤ k
    pub to : k < get_or next node 0 + length (rest i node (get_or own node 0) (get_or next node 0))

  -- the lists have the new indexes of the first i records, and of the next child of each
  pub record Placing (i : ℕ) (own next : List ℕ) : Type 0 where
    pub size : length own ≡ max_nodes
    pub size_next : length next ≡ max_nodes
    pub root : get_or own 0 0 ≡ 0
    pub each : (q : ℕ) → 1 ≤ q → q < i → Moves own q
    pub ahead : (q : ℕ) → q < i → At (get_or next q 0) (rest i q (get_or own q 0) (get_or next q 0))
    pub every : (k : ℕ) → k < n → Met own i k ⊎ Due own next i k

  -- the list has the new indexes of all records
  pub record Placed (own : List ℕ) : Type 0 where
    pub size : length own ≡ max_nodes
    pub root : get_or own 0 0 ≡ 0
    pub each : (q : ℕ) → 1 ≤ q → q < n → Moves own q
    pub every : (k : ℕ) → k < n → Met own n k

-- record i of old nodes was put at a place, with another parent
pub record Put (b : List ℕ) (base : ℕ) (old : List ℕ) (i at parent : ℕ) (new : List ℕ) : Type 0 where
  pub long : length new ≡ length b
  pub here : (j : ℕ) → j < node_size → byte new (node_place base at + j) ≡ byte (moved_bytes old 0 (record { from = i; parent = parent })) j
  pub left : (x : ℕ) → (x < node_place base at) ⊎ (node_place base at + node_size ≤ x) → byte new x ≡ byte b x

-- the new index of the parent of record i of old nodes, where records have new indexes; the root has none
unfoldable pub new_parent : List ℕ → List ℕ → ℕ → ℕ
new_parent old own i = cond (eqb i 0) no_parent (get_or own (parent old 0 i) 0)

-- an accepted job whose nodes were copied, and the new indexes of its records
pub record Ready (b : List ℕ) (base n : ℕ) (old own : List ℕ) : Type 0 where
  pub taken : check_bytes_by unordered b ≡ accepted
  pub tree : base ≡ nodes_at b
  pub count : n ≡ node_count b
  pub size : length old ≡ max_nodes * node_size
  pub copied : (x : ℕ) → x < node_size * n → byte old x ≡ byte b (base + x)
  pub placed : Placed b base n own
