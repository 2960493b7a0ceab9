-- A lent table whose records are those of the places of a table holds what that table holds: every place that a tree or the free places use is one of
-- them. Assumes nothing.
use mathlib.Core.Path.{◌≡◌, refl, ap, subst, ◌∙◌}
use mathlib.Core.List.{List}
use Prim.Native.Nat.{ℕ, zero, suc, ◌+◌, ◌*◌, ◌%◌, ◌<◌, ◌≤◌}
use native.Mathlib.Omega.{arith}
use native.Mathlib.Decide.{ℕ_discrete}
use lib.Dec.{ltb}
use borrow.Author.Tests.{ltb-true, ltb-false}
use lib.ListN.{length, get_or, set, length-set}
use lib.Seq.{get_or-set_same, get_or-set_other}
use Rattle.rules.specs.Tree.{Forest, Place, count}
use mir.Syntax.{w32}
use mir.Val.{SFits}
use Rattle.rules.specs.Number.{bits}
use Rattle.rules.proofs.Number.{signed_bits}
use Rattle.rules.proofs.Tests.{Test, holds, fails, test}
use Rattle.lent.specs.declared.node.Node.{Node}
use Rattle.table.specs.Cells.{Cell, cell, Table, cell_size, ByteLevels, gone, cells}
use Rattle.table.specs.Holds.{Placed, empty, node, erase, head, last, Stored, Spare, end, more, Linked, Free, Holds}
use Rattle.lent.specs.Lent.{node_of, cell_of, blank, nodes_table, stored, put_node, loaded}
use Rattle.table.specs.Promises.{Behind}
use Rattle.table.specs.Steps.{with_word, Put}
use Rattle.table.proofs.Behind.{same_behind, then_behind, put_behind}
use Rattle.table.proofs.Words.{put_word, twice}
use Rattle.table.proofs.Counting.{none_beyond, free_beyond}
use Rattle.table.proofs.Frames as Frames

-- lengths stay
pub length_stored : (ws : List ℕ) (n : ℕ) (ns : List Node) → length (stored ws n ns) ≡ length ns
length_stored ws zero ns = refl
length_stored ws (suc n) ns = length-set (stored ws n ns) n _ ∙ length_stored ws n ns

length_put : (ws : List ℕ) (x : ℕ) (d : Node) → length (put_node ws x d) ≡ length ws
unfolding put_node
length_put ws x d = simp length-set

pub length_loaded : (ns : List Node) (n : ℕ) (ws : List ℕ) → length (loaded ns n ws) ≡ length ws
length_loaded ns zero ws = refl
length_loaded ns (suc n) ws = length_put (loaded ns n ws) n (get_or ns n blank) ∙ length_loaded ns n ws

-- a record that was stored is that of its place
pub stored_at : (ws : List ℕ) (n : ℕ) (ns : List Node) → n ≤ length ns → (x : ℕ) → x < n → get_or (stored ws n ns) x blank ≡ node_of (cells ws x)
stored_at ws zero ns long x lt = absurd (omega arith)
stored_at ws (suc n) ns long x lt = go (ℕ_discrete x n) (stored_at ws n ns (omega arith) x)
  where
    go : Dec (x ≡ n) → (x < n → get_or (stored ws n ns) x blank ≡ node_of (cells ws x))
        → get_or (set (stored ws n ns) n (node_of (cells ws n))) x blank ≡ node_of (cells ws x)
    go (yes e) before = rw e (get_or-set_same (stored ws n ns) n (node_of (cells ws n)) blank (omega (arith, length_stored ws n ns)))
    go (no e) before = get_or-set_other (stored ws n ns) n x (node_of (cells ws n)) blank e ∙ before (omega (arith, e))

-- what is counted nowhere from u on is below u where it is counted
inside : {k u x : ℕ} → (u ≤ x → k ≡ 0) → 0 < k → x < u
inside {k} {u} {x} beyond q = go (test (ltb x u))
  where
    go : Test (ltb x u) → x < u
    go (holds e) = ltb-true x u e
    go (fails e) = absurd (omega (arith, beyond (ltb-false x u e)))

-- a table that agrees with another on the places used so far holds what that holds
module _ {m m' : Table} {n used free at : ℕ} {t : Forest} {p : Place} (agree : (x : ℕ) → x < used → m' x ≡ m x) (h : Holds m n used free at t p) where
  pub agrees : Holds m' n used free at t p
  agrees =
      record {
        few = h.few;
        room = h.room;
        placed = h.placed;
        spare = h.spare;
        is_tree = h.is_tree;
        is_root = h.is_root;
        alone = h.alone;
        stored = Frames.stored m m' (omega arith) _ _ h.placed (λ x q. agree x (inside (none_beyond m used _ _ h.placed h.stored x) q)) h.stored;
        here = h.here;
        live = h.live;
        freed = Frames.freed m m' (omega arith) h.spare (λ x q. agree x (inside (free_beyond m used h.spare h.freed x) q)) h.freed;
        leads = h.leads;
        each = h.each;
      }

-- a table with the levels of every cell cut to bytes
abbrev narrow : Table → Table
narrow m x = cell_of (node_of (m x))

-- a cell whose levels are bytes is that of its record
pub same_cell : (a : Cell) → ByteLevels a.label → cell_of (node_of a) ≡ a
same_cell a b =
    let l = a.label in
    let e : l.existence % 256 ≡ l.existence = omega (arith, b.existence) in
    let c : l.content % 256 ≡ l.content = omega (arith, b.content) in
    let s : l.structure % 256 ≡ l.structure = omega (arith, b.structure) in
    λ i.
    cell a.first a.right a.parent a.left a.last a.children
    (record { value = l.value; existence = e i; content = c i; structure = s i })

module _ (m : Table) (used : ℕ) where
  narrow_stored : (u v : ℕ) (f : Placed) → Stored m used u v f → Stored (narrow m) used u v f
  narrow_stored u v empty h = tt
  narrow_stored u v (node x l c r) h = (
    h.0,
    ap (λ a. cell_of (node_of a)) h.1 ∙ same_cell (cell (head c) (head r) u v (last gone c) (count (erase c)) l) h.4,
    narrow_stored x gone c h.2,
    narrow_stored u x r h.3,
    h.4,
  )

  narrow_linked : (f : Placed) → Linked m used f → Linked (narrow m) used f
  narrow_linked empty h = tt
  narrow_linked (node x l c r) h = (h.0, h.1, h.2, narrow_linked c h.3, narrow_linked r h.4)

  narrow_freed : (s : Spare) → Free m used s → Free (narrow m) used s
  narrow_freed end h = tt
  narrow_freed (more x c r s) h =
      (h.0, h.1, h.2, h.3, narrow_linked c h.4, narrow_linked r h.5, narrow_freed s h.6)

narrowed : {m : Table} {n used free at : ℕ} {t : Forest} {p : Place} → Holds m n used free at t p → Holds (narrow m) n used free at t p
narrowed {m} {used = used} h =
    record {
      few = h.few;
      room = h.room;
      placed = h.placed;
      spare = h.spare;
      is_tree = h.is_tree;
      is_root = h.is_root;
      alone = h.alone;
      stored = narrow_stored m used gone gone h.placed h.stored;
      here = h.here;
      live = h.live;
      freed = narrow_freed m used h.spare h.freed;
      leads = h.leads;
      each = h.each;
    }

-- the lent table holds what the words hold
pub lent : (ws : List ℕ) (ns : List Node) {n used free at : ℕ} {t : Forest} {p : Place} → n ≤ length ns → Holds (cells ws) n used free at t p
    → Holds (nodes_table (stored ws n ns)) n used free at t p
unfolding nodes_table
lent ws ns long h = agrees (λ x q. ap cell_of (stored_at ws _ ns long x (omega (arith, h.room)))) (narrowed h)

-- the words of a place are those of a record, and no other cell changes
put_node_law : (ws : List ℕ) (x : ℕ) (d : Node) → SFits w32 d.value → cell_size * x + cell_size ≤ length ws
    → Put (cells ws) (cells (put_node ws x d)) x (cell_of d)
unfolding put_node with_word
put_node_law ws x d fits long =
    let at : ℕ → ℕ = λ j. cell_size * x + j in
    let start : at 0 ≡ cell_size * x = omega arith in
    let w₁ = set ws (cell_size * x) d.first in
    let w₂ = set w₁ (at 1) d.right in
    let w₃ = set w₂ (at 2) d.parent in
    let w₄ = set w₃ (at 3) d.existence in
    let w₅ = set w₄ (at 4) (bits d.value) in
    let w₆ = set w₅ (at 5) d.children in
    let w₇ = set w₆ (at 6) d.content in
    let w₈ = set w₇ (at 7) d.structure in
    let w₉ = set w₈ (at 8) d.left in
    let p₁ : Put (cells ws) (cells w₁) x (with_word 0 d.first (cells ws x)) =
    subst (λ i. Put (cells ws) (cells (set ws i d.first)) x (with_word 0 d.first (cells ws x))) start
    (put_word ws x long 0 d.first (omega arith)) in
    let p₂ = twice (with_word 1 d.right) p₁ (put_word w₁ x (simp length-set long) 1 d.right (omega arith)) in
    let p₃ = twice (with_word 2 d.parent) p₂ (put_word w₂ x (simp length-set long) 2 d.parent (omega arith)) in
    let p₄ = twice (with_word 3 d.existence) p₃ (put_word w₃ x (simp length-set long) 3 d.existence (omega arith)) in
    let p₅ = twice (with_word 4 (bits d.value)) p₄ (put_word w₄ x (simp length-set long) 4 (bits d.value) (omega arith)) in
    let p₆ = twice (with_word 5 d.children) p₅ (put_word w₅ x (simp length-set long) 5 d.children (omega arith)) in
    let p₇ = twice (with_word 6 d.content) p₆ (put_word w₆ x (simp length-set long) 6 d.content (omega arith)) in
    let p₈ = twice (with_word 7 d.structure) p₇ (put_word w₇ x (simp length-set long) 7 d.structure (omega arith)) in
    let p₉ = twice (with_word 8 d.left) p₈ (put_word w₈ x (simp length-set long) 8 d.left (omega arith)) in
    let p₁₀ = twice (with_word 9 d.last) p₉ (put_word w₉ x (simp length-set long) 9 d.last (omega arith)) in
    record { on = p₁₀.on ∙ ap (λ v. cell_of (record { first = d.first; right = d.right; parent = d.parent; children = d.children; left = d.left; last = d.last; value = v; existence = d.existence; content = d.content; structure = d.structure })) (signed_bits fits); off = p₁₀.off }

-- records are loaded into the places of words: the first n cells are theirs, and no cell behind them changes
module _ (ns : List Node) (ws : List ℕ) where
  pub loaded_at : (n : ℕ) → cell_size * n ≤ length ws → ((x : ℕ) → x < n → SFits w32 (get_or ns x blank).value) → (x : ℕ) → x < n
      → cells (loaded ns n ws) x ≡ nodes_table ns x
  unfolding nodes_table
  loaded_at zero long fits x lt = absurd (omega arith)
  loaded_at (suc n) long fits x lt =
      go (ℕ_discrete x n) (loaded_at n (omega arith) (λ y q. fits y (omega arith)) x)
      (put_node_law (loaded ns n ws) n (get_or ns n blank) (fits n (omega arith)) (omega (arith, length_loaded ns n ws)))
    where
      go : Dec (x ≡ n) → (x < n → cells (loaded ns n ws) x ≡ cell_of (get_or ns x blank))
          → Put (cells (loaded ns n ws)) (cells (put_node (loaded ns n ws) n (get_or ns n blank))) n (cell_of (get_or ns n blank))
          → cells (put_node (loaded ns n ws) n (get_or ns n blank)) x ≡ cell_of (get_or ns x blank)
      go (yes e) before p = rw e p.on
      go (no e) before p = p.off x e ∙ before (omega (arith, e))

  pub loaded_behind : (n : ℕ) → cell_size * n ≤ length ws → ((x : ℕ) → x < n → SFits w32 (get_or ns x blank).value)
      → Behind n (cells ws) (cells (loaded ns n ws))
  loaded_behind zero long fits = same_behind (λ _. refl)
  loaded_behind (suc n) long fits =
      let h = loaded_behind n (omega arith) (λ y q. fits y (omega arith)) in
      let p = put_node_law (loaded ns n ws) n (get_or ns n blank) (fits n (omega arith)) (omega (arith, length_loaded ns n ws)) in
      then_behind (record { same = λ y ge. h.same y (omega arith) }) (put_behind (omega arith) p)
