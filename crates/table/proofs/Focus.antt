-- The table seen from one place of the tree: the forest that stands there, the way above it and the free places. `Holds` says the same of the
-- whole tree, so the laws of changes are proved of this view and carried over. Assumes nothing.
use mathlib.Core.Path.{◌≡◌, refl, sym, ap, subst, ◌∙◌}
use Prim.Native.Nat.{ℕ, ◌+◌, ◌<◌, ◌≤◌}
use native.Mathlib.Omega.{arith}
use native.Mathlib.Decide.{dec_lt}
use Rattle.rules.specs.Limits.{max_nodes}
use Rattle.rules.specs.Tree.{Label, Forest, Side, child, sibling, Place, count}
use Rattle.table.specs.Cells.{Table, gone}
use Rattle.table.specs.Holds.{Placed, empty, node, erase, head, last, beside, part, Stored, Spare, top, Free, times, spare_times, Holds}
use Rattle.table.proofs.Counting.{none_beyond, free_beyond}
use Rattle.table.proofs.Ways.{Way, step, node_on, plug, path_of, parent_of, prev_of, way_times, Above, unplug, replug, plug_times, plug_part, Some, some_node, split}

-- the table holds t, with f at the end of the way k; the places of w, handed out and not yet linked, are in nobody's hands
pub record Focus (m : Table) (n used free : ℕ) (t : Forest) (w : Placed) (k : Way) (f : Placed) (s : Spare) : Type 0 where
  pub few : n ≤ max_nodes
  pub room : used ≤ n
  pub stored : Stored m used (parent_of k) (prev_of k) f
  pub above : Above m used (head f) (count (erase f)) (last (prev_of k) f) k
  pub freed : Free m used s
  pub leads : top s ≡ free
  pub once : (y : ℕ) → times y w + times y f + way_times y k + spare_times y s ≤ 1
  pub each : (y : ℕ) → y < used → 1 ≤ times y w + times y f + way_times y k + spare_times y s
  pub is_tree : erase (plug k f) ≡ t

-- what stands on the other side of the first node
abbrev pub across : Side → Placed → Placed
across d empty = empty
across child (node x l c r) = r
across sibling (node x l c r) = c

module _ {m : Table} {n used free : ℕ} {t : Forest} {w : Placed} {s : Spare} where
  -- the same tree from another place
  from : {k : Way} {f : Placed} (k' : Way) (f' : Placed) → Focus m n used free t w k f s → Stored m used (parent_of k') (prev_of k') f'
      → Above m used (head f') (count (erase f')) (last (prev_of k') f') k' → ((y : ℕ) → times y f' + way_times y k' ≡ times y f + way_times y k) → plug k' f' ≡ plug k f
      → Focus m n used free t w k' f' s
  from k' f' h st ab z e =
      record {
        few = h.few;
        room = h.room;
        stored = st;
        above = ab;
        freed = h.freed;
        leads = h.leads;
        once = λ y. omega (arith, h.once y, z y);
        each = λ y q. omega (arith, h.each y q, z y);
        is_tree = ap erase e ∙ h.is_tree;
      }

  -- from a node to one of its sides, and back
  module _ {k : Way} {x : ℕ} {l : Label} where
    pub down : (d : Side) {c r : Placed} → Focus m n used free t w k (node x l c r) s
        → Focus m n used free t w (step d x l (across d (node x l c r)) k) (beside d (node x l c r)) s
    unfolding count
    down child {c} {r} h = from (step child x l r k) c h h.stored.2 (h.stored.0, h.stored.1, h.stored.3, h.above, h.stored.4) (λ y. omega arith) refl
    down sibling {c} {r} h = from (step sibling x l c k) r h h.stored.3 (h.stored.0, h.stored.1, h.stored.2, h.above, h.stored.4) (λ y. omega arith) refl

    pub back : (d : Side) {o f : Placed} → Focus m n used free t w (step d x l o k) f s → Focus m n used free t w k (node_on d x l f o) s
    unfolding count
    back child {o} {f} h = from k (node x l f o) h (h.above.0, h.above.1, h.stored, h.above.2, h.above.4) h.above.3 (λ y. omega arith) refl
    back sibling {o} {f} h = from k (node x l o f) h (h.above.0, h.above.1, h.above.2, h.stored, h.above.4) h.above.3 (λ y. omega arith) refl

-- the view from the cursor's node
pub record At (m : Table) (n used free x : ℕ) (t : Forest) (p : Place) : Type 0 where
  pub k : Way
  pub l : Label
  pub c : Placed
  pub r : Placed
  pub s : Spare
  pub is_path : path_of k ≡ p
  pub focus : Focus m n used free t empty k (node x l c r) s

module _ {m : Table} {n used free x : ℕ} {t : Forest} where
  once_held : {p : Place} (h : Holds m n used free x t p) (y : ℕ) → Dec (y < used) → times y h.placed + spare_times y h.spare ≤ 1
  once_held h y (yes z) = omega (arith, h.each y z)
  once_held h y (no z) =
      omega
      (arith, none_beyond m used gone gone h.placed h.stored y (omega arith), free_beyond m used h.spare h.freed y (omega arith))

  view : {p : Place} (h : Holds m n used free x t p) (k : Way) (g : Placed) → plug k g ≡ h.placed → Focus m n used free t empty k g h.spare
  view h k g e =
      let whole = subst (λ z. Stored m used gone gone z) (sym e) h.stored in
      let one = ap (λ z. count (erase z)) e ∙ ap count h.is_tree ∙ h.alone in
      let q = unplug m used k g whole (ap head e ∙ h.is_root) one in
      record {
        few = h.few;
        room = h.room;
        stored = q.0;
        above = q.1;
        freed = h.freed;
        leads = h.leads;
        once = λ y. omega (arith, once_held h y (dec_lt y used), ap (times y) e, plug_times y k g);
        each = λ y z. omega (arith, h.each y z, ap (times y) e, plug_times y k g);
        is_tree = ap erase e ∙ h.is_tree;
      }

  pub seen : {p : Place} → Holds m n used free x t p → At m n used free x t p
  seen {p} h =
      let st = some_node (part p h.placed) (subst (λ z. z < used) (sym h.here) h.live) (omega (arith, h.room, h.few)) in
      let sp = split p h.placed st in
      go (part p h.placed) sp.k sp.is_path sp.is_whole h.here st
    where
      go : (g : Placed) (k : Way) → path_of k ≡ p → plug k g ≡ h.placed → head g ≡ x → Some g → At m n used free x t p
      go empty k i e z st = absurd st
      go (node y l c r) k i e z st =
          record {
            k = k;
            l = l;
            c = c;
            r = r;
            s = h.spare;
            is_path = i;
            focus = subst (λ y. Focus m n used free t empty k (node y l c r) h.spare) z (view h k (node y l c r) e);
          }

  pub whole : (k : Way) {l : Label} {c r : Placed} {s : Spare} → Focus m n used free t empty k (node x l c r) s → Holds m n used free x t (path_of k)
  whole k {l} {c} {r} {s} h =
      let f = node x l c r in
      let q = replug m used k f h.stored h.above in
      record {
        few = h.few;
        room = h.room;
        placed = plug k f;
        spare = s;
        is_tree = h.is_tree;
        is_root = q.1;
        alone = ap count (sym h.is_tree) ∙ q.2;
        here = ap head (plug_part k f);
        live = h.stored.0;
        stored = q.0;
        freed = h.freed;
        leads = h.leads;
        each = λ y z. omega (arith, plug_times y k f, h.once y, h.each y z);
      }
