-- What the cell at the cursor says of the tree, and where its links lead: one step down is the view from a side of the node, one step up goes back
-- along the way, past the siblings to the left; one step to the left is one frame of the way, and the last child is found from the first. Assumes nothing.
use mathlib.Core.Path.{◌≡◌, refl, sym, ap, subst, ◌∙◌}
use mathlib.Core.Bool.{true}
use mathlib.Core.Option.{some}
use Prim.Native.Nat.{ℕ, suc, ◌≤◌}
use native.Mathlib.Omega.{arith}
use Rattle.rules.specs.Tree.{Label, Forest, tree, Side, child, sibling, along, Place, root, to, up, left_of, last_from, last_of, sub, exists, label, count}
use Rattle.table.specs.Cells.{Table, ByteLevels, gone, link}
use Rattle.table.specs.Holds.{Placed, empty, node, erase, head, last, beside, Spare, Holds}
use Rattle.table.specs.Promises.{Leads, outside, missing, found}
use Rattle.table.proofs.Counting.{few_siblings}
use Rattle.table.proofs.Ways.{Way, home, step, path_of, parent_of, prev_of, Above, plug_sub}
use Rattle.table.proofs.Focus.{Focus, down, back, At, seen, whole}

module _ {m : Table} {n used free : ℕ} {t : Forest} {w : Placed} {s : Spare} where
  -- what stands at the end of the way
  pub shown : (k : Way) (f : Placed) → Focus m n used free t w k f s → sub (path_of k) t ≡ erase f
  shown k f h = ap (sub (path_of k)) (sym h.is_tree) ∙ plug_sub k f

  -- the node's cell holds its links
  linked : {k : Way} {x : ℕ} {l : Label} {c r : Placed} (d : Side) → Focus m n used free t w k (node x l c r) s
      → link d (m x) ≡ head (beside d (node x l c r))
  linked child h = ap (λ a. a.first) h.stored.1
  linked sibling h = ap (λ a. a.right) h.stored.1

  -- no node has more children than there are places
  few : {k : Way} {x : ℕ} {l : Label} {c r : Placed} → Focus m n used free t w k (node x l c r) s → (m x).children ≤ n
  few {x = x} {c = c} h =
      omega (arith, ap (λ a. a.children) h.stored.1, few_siblings m used x gone c h.stored.2 (λ y. omega (arith, h.once y)), h.room)

  pub few_above : (k : Way) (f : Placed) → Focus m n used free t w k f s → (parent_of k ≡ gone → ⊥) → (m (parent_of k)).children ≤ n
  few_above home f h ne = absurd (ne refl)
  few_above (step child x l o k) f h ne = few (back child h)
  few_above (step sibling x l o k) f h ne = few_above k (node x l o f) (back sibling h) ne

-- the parent counts all that stands at the end of the way
pub counts_all : (m : Table) (b h j z : ℕ) (k : Way) → Above m b h j z k → (parent_of k ≡ gone → ⊥) → j ≤ (m (parent_of k)).children
counts_all m b h j z home a ne = absurd (ne refl)
counts_all m b h j z (step child x l o k) a ne = omega (arith, ap (λ c. c.children) a.1)
counts_all m b h j z (step sibling x l o k) a ne = omega (arith, counts_all m b x (suc j) z k a.3 ne)

module _ {m : Table} {n used free : ℕ} {t : Forest} {s : Spare} where
  below : (k : Way) (f : Placed) {r : ℕ} → Focus m n used free t empty k f s → r ≡ head f → Leads m n used free t (some (path_of k)) r
  unfolding exists
  below k empty {r} h i = missing (path_of k) (omega (arith, i, h.room, h.few)) refl (ap exists (shown k empty h))
  below k (node x l c r) h i =
      found (path_of k) (omega (arith, i, h.stored.0, h.room)) refl (subst (λ z. Holds m n used free z t (path_of k)) (sym i) (whole k h))

  pub climb : (k : Way) (f : Placed) → Focus m n used free t empty k f s → Leads m n used free t (up (path_of k)) (parent_of k)
  unfolding up
  climb home f h = outside (omega (arith, h.room, h.few)) refl
  climb (step child x l o k) f h = found (path_of k) (omega (arith, h.above.0, h.room)) refl (whole k (back child h))
  climb (step sibling x l o k) f h = climb k (node x l o f) (back sibling h)

  back_left : (k : Way) (f : Placed) → Focus m n used free t empty k f s → Leads m n used free t (left_of (path_of k)) (prev_of k)
  unfolding left_of
  back_left home f h = outside (omega (arith, h.room, h.few)) refl
  back_left (step child x l o k) f h = outside (omega (arith, h.room, h.few)) refl
  back_left (step sibling x l o k) f h = found (path_of k) (omega (arith, h.above.0, h.room)) refl (whole k (back sibling h))

  furthest : (k : Way) (f : Placed) {v : ℕ} → n ≤ v → Focus m n used free t empty k f s → Leads m n used free t (last_from (path_of k) (erase f)) (last v f)
  unfolding last_from
  furthest k empty ge h = outside ge refl
  furthest k (node x l c empty) ge h = found (path_of k) (omega (arith, h.stored.0, h.room)) refl (whole k h)
  furthest k (node x l c (node y a d r)) ge h = furthest (step sibling x l c k) (node y a d r) ge (down sibling h)

  go_home : (k : Way) (f : Placed) → Focus m n used free t empty k f s → Holds m n used free 0 t root
  unfolding count
  go_home home empty h = absurd (omega (arith, h.above.1))
  go_home home (node x l c r) h = subst (λ z. Holds m n used free z t root) h.above.0 (whole home h)
  go_home (step child x l o k) f h = go_home k (node x l f o) (back child h)
  go_home (step sibling x l o k) f h = go_home k (node x l o f) (back sibling h)

module _ {m : Table} {n used free x : ℕ} {t : Forest} {p : Place} (h : Holds m n used free x t p) where
  at : At m n used free x t p
  at = seen h

  -- the node at the cursor
  shows : sub p t ≡ tree (m x).label (erase at.c) (erase at.r)
  shows =
      subst (λ q. sub q t ≡ tree at.l (erase at.c) (erase at.r)) at.is_path (shown at.k _ at.focus)
      ∙ ap (λ l. tree l (erase at.c) (erase at.r)) (sym (ap (λ a. a.label) at.focus.stored.1))

  pub stands : exists (sub p t) ≡ true
  unfolding exists
  stands = ap exists shows

  pub labelled : label (sub p t) ≡ (m x).label
  unfolding label
  labelled = ap label shows

  pub counted : count (along child (sub p t)) ≡ (m x).children
  unfolding along
  counted = ap (λ f. count (along child f)) shows ∙ sym (ap (λ a. a.children) at.focus.stored.1)

  pub few_children : (m x).children ≤ n
  few_children = few at.focus

  -- the moves
  pub to_root : Holds m n used free 0 t root
  to_root = go_home at.k _ at.focus

  pub to_side : (d : Side) → Leads m n used free t (some (to d p)) (link d (m x))
  to_side d =
      subst (λ q. Leads m n used free t (some (to d q)) (link d (m x))) at.is_path (below _ _ (down d at.focus) (linked d at.focus))

  pub to_parent : Leads m n used free t (up p) (m x).parent
  to_parent =
      subst (λ q. Leads m n used free t (up q) (m x).parent) at.is_path
      (subst (λ z. Leads m n used free t (up (path_of at.k)) z) (sym (ap (λ a. a.parent) at.focus.stored.1)) (climb at.k _ at.focus))

  pub to_left : Leads m n used free t (left_of p) (m x).left
  to_left =
      subst (λ q. Leads m n used free t (left_of q) (m x).left) at.is_path
      (subst (λ z. Leads m n used free t (left_of (path_of at.k)) z) (sym (ap (λ a. a.left) at.focus.stored.1)) (back_left at.k _ at.focus))

  pub to_last : Leads m n used free t (last_of p t) (m x).last
  unfolding last_of
  to_last =
      let below = down child at.focus in
      let e : last_from (to child p) (erase at.c) ≡ last_from (to child p) (sub (to child p) t) =
      ap (last_from (to child p)) (sym (subst (λ q. sub (to child q) t ≡ erase at.c) at.is_path (shown _ _ below))) in
      subst (λ o. Leads m n used free t o (m x).last) e
      (subst (λ q. Leads m n used free t (last_from (to child q) (erase at.c)) (m x).last) at.is_path
      (subst (λ z. Leads m n used free t (last_from (to child (path_of at.k)) (erase at.c)) z) (sym (ap (λ a. a.last) at.focus.stored.1))
      (furthest _ at.c (omega (arith, h.few)) below)))

  -- a stored level is a byte
  pub levels : ByteLevels (m x).label
  levels = subst ByteLevels (sym (ap (λ a. a.label) at.focus.stored.1)) at.focus.stored.4
