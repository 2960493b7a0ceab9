-- Every node of a stored tree has its number of children in its cell: the links lead to its place, step by step from the root, and its cell is the one
-- that the tree tells. So a table with a wrong count stores no tree, and what free places hold is nothing to it. Assumes nothing.
use mathlib.Core.Path.{◌≡◌, refl, sym, ap, subst, ◌∙◌}
use mathlib.Core.Bool.{true, true≢false}
use Prim.Native.Nat.{ℕ, zero, suc, ◌≤◌}
use native.Mathlib.Omega.{arith}
use Rattle.rules.specs.Tree.{Label, Forest, Side, child, sibling, along, Place, root, to, sub, exists, count}
use Rattle.rules.proofs.Trees.{exists_along}
use Rattle.table.specs.Cells.{Table, gone}
use Rattle.table.specs.Holds.{Placed, empty, node, erase, head, beside, part, Stored, Holds}
use Rattle.lent.specs.Stands.{Stands}
use Rattle.lent.specs.Children.{place_of, Counts, Live, Row, WrongCount, SameLive}
use Rattle.table.proofs.Ways.{Some}

-- the forest without its places, at a place of it
beside_erase : (d : Side) (f : Placed) → erase (beside d f) ≡ along d (erase f)
unfolding along
beside_erase d empty = refl
beside_erase child (node x l c r) = refl
beside_erase sibling (node x l c r) = refl

part_erase : (p : Place) (f : Placed) → erase (part p f) ≡ sub p (erase f)
unfolding sub
part_erase root f = refl
part_erase (to d p) f = beside_erase d (part p f) ∙ ap (along d) (part_erase p f)

some_exists : (f : Placed) → exists (erase f) ≡ true → Some f
unfolding exists
some_exists empty e = true≢false (sym e)
some_exists (node x l c r) e = tt

some_link : (f : Placed) → (head f ≡ gone → ⊥) → Some f
some_link empty ne = ne refl
some_link (node x l c r) ne = tt

some_place : (m : Table) (n u v : ℕ) (f : Placed) → n ≤ gone → Stored m n u v f → Some f → head f ≡ gone → ⊥
some_place m n u v empty le h s e = s
some_place m n u v (node x l c r) le h s e = omega (arith, le, h.0, e)

-- k siblings by the links are those of the forest
row_count : (m : Table) (n u v : ℕ) (f : Placed) (k : ℕ) → n ≤ gone → Stored m n u v f → Row m (head f) k → count (erase f) ≡ k
unfolding count
row_count m n u v empty zero le h e = refl
row_count m n u v empty (suc k) le h e = absurd (e.0 refl)
row_count m n u v (node x l c r) zero le h e = absurd (omega (arith, le, h.0, e))
row_count m n u v (node x l c r) (suc k) le h e =
    ap suc (row_count m n u x r k le h.3 (subst (λ y. Row m y k) (ap (λ a. a.right) h.1) e.1))

module _ (m : Table) (n : ℕ) (f : Placed) (stored : Stored m n gone gone f) (first : head f ≡ 0) where
  -- the links lead to the node at p, which the table stores with all below it and to its right
  record At (p : Place) : Type 0 where
    u : ℕ
    v : ℕ
    x : ℕ
    l : Label
    c : Placed
    r : Placed
    is : part p f ≡ node x l c r
    place : x ≡ place_of m p
    cells : Stored m n u v (node x l c r)

  at_root : Some f → At root
  unfolding place_of
  at_root h = go f refl h
    where
      go : (g : Placed) → f ≡ g → Some g → At root
      go empty e h = absurd h
      go (node x l c r) e h =
          record {
            u = gone;
            v = gone;
            x = x;
            l = l;
            c = c;
            r = r;
            is = e;
            place = sym (ap head e) ∙ first;
            cells = subst (Stored m n gone gone) e stored;
          }

  -- the link from a node leads to what stands on that side of it
  beside_head : (d : Side) (p : Place) (a : At p) → head (beside d (part p f)) ≡ place_of m (to d p)
  unfolding place_of
  beside_head child p a =
      ap (λ g. head (beside child g)) a.is ∙ sym (ap (λ z. z.first) a.cells.1) ∙ ap (λ y. (m y).first) a.place
  beside_head sibling p a =
      ap (λ g. head (beside sibling g)) a.is ∙ sym (ap (λ z. z.right) a.cells.1) ∙ ap (λ y. (m y).right) a.place

  beside_stored : (d : Side) (p : Place) (a : At p) → (u : ℕ) × (v : ℕ) × Stored m n u v (beside d (part p f))
  beside_stored child p a = (a.x, gone, subst (λ g. Stored m n a.x gone (beside child g)) (sym a.is) a.cells.2)
  beside_stored sibling p a = (a.u, a.x, subst (λ g. Stored m n a.u a.x (beside sibling g)) (sym a.is) a.cells.3)

  at_side : (d : Side) (p : Place) → At p → Some (beside d (part p f)) → At (to d p)
  at_side d p a h = go (beside d (part p f)) refl h
    where
      go : (g : Placed) → beside d (part p f) ≡ g → Some g → At (to d p)
      go empty e h = absurd h
      go (node x l c r) e h =
          let s = beside_stored d p a in
          record {
            u = s.0;
            v = s.1;
            x = x;
            l = l;
            c = c;
            r = r;
            is = e;
            place = sym (ap head e) ∙ beside_head d p a;
            cells = subst (Stored m n s.0 s.1) e s.2;
          }

  -- every node of the tree is reached so
  node_at : (p : Place) → exists (sub p (erase f)) ≡ true → At p
  unfolding sub
  node_at root e = at_root (some_exists f e)
  node_at (to d p) e =
      at_side d p (node_at p (exists_along d _ e)) (some_exists (beside d (part p f)) (ap exists (part_erase (to d p) f) ∙ e))

  -- and so is every node that the links lead to
  live_at : (p : Place) → Live m p → At p
  live_at root h = at_root (some_link f (λ e. omega (arith, first, e)))
  live_at (to d p) h =
      let a = live_at p h.0 in at_side d p a (some_link (beside d (part p f)) (λ e. h.1 (sym (beside_head d p a) ∙ e)))

  children_at : (p : Place) (a : At p) → (m (place_of m p)).children ≡ count (erase a.c)
  children_at p a = ap (λ y. (m y).children) (sym a.place) ∙ ap (λ z. z.children) a.cells.1

  stored_counts : Counts m (erase f)
  unfolding Counts sub
  stored_counts p e =
      let a = node_at p e in
      children_at p a ∙ ap (λ g. count (erase (beside child g))) (sym a.is) ∙ ap count (part_erase (to child p) f)

  -- the links lead to as many children as are counted
  stored_rows : n ≤ gone → (p : Place) (k : ℕ) → Live m p → Row m (m (place_of m p)).first k → (m (place_of m p)).children ≡ k
  stored_rows le p k h e =
      let a = live_at p h in
      let z : (m (place_of m p)).first ≡ head a.c = ap (λ y. (m y).first) (sym a.place) ∙ ap (λ z. z.first) a.cells.1 in
      children_at p a ∙ row_count m n a.x gone a.c k le a.cells.2 (subst (λ y. Row m y k) z e)

-- what a run holds, after the load and after every command
pub holds_counts : {m : Table} {n used free at : ℕ} {t : Forest} {p : Place} → Holds m n used free at t p → Counts m t
holds_counts {m} {used = used} h = subst (Counts m) h.is_tree (stored_counts m used h.placed h.stored h.is_root)

-- what stands in a lent table
pub stands_counts : {m : Table} {n : ℕ} {t : Forest} → Stands m n t → Counts m t
stands_counts {m} {n} h = subst (Counts m) h.is_tree (stored_counts m n h.placed h.stored h.is_root)

-- in a table with a wrong count there stands no tree
pub wrong_stands : {m : Table} {n : ℕ} {t : Forest} → n ≤ gone → WrongCount m → Stands m n t → ⊥
wrong_stands {m} {n} le w h = w.wrong (stored_rows m n h.placed h.stored h.is_root le w.node w.k w.live w.children)

-- the same cells at the places of live nodes store the same forest
relive : (m m' : Table) → SameLive m m' → (n u v : ℕ) (p : Place) (f : Placed) → n ≤ gone → (Some f → Live m p) → head f ≡ place_of m p
    → Stored m n u v f → Stored m' n u v f
unfolding SameLive place_of
relive m m' same n u v p empty le live at h = tt
relive m m' same n u v p (node x l c r) le live at h =
    let first : head c ≡ place_of m (to child p) = sym (ap (λ z. z.first) h.1) ∙ ap (λ y. (m y).first) at in
    let right : head r ≡ place_of m (to sibling p) = sym (ap (λ z. z.right) h.1) ∙ ap (λ y. (m y).right) at in (
      h.0,
      subst (λ y. m' y ≡ m y) (sym at) (same p (live tt)) ∙ h.1,
      relive m m' same n x gone (to child p) c le (λ s. (live tt, λ z. some_place m n x gone c le h.2 s (first ∙ z))) first h.2,
      relive m m' same n u x (to sibling p) r le (λ s. (live tt, λ z. some_place m n u x r le h.3 s (right ∙ z))) right h.3,
      h.4,
    )

-- what free places hold does not matter
pub free_stands : {m m' : Table} {n : ℕ} {t : Forest} → n ≤ gone → SameLive m m' → Stands m n t → Stands m' n t
unfolding place_of
free_stands {m} {m'} {n} le same h =
    record {
      placed = h.placed;
      is_tree = h.is_tree;
      is_root = h.is_root;
      alone = h.alone;
      stored = relive m m' same n gone gone root h.placed le (λ _. tt) h.is_root h.stored;
      few = h.few;
      rules = h.rules;
    }
