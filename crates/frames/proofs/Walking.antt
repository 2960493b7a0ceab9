-- A walk over a tree in preorder puts the tree's lines, node by node. Assumes nothing.
use mathlib.Core.List.{List, [], ◌∷◌, ◌++◌}
use mathlib.Core.Path.{◌≡◌, refl, sym, ◌∙◌, ap, subst}
use native.Mathlib.Numerals.{add-one}
use native.Mathlib.Omega.{arith}
use Prim.Native.Nat.{ℕ, zero, suc, ◌+◌}
use lib.ListN.{take, drop}
use lib.Seq.{take_all}
use Rattle.rules.specs.Tree.{Forest, nil, tree, child, sibling, Place, root, to, sub, along, label, size}
use Rattle.table.specs.Cells.{Table}
use Rattle.print.specs.Waiting.{Output}
use Rattle.print.specs.Preorder.{Stop, stop, preorder, Stands}
use Rattle.print.proofs.Visiting.{length_preorder}
use Rattle.frames.specs.Pieces.{Piece, Writes}
use Rattle.frames.specs.Answers.{node_row, tree_rows}
use Rattle.frames.proofs.Putting.{after}

module _ (t : Forest) where
  -- the lines of nodes of the tree
  unfoldable pub rows : List Stop → List Piece
  rows [] = []
  rows (stop p d ∷ l) = node_row d (label (sub p t)) ∷ rows l

  rows_append : (a b : List Stop) → rows (a ++ b) ≡ rows a ++ rows b
  unfolding rows
  rows_append [] b = refl
  rows_append (stop p d ∷ a) b = ap (λ l. node_row d (label (sub p t)) ∷ l) (rows_append a b)

  -- siblings from a place on
  all_rows : (p : Place) (d : ℕ) (f : Forest) → sub p t ≡ f → rows (preorder p d f) ≡ tree_rows d f
  unfolding rows preorder tree_rows sub along label
  all_rows p d nil e = refl
  all_rows p d (tree l c r) e =
      (λ i. node_row d (label (e i)) ∷ rows (preorder (to child p) (suc d) c ++ preorder (to sibling p) d r))
      ∙ ap (λ l'. node_row d l ∷ l') (rows_append (preorder (to child p) (suc d) c) (preorder (to sibling p) d r)
      ∙ ap (λ a. a ++ rows (preorder (to sibling p) d r)) (all_rows (to child p) (suc d) c (ap (along child) e))
      ∙ ap (λ b. tree_rows (suc d) c ++ b) (all_rows (to sibling p) d r (ap (along sibling) e)))

-- a list's elements up to the one that comes next
taken : (k : ℕ) (l : List Stop) {s : Stop} {u : List Stop} → drop k l ≡ s ∷ u → take (suc k) l ≡ take k l ++ (s ∷ [])
taken zero [] e = cc e
taken zero (x ∷ l) e = cc e
taken (suc k) [] e = cc e
taken (suc k) (x ∷ l) e = ap (λ m. x ∷ m) (taken k l e)

module _ {m : Table} {n used free : ℕ} {t : Forest} {k : ℕ} {o p : Output} where
  -- a node more
  pub visited : {q : Output} {x e : ℕ} (at : Stands m n used free t k x e) → Writes (rows t (take k (preorder root 0 t))) o p
      → Writes (node_row e (label (sub at.place t)) ∷ []) p q → Writes (rows t (take (k + 1) (preorder root 0 t))) o q
  unfolding rows
  visited {q} at x y =
      subst (λ ps. Writes ps o q)
      (sym (ap (λ j. rows t (take j (preorder root 0 t))) (add-one k) ∙ ap (rows t) (taken k (preorder root 0 t) at.ahead) ∙ rows_append t (take k (preorder root 0 t)) _))
      (after x y)

-- all of them
pub over : (t : Forest) {k : ℕ} {o p : Output} → size t ≡ suc k → Writes (rows t (take (k + 1) (preorder root 0 t))) o p → Writes (tree_rows 0 t) o p
unfolding sub
over t {k} {o} {p} end x =
    subst (λ ps. Writes ps o p)
    (ap (rows t) (take_all (k + 1) (preorder root 0 t) (omega (arith, length_preorder root 0 t, end))) ∙ all_rows t root 0 t refl) x
