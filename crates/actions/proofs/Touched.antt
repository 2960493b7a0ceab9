-- Where a move leads, by the number that it gives: below the number of places it is the place of the node there, else there is no node. So the tests of
-- an insertion or a removal, read from the table, are those of the rules. Assumes nothing.
use mathlib.Core.Path.{◌≡◌, refl, sym, ap, subst, ◌∙◌}
use mathlib.Core.Bool.{true, false}
use mathlib.Core.Option.{Option, none, some}
use Prim.Native.Nat.{ℕ, ◌<◌, ◌≤◌}
use native.Mathlib.Omega.{arith}
use Rattle.rules.specs.Level.{join, not_above}
use Rattle.rules.specs.Tree.{Forest, nil, tree, Side, child, sibling, along, Place, root, to, up, sub, exists, label}
use Rattle.rules.specs.Run as Run
use Rattle.rules.specs.Run.{position, may_touch}
use Rattle.rules.proofs.Tests.{clash}
use Rattle.table.specs.Cells.{Table}
use Rattle.table.specs.Holds.{Holds}
use Rattle.table.specs.Promises.{Leads, outside, missing, found}
use Rattle.table.proofs.Moves.{stands}
use Rattle.actions.specs.declared.memory.Memory.{Memory}
use Rattle.actions.specs.Shows.{Slices, Shows, level_in}

module _ {m : Table} {n used free r : ℕ} {t : Forest} {p : Place} where
  pub there : Leads m n used free t (some p) r → r < n → Holds m n used free r t p
  there (outside z i) lt = absurd (omega arith)
  there (missing q z i u) lt = absurd (omega arith)
  there (found q z i u) lt = let e : q ≡ p = cc in subst (Holds m n used free r t) e u

  pub nowhere : Leads m n used free t (some p) r → n ≤ r → exists (sub p t) ≡ false
  nowhere (outside z i) ge = let e : ◌≡◌ {A = ℕ} 0 1 = cc in absurd (omega arith)
  nowhere (missing q z i u) ge = let e : q ≡ p = cc in subst (λ x. exists (sub x t) ≡ false) e u
  nowhere (found q z i u) ge = absurd (omega arith)

-- what has something on a side is there
beside_stands : (d : Side) (f : Forest) → exists (along d f) ≡ true → exists f ≡ true
unfolding along exists
beside_stands d nil h = h
beside_stands d (tree l c r) h = refl

-- so a node's parent is there
parent_stands : (t : Forest) (p q : Place) → exists (sub p t) ≡ true → up p ≡ some q → exists (sub q t) ≡ true
unfolding sub up
parent_stands t root q h i = let e : ◌≡◌ {A = ℕ} 0 1 = cc in absurd (omega arith)
parent_stands t (to child p) q h i = let e : p ≡ q = cc in subst (λ x. exists (sub x t) ≡ true) e (beside_stands child (sub p t) h)
parent_stands t (to sibling p) q h i = parent_stands t p q (beside_stands sibling (sub p t) h) i

-- and so is the parent that a node on a side of it has
above_stands : (t : Forest) (d : Side) (p q : Place) → exists (sub p t) ≡ true → up (to d p) ≡ some q → exists (sub q t) ≡ true
unfolding up
above_stands t child p q h i = let e : p ≡ q = cc in subst (λ x. exists (sub x t) ≡ true) e h
above_stands t sibling p q h i = parent_stands t p q h i

-- the parent's place
pub record Under (m : Table) (n used free r : ℕ) (t : Forest) (o : Option Place) : Type 0 where
  pub place : Place
  pub is : o ≡ some place
  pub holds : Holds m n used free r t place

module _ {m : Table} {n used free r : ℕ} {t : Forest} where
  pub under : {o : Option Place} → Leads m n used free t o r → r < n → Under m n used free r t o
  under (outside z i) lt = absurd (omega arith)
  under (missing q z i u) lt = absurd (omega arith)
  under (found q z i u) lt = record { place = q; is = i; holds = u }

  pub no_parent_law : (d : Side) {x : ℕ} {p : Place} → Holds m n used free x t p → Leads m n used free t (up (to d p)) r → n ≤ r → up (to d p) ≡ none
  no_parent_law d h (outside z i) ge = i
  no_parent_law d {p = p} h (missing q z i u) ge = clash (above_stands t d p q (stands h) i) u
  no_parent_law d h (found q z i u) ge = absurd (omega arith)

-- C at the cursor
pub position_is : (pc : ℕ) {places vars c : ℕ} {x : Slices} {m : Memory} {μ : Run.Memory} → c ≡ join pc (level_in m) → Shows places vars x m μ
    → c ≡ position pc μ
unfolding position
position_is pc e s = e ∙ ap (join pc) (sym s.level)

module _ (pc : ℕ) (μ : Run.Memory) where
  -- nothing is in the way where there is no node
  pub free_to_touch : (f : Forest) → exists f ≡ false → may_touch pc μ f ≡ true
  unfolding exists may_touch
  free_to_touch nil h = refl
  free_to_touch (tree l c r) h = clash refl h

  -- else its existence decides
  pub by_existence : (f : Forest) → exists f ≡ true → may_touch pc μ f ≡ not_above (position pc μ) (label f).existence
  unfolding exists may_touch label
  by_existence nil h = clash h refl
  by_existence (tree l c r) h = refl
