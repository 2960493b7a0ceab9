-- Node records that have the same parents and labels in two jobs make the same tree and pass the same checks 5 and 6. Assumes nothing.
use mathlib.Core.Path.{◌≡◌, refl, ap, ap₂}
use Prim.Native.Nat.{ℕ, zero, suc, ◌+◌, ◌-◌, ◌≤◌, ◌<◌}
use native.Mathlib.Omega.{arith}
use mathlib.Core.Bool.{true}
use Rattle.std.specs.Prelude.{Option, None, Some}
use mathlib.Core.List.{List}
use lib.Dec.{eqb}
use borrow.Author.Tests.{eqb-false}
use Rattle.rules.specs.Tree.{Label, Forest, nil, tree}
use Rattle.rules.specs.Check.{parent, existence, content, structure, parent_rule, label_rule, nearest, left_rule, child_rule, node_rule}
use Rattle.rules.specs.Job.{label_of, children_of, tree_of}
use Rattle.rules.proofs.Tests.{Test, holds, fails, test}
use Rattle.rules.proofs.Nearest.{near_below}
use Rattle.rules.proofs.Accepted.{parent_before}

module _
    (b c : List ℕ) (base n : ℕ) (parents : (k : ℕ) → k < n → parent c base k ≡ parent b base k)
    (labels : (k : ℕ) → k < n → label_of c base k ≡ label_of b base k)
  where
    existence_same : (k : ℕ) → k < n → existence c base k ≡ existence b base k
    unfolding label_of
    existence_same k h = ap (λ (l : Label). l.existence) (labels k h)

    content_same : (k : ℕ) → k < n → content c base k ≡ content b base k
    unfolding label_of
    content_same k h = ap (λ (l : Label). l.content) (labels k h)

    structure_same : (k : ℕ) → k < n → structure c base k ≡ structure b base k
    unfolding label_of
    structure_same k h = ap (λ (l : Label). l.structure) (labels k h)

    children_same : (p m i : ℕ) → i + m ≤ n → children_of c base p m i ≡ children_of b base p m i
    unfolding children_of
    children_same p zero i h = refl
    children_same p (suc m) i h = by (test (eqb (parent b base i) p)) (children_same i m (suc i) (omega arith)) (children_same p m (suc i) (omega arith))
      where
        by : Test (eqb (parent b base i) p) → children_of c base i m (suc i) ≡ children_of b base i m (suc i) → children_of c base p m (suc i) ≡ children_of b base p m (suc i)
            → children_of c base p (suc m) i ≡ children_of b base p (suc m) i
        by (holds t) e f = rw (parents i (omega arith), t, children_of, labels i (omega arith), e, f)
        by (fails t) e f = rw (parents i (omega arith), t, children_of, f)

    pub tree_same : 1 ≤ n → tree_of c base n ≡ tree_of b base n
    unfolding tree_of
    tree_same h = ap₂ (λ (l : Label) (f : Forest). tree l f nil) (labels 0 h) (children_same 0 (n - 1) 1 (omega arith))

    pub parent_rule_law : (i : ℕ) → i < n → parent_rule c base i ≡ parent_rule b base i
    unfolding parent_rule
    parent_rule_law i h = rw (parents i h)

    label_rule_law : (i : ℕ) → i < n → label_rule c base i ≡ label_rule b base i
    unfolding label_rule
    label_rule_law i h = rw (existence_same i h, content_same i h, structure_same i h)

    nearest_same : (p i : ℕ) → i ≤ n → nearest c base p i ≡ nearest b base p i
    unfolding nearest
    nearest_same p zero h = refl
    nearest_same p (suc i) h = rw (parents i (omega arith), nearest_same p i (omega arith))

    left_rule_law : (i : ℕ) (w : Option ℕ) → i < n → ((j : ℕ) → w ≡ Some j → j < i) → left_rule c base i w ≡ left_rule b base i w
    unfolding left_rule
    left_rule_law i None h g = refl
    left_rule_law i (Some j) h g = let l = g j refl in rw (existence_same i h, existence_same j (omega arith))

    child_rule_law : (i : ℕ) → i < n → parent b base i < i → child_rule c base i ≡ child_rule b base i
    unfolding child_rule
    child_rule_law i h l =
        let p = parent b base i in
        rw (
          parents i h,
          existence_same p (omega arith),
          existence_same i h,
          structure_same p (omega arith),
          nearest_same p i (omega arith),
          left_rule_law i (nearest b base p i) h (λ j e. near_below b base p i e),
        )

    pub node_rule_law : (i : ℕ) → i < n → parent_rule b base i ≡ true → node_rule c base i ≡ node_rule b base i
    unfolding node_rule
    node_rule_law i h q = by (test (eqb i 0))
      where
        by : Test (eqb i 0) → node_rule c base i ≡ node_rule b base i
        by (holds t) = rw (label_rule_law i h, existence_same i h, t)
        by (fails t) = rw (label_rule_law i h, t, child_rule_law i h (parent_before b base i (eqb-false i 0 t) q))
