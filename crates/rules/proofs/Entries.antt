-- The tree of node records depends on them only through each one's parent and label. Assumes nothing.
use mathlib.Core.Path.{◌≡◌, refl, ap, ap₂, ◌∙◌}
use Prim.Native.Nat.{ℕ, zero, suc, ◌+◌, ◌-◌, ◌≤◌}
use native.Mathlib.Omega.{arith}
use mathlib.Core.List.{List, [], ◌∷◌}
use lib.Dec.{eqb}
use Rattle.rules.specs.Tree.{Label, Forest, nil, tree, size}
use Rattle.rules.specs.Check.{parent}
use Rattle.rules.specs.Job.{listed, label_of, children_of, tree_of}
use Rattle.rules.proofs.Tests.{Test, holds, fails, test}
use Rattle.rules.specs.Write.{Entry, listing}
use Rattle.rules.proofs.Listing.{kids, keep}

-- the tree of a list of entries whose first is the root
unfoldable pub tree_list : List Entry → Forest
tree_list [] = nil
tree_list (e ∷ es) = tree e.label (kids 0 1 es) nil

module _ (b : List ℕ) (base : ℕ) where
  -- the entry of record i
  unfoldable pub entry_of : ℕ → Entry
  entry_of i = record { parent = parent b base i; label = label_of b base i }

  pub children_kids : (p n i : ℕ) → children_of b base p n i ≡ kids p i (listed entry_of n i)
  unfolding children_of listed entry_of kids
  children_kids p zero i = refl
  children_kids p (suc n) i = pick (test (eqb (parent b base i) p)) (children_kids i n (suc i)) (children_kids p n (suc i))
    where
      pick : Test (eqb (parent b base i) p) → children_of b base i n (suc i) ≡ kids i (suc i) (listed entry_of n (suc i))
          → children_of b base p n (suc i) ≡ kids p (suc i) (listed entry_of n (suc i))
          → children_of b base p (suc n) i ≡ kids p i (listed entry_of (suc n) i)
      pick (holds e) c r = rw (e, children_of) (ap₂ (tree (label_of b base i)) c r)
      pick (fails e) c r = rw (e, children_of) r

  pub tree_list_law : (n : ℕ) → 1 ≤ n → tree_of b base n ≡ tree_list (listed entry_of n 0)
  unfolding tree_of tree_list listed entry_of
  tree_list_law zero h = absurd (omega arith)
  tree_list_law (suc n) h =
      ap (λ (f : Forest). tree (label_of b base 0) f nil)
      (ap (λ (k : ℕ). children_of b base 0 k 1) {x = suc n - 1} {y = n} (omega arith) ∙ children_kids 0 n 1)

-- a tree, listed and read back
pub listed_tree : (p : ℕ) (l : Label) (c : Forest) → tree_list (listing p 0 (tree l c nil)) ≡ tree l c nil
unfolding tree_list listing kids
listed_tree p l c = ap (λ (f : Forest). tree l f nil) (keep 0 1 c [] (1 + size c) (omega arith) (omega arith) refl (λ q a b. refl))
