-- The tree of n node records has at most n nodes: among the records from one on, those that hang under different earlier records are
-- different records. Assumes nothing.
use mathlib.Core.Path.{◌≡◌, refl}
use Prim.Native.Nat.{ℕ, zero, suc, ◌+◌, ◌-◌, ◌≤◌, ◌<◌}
use native.Mathlib.Nat.{lt-suc_self}
use native.Mathlib.Omega.{arith}
use mathlib.Core.Bool.{true, false}
use mathlib.Core.List.{List, [], ◌∷◌}
use lib.Dec.{eqb}
use borrow.Author.Tests.{eqb-true, ne_eqb}
use Rattle.rules.specs.Tree.{size}
use Rattle.rules.specs.Check.{parent}
use Rattle.rules.specs.Job.{children_of, tree_of}
use Rattle.rules.proofs.Tests.{Test, holds, fails, test}
use Rattle.rules.proofs.Parts.{Falls, empty, next, raise}

-- a list that falls, from below a bound
abbrev Below : ℕ → List ℕ → Type 0
Below = Falls (λ p ps. Unit {0})

module _ (b : List ℕ) (base : ℕ) where
  -- the nodes under p among the n records from i on
  abbrev under : ℕ → ℕ → ℕ → ℕ
  under p n i = size (children_of b base p n i)

  -- the nodes under some records
  total : List ℕ → ℕ → ℕ → ℕ
  total [] n i = 0
  total (p ∷ ps) n i = under p n i + total ps n i

  under_yes : (p n i : ℕ) → eqb (parent b base i) p ≡ true → under p (suc n) i ≡ suc (under i n (suc i) + under p n (suc i))
  unfolding children_of size
  under_yes p n i e = rw (e, children_of)

  under_no : (p n i : ℕ) → eqb (parent b base i) p ≡ false → under p (suc n) i ≡ under p n (suc i)
  unfolding children_of size
  under_no p n i e = rw (e, children_of)

  total_none : (ps : List ℕ) (i : ℕ) → total ps zero i ≡ 0
  unfolding total children_of size
  total_none [] i = refl
  total_none (p ∷ ps) i = let c = total_none ps i in omega arith

  -- record i hangs under none of them
  total_no : (q n i : ℕ) (ps : List ℕ) → parent b base i ≡ q → Below q ps → total ps (suc n) i ≡ total ps n (suc i)
  unfolding total
  total_no q n i [] e f = refl
  total_no q n i (p ∷ ps) e (next l u f) =
      let a = under_no p n i (ne_eqb (parent b base i) p (λ z. omega arith)) in
      let m : p ≤ q = omega arith in
      let c = total_no q n i ps e (raise m f) in
      omega (arith, a, c)

  -- or under one of them
  total_one : (n i j : ℕ) (ps : List ℕ) → Below j ps → total ps (suc n) i ≤ suc (under i n (suc i) + total ps n (suc i))
  unfolding total
  total_one n i j [] f = omega arith
  total_one n i j (p ∷ ps) (next l u f) =
      let m : p ≤ j = omega arith in pick (test (eqb (parent b base i) p)) (total_one n i j ps (raise m f))
    where
      pick : Test (eqb (parent b base i) p) → total ps (suc n) i ≤ suc (under i n (suc i) + total ps n (suc i))
          → under p (suc n) i + total ps (suc n) i ≤ suc (under i n (suc i) + (under p n (suc i) + total ps n (suc i)))
      pick (holds e) r =
          let a = under_yes p n i e in
          let c = total_no p n i ps (eqb-true (parent b base i) p e) f in
          omega (arith, a, c)
      pick (fails e) r = let a = under_no p n i e in omega (arith, a, r)

  total_few : (n i : ℕ) (ps : List ℕ) → Below i ps → total ps n i ≤ n
  unfolding total
  total_few zero i ps f = let c = total_none ps i in omega (arith, c)
  total_few (suc n) i ps f =
      let a = total_one n i i ps f in let c = total_few n (suc i) (i ∷ ps) (next (lt-suc_self i) tt f) in omega (arith, a, c)

  pub children_few : (p n i : ℕ) → p < i → size (children_of b base p n i) ≤ n
  unfolding total
  children_few p n i h = let c = total_few n i (p ∷ []) (next h tt empty) in omega (arith, c)

  pub tree_size : (n : ℕ) → 1 ≤ n → size (tree_of b base n) ≤ n
  unfolding tree_of size
  tree_size n h = let c = children_few 0 (n - 1) 1 (lt-suc_self 0) in omega (arith, c)
