-- Two scripts with the same n command numbers have the same parts, the same faults and the same jumps, as these read no number from n on.
-- Assumes nothing.
use mathlib.Core.Path.{◌≡◌, refl, sym, ap, ◌∙◌}
use mathlib.Core.Bool.{true, false}
use mathlib.Core.List.{List, head_d}
use Prim.Native.Nat.{ℕ, zero, suc, ◌-◌, ◌≤◌, ◌<◌}
use native.Mathlib.Nat.{le_of_lt}
use native.Mathlib.Decide.{dec_lt}
use native.Mathlib.Omega.{arith}
use lib.Dec.{eqb}
use lib.ListN.{length}
use Rattle.rules.specs.Blocks.{branches, parts, nest, head_is_if, placed, block_rule, closes_part, closer, past_else, past_end, goes_to}
use Rattle.rules.specs.Check.{first_fault}
use Rattle.rules.proofs.Tests.{Test, holds, fails, test}
use Rattle.rules.proofs.Search.{first_agree, fault_agree}
use Rattle.rules.proofs.Parts.{Below, empty, next, parts_below, rule_inside, rule_end}

module _ (f g : ℕ → ℕ) (n : ℕ) (same : (j : ℕ) → j < n → f j ≡ g j) where
  pub parts_agree : (i : ℕ) → i ≤ n → parts f i ≡ parts g i
  unfolding parts
  parts_agree zero h = refl
  parts_agree (suc i) h = rw (same i h, parts_agree i (le_of_lt h))

  pub nest_agree : (i : ℕ) → i ≤ n → nest f i ≡ nest g i
  unfolding nest
  nest_agree zero h = refl
  nest_agree (suc i) h = rw (same i h, nest_agree i (le_of_lt h))

  if_agree : {i : ℕ} {ps : List ℕ} → Below f i ps → i ≤ n → head_is_if f ps ≡ head_is_if g ps
  unfolding head_is_if
  if_agree empty h = refl
  if_agree (next {o = p} l b r) h = rw (same p (omega arith))

  placed_agree : (i : ℕ) → i < n → placed f (f i) (parts f i) ≡ placed g (g i) (parts g i)
  unfolding placed
  placed_agree i h = let m : i ≤ n = omega arith in rw (if_agree (parts_below f i) m, same i h, parts_agree i m)

  pub rule_agree : (i : ℕ) → i ≤ n → block_rule f n i ≡ block_rule g n i
  rule_agree i h = go (dec_lt i n)
    where
      go : Dec (i < n) → block_rule f n i ≡ block_rule g n i
      go (yes l) = rule_inside f n i l ∙ placed_agree i l ∙ sym (rule_inside g n i l)
      go (no l) =
          let m : n ≤ i = omega arith in rule_end f n i m ∙ ap (λ (ps : List ℕ). eqb (length ps) 0) (parts_agree i h) ∙ sym (rule_end g n i m)

  pub faults_agree : first_fault (block_rule f n) (suc n) 0 ≡ first_fault (block_rule g n) (suc n) 0
  faults_agree = fault_agree (block_rule f n) (block_rule g n) (suc n) 0 (λ k a b. rule_agree k (omega arith))

  pub closer_agree : (p : ℕ) → p < n → closer f n p ≡ closer g n p
  unfolding closer closes_part
  closer_agree p h = first_agree _ _ (n - suc p) (suc p) (λ k a b. let l : k < n = omega arith in rw (same k l, parts_agree k (le_of_lt l)))

  inner_below : {i : ℕ} {ps : List ℕ} → Below f i ps → i < n → head_d ps 0 < n
  unfolding head_d
  inner_below empty h = omega arith
  inner_below (next l b r) h = omega arith

  -- in a script where the part that record k begins is closed
  pub goes_agree : (k : ℕ) → k < n → (branches (f k) ≡ true → closer f n k < n) → goes_to f n k ≡ goes_to g n k
  unfolding goes_to past_else past_end
  goes_agree k h c = go (test (branches (f k)))
    where
      go : Test (branches (f k)) → goes_to f n k ≡ goes_to g n k
      go (holds q) = let r : branches (g k) ≡ true = rw (same k h) at q in rw (q, r, same (closer f n k) (c q), closer_agree k h)
      go (fails q) =
          let r : branches (g k) ≡ false = rw (same k h) at q in
          rw (same k h, r, same (head_d (parts f k) 0) (inner_below (parts_below f k) h), closer_agree k h, parts_agree k (le_of_lt h))
