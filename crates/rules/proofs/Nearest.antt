-- The backward search for the nearest earlier record with a parent: one step of it is one equation of the definition. Assumes nothing.
use mathlib.Core.Path.{◌≡◌, ap, ◌∙◌}
use mathlib.Core.Bool.{cond}
use Rattle.std.specs.Prelude.{None, Some}
use mathlib.Core.List.{List}
use Prim.Native.Nat.{ℕ, zero, suc, ◌-◌, ◌<◌}
use native.Mathlib.Omega.{arith}
use lib.Dec.{eqb}
use borrow.Author.Tests.{eq-eqb, ne_eqb}
use Rattle.rules.specs.Check.{nearest, parent}
use Rattle.rules.proofs.Tests.{Test, holds, fails, test}

module _ (b : List ℕ) (base p : ℕ) where
  back : (k : ℕ) → (k ≡ 0 → ⊥) → nearest b base p k ≡ cond (eqb (parent b base (k - 1)) p) (Some (k - 1)) (nearest b base p (k - 1))
  unfolding nearest
  back k h = ap (nearest b base p) {x = k} {y = suc (k - 1)} (omega arith)

  pub near_none : (k : ℕ) → k ≡ 0 → nearest b base p k ≡ None
  unfolding nearest
  near_none k e = ap (nearest b base p) e

  pub near_found : (k : ℕ) → (k ≡ 0 → ⊥) → parent b base (k - 1) ≡ p → nearest b base p k ≡ Some (k - 1)
  near_found k h e = back k h ∙ rw (eq-eqb _ _ e)

  pub near_passed : (k : ℕ) → (k ≡ 0 → ⊥) → (parent b base (k - 1) ≡ p → ⊥) → nearest b base p k ≡ nearest b base p (k - 1)
  near_passed k h n = back k h ∙ rw (ne_eqb _ _ n)

  pub near_below : (k : ℕ) {j : ℕ} → nearest b base p k ≡ Some j → j < k
  unfolding nearest
  near_below zero {j} e = let z : ◌≡◌ {A = ℕ} 0 1 = cc in absurd (omega arith)
  near_below (suc k) {j} e = go (test (eqb (parent b base k) p)) (near_below k)
    where
      go : Test (eqb (parent b base k) p) → (nearest b base p k ≡ Some j → j < k) → j < suc k
      go (holds q) r = let f : Some k ≡ Some j = rw (q, nearest) at e in let z : k ≡ j = cc in omega arith
      go (fails q) r = let f : nearest b base p k ≡ Some j = rw (q, nearest) at e in let z : j < k = r f in omega arith
