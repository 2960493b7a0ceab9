-- Whether all levels are levels decides whether variables are such as a job could hold. Assumes nothing.
use mathlib.Core.Path.{◌≡◌, sym, subst}
use mathlib.Core.Bool.{Bool, true, false}
use mathlib.Core.List.{List}
use mathlib.Core.Logic.{◌⊎◌, inl, inr}
use Prim.Native.Nat.{ℕ, ◌<◌, ◌≤◌}
use native.Mathlib.Omega.{arith}
use lib.ListN.{length}
use Rattle.std.specs.Bool.{MatchBool}
use Rattle.std.specs.List.{AllWithin, HoldsAt}
use Rattle.rules.specs.Limits.{max_variables}
use Rattle.rules.specs.Level.{is_level}
use Rattle.monitor.specs.Follow.{Storable, treeless, uneven, many, unlevelled, storable}

module _ {stands : Bool} {levels : List ℕ} {values : ℕ} where
  pub by_levels : (r : Bool) → MatchBool r (AllWithin (λ x. is_level x ≡ true) levels 0 (length levels)) ((k : ℕ) × (k < length levels) × HoldsAt (λ x. is_level x ≡ false) levels k)
      → (stands ≡ true) × (length levels ≡ values) × (length levels ≤ max_variables) → Storable stands levels values r
  by_levels true all (a, b, c) = storable a b c (λ i lt. all i 0 (omega arith) lt)
  by_levels false one (a, b, c) = unlevelled one.0 a b one.1 (one.2 0)

  pub by_tests : (r : Bool) → r ≡ false → ((stands ≡ true) × (length levels ≡ values) × (max_variables < length levels)) ⊎ (((stands ≡ true) × (length levels ≡ values → ⊥)) ⊎ (stands ≡ false))
      → Storable stands levels values r
  by_tests r e h = subst (Storable stands levels values) (sym e) (go h)
    where
      go : ((stands ≡ true) × (length levels ≡ values) × (max_variables < length levels)) ⊎ (((stands ≡ true) × (length levels ≡ values → ⊥)) ⊎ (stands ≡ false)) → Storable stands levels values false
      go (inl (a, b, c)) = many a b c
      go (inr (inl (a, b))) = uneven b
      go (inr (inr a)) = treeless a
