-- A mark's levels are its two binary digits. Assumes nothing.
use mathlib.Core.Path.{◌≡◌, refl}
use Prim.Native.Nat.{ℕ, zero, suc, ◌%◌, ◌/◌, ◌<◌, ◌≤◌}
use native.Mathlib.Omega.{arith}
use lib.Dec.{leb, eqb}
use Rattle.rules.specs.Level.{public, secret}
use Rattle.rules.specs.Script.{secret_if}

pub odd_level : (m : ℕ) → m % 2 ≡ secret_if (eqb (m % 2) 1)
unfolding secret_if secret public
odd_level m = pick (m % 2) (omega arith)
  where
    pick : (d : ℕ) → d < 2 → d ≡ secret_if (eqb d 1)
    pick zero l = refl
    pick (suc zero) l = refl
    pick (suc (suc d)) l = absurd (omega arith)

pub half_level : (m : ℕ) → m ≤ 3 → m / 2 ≡ secret_if (leb 2 m)
unfolding secret_if secret public
half_level zero l = refl
half_level (suc zero) l = refl
half_level (suc (suc zero)) l = refl
half_level (suc (suc (suc zero))) l = refl
half_level (suc (suc (suc (suc m)))) l = absurd (omega arith)
