-- What is left alone behind the first n places, one change after the other. Assumes nothing.
use mathlib.Core.Path.{◌≡◌, ◌∙◌}
use Prim.Native.Nat.{ℕ, ◌<◌}
use native.Mathlib.Omega.{arith}
use Rattle.table.specs.Cells.{Cell, Table}
use Rattle.table.specs.Promises.{Behind}
use Rattle.table.specs.Steps.{Put}

module _ {n : ℕ} where
  pub same_behind : {m m' : Table} → ((y : ℕ) → m' y ≡ m y) → Behind n m m'
  same_behind h = record { same = λ y _. h y }

  pub then_behind : {m m₁ m' : Table} → Behind n m m₁ → Behind n m₁ m' → Behind n m m'
  then_behind h k = record { same = λ y ge. k.same y ge ∙ h.same y ge }

  pub put_behind : {m m' : Table} {x : ℕ} {a : Cell} → x < n → Put m m' x a → Behind n m m'
  put_behind lt p = record { same = λ y ge. p.off y (λ e. omega arith) }
