-- Facts on numbers over lent records: how many words and bytes they take, and the places of a loop over them.
use mathlib.Core.Path.{◌≡◌}
use mathlib.Core.List.{List, [], ◌∷◌}
use Prim.Native.Nat.{ℕ, zero, suc, ◌+◌, ◌*◌, ◌-◌, ◌^◌, ◌<◌, ◌≤◌}
use native.Mathlib.Omega.{arith}
use Rattle.table.specs.Cells.{cell_size}

-- how many words a table of 512 places takes
abbrev pub word_count : ℕ
word_count = 5120

-- how many bytes a record takes
abbrev pub record_bytes : ℕ
record_bytes = 32

module _ (i n : ℕ) (h : i < n) where
  -- a place below n, where n records have room
  pub start_fits : n * record_bytes < 2 ^ 63 → i * record_bytes < 2 ^ 64
  start_fits room = omega arith

  pub next_fits : n < 2 ^ 64 → i + 1 < 2 ^ 64
  next_fits fits = omega arith

  pub fits_below : n < 2 ^ 64 → i < 2 ^ 64
  fits_below fits = omega arith

  pub nearer : n - suc i < n - i
  nearer = omega arith

  pub within : (m : ℕ) → n ≤ m → i < m
  within m le = omega arith

  -- the cell of such a place
  pub cell_in : (m : ℕ) → cell_size * n ≤ m → cell_size * i + cell_size ≤ m
  cell_in m le = omega arith

pub one_more_law : (i : ℕ) → i + 1 ≡ suc i
one_more_law i = omega arith

-- n positions of a context, from a on
abbrev pub span : ℕ → ℕ → List ℕ
span a zero = []
span a (suc n) = a ∷ span (suc a) n
