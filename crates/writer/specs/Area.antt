-- An area with bytes stored in it. Assumes nothing.
use Rattle.std.specs.Prelude.{◌≡◌, ℕ, ◌+◌, ◌<◌, length, take, drop, get_or, ℤ, pos}
use mathlib.Core.List.{List, ◌++◌, flat_map}
use Rattle.rules.specs.Number.{Fits}
use Rattle.rules.specs.Tree.{Label}
use Rattle.rules.specs.Job.{Variable, listed}
use Rattle.rules.specs.Write.{Entry, variable_bytes}

-- an area with bytes stored at a place; those before and behind are its own
unfoldable pub replaced : List ℕ → ℕ → List ℕ → List ℕ
replaced area at bytes = take at area ++ bytes ++ drop (at + length bytes) area

-- a node's parent and label
abbrev pub entry : ℕ → Label → Entry
entry p l = record { parent = p; label = l }

-- variable i of those that are lent
abbrev pub lent_variable : List ℕ → List ℤ → ℕ → Variable
lent_variable levels values i = record { level = get_or levels i 0; value = get_or values i (pos 0) }

-- the records of all variables stand at the beginning; their values are signed 32-bit numbers
pub record VariablesPut (levels : List ℕ) (values : List ℤ) (area area' : List ℕ) : Type 0 where
  pub bytes : area' ≡ replaced area 0 (flat_map variable_bytes (listed (lent_variable levels values) (length levels) 0))
  pub fits : (i : ℕ) → i < length levels → Fits (get_or values i (pos 0))
