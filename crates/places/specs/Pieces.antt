-- Slices of eight parts, one for each place. Assumes nothing.
use Rattle.std.specs.Prelude.{◌≡◌, ℕ, ◌*◌, ◌≤◌, List, length, drop, take}

-- the words of a plan
abbrev pub plan_size : ℕ
plan_size = 1025

-- the first k elements of part i of a slice, in parts of n
unfoldable pub piece : {A : Type 0} → ℕ → ℕ → ℕ → List A → List A
piece n i k xs = take k (drop (n * i) xs)

-- xs' is as long as xs, and but for part i the same
pub record Beside {A : Type 0} (n i : ℕ) (xs xs' : List A) : Type 0 where
  pub long : length xs' ≡ length xs
  pub others : (j k : ℕ) → (j ≡ i → ⊥) → k ≤ n → piece n j k xs' ≡ piece n j k xs

-- part i starts with ys now
pub record Filled {A : Type 0} (n i : ℕ) (ys xs xs' : List A) : Type 0 where
  pub starts : piece n i (length ys) xs' ≡ ys
  pub beside : Beside n i xs xs'
