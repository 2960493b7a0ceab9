-- What the summary puts, number by number. Assumes nothing.
use Rattle.std.specs.Prelude.{List, ℕ, zero, suc, get_or}
use Rattle.print.specs.Waiting.{push, Number}

-- the first n of some numbers more: "each line is that decimal number alone" (10 ends it)
pub data Summed (numbers w : List ℕ) : ℕ → List ℕ → Type 0 where
  none : Summed numbers w zero w
  more : {n : ℕ} {u v : List ℕ} → Summed numbers w n u → Number (get_or numbers n 0) u v → Summed numbers w (suc n) (push v 10)
