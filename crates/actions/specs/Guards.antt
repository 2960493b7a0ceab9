-- Two words hold the contexts of the open blocks, one in each byte, the innermost lowest. Assumes nothing.
use Rattle.std.specs.Prelude.{◌≡◌, ℕ, ◌+◌, ◌*◌, ◌/◌, ◌%◌, ◌^◌, List, [], ◌∷◌}
use Rattle.rules.specs.Run.{Block, context}
use Rattle.actions.specs.declared.guards.Guards.{Guards}

-- the digits of a number to base 256 are the contexts of some blocks, the innermost first, and then zeros
abbrev pub Contexts : ℕ → List Block → Type 0
Contexts n [] = n ≡ 0
Contexts n (b ∷ bs) = (n % 256 ≡ context (b ∷ bs)) × Contexts (n / 256) bs

-- one more than the highest number that a word holds
abbrev pub word : ℕ
word = 2 ^ 64

-- the number that two words are together
abbrev pub joined : Guards → ℕ
joined g = g.low + word * g.high

-- the number of two words has the contexts of the open blocks as its digits
pub record Holds (g : Guards) (bs : List Block) : Type 0 where
  pub contexts : Contexts (joined g) bs
