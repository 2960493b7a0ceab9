-- The open parts of a script, as an array with a depth, and what check 8 comes to. Assumes nothing.
use Rattle.std.specs.Prelude.{◌≡◌, Bool, true, cond, List, [], ◌∷◌, ℕ, zero, suc, ◌+◌, ◌≤◌, ◌<◌, eqb, length, get_or, set, Option, MatchOption}
use Rattle.rules.specs.Limits.{max_depth, max_records, record_size}
use Rattle.rules.specs.Bytes.{record_place}
use Rattle.rules.specs.Blocks.{parts, nest, placed, block_rule, past_end}
use Rattle.rules.specs.Check.{code, first_fault}
use Rattle.job.specs.Plan.{entry, end_code, Partly, Whole}

-- the entries of a list below a depth, the last first
unfoldable pub stack : List ℕ → ℕ → List ℕ
stack xs zero = []
stack xs (suc d) = get_or xs d 0 ∷ stack xs d

-- an array with a depth spells a list of parts
pub record Spells (xs : List ℕ) (d : ℕ) (ps : List ℕ) : Type 0 where
  pub size : length xs ≡ max_depth
  pub deep : d ≤ max_depth
  pub same : stack xs d ≡ ps

-- check 8, of record i
unfoldable pub placed_at : List ℕ → ℕ → ℕ → Bool
placed_at b base i = placed (code b base) (code b base i) (parts (code b base) i)

-- record i stands within the bytes, and the array spells the parts that are open at it
pub record Stands (b : List ℕ) (base : ℕ) (xs : List ℕ) (d i : ℕ) : Type 0 where
  pub inside : record_place base i + record_size ≤ length b
  pub spells : Spells xs d (parts (code b base) i)

-- and the record passes check 8, and another array spells the blocks that are open at it
pub record Fits (b : List ℕ) (base : ℕ) (xs ys : List ℕ) (d i : ℕ) : Type 0 where
  pub stands : Stands b base xs d i
  pub blocks : Spells ys d (nest (code b base) i)
  pub passes : placed_at b base i ≡ true
  pub few : i < max_records

-- the words that the end i of the part begun at o, in the block that record b opened, stores: its own goes "back" to a while, and that of a while "past end"
unfoldable pub end_stored : (ℕ → ℕ) → ℕ → ℕ → ℕ → List ℕ → List ℕ
end_stored code i o b p = set (set p i (entry (end_code (code b)) (past_end code i o))) o (entry (code o) (cond (eqb (code o) 4) (suc i) i))

-- what record i makes of the words q: where they were those of i records they are those of one more; and two arrays with a depth spell the parts and the blocks
-- that are open
pub record Advanced (code : ℕ → ℕ) (i : ℕ) (q q' xs ys : List ℕ) (d : ℕ) : Type 0 where
  pub spells : Spells xs d (parts code (suc i))
  pub blocks : Spells ys d (nest code (suc i))
  pub plans : (n : ℕ) (p : List ℕ) → i < n → Partly code n i p q → Partly code n (suc i) p q'

-- what check 8 finds in a script of n records, and what it makes of the words p
abbrev pub Scanned : (ℕ → ℕ) → ℕ → List ℕ → List ℕ → Option ℕ → Type 0
Scanned code n p p' r =
    MatchOption r ((suc n ≡ first_fault (block_rule code n) (suc n) 0) × Whole code n p p')
    (λ i. (i ≡ first_fault (block_rule code n) (suc n) 0) × (i ≤ n) × Partly code n i p p')
