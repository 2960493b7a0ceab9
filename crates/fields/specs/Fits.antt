-- A record fits where it is right and its spare bytes are zero: the same in words of four and eight bytes, as the pass over the script asks for it. Assumes nothing.
use Rattle.std.specs.Prelude.{ℕ, ◌+◌, ◌*◌, Bool, ◌&&◌, ◌||◌, cond, List, [], ◌∷◌, leb, ltb, eqb}
use Rattle.rules.specs.Level.{public, not_above}
use Rattle.rules.specs.Bytes.{byte, half, full, variable_place}
use Rattle.rules.specs.Script.{Row}
use Rattle.rules.specs.Check.{existence, content, structure, child_rule, operand_rule, record_rule, has_number, record_reads, spare_rule}
use Rattle.fields.specs.Fields.{double}

-- check 4 of variable i, where top is the highest level
unfoldable pub variable_in : ℕ → List ℕ → ℕ → Bool
variable_in top b i = leb (byte b (variable_place i)) top

-- check 6 of the levels of node i, where top is the highest
unfoldable pub label_in : ℕ → List ℕ → ℕ → ℕ → Bool
label_in top b base i =
    leb (existence b base i) top && leb (content b base i) top && leb (structure b base i) top && not_above (existence b base i) (content b base i)
    && not_above (existence b base i) (structure b base i)

-- check 6 of node i
unfoldable pub node_in : ℕ → List ℕ → ℕ → ℕ → Bool
node_in top b base i = label_in top b base i && cond (eqb i 0) (not_above (existence b base i) public) (child_rule b base i)

-- the checks 7 and 12, of the record at a place, where records hold sets or do not
unfoldable pub record_fits : Bool → List ℕ → ℕ → ℕ → Bool
record_fits sets b vars at = record_rule b vars at && spare_rule (record_reads b at sets) b at

-- by its kind, what the number of an operand is below: any constant, a variable's index, and 0 where it is not read
unfoldable pub limits_of : ℕ → List ℕ
limits_of vars = 4294967296 ∷ vars ∷ 1 ∷ 1 ∷ []

-- by the row of its command, what the target of a record is below: a variable's index, a mark, any reader set, and 0 where it is not read
unfoldable pub target_limit : Bool → ℕ → Row → ℕ
target_limit sets vars r = cond r.target vars (cond r.mark 4 (cond (sets && r.readers) 256 1))

-- an operand of a kind with its number
unfoldable pub operand_fits : ℕ → ℕ → ℕ → Bool
operand_fits vars kind n = operand_rule vars kind n && (has_number kind || eqb n 0)

-- the bytes 4 to 7 of a record at a place, as a number; where 5 and 6 hold sets, without these
unfoldable pub kind_word : Bool → List ℕ → ℕ → ℕ
kind_word sets b at = cond sets (byte b (at + 4) + byte b (at + 7) * 16777216) (full b (at + 4))

module _ (sets : Bool) (b : List ℕ) (vars : ℕ) where
  -- the bytes 4 to 7, but for sets, and 12 to 15: with operator 0 they are zero, else 4 is the right kind, the others are zero, and 12 to 15 are its number
  unfoldable pub right_fits : ℕ → ℕ → Bool
  right_fits operator at =
      cond (eqb operator 0) (eqb (kind_word sets b at) 0 && eqb (full b (at + 12)) 0) (operand_fits vars (kind_word sets b at) (full b (at + 12)))

  -- an expression
  unfoldable pub expression_fits : ℕ → Bool
  expression_fits at =
      leb (byte b (at + 2)) 5 && operand_fits vars (byte b (at + 3)) (full b (at + 8)) && right_fits (byte b (at + 2)) at

-- a cover: it reads its command, and the set of byte 5
unfoldable pub cover_fits : List ℕ → ℕ → Bool
cover_fits b at = ltb (full b at) 256 && eqb (byte b (at + 4)) 0 && eqb (half b (at + 6)) 0 && eqb (double b (at + 8)) 0

-- a record that reads its command only
unfoldable pub bare_fits : List ℕ → ℕ → Bool
bare_fits b at = ltb (double b at) 256 && eqb (double b (at + 8)) 0
