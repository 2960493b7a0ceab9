-- The ranges of the fields that a record reads, where check 7 passes: each part of a test that holds, holds. Assumes nothing.
use mathlib.Core.Path.{◌≡◌, refl}
use mathlib.Core.Bool.{Bool, true, false, ◌&&◌, ◌||◌, not}
use mathlib.Core.List.{List}
use Prim.Native.Nat.{ℕ, ◌+◌, ◌≤◌, ◌<◌}
use lib.Dec.{leb, ltb, eqb}
use borrow.Author.Tests.{ltb-true, leb-true, eq-eqb, ne_eqb}
use Rattle.rules.specs.Limits.{command_count}
use Rattle.rules.specs.Bytes.{byte, full}
use Rattle.rules.specs.Script.{Row, row_of}
use Rattle.rules.specs.Check.{operand_rule, expression_rule, fields_rule, record_rule}
use Rattle.rules.proofs.Tests.{both, clash}

pub all_three : (a b c : Bool) → (a && b && c) ≡ true → (a ≡ true) × (b ≡ true) × (c ≡ true)
all_three a b c e = let z = both (a && b) c e in let y = both a b z.0 in (y.0, y.1, z.1)

-- of two tests, one that fails leaves the other
pub other : (a b : Bool) → (a || b) ≡ true → a ≡ false → b ≡ true
other true b e f = clash refl f
other false b e f = e

pub needed : (a b : Bool) → (not a || b) ≡ true → a ≡ true → b ≡ true
needed true b e f = e
needed false b e f = clash f refl

-- an operand's kind, and the index of one that is a variable
pub record OperandIn (vars kind n : ℕ) : Type 0 where
  pub known : kind ≤ 3
  pub variable : kind ≡ 1 → n < vars

operand_in : (vars kind n : ℕ) → operand_rule vars kind n ≡ true → OperandIn vars kind n
unfolding operand_rule
operand_in vars kind n e =
    let z = both (leb kind 3) (not (eqb kind 1) || ltb n vars) e in
    record { known = leb-true _ _ z.0; variable = λ k. ltb-true _ _ (needed (eqb kind 1) _ z.1 (eq-eqb kind 1 k)) }

module _ (b : List ℕ) (vars at : ℕ) where
  -- the expression of the record at a place; the right side is read where the operator is not 0
  pub record ExpressionIn : Type 0 where
    pub operator : byte b (at + 2) ≤ 5
    pub left : OperandIn vars (byte b (at + 3)) (full b (at + 8))
    pub right : (byte b (at + 2) ≡ 0 → ⊥) → OperandIn vars (byte b (at + 4)) (full b (at + 12))

  expression_in : expression_rule b vars at ≡ true → ExpressionIn
  unfolding expression_rule
  expression_in e =
      let left = operand_rule vars (byte b (at + 3)) (full b (at + 8)) in
      let right = operand_rule vars (byte b (at + 4)) (full b (at + 12)) in
      let z = all_three (leb (byte b (at + 2)) 5) left (eqb (byte b (at + 2)) 0 || right) e in
      record {
        operator = leb-true _ _ z.0;
        left = operand_in _ _ _ z.1;
        right = λ n. operand_in _ _ _ (other (eqb (byte b (at + 2)) 0) right z.2 (ne_eqb _ 0 n));
      }

  -- the fields that a row names
  pub record FieldsIn (r : Row) : Type 0 where
    pub target : r.target ≡ true → byte b (at + 1) < vars
    pub mark : r.mark ≡ true → byte b (at + 1) ≤ 3
    pub expression : r.expression ≡ true → ExpressionIn

  fields_in : (r : Row) → fields_rule b vars r at ≡ true → FieldsIn r
  unfolding fields_rule
  fields_in r e =
      let index = ltb (byte b (at + 1)) vars in
      let mark = leb (byte b (at + 1)) 3 in
      let z = all_three (not r.target || index) (not r.mark || mark) (not r.expression || expression_rule b vars at) e in
      record {
        target = λ t. ltb-true _ _ (needed r.target index z.0 t);
        mark = λ t. leb-true _ _ (needed r.mark mark z.1 t);
        expression = λ t. expression_in (needed r.expression (expression_rule b vars at) z.2 t);
      }

  -- the command, and the fields that its row names
  pub record RecordIn : Type 0 where
    pub command : byte b at < command_count
    pub fields : FieldsIn (row_of (byte b at))

  pub record_in : record_rule b vars at ≡ true → RecordIn
  unfolding record_rule
  record_in e =
      let z = both (ltb (byte b at) command_count) (fields_rule b vars (row_of (byte b at)) at) e in
      record { command = ltb-true _ _ z.0; fields = fields_in _ z.1 }
