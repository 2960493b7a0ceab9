-- `fields_ok` meets its contract: the tests in order. Assumes nothing.
use mathlib.Core.Bool.{Bool, not, ◌||◌}
use Prim.Native.Nat.{ℕ}
use lib.Dec.{leb, ltb}
use Rattle.rules.specs.Check.{fields_rule}
use Rattle.fields.specs.declared.rows.Row.{Row}
use Rattle.fields.proofs.records.fields_ok.Goals as goal

-- the tests of the target
abbrev variable : Row → ℕ → ℕ → Bool
variable r t vars = not r.target || ltb t vars

abbrev mark : Row → ℕ → Bool
mark r t = not r.mark || leb t 3

pub returns-then-not-reads-target : goal.returns-then-not-reads-target
unfolding fields_rule
returns-then-not-reads-target c = let a = c.args in
    let t = c.byte_at-target.result in rw (← c.byte_at-target.ensures.0, c.if-not-reads-target.true)

pub returns-then-not-reads-target-2 : goal.returns-then-not-reads-target-2
unfolding fields_rule
returns-then-not-reads-target-2 c = let a = c.args in
    let t = c.byte_at-target.result in
    rw (
      ← c.byte_at-target.ensures.0,
      c.if-not-reads-target.false,
      c.if-not-reads-target-2.true,
    )

pub returns-then-reads : goal.returns-then-reads
unfolding fields_rule
returns-then-reads c = let a = c.args in
    let t = c.byte_at-target.result in
    rw (
      ← c.byte_at-target.ensures.0,
      c.if-not-reads-target.false,
      c.if-not-reads-target-2.false,
      c.if-reads.true,
      c.expression_ok.ensures,
    )

pub returns : goal.returns
unfolding fields_rule
returns c = let a = c.args in
    let t = c.byte_at-target.result in
    rw (
      ← c.byte_at-target.ensures.0,
      c.if-not-reads-target.false,
      c.if-not-reads-target-2.false,
      c.if-reads.false,
    )
