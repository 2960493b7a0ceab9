-- `block_ok` meets its contract: the innermost part is the last entry. Assumes nothing.
use mathlib.Core.Path.{sym, ap, ◌∙◌}
use Prim.Native.Nat.{ℕ}
use native.Mathlib.Omega.{arith}
use lib.Dec.{ltb}
use Rattle.rules.specs.Limits.{max_depth}
use Rattle.rules.specs.Blocks.{head_is_if}
use Rattle.rules.specs.Check.{code}
use Rattle.rules.proofs.Parts.{before, placed_open, placed_else, placed_end, placed_plain}
use Rattle.job.specs.Parts.{placed_at}
use Rattle.job.proofs.Stack.{opening, plain, depth, top, bottom}
use Rattle.job.proofs.blocks.block_ok.Goals as goal

pub code_at-requires-in-3 : goal.code_at-requires-in-3
code_at-requires-in-3 c = omega (arith, before _ _ _ _ (top _ _ _ c.requires.spells c.if-depth-eq0.false))

pub returns-then-depth-eq0 : goal.returns-then-depth-eq0
unfolding placed_at head_is_if
returns-then-depth-eq0 c = let f = code c.args.job.now c.args.base in
    let e = sym c.code_at.ensures ∙ c.in-3.is in
    sym (placed_else f _ _ e ∙ ap (head_is_if f) (bottom _ _ _ c.requires.spells c.if-depth-eq0.true))

pub returns-in-2 : goal.returns-in-2
unfolding placed_at
returns-in-2 c = let e = opening c.code_at.ensures c.in-2.is in
    sym (placed_open _ _ _ e ∙ ap (λ (n : ℕ). ltb n max_depth) (depth _ _ _ c.requires.spells))

pub returns-else-depth-eq0 : goal.returns-else-depth-eq0
unfolding placed_at head_is_if
returns-else-depth-eq0 c = let f = code c.args.job.now c.args.base in
    let e = sym c.code_at.ensures ∙ c.in-3.is in
    rw (c.branches.ensures, c.code_at-in-3.ensures, c.innermost.ensures)
    (sym (placed_else f _ _ e ∙ ap (head_is_if f) (top _ _ _ c.requires.spells c.if-depth-eq0.false)))

pub returns-in-5 : goal.returns-in-5
unfolding placed_at
returns-in-5 c = sym (placed_end _ _ _ (sym c.code_at.ensures ∙ c.in-5.is) ∙ ap (ltb 0) (depth _ _ _ c.requires.spells))

pub returns-in_default : goal.returns-in_default
unfolding placed_at
returns-in_default c = let r = c.in_default.in_default-own.rest in sym (placed_plain _ _ _ (plain c.code_at.ensures r.0.0.1 r.0.1 r.1))
