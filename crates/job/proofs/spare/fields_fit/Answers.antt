-- `fields_fit` meets its contract: by whether the command's row has an expression, and by the limit of its target. Assumes nothing.
use mathlib.Core.Path.{◌≡◌, sym, ◌∙◌}
use mathlib.Core.Bool.{◌&&◌}
use native.Mathlib.Omega.{arith}
use lib.Dec.{ltb}
use borrow.Author.Tests.{lt-ltb, le-ltb}
use Rattle.fields.specs.Fits.{expression_fits, record_fits}
use Rattle.fields.proofs.Fits.{held_bare, held_cover, held_expression}
use Rattle.job.proofs.spare.fields_fit.Goals as goal
use Rattle.job.proofs.spare.fields_fit.Goals.{After-byte_at}

-- the target is compared with its limit
compared : (c : After-byte_at) → let a = c.args in
    record_fits a.sets a.job.now a.variables a.at ≡ (ltb c.byte_at.result a.limit && expression_fits a.reads.fifth a.job.now a.variables a.at)
compared c =
    let q = c.requires in
    let e = c.byte_at.ensures in
    rw (q.3, e.0) (held_expression _ _ _ _ q.1 _ q.2 c.if-reads.true (rw (← e.0) e.1))

pub returns-then-limit-byte_at : goal.returns-then-limit-byte_at
returns-then-limit-byte_at c = sym (compared (goal.at.returns-then-limit-byte_at c).After-byte_at ∙ rw (le-ltb c.byte_at.result c.args.limit (omega (arith, c.if-limit-byte_at.true))))

pub returns-then-reads : goal.returns-then-reads
returns-then-reads c = sym (compared (goal.at.returns-then-reads c).After-byte_at ∙ rw (lt-ltb c.byte_at.result c.args.limit (omega (arith, c.if-limit-byte_at.false)), ← c.expression_fits.ensures))

pub returns-then-reads-2 : goal.returns-then-reads-2
returns-then-reads-2 c = c.cover_fits.ensures ∙ sym (held_cover _ _ _ _ c.requires.1 _ c.requires.2 c.if-reads.false c.if-reads-2.true)

pub returns : goal.returns
returns c = c.bare_fits.ensures ∙ sym (held_bare _ _ _ _ c.requires.1 _ c.requires.2 c.if-reads.false c.if-reads-2.false)
