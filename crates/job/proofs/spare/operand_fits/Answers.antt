-- `operand_fits` meets its contract: by the limit of the kind. Assumes nothing.
use mathlib.Core.Path.{sym, ◌∙◌}
use Rattle.fields.proofs.Fits.{limited, unlimited}
use Rattle.job.proofs.spare.operand_fits.Goals as goal

pub returns-then-kind-ge-KINDS : goal.returns-then-kind-ge-KINDS
returns-then-kind-ge-KINDS c = sym (unlimited _ _ _ c.if-kind-ge-KINDS.true)

pub returns : goal.returns
returns c = rw (c.requires.1, ← c.from.ensures ∙ c.full_at.ensures)
    (limited _ _ _ (rw c.from.ensures c.full_at.type_inv) c.if-kind-ge-KINDS.false)
