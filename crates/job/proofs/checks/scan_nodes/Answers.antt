-- `scan_nodes` meets its contract: by the two searches. Assumes nothing.
use mathlib.Core.Path.{sym, ◌∙◌}
use Rattle.job.specs.Answer.{asked}
use Rattle.job.proofs.Scans.{one_faulty, none_wrong, nodes_right}
use Rattle.job.proofs.checks.scan_nodes.Goals as goal

pub returns-then-fault-l : goal.returns-then-fault-l
returns-then-fault-l c = one_faulty _ _ _ _ _ (c.first_fault-fault.ensures ∙ nodes_right _ _ _ c.highest-top.ensures _) c.if-fault-l.true

pub returns-then-has_spare : goal.returns-then-has_spare
unfolding asked
returns-then-has_spare c = none_wrong _ _ _ _ _ (c.first_fault-fault.ensures ∙ nodes_right _ _ _ c.highest-top.ensures _) c.if-fault-l.false
    (rw (sym c.has_spare.ensures ∙ c.if-has_spare.true, ← c.first_unclean-index.ensures) c.found.ensures)

pub returns : goal.returns
unfolding asked
returns c = none_wrong _ _ _ _ _ (c.first_fault-fault.ensures ∙ nodes_right _ _ _ c.highest-top.ensures _) c.if-fault-l.false
    (rw (sym c.has_spare.ensures ∙ c.if-has_spare.false))
