-- `scan_records` meets its contract: by the two searches. Assumes nothing.
use mathlib.Core.Path.{sym, ◌∙◌}
use Rattle.job.proofs.Scans.{not_asked, all_fit, first_unclean, records_right, records_fit}
use Rattle.job.proofs.checks.scan_records.Goals as goal
use Rattle.job.proofs.checks.scan_records.Goals.{then-has_spare+else-index-count, else-has_spare}

pub returns-then-index-count : goal.returns-then-index-count
returns-then-index-count c =
    let s = sym c.has_spare.ensures ∙ c.if-has_spare.true in
    all_fit _ _ _ _ _ s (c.first_unfit-index.ensures ∙ records_fit _ _ _ _ _ c.has_sets.ensures s) c.if-index-count.true

pub returns : goal.returns
returns c =
    let r = c.first_fault-fault.ensures ∙ records_right _ _ _ _ _ c.commands.ensures.0 in
    c.scan_of.ensures ∙ elim c.if-has_spare.branch [
      | then-has_spare+else-index-count w ↦
          let s = sym c.has_spare.ensures ∙ w.if-has_spare.true in
          rw w.unclean-is (first_unclean _ _ _ _ _ s (w.first_unfit-index.ensures ∙ records_fit _ _ _ _ _ w.has_sets.ensures s) w.if-index-count.false r)
      | else-has_spare w ↦ rw w.unclean-is (not_asked _ _ _ _ _ (sym c.has_spare.ensures ∙ w.if-has_spare.false) r)
    ]
