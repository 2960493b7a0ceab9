-- `scan_variables` meets its contract: by the two searches. Assumes nothing.
use mathlib.Core.Path.{◌≡◌, sym, ◌∙◌}
use mathlib.Core.Bool.{◌&&◌}
use borrow.Author.Rules.{rules}
use Rattle.rules.specs.Check.{first_fault, variable_clean}
use Rattle.fields.specs.Fits.{variable_in}
use Rattle.job.proofs.Scans.{not_asked, all_fit, first_unclean, variables_right, variables_fit}
use Rattle.job.proofs.checks.scan_variables.Goals as goal
use Rattle.job.proofs.checks.scan_variables.Goals.{then-has_spare+else-index-count, else-has_spare}

pub returns-then-index-count : goal.returns-then-index-count
returns-then-index-count c =
    let a = c.args in
    let f : c.first_that_fails-index.result ≡ first_fault (λ i. variable_in c.highest-top.result a.job.now i && variable_clean a.job.now i) a.l.variables 0 = search rules in
    all_fit _ _ _ _ _ (sym c.has_spare.ensures ∙ c.if-has_spare.true) (f ∙ variables_fit _ _ _ c.highest-top.ensures) c.if-index-count.true

pub returns : goal.returns
returns c =
    let a = c.args in
    let f : c.first_that_fails-fault.result ≡ first_fault (variable_in c.highest-top.result a.job.now) a.l.variables 0 = search rules in
    let r = f ∙ variables_right _ _ _ c.highest-top.ensures in
    c.scan_of.ensures ∙ elim c.if-has_spare.branch [
      | then-has_spare+else-index-count w ↦
          let g : w.first_that_fails-index.result ≡ first_fault (λ i. variable_in c.highest-top.result a.job.now i && variable_clean a.job.now i) a.l.variables 0 = search rules in
          rw w.unclean-is (first_unclean _ _ _ _ _ (sym c.has_spare.ensures ∙ w.if-has_spare.true) (g ∙ variables_fit _ _ _ c.highest-top.ensures) w.if-index-count.false r)
      | else-has_spare w ↦ rw w.unclean-is (not_asked _ _ _ _ _ (sym c.has_spare.ensures ∙ w.if-has_spare.false) r)
    ]
