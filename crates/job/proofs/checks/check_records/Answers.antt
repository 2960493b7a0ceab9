-- `check_records` meets its contract: the chain of checks, one link at a time. Assumes nothing.
use mathlib.Core.Path.{refl, sym, ap, ◌∙◌}
use native.Mathlib.Omega.{arith}
use Rattle.std.proofs.lemmas.Result.{err_from_is_err_and}
use Rattle.rules.specs.Limits.{bad_variable}
use Rattle.rules.specs.Check.{check_records}
use Rattle.rules.proofs.Checks.{stopped, through}
use Rattle.job.specs.Answer.{answer, scanned, from_nodes}
use Rattle.job.proofs.Answers.{plans_not, plans_along}
use Rattle.job.proofs.Scans.{was_faulty, was_passed}
use Rattle.job.proofs.checks.check_records.Goals as goal

pub returns-in_err-variable : goal.returns-in_err-variable
unfolding scanned answer check_records
returns-in_err-variable c = let p = err_from_is_err_and c.from_residual.result c.from_residual.ensures.1 in
    let w = was_faulty _ _ _ _ _ (sym c.scan_variables.ensures ∙ c.in_err-variable.was) in
    let e = stopped bad_variable _ _ _ refl w.1 in
    rw (p.1, p.2, w.0) (record { answered = sym (ap (answer _) e); plans = plans_not _ _ _ _ _ bad_variable _ (λ q. omega arith) e refl })

pub check_nodes-requires : goal.check_nodes-requires
unfolding scanned
check_nodes-requires c = let q = c.requires in
    let w = was_passed _ _ _ _ _ (sym c.scan_variables.ensures ∙ c.in_ok-variable.was) in (q.0, q.1, w.1)

pub returns : goal.returns
unfolding scanned check_records from_nodes
returns c = let w = was_passed _ _ _ _ _ (sym c.scan_variables.ensures ∙ c.in_ok-variable.was) in
    let e = through bad_variable _ _ _ refl w.0 in
    let s = c.check_nodes.ensures in
    record { answered = s.answered ∙ sym (ap (answer _) e); plans = plans_along e s.plans }
