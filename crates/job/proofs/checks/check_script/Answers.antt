-- `check_script` meets its contract: the chain of checks, one link at a time. Assumes nothing.
use mathlib.Core.Path.{refl, sym, ap, ◌∙◌}
use native.Mathlib.Omega.{arith}
use Rattle.std.proofs.lemmas.Result.{err_from_is_err_and}
use Rattle.rules.specs.Limits.{bad_record}
use Rattle.rules.specs.Check.{check_script}
use Rattle.rules.proofs.Checks.{stopped, through}
use Rattle.job.specs.Answer.{scanned, unclean_of, told, from_blocks, from_spare}
use Rattle.job.proofs.Answers.{plans_not, plans_along}
use Rattle.job.proofs.Scans.{was_faulty, was_passed}
use Rattle.job.proofs.checks.check_script.Goals as goal

pub returns-in_err-records : goal.returns-in_err-records
unfolding scanned told check_script
returns-in_err-records c = let p = err_from_is_err_and c.from_residual.result c.from_residual.ensures.1 in
    let w = was_faulty _ _ _ _ _ (sym c.scan_records.ensures ∙ c.in_err-records.was) in
    let e = stopped bad_record _ _ _ refl w.1 in
    rw (p.1, p.2, w.0) (record { answered = sym (ap told e); plans = plans_not _ _ _ _ _ bad_record _ (λ q. omega arith) e refl })

pub check_spare-requires : goal.check_spare-requires
unfolding scanned unclean_of
check_spare-requires c = let q = c.requires in
    let w = was_passed _ _ _ _ _ (sym c.scan_records.ensures ∙ c.in_ok-records.was) in
    (q.0, λ i. record { variables = q.1.variables i; nodes = q.1.nodes i; records = w.1 i })

pub returns : goal.returns
unfolding scanned check_script from_spare from_blocks
returns c = let w = was_passed _ _ _ _ _ (sym c.scan_records.ensures ∙ c.in_ok-records.was) in
    let e = through bad_record _ _ _ refl w.0 in
    let s = c.check_spare.ensures in
    record { answered = s.answered ∙ sym (ap told e); plans = plans_along e s.plans }
