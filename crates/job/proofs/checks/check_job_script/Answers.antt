use Rattle.std.proofs.lemmas.Result.{err_from_is_err_and}
use mathlib.Core.Path.{sym, ap, ◌∙◌}
use Rattle.job.specs.Answer.{answer}
use Rattle.job.proofs.Answers.{is_sound, is_faulty}
use Rattle.job.proofs.checks.check_job_script.Goals as goal

pub returns-in_err-check_script : goal.returns-in_err-check_script
unfolding answer
returns-in_err-check_script c = let p = err_from_is_err_and c.from_residual.result c.from_residual.ensures.1 in
    let s = c.check_script.ensures in
    let e = is_faulty _ _ (sym s.answered ∙ c.in_err-check_script.was) in
    rw (p.1, p.2) (record { answered = sym (ap (answer _) e); plans = s.plans })

pub returns : goal.returns
unfolding answer
returns c = let s = c.check_script.ensures in
    let e = is_sound _ _ (sym s.answered ∙ c.in_ok-check_script.was) in record { answered = sym (ap (answer _) e); plans = s.plans }
