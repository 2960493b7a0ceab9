-- `clean` meets its contract: by what the old rules say. Assumes nothing.
use mathlib.Core.Path.{sym, ap, ◌∙◌}
use Rattle.std.proofs.lemmas.Result.{err_from_is_err_and}
use Rattle.rules.specs.Clean.{left_clean}
use Rattle.job.specs.Answer.{edition_of, told}
use Rattle.job.proofs.Answers.{is_accepted, is_refused}
use Rattle.cleaner.proofs.cleaning.clean.Goals as goal

pub clean_all-requires : goal.clean_all-requires
unfolding edition_of
clean_all-requires c = is_accepted _ _ _ (sym c.check_by.ensures ∙ c.in_ok-l.was)

pub returns-in_err-l : goal.returns-in_err-l
unfolding edition_of told left_clean
returns-in_err-l c = let p = err_from_is_err_and c.from_residual.result c.from_residual.ensures.1 in
    let e = is_refused _ _ _ (sym c.check_by.ensures ∙ c.in_err-l.was) in
    record { value = rw (p.1, p.2) (sym (ap told e)); job_after = rw (e, left_clean) }

pub returns : goal.returns
unfolding edition_of told left_clean
returns c = let e = (is_accepted _ _ _ (sym c.check_by.ensures ∙ c.in_ok-l.was)).0 in record { value = sym (ap told e); job_after = c.clean_all.ensures ∙ rw (e, left_clean) }
