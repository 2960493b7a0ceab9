-- `arrange` meets its contract: by what the rules so far say. Assumes nothing.
use mathlib.Core.Path.{sym, ap, ◌∙◌}
use Rattle.std.proofs.lemmas.Result.{err_from_is_err_and}
use Rattle.rules.specs.Arrange.{left_arranged}
use Rattle.fields.specs.declared.sections.Layout.{Layout}
use Rattle.fields.specs.Layout.{layout_of}
use Rattle.job.specs.Answer.{edition_of, told}
use Rattle.job.proofs.Answers.{is_accepted, is_refused}
use Rattle.arranger.proofs.arranging.arrange.Goals as goal

pub arrange_nodes-requires : goal.arrange_nodes-requires
unfolding edition_of layout_of
arrange_nodes-requires c = let e = is_accepted _ _ _ (sym c.check_by.ensures ∙ c.in_ok-l.was) in
    (e.0, ap (λ (l : Layout). l.tree) e.1, ap (λ (l : Layout). l.nodes) e.1)

pub returns-in_err-l : goal.returns-in_err-l
unfolding edition_of told left_arranged
returns-in_err-l c = let p = err_from_is_err_and c.from_residual.result c.from_residual.ensures.1 in
    let e = is_refused _ _ _ (sym c.check_by.ensures ∙ c.in_err-l.was) in
    record { value = rw (p.1, p.2) (sym (ap told e)); job_after = rw (e, left_arranged) }

pub returns : goal.returns
unfolding edition_of told left_arranged
returns c = let e = (is_accepted _ _ _ (sym c.check_by.ensures ∙ c.in_ok-l.was)).0 in record { value = sym (ap told e); job_after = c.arrange_nodes.ensures ∙ rw (e, left_arranged) }
