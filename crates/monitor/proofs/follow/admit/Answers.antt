-- The chain of checks, one link at a time. Assumes nothing.
use Rattle.std.proofs.lemmas.Result.{err_from_is_err_and}
use mathlib.Core.Path.{sym, ◌∙◌}
use Rattle.job.proofs.Answers.{is_sound, is_faulty}
use Rattle.actions.proofs.Doing.{refused, allowed}
use Rattle.monitor.proofs.Admitted.{by_section, by_budget, by_places, all_passed}
use Rattle.monitor.proofs.follow.admit.Goals as goal

pub returns-in_err-prepare_section : goal.returns-in_err-prepare_section
returns-in_err-prepare_section c = let p = err_from_is_err_and c.from_residual.result c.from_residual.ensures.1 in
    rw (p.1, p.2) (by_section _ _ _ _ _ _ _ _ (is_faulty _ _ (sym c.prepare_section.ensures.answered ∙ c.in_err-prepare_section.was)))

pub returns-then-not-budget_ok : goal.returns-then-not-budget_ok
returns-then-not-budget_ok c = by_budget _ _ _ _ _ _ (is_sound _ _ (sym c.prepare_section.ensures.answered ∙ c.in_ok-prepare_section.was))
    (refused c.budget_ok.ensures c.if-not-budget_ok.true)

pub returns-then-places-gt-MAX_NODES : goal.returns-then-places-gt-MAX_NODES
returns-then-places-gt-MAX_NODES c = by_places _ _ _ _ _ _ (is_sound _ _ (sym c.prepare_section.ensures.answered ∙ c.in_ok-prepare_section.was))
    (allowed c.budget_ok.ensures c.if-not-budget_ok.false) c.if-places-gt-MAX_NODES.true

pub returns : goal.returns
returns c = let s = is_sound _ _ (sym c.prepare_section.ensures.answered ∙ c.in_ok-prepare_section.was) in
    all_passed _ _ _ _ _ _ s (allowed c.budget_ok.ensures c.if-not-budget_ok.false) c.if-places-gt-MAX_NODES.false (c.prepare_section.ensures.plans.whole s)
