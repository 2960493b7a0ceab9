-- The chain of checks, one link at a time. Assumes nothing.
use Rattle.std.proofs.lemmas.Result.{err_from_is_err_and}
use mathlib.Core.Path.{sym, ◌∙◌}
use Rattle.job.proofs.Answers.{is_accepted, is_refused}
use Rattle.actions.proofs.Doing.{refused, allowed}
use Rattle.monitor.proofs.Answered.{by_bytes, by_budget, by_buffers, all_passed}
use Rattle.monitor.proofs.entry.admit.Goals as goal

pub returns-in_err-l : goal.returns-in_err-l
returns-in_err-l c = let p = err_from_is_err_and c.from_residual.result c.from_residual.ensures.1 in
    let s = c.prepare.ensures in
    rw (p.1, p.2) (by_bytes _ _ _ _ _ _ s.plans.whole _ _ (is_refused _ _ _ (sym s.answered ∙ c.in_err-l.was)))

pub returns-then-not-budget_ok : goal.returns-then-not-budget_ok
returns-then-not-budget_ok c = let s = c.prepare.ensures in
    let t = is_accepted _ _ _ (sym s.answered ∙ c.in_ok-l.was) in
    by_budget _ _ _ _ _ _ s.plans.whole _ t.0 t.1 (refused c.budget_ok.ensures c.if-not-budget_ok.true)

pub returns-then-not-buffers_ok : goal.returns-then-not-buffers_ok
returns-then-not-buffers_ok c = let s = c.prepare.ensures in
    let t = is_accepted _ _ _ (sym s.answered ∙ c.in_ok-l.was) in
    by_buffers _ _ _ _ _ _ s.plans.whole _ t.0 t.1 (allowed c.budget_ok.ensures c.if-not-budget_ok.false)
    (refused c.buffers_ok.ensures c.if-not-buffers_ok.true)

pub returns : goal.returns
returns c = let s = c.prepare.ensures in
    let t = is_accepted _ _ _ (sym s.answered ∙ c.in_ok-l.was) in
    all_passed _ _ _ _ _ _ s.plans.whole _ t.0 t.1 (allowed c.budget_ok.ensures c.if-not-budget_ok.false)
    (allowed c.buffers_ok.ensures c.if-not-buffers_ok.false)
