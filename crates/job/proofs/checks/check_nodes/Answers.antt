-- `check_nodes` meets its contract: the chain of checks, one link at a time. Assumes nothing.
use mathlib.Core.Path.{◌≡◌, refl, sym, ap, subst, ◌∙◌}
use Prim.Native.Nat.{ℕ}
use native.Mathlib.Omega.{arith}
use borrow.Author.Rules.{rules}
use Rattle.std.proofs.lemmas.Result.{err_from_is_err_and}
use Rattle.rules.specs.Limits.{bad_parent, bad_node, bad_order}
use Rattle.rules.specs.Check.{require_each, require_if, first_fault, parent_rule, order_rule, node_rule_in}
use Rattle.rules.proofs.Search.{all_pass}
use Rattle.rules.proofs.Checks.{stopped, through}
use Rattle.fields.specs.Siblings.{Linked}
use Rattle.job.specs.Hanging.{AllFit}
use Rattle.job.specs.Answer.{answer, edition_of, highest_of, scanned, from_script, from_nodes}
use Rattle.job.proofs.Answers.{plans_not, plans_along}
use Rattle.job.proofs.Scans.{was_faulty, was_passed, asked_stopped, asked_through, fit_clean, fit_through}
use Rattle.job.proofs.checks.check_nodes.Goals as goal
use Rattle.job.proofs.checks.check_nodes.Goals.{Else-index-l, Then-all_fit}

-- the first node that fails check 5
faulty : (c : Else-index-l) → let a = c.args in c.first_that_fails-index.result ≡ first_fault (parent_rule a.job.now a.l.tree) a.l.nodes 0
faulty c = search rules

past5 : (c : Else-index-l) → let a = c.args in
    let b = a.job.now in
    let l = a.l in
    let rules = edition_of a.rules in
    from_nodes b l rules
    ≡ require_if rules.order bad_order (order_rule b l.tree) l.nodes (require_each bad_node (node_rule_in rules b l.tree) l.nodes (from_script b l rules l.variables))
unfolding from_nodes
past5 c = through bad_parent _ _ _ (faulty c) c.if-index-l.false

-- all nodes pass 13, 6 and 12
fit : (c : Then-all_fit) → let a = c.args in AllFit (highest_of (edition_of a.rules)) a.job.now a.l.tree a.l.nodes
fit c =
    let a = c.args in
    subst (λ (top : ℕ). AllFit top a.job.now a.l.tree a.l.nodes) c.highest.ensures (c.all_fit.ensures c.if-all_fit.true)

pub returns-then-index-l : goal.returns-then-index-l
unfolding from_nodes answer
returns-then-index-l c = let a = c.args in
    let f : c.first_that_fails-index.result ≡ first_fault (parent_rule a.job.now a.l.tree) a.l.nodes 0 = search rules in
    let e = stopped bad_parent _ _ _ f c.if-index-l.true in
    record { answered = sym (ap (answer _) e); plans = plans_not _ _ _ _ _ bad_parent _ (λ q. omega arith) e refl }

-- check 5 was passed
linked : (c : Else-index-l) → let a = c.args in Linked a.job.now a.l.tree a.l.nodes
linked c =
    let q = c.requires.0 in record { inside = q.nodes; few = q.few; parents = all_pass _ _ (faulty c) c.if-index-l.false }

pub all_fit-requires : goal.all_fit-requires
all_fit-requires c = linked (goal.at.all_fit-requires c).Else-index-l

pub check_job_script-requires : goal.check_job_script-requires
check_job_script-requires c = let q = c.requires in
    (record { inside = q.0.records; short = q.0.short; room = omega (arith, q.0.short, q.1) }, record { variables = q.2; nodes = fit_clean _ _ _ _ (fit (goal.at.check_job_script-requires c).Then-all_fit) })

pub returns-then-all_fit : goal.returns-then-all_fit
returns-then-all_fit c = let e = past5 (goal.at.returns-then-all_fit c).Else-index-l ∙ fit_through _ _ _ _ (fit (goal.at.returns-then-all_fit c).Then-all_fit) _ in
    let s = c.check_job_script.ensures in
    record { answered = s.answered ∙ sym (ap (answer _) e); plans = plans_along e s.plans }

pub first_unordered-requires : goal.first_unordered-requires
first_unordered-requires c = (c.requires.0, linked (goal.at.first_unordered-requires c).Else-index-l)

pub returns-in-Some : goal.returns-in-Some
unfolding answer
returns-in-Some c = let e = past5 (goal.at.returns-in-Some c).Else-index-l ∙ asked_stopped bad_order _ _ _ _ c.in-Some.ensures in
    record { answered = sym (ap (answer _) e); plans = plans_not _ _ _ _ _ bad_order _ (λ q. omega arith) e refl }

pub scan_nodes-requires : goal.scan_nodes-requires
scan_nodes-requires c = linked (goal.at.scan_nodes-requires c).Else-index-l

pub check_job_script-requires-2 : goal.check_job_script-requires-2
unfolding scanned
check_job_script-requires-2 c = let q = c.requires in
    let w = was_passed _ _ _ _ _ (sym c.scan_nodes.ensures ∙ c.in_ok-node.was) in
    (record { inside = q.0.records; short = q.0.short; room = omega (arith, q.0.short, q.1) }, record { variables = q.2; nodes = w.1 })

pub returns-in_err-node : goal.returns-in_err-node
unfolding scanned answer
returns-in_err-node c = let p = err_from_is_err_and c.from_residual.result c.from_residual.ensures.1 in
    let w = was_faulty _ _ _ _ _ (sym c.scan_nodes.ensures ∙ c.in_err-node.was) in
    let e = past5 (goal.at.returns-in_err-node c).Else-index-l ∙ asked_through bad_order _ _ _ _ c.in_default.ensures ∙ stopped bad_node _ _ _ refl w.1 in
    rw (p.1, p.2, w.0) (record { answered = sym (ap (answer _) e); plans = plans_not _ _ _ _ _ bad_node _ (λ q. omega arith) e refl })

pub returns : goal.returns
unfolding scanned
returns c = let w = was_passed _ _ _ _ _ (sym c.scan_nodes.ensures ∙ c.in_ok-node.was) in
    let e = past5 (goal.at.returns c).Else-index-l ∙ asked_through bad_order _ _ _ _ c.in_default.ensures ∙ through bad_node _ _ _ refl w.0 in
    let s = c.check_job_script-2.ensures in
    record { answered = s.answered ∙ sym (ap (answer _) e); plans = plans_along e s.plans }
