-- `check_section` meets its contract: the chain of checks, one link at a time. Assumes nothing.
use mathlib.Core.Path.{refl, sym, ap, ◌∙◌}
use native.Mathlib.Omega.{arith}
use Rattle.rules.specs.Limits.{bad_follow_on}
use Rattle.rules.specs.Check.{first_fault, ordered, today}
use Rattle.rules.specs.History.{section_count}
use Rattle.rules.proofs.Checks.{turned, met}
use Rattle.job.specs.Answer.{told, edition_of, asked, found}
use Rattle.job.specs.FollowOn.{check_section}
use Rattle.job.proofs.Answers.{plans_not, plans_along}
use Rattle.job.proofs.FollowOns.{section_few}
use Rattle.job.proofs.follow_on.check_section.Goals as goal

pub returns-then-not-section_ok : goal.returns-then-not-section_ok
unfolding check_section told
returns-then-not-section_ok c = let e = turned bad_follow_on _ (sym c.section_ok.ensures ∙ c.if-not-section_ok.true) in
    record { answered = sym (ap told e); plans = plans_not _ _ _ _ _ bad_follow_on _ (λ q. omega arith) e refl }

pub check_script-requires : goal.check_script-requires
unfolding section_count asked found edition_of ordered today first_fault
check_script-requires c = let h = section_few _ (sym c.section_ok.ensures ∙ c.if-not-section_ok.false) in (
  record { inside = omega arith; short = omega arith; room = omega (arith, c.requires) },
  record { variables = refl; nodes = refl },
)

pub returns : goal.returns
unfolding check_section section_count edition_of
returns c = let s = c.check_script.ensures in
    let f = met bad_follow_on _ (sym c.section_ok.ensures ∙ c.if-not-section_ok.false) in
    record { answered = s.answered ∙ sym (ap told f); plans = plans_along f s.plans }
