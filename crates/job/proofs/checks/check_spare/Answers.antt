-- `check_spare` meets its contract: the chain of checks, one section at a time. Assumes nothing.
use mathlib.Core.Path.{◌≡◌, refl, sym, ap, ◌∙◌}
use mathlib.Core.List.{List}
use Prim.Native.Nat.{ℕ}
use native.Mathlib.Omega.{arith}
use Rattle.std.specs.Prelude.{Option}
use Rattle.std.specs.Option.{option_or}
use Rattle.rules.specs.Limits.{bad_spare}
use Rattle.rules.specs.Check.{Edition}
use Rattle.fields.specs.declared.sections.Layout.{Layout}
use Rattle.job.specs.declared.checks.Unclean.{Unclean}
use Rattle.job.specs.Answer.{told, unclean_of, from_blocks, from_spare}
use Rattle.job.proofs.Answers.{plans_not, plans_along}
use Rattle.job.proofs.Scans.{refusing, refusing_or, asked_law}
use Rattle.job.proofs.checks.check_spare.Goals as goal

-- the three checks are one, by the first of the records that they find
one : (b : List ℕ) (l : Layout) (rules : Edition) {u : Unclean} → u ≡ unclean_of rules b l → {o : Option ℕ} → option_or (option_or u.variables u.nodes) u.records ≡ o
    → from_spare b l rules ≡ refusing bad_spare o (from_blocks b l)
unfolding from_spare unclean_of
one b l rules {u} e {o} h =
    let v = unclean_of rules b l in
    let c = from_blocks b l in
    rw (asked_law bad_spare rules.spare _ l.variables _, asked_law bad_spare rules.spare _ l.nodes _, asked_law bad_spare rules.spare _ l.records _)
    (sym (refusing_or bad_spare (option_or v.variables v.nodes) v.records c ∙ refusing_or bad_spare v.variables v.nodes (refusing bad_spare v.records c)))
    ∙ ap (λ (o : Option ℕ). refusing bad_spare o c) (ap (λ (w : Unclean). option_or (option_or w.variables w.nodes) w.records) (sym e) ∙ h)

pub returns-in-Some : goal.returns-in-Some
unfolding told
returns-in-Some c = let e = one _ _ _ c.requires.1 (ap (λ (o : Option ℕ). option_or o c.args.unclean.records) (sym c.or.ensures) ∙ sym c.in-Some.ensures) in
    record { answered = sym (ap told e); plans = plans_not _ _ _ _ _ bad_spare _ (λ q. omega arith) e refl }

pub returns : goal.returns
returns c = let e = one _ _ _ c.requires.1 (ap (λ (o : Option ℕ). option_or o c.args.unclean.records) (sym c.or.ensures) ∙ sym c.in_default.ensures) in
    let s = c.check_blocks.ensures in
    record { answered = s.answered ∙ sym (ap told e); plans = plans_along e s.plans }
