-- How many variables a job has, from the answer of the checks. Assumes nothing.
use mathlib.Core.List.{List}
use mathlib.Core.Path.{◌≡◌, sym, ap, ◌∙◌}
use native.Mathlib.Omega.{arith}
use Prim.Native.Nat.{ℕ, ◌≤◌}
use Rattle.rules.specs.Bytes.{variable_count}
use Rattle.rules.specs.Check.{check_bytes}
use Rattle.rules.specs.Job.{variables}
use Rattle.rules.proofs.Accepted.{right}
use Rattle.rules.proofs.Checks.{counts}
use Rattle.rules.proofs.Decode.{listed_length}
use Rattle.fields.specs.declared.sections.Layout.{Layout}
use Rattle.job.specs.declared.checks.Refusal.{Refusal}
use Rattle.std.specs.Prelude.{Ok, Err}
use Rattle.fields.specs.Layout.{layout_of}
use Rattle.job.specs.Answer.{answer}
use Rattle.job.proofs.Answers.{is_accepted, is_refused}
use Rattle.print.specs.Answers.{counted, variables_in}

module _ (b : List ℕ) where
  pub accepted_count : (l : Layout) → answer (layout_of b) (check_bytes b) ≡ Ok l → (l.variables ≤ 64) × (l.variables ≡ variables_in b)
  unfolding layout_of counted variables_in variables
  accepted_count l e =
      let w = is_accepted (layout_of b) l (check_bytes b) e in
      let same : l.variables ≡ variable_count b = ap (λ m. m.variables) w.1 in
      let few = (counts _ _ _ (right b w.0).counts).variables in
      (omega arith, same ∙ sym (listed_length _ (variable_count b) 0) ∙ ap (counted b) (sym w.0))

  pub refused_count : (r : Refusal) → answer (layout_of b) (check_bytes b) ≡ Err r → 0 ≡ variables_in b
  unfolding counted variables_in
  refused_count r e = ap (counted b) (sym (is_refused (layout_of b) r (check_bytes b) e))
