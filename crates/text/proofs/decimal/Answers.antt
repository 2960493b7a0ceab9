-- `decimal` meets its contract: the number and the digits that are left spell what all of them do. Assumes nothing.
use Rattle.std.proofs.Common.{sym, ◌∙◌, ap, ◌+◌, drop, arith, rules, ℕ}
use Rattle.text.specs.Hex.{digits, number_of}
use Rattle.text.proofs.Spelling.{digits_past, digits_pass, number_end}
use Rattle.text.proofs.decimal.Goals as goal
use Rattle.text.proofs.decimal.Goals.{in-Some, in_default}

pub loop-c-preserved : goal.loop-c-preserved
unfolding number_of
loop-c-preserved c =
    let t = c.args.text.now in
    let i = c.loop-c.c-index in
    elim c.match-digit.branch [
      | in-Some w ↦ (
        search rules,
        ap (λ (v : ℕ). number_of v (digits (drop (i + 1) t))) (w.value-is ∙ w.more-value.ensures.1)
            ∙ ap (number_of c.loop-c.value) (sym (digits_past t i c.loop-c-test.true w.in-Some.ensures.value)) ∙ c.loop-c.invariant.1,
      )
      | in_default w ↦ (
        search rules,
        ap (λ (v : ℕ). number_of v (digits (drop (i + 1) t))) w.value-is
            ∙ ap (number_of c.loop-c.value) (sym (digits_pass t i c.loop-c-test.true w.in_default.ensures.value)) ∙ c.loop-c.invariant.1,
      )
    ]

pub returns : goal.returns
returns c = (search rules, sym (number_end c.args.text.now c.loop-c.c-index (omega (arith, c.loop-c-test.false)) c.loop-c.value) ∙ c.loop-c.invariant.1)
