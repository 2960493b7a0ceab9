-- `end_part` meets its contract: it is the definition, by whether a while began the part. Assumes nothing.
use mathlib.Core.Path.{◌≡◌, sym, ap, ◌∙◌}
use native.Mathlib.Numerals.{add-one}
use borrow.Author.Tests.{ne_eqb}
use Rattle.rules.specs.Blocks.{past_end}
use Rattle.job.specs.Plan.{end_code}
use Rattle.job.specs.Parts.{end_stored}
use Rattle.job.proofs.blocks.end_part.Goals as goal

pub returns-then-beginner-eq-WHILE : goal.returns-then-beginner-eq-WHILE
unfolding end_stored past_end
returns-then-beginner-eq-WHILE c = let k : end_code _ ≡ _ = sym (c.end_of-end.ensures ∙ ap end_code c.code_at.ensures) in
    c.close.ensures
    ∙ rw (c.word-then-beginner-eq-WHILE.ensures, c.word.ensures, k, sym c.code_at-beginner.ensures ∙ c.if-beginner-eq-WHILE.true, add-one)

pub returns-else-beginner-eq-WHILE : goal.returns-else-beginner-eq-WHILE
unfolding end_stored past_end
returns-else-beginner-eq-WHILE c = let k : end_code _ ≡ _ = sym (c.end_of-end.ensures ∙ ap end_code c.code_at.ensures) in
    let o = c.code_at-beginner.ensures in
    c.close-else-beginner-eq-WHILE.ensures
    ∙ rw (c.word-else-beginner-eq-WHILE-2.ensures, c.word-else-beginner-eq-WHILE.ensures, k, o, ne_eqb _ 4 (λ q. c.if-beginner-eq-WHILE.false (o ∙ q)), add-one)
