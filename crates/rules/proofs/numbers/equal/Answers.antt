-- `numbers::equal` meets its contract: numbers are equal where their bits are. Assumes nothing.
use mathlib.Core.Path.{ap, ◌∙◌}
use Rattle.rules.specs.Number.{truth, equal}
use Rattle.rules.proofs.Number.{truth_is, equal_fits}
use Rattle.rules.proofs.Machine.{read_as, in_wide, same_bits}
use Rattle.rules.proofs.numbers.equal.Goals as goal

pub returns : goal.returns
unfolding equal
returns c =
    read_as
    (c.from.ensures ∙ truth_is _ ∙ ap truth (same_bits c.ranges.a c.ranges.b))
    (in_wide (equal_fits c.args.a c.args.b))
