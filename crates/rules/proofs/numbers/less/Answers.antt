-- `numbers::less` meets its contract: the machine compares the numbers themselves. Assumes nothing.
use mathlib.Core.Path.{ap, ap₂, ◌∙◌}
use lib.Signed.{lt_z}
use mir.Facts.{to_z-of_z}
use Rattle.rules.specs.Number.{truth, less}
use Rattle.rules.proofs.Number.{truth_is, less_fits}
use Rattle.rules.proofs.Machine.{read_as, in_wide}
use Rattle.rules.proofs.numbers.less.Goals as goal

pub returns : goal.returns
unfolding less
returns c =
    read_as
    (c.from.ensures ∙ truth_is _ ∙ ap truth (ap₂ lt_z (to_z-of_z c.ranges.a) (to_z-of_z c.ranges.b)))
    (in_wide (less_fits c.args.a c.args.b))
