-- The parent, the siblings due, and the tree rules. Assumes nothing.
use Rattle.lent.specs.Stands.{label_fits, admits}
use Rattle.lent.proofs.standing.admits.Goals as goal

pub returns : goal.returns
unfolding label_fits admits
returns c = let f = c.label_fits.ensures in
    record { value = rw f.value; byte_levels = record { existence = f.byte_levels.existence; content = f.byte_levels.content; structure = f.byte_levels.structure } }
