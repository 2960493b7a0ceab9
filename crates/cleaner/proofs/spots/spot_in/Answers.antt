-- `spot_in` meets its contract: it is the definition. Assumes nothing.
use mathlib.Core.Path.{◌≡◌, refl}
use Rattle.rules.specs.Clean.{spot_in}
use Rattle.cleaner.specs.declared.spots.Section.{Section}
use Rattle.cleaner.specs.declared.spots.Section.TheVariants.{Variables, Nodes, Script, Trailer}
use Rattle.cleaner.specs.Cleaner.{section_of, number_of, spot_held}
use Rattle.cleaner.proofs.spots.spot_in.Goals as goal

same_section : (s : Section) → section_of (number_of s) ≡ s
same_section Variables = refl
same_section Nodes = refl
same_section Script = refl
same_section Trailer = refl

pub returns : goal.returns
unfolding spot_held spot_in
returns c = rw (same_section c.args.section)
