-- `spot_of` meets its contract: by the section in which the place lies. Assumes nothing.
use mathlib.Core.Path.{sym, ap, ◌∙◌}
use Rattle.cleaner.specs.Cleaner.{spot_held}
use Rattle.cleaner.proofs.Located.{long, spot_variable, spot_node, spot_record, spot_trailer}
use Rattle.cleaner.proofs.spots.spot_of.Goals as goal

pub overflow_sub-trailer : goal.overflow_sub-trailer
overflow_sub-trailer c = long _ _ c.requires

pub returns-then-at-l : goal.returns-then-at-l
returns-then-at-l c = c.spot_in.ensures ∙ sym (ap spot_held (spot_variable _ _ c.requires _ c.if-at-l.true))

pub returns-then-at-l-2 : goal.returns-then-at-l-2
returns-then-at-l-2 c = c.spot_in-then-at-l-2.ensures ∙ sym (ap spot_held (spot_node _ _ c.requires _ c.if-at-l.false c.if-at-l-2.true))

pub returns-then-at-trailer : goal.returns-then-at-trailer
returns-then-at-trailer c = c.spot_in-then-at-trailer.ensures ∙ sym (ap spot_held (spot_record _ _ c.requires _ c.if-at-l-2.false c.if-at-trailer.true))

pub returns : goal.returns
returns c = c.spot_in-2.ensures ∙ sym (ap spot_held (spot_trailer _ _ c.requires _ c.if-at-trailer.false))
