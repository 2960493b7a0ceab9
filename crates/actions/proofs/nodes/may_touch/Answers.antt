-- A number that is no place leads to no node, which nothing forbids to touch; at a place the node's existence decides, as in the rules. Assumes nothing.
use mathlib.Core.Path.{sym, ap₂, ◌∙◌}
use Rattle.rules.specs.Level.{not_above}
use Rattle.table.proofs.Moves.{stands}
use Rattle.actions.proofs.Touched.{there, nowhere, free_to_touch, by_existence}
use Rattle.actions.proofs.nodes.may_touch.Goals as goal

pub returns-then-place-places : goal.returns-then-place-places
returns-then-place-places c = record { touch = λ pc μ q i l. sym (free_to_touch pc μ _ (nowhere l c.if-place-places.true)) }

pub returns : goal.returns
returns c = record {
  touch = λ pc μ q i l.
      let h = there l c.if-place-places.false in
      c.not_above.ensures ∙ ap₂ not_above i (sym (c.existence.ensures _ _ _ _ h)) ∙ sym (by_existence pc μ _ (stands h));
}
