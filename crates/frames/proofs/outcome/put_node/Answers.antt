-- `put_node` meets its contract: a line of the node's depth, levels and value. Assumes nothing.
use Rattle.std.proofs.Common.{[], ◌∷◌, sym, ◌∙◌, ap, rules}
use Rattle.rules.specs.Number.{bits}
use Rattle.rules.proofs.Number.{bits_signed}
use Rattle.frames.specs.Answers.{node_row}
use Rattle.frames.proofs.Putting.{lined}
use Rattle.frames.proofs.outcome.put_node.Goals as goal

pub returns : goal.returns
unfolding node_row
returns c = λ used free t p h.
    let existence = c.from.ensures ∙ sym (c.existence.ensures used free t p h) in
    let content = c.from-2.ensures ∙ sym (c.content.ensures used free t p h) in
    let structure = c.from-3.ensures ∙ sym (c.structure.ensures used free t p h) in
    let value = sym (ap bits (c.value.ensures used free t p h) ∙ bits_signed _ (search rules)) in
    record { same = c.row.ensures.same; puts = lined (λ i. c.args.v.depth ∷ existence i ∷ content i ∷ structure i ∷ value i ∷ []) c.row.ensures.row }
