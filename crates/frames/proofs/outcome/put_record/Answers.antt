-- `put_record` meets its contract: a line of eleven numbers. Assumes nothing.
use Rattle.std.proofs.Common.{[], ◌∷◌, ◌∙◌, ap, w32, rules}
use mir.Facts.{to_z-of_z}
use Rattle.rules.specs.Number.{bits}
use Rattle.frames.specs.Answers.{numbers, record_row}
use Rattle.frames.proofs.Putting.{lined}
use Rattle.frames.proofs.outcome.put_record.Goals as goal

pub returns : goal.returns
unfolding record_row
returns c = let d = c.node_of-d.result in
    let value = c.bits.ensures ∙ ap bits {y = d.value} (to_z-of_z {w = w32} (record { sfits = search rules })) in
    record {
      same = c.row.ensures.same;
      puts = lined
          ((λ i. c.args.place ∷ d.first ∷ d.right ∷ d.parent ∷ d.children ∷ value i ∷ c.from.ensures i ∷ c.from-2.ensures i ∷ c.from-3.ensures i ∷ d.left ∷ d.last ∷ [])
          ∙ ap (numbers c.args.place) c.node_of-d.ensures) c.row.ensures.row;
    }
