-- `put_answer` meets its contract: four numbers, each behind its name, and a line's end. Assumes nothing.
use Rattle.std.proofs.Common.{◌∙◌, sym}
use Rattle.print.specs.Waiting.{pushes}
use Rattle.frames.specs.Pieces.{none, more}
use Rattle.frames.specs.Answers.{answer_line}
use Rattle.frames.proofs.outcome.put_answer.Goals as goal

pub returns : goal.returns
unfolding pushes answer_line
returns c = record {
  same = c.byte.ensures.0 ∙ c.item-4.ensures.same ∙ c.item-3.ensures.same ∙ c.item-2.ensures.same ∙ c.item.ensures.same;
  puts = more (rw (sym c.from.ensures) c.item.ensures.number) (more c.item-2.ensures.number (more (rw (sym c.from-2.ensures) c.item-3.ensures.number) (more c.item-4.ensures.number (more c.byte.ensures.1 none))));
}
