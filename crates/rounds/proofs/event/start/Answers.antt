-- `start` meets its contract: the places show the empty queue, and an array has as many elements as its type says. Assumes nothing.
use mathlib.Core.List.{[]}
use borrow.Author.Rules.{rules}
use Rattle.rounds.proofs.event.start.Goals as goal

pub returns : goal.returns
returns c = (
  [],
  c.empty.ensures _ (record { jobs = search rules; plans = search rules; levels = search rules; words = search rules; values = search rules; marks = search rules })
      (search rules),
)
