-- `first` meets its contract: the root stands at place 0. Assumes nothing.
use borrow.Author.Rules.{rules}
use Rattle.print.proofs.Visiting.{begun}
use Rattle.print.proofs.preorder.first.Goals as goal

pub returns : goal.returns
returns c = record { place_value = search rules; stands = λ m n used free x t p h. begun h }
