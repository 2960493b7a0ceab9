-- `next` meets its contract: the first child comes next, or what comes after the node. Assumes nothing.
use native.Mathlib.Omega.{arith}
use borrow.Author.Rules.{rules}
use Rattle.print.proofs.Visiting.{deep, goes_down, goes_on_law}
use Rattle.print.proofs.preorder.next.Goals as goal

pub returns-then-down-places : goal.returns-then-down-places
returns-then-down-places c = record { place_lt_places = (search rules, search rules); by_index = λ used free k t s. goes_down s (c.beside-down.ensures used free t s.place s.holds) c.if-down-places.true }

pub returns : goal.returns
returns c = record {
  place_lt_places = search rules;
  by_index = λ used free k t s.
      goes_on_law s (c.beside-down.ensures used free t s.place s.holds) (omega (arith, c.if-down-places.false)) _
      (c.after.ensures.by_index used free t s.place s.holds (deep s));
}
