-- `after` meets its contract: each turn stands at a node from which the climb has met no right sibling. Assumes nothing.
use native.Mathlib.Omega.{arith}
use borrow.Author.Rules.{rules}
use Rattle.print.proofs.Visiting.{climb, passes, tops, leaves, rises}
use Rattle.print.proofs.preorder.after.Goals as goal

pub loop-places-init : goal.loop-places-init
loop-places-init c = (search rules, search rules, λ used free t p h e. climb p h e)

pub returns-then-right-places : goal.returns-then-right-places
returns-then-right-places c = record {
  place_lt_places = (search rules, search rules);
  by_index = λ used free t p h e.
      let w = c.loop-places.invariant.2 used free t p h e in
      passes w (c.beside-right.ensures used free t w.place w.holds) c.if-right-places.true;
}

pub returns-then-d-eq0 : goal.returns-then-d-eq0
returns-then-d-eq0 c = record {
  place_lt_places = search rules;
  by_index = λ used free t p h e.
      let w = c.loop-places.invariant.2 used free t p h e in
      tops w (c.beside-right.ensures used free t w.place w.holds) (omega (arith, c.if-right-places.false)) c.if-d-eq0.true;
}

pub returns-then-x-places : goal.returns-then-x-places
returns-then-x-places c = record {
  place_lt_places = search rules;
  by_index = λ used free t p h e.
      let w = c.loop-places.invariant.2 used free t p h e in
      leaves w (c.beside-right.ensures used free t w.place w.holds) (omega (arith, c.if-right-places.false))
      (c.parent-x.ensures used free t w.place w.holds) c.if-x-places.true;
}

pub loop-places-preserved : goal.loop-places-preserved
loop-places-preserved c = (
  search rules,
  search rules,
  λ used free t p h e.
      let w = c.loop-places.invariant.2 used free t p h e in
      rises w (c.beside-right.ensures used free t w.place w.holds) (omega (arith, c.if-right-places.false))
      (c.parent-x.ensures used free t w.place w.holds) (omega (arith, c.if-x-places.false)) (omega (arith, c.if-d-eq0.false)),
)
