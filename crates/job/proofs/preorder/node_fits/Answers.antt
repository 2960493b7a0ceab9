-- `node_fits` meets its contract: what is asked of the node alone, then its order, then what is asked by its parent and left sibling. Assumes nothing.
use mathlib.Core.Path.{sym, ◌∙◌}
use borrow.Author.Tests.{eq-eqb, ne_eqb}
use Rattle.rules.specs.Check.{order_rule}
use Rattle.fields.proofs.Siblings.{rule_parts}
use Rattle.job.proofs.preorder.node_fits.Goals as goal

pub returns-then-i-eq0 : goal.returns-then-i-eq0
unfolding order_rule
returns-then-i-eq0 c e = let a = c.args in
    let z = eq-eqb a.i 0 c.if-i-eq0.true in
    record {
      order = rw z;
      node = rw (rule_parts a.top a.job.now a.base a.i, sym c.own_ok.ensures ∙ c.if-not-own_ok.false, z);
      clean = sym c.clean_ok.ensures ∙ c.if-not-clean_ok.false;
    }

-- the nodes before are in order
pub left_of-requires : goal.left_of-requires
left_of-requires c = let q = c.requires in (c.if-i-eq0.false, q.0, record { each = λ k l. (q.1.each k l).order })

pub child_ok-requires : goal.child_ok-requires
child_ok-requires c = (c.if-i-eq0.false, c.requires.0, c.in-Some.ensures.1)

pub returns : goal.returns
returns c e = let a = c.args in
    record {
      order = c.in-Some.ensures.0;
      node =
          rw (
            rule_parts a.top a.job.now a.base a.i,
            sym c.own_ok.ensures ∙ c.if-not-own_ok.false,
            ne_eqb a.i 0 c.if-i-eq0.false,
            sym c.child_ok.ensures ∙ e,
          );
      clean = sym c.clean_ok.ensures ∙ c.if-not-clean_ok.false;
    }
