-- The subtree is forgotten, and then the node goes, from under the parent that its cell leads to; it has one. Assumes nothing.
use mathlib.Core.Path.{◌≡◌, refl, ap, ◌∙◌}
use lib.ListN.{length}
use Rattle.table.specs.Cells.{cells, side_of}
use Rattle.table.proofs.Behind.{then_behind}
use Rattle.table.proofs.Removing.{found, removed, pruned, never_parentless}
use Rattle.table.proofs.Effects.{detached_behind}
use Rattle.table.proofs.Forgetting.{Ready, all_forgotten, none_kept}
use borrow.Author.Rules.{rules}
use Rattle.table.proofs.shape.remove.Goals as goal
use Rattle.table.proofs.shape.remove.Goals.{After-link-u, Joined-remembered, then-remembered, else-remembered}

-- the parent word of the node that goes
parent_word : (c : After-link-u) → let a = c.args in c.link-u.result ≡ (cells a.words.now a.old).parent
unfolding cells
parent_word c = c.link-u.ensures

-- where both ways meet again
ready : (c : Joined-remembered)
    → let a = c.args in Ready a.remembered (side_of a.side) a.places a.at a.old (cells a.words.now) (cells c.if-remembered.words) a.since.now c.if-remembered.since
ready c = elim c.if-remembered.branch [ then-remembered w ↦ rw (w.words-is, w.since-is) (all_forgotten w.forget.ensures) | else-remembered w ↦ rw (w.words-is, w.since-is, w.if-remembered.false) none_kept ]

lengths : (c : Joined-remembered)
    → let a = c.args in (length c.if-remembered.words ≡ length a.words.now) × (length c.if-remembered.since ≡ length a.since.now)
lengths c =
    elim c.if-remembered.branch [ then-remembered w ↦ (ap length w.words-is ∙ w.forget.auto.words, ap length w.since-is ∙ w.forget.auto.since) | else-remembered w ↦ (ap length w.words-is, ap length w.since-is) ]

pub detach-requires : goal.detach-requires
detach-requires c = let l = (lengths (goal.at.detach-requires c).Joined-remembered).0 in
    search rules

pub shape_of-words-then-u-places : goal.shape_of-words-then-u-places
shape_of-words-then-u-places c = c.detach.auto.words ∙ (lengths (goal.at.shape_of-words-then-u-places c).Joined-remembered).0

pub shape_of-since-then-u-places : goal.shape_of-since-then-u-places
shape_of-since-then-u-places c = (lengths (goal.at.shape_of-since-then-u-places c).Joined-remembered).1

pub returns-then-u-places : goal.returns-then-u-places
returns-then-u-places c = let r = ready (goal.at.returns-then-u-places c).Joined-remembered in
    let lu = c.if-u-places.true in
    let d = c.detach.ensures in record {
      by_index = λ used t p h e.
          let o = found h (side_of c.args.side) c.requires.1.0 e in
          let f = r.done h o in
          (removed h (side_of c.args.side) o (pruned h (side_of c.args.side) o (parent_word (goal.at.returns-then-u-places c).After-link-u) lu f.0 d), f.1);
      behind = then_behind r.behind (detached_behind c.requires.0.inside lu c.requires.1.0 d);
    }

pub returns : goal.returns
returns c = record {
  by_index = λ used t p h e. absurd (never_parentless h (side_of c.args.side) (found h (side_of c.args.side) c.requires.1.0 e) (parent_word (goal.at.returns c).After-link-u) c.if-u-places.false);
  behind = record { same = λ _ _. refl };
}
