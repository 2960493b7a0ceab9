-- The script is put to the checks, and what is left of the free places is made ready for the run. Assumes nothing.
use mathlib.Core.Path.{refl, subst}
use mathlib.Core.List.{[]}
use native.Mathlib.Omega.{arith}
use Rattle.table.proofs.Behind.{then_behind}
use Rattle.actions.specs.Shows.{Slices, slices}
use Rattle.monitor.specs.Promises.{lent}
use Rattle.monitor.specs.Follow.{Storable, by_store, by_script}
use Rattle.monitor.proofs.Taken.{turned_from, Reached, reached, ready, rooted, taken_over}
use Rattle.monitor.proofs.follow.follow_places.Goals as goal
use Rattle.monitor.proofs.follow.follow_places.Goals.{After-reclaim-free, Start}

abbrev given : Start → Slices
given s = slices s.args.words.now s.args.levels.now s.args.values.now s.args.lines.now

pub returns-then-not-storable : goal.returns-then-not-storable
returns-then-not-storable c = turned_from (lent _ _ _ _) c.requires.0 (by_store (subst (Storable _ _ _) c.if-not-storable.true c.storable.ensures) refl)

pub returns-in-Err : goal.returns-in-Err
returns-in-Err c = turned_from (lent _ _ _ _) c.requires.0
    (by_script _ _ (subst (Storable _ _ _) c.if-not-storable.false c.storable.ensures) c.in-Err.ensures refl)

pub reclaim-free-requires : goal.reclaim-free-requires
reclaim-free-requires c = let few = c.in-Ok.ensures.few refl in (((c.requires.0 few).long, few), c.requires.1)

-- the script is taken
taken : (c : After-reclaim-free) → Reached c.args.section.now c.args.budget c.args.places (given c.before.before.before.before.before.before.before.before.before.before.before.before.before)
taken c =
    reached _ _ _ (given c.before.before.before.before.before.before.before.before.before.before.before.before.before) _ (c.requires.0 (c.in-Ok.ensures.few refl))
    (subst (Storable _ _ _) c.if-not-storable.false c.storable.ensures) c.in-Ok.ensures

pub from_root-requires : goal.from_root-requires
from_root-requires c = let few = c.in-Ok.ensures.few refl in
    let known = c.requires.0 few in
    let good = subst (Storable _ _ _) c.if-not-storable.false c.storable.ensures in
    let r = taken (goal.at.from_root-requires c).After-reclaim-free in
    rooted _ _ _ (given (goal.at.from_root-requires c).Start) r.s r.held r.ok _ _ (ready _ known good c.reclaim-free.ensures.reclaimed r.held.tree) _ _
    (omega (arith, known.long, c.words-1.given)) few (c.in-Ok.ensures.whole refl)

pub returns-in-Ok : goal.returns-in-Ok
returns-in-Ok c = let few = c.in-Ok.ensures.few refl in
    let good = subst (Storable _ _ _) c.if-not-storable.false c.storable.ensures in
    let r = taken (goal.at.returns-in-Ok c).After-reclaim-free in
    record {
      few =
          λ _.
          taken_over _ _ _ (given (goal.at.returns-in-Ok c).Start) r.s r.held r.ok _ _ (ready _ (c.requires.0 few) good c.reclaim-free.ensures.reclaimed r.held.tree) [] _ _ _ _
          c.values-1.given _ c.from_root.ensures;
      many = λ lt. absurd (omega (arith, few, lt));
      behind = then_behind c.reclaim-free.ensures.behind c.from_root.ensures.behind;
    }
