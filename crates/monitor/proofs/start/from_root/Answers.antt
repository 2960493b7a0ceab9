-- The run starts at the root, and what it leaves is what the promise says. Assumes nothing.
use mathlib.Core.Path.{refl, sym, subst}
use Rattle.actions.specs.Shows.{slices}
use Rattle.monitor.specs.FromRoot.{FromRoot}
use Rattle.monitor.proofs.Begins.{plan_long, startable, within, from_root}
use borrow.Author.Rules.{rules}
use Rattle.monitor.proofs.start.from_root.Goals as goal

pub run_from-requires : goal.run_from-requires
run_from-requires c = let p = c.requires in
    startable c.rooted.ensures (search rules) (plan_long p (search rules)) p

pub ended-requires : goal.ended-requires
ended-requires c = (within c.rooted.ensures c.run_from.ensures, c.requires.spend)

pub returns : goal.returns
returns c = subst (FromRoot _ _ _ _ _ _) (sym c.ended.ensures)
    (from_root _ (slices _ _ _ _) (slices _ _ _ _) _ _ refl _ _ _ _ c.rooted.ensures refl _ c.run_from.ensures)
