-- It has the places that its words make, and words for all of them. Assumes nothing.
use mathlib.Core.Path.{sym, subst}
use Prim.Native.Nat.{◌≤◌}
use native.Mathlib.Omega.{arith}
use lib.ListN.{length}
use Rattle.monitor.specs.Promises.{lent, places_in, places_for, Tree}
use Rattle.monitor.proofs.Answered.{recount, all_places}
use Rattle.monitor.proofs.entry.run_words.Goals as goal

pub returns : goal.returns
returns c = let w = c.args.words.now in
    let e = c.run_places.ensures in
    let z = all_places (places_in w) (length w) (omega arith) in (
      recount Tree (λ (v : _). places_for (places_in w) (length v)) places_in _ _ (lent _ _ _ _) (lent _ _ _ _) _ z e.0,
      record { same = λ y h. e.1.same y (subst (λ k. k ≤ y) (sym z) h) },
    )
