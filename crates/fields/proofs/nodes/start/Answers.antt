-- `start` meets its contract: behind the later of the two. Assumes nothing.
use mathlib.Core.Path.{◌≡◌}
use Prim.Native.Nat.{ℕ, ◌+◌, max}
use native.Mathlib.Omega.{arith}
use borrow.Author.Tests.{ltb-true, ltb-false}
use lib.Dec.{ltb}
use Rattle.rules.proofs.Tests.{Test, holds, fails, test}
use Rattle.fields.specs.Siblings.{behind}
use Rattle.fields.proofs.nodes.start.Goals as goal

later : (l p : ℕ) → max l p + 1 ≡ behind l p
unfolding behind
later l p = go (test (ltb l p))
  where
    go : Test (ltb l p) → max l p + 1 ≡ behind l p
    go (holds t) = let h = ltb-true l p t in rw t (omega arith)
    go (fails t) = let h = ltb-false l p t in rw t (omega arith)

pub returns : goal.returns
returns c = rw (c.max.ensures, c.from.ensures) (later _ _)
