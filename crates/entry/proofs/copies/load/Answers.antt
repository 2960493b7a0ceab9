-- One place more is that of its record. Assumes nothing.
use Rattle.std.proofs.Common.{◌≡◌, arith, add-one, below_more}
use Rattle.entry.proofs.copies.load.Goals as goal

pub loop-x-preserved : goal.loop-x-preserved
loop-x-preserved c =
    (rw (add-one, c.put.ensures, c.loop-x.invariant.0), below_more _ _ c.loop-x.invariant.1 (record { sfits = c.struct_told-1.given.1.1.1.1.1.1.0.1 }))

pub returns : goal.returns
returns c = let e : c.loop-x.x ≡ c.args.n = omega arith in record { words = rw e at c.loop-x.invariant.0; fit = rw e at c.loop-x.invariant.1 }
