-- `script_reads` meets its contract: it is the definition. Assumes nothing.
use mathlib.Core.Bool.{true, false}
use Prim.Native.Nat.{◌-◌, ◌/◌, ◌%◌}
use native.Mathlib.Omega.{arith}
use Rattle.rules.specs.Bytes.{record_place}
use Rattle.rules.specs.Check.{record_reads}
use Rattle.rules.proofs.ReadBytes.{records_16}
use Rattle.cleaner.proofs.Located.{get_d_any}
use Rattle.cleaner.proofs.spots.script_reads.Goals as goal

pub returns : goal.returns
returns c = let a = c.args in
    let z = records_16 false a.job.now (record_place a.script ((a.at - a.script) / 16)) in
    rw c.record_reads-reads.ensures (get_d_any (record_reads a.job.now (record_place a.script ((a.at - a.script) / 16)) false) ((a.at - a.script) % 16) false true (omega arith))
