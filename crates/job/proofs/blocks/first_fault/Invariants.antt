use mathlib.Core.Path.{◌≡◌}
use Prim.Native.Nat.{suc}
use lib.ListN.{length}
use Rattle.rules.specs.Blocks.{block_rule, parts, nest}
use Rattle.rules.specs.Check.{code}
use Rattle.rules.proofs.Search.{Scan}
use Rattle.job.specs.Plan.{Partly}
use Rattle.job.specs.Parts.{Spells}
use Rattle.job.proofs.blocks.first_fault.Given as goal

abbrev pub invariant-loop-i : goal.invariant-loop-i
invariant-loop-i l = Scan (block_rule (code l.job l.base) l.count) (suc l.count) l.i × Spells l.begun l.depth (parts (code l.job l.base) l.i)
    × Spells l.opened l.depth (nest (code l.job l.base) l.i) × (length l.plan ≡ length l.initial.plan) × Partly (code l.job l.base) l.count l.i l.initial.plan l.plan
