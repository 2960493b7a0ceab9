-- `is_read` meets its contract: by the section in which the place lies. Assumes nothing.
use mathlib.Core.Path.{sym, ◌∙◌}
use mathlib.Core.Bool.{true, false}
use Prim.Native.Nat.{◌-◌, ◌%◌}
use native.Mathlib.Omega.{arith}
use Rattle.rules.specs.Check.{variable_reads, node_reads}
use Rattle.cleaner.proofs.Located.{get_d_any, long, read_variable, read_node, read_record, read_trailer, record_within}
use Rattle.cleaner.proofs.spots.is_read.Goals as goal

pub returns-then-at-l : goal.returns-then-at-l
unfolding variable_reads
returns-then-at-l c = get_d_any variable_reads (c.args.at % 8) false true (omega arith) ∙ sym (read_variable _ _ c.requires _ c.if-at-l.true)

pub returns-then-at-l-2 : goal.returns-then-at-l-2
unfolding node_reads
returns-then-at-l-2 c = get_d_any node_reads ((c.args.at - c.args.l.tree) % 12) false true (omega arith) ∙ sym (read_node _ _ c.requires _ c.if-at-l.false c.if-at-l-2.true)

pub overflow_sub-job : goal.overflow_sub-job
overflow_sub-job c = long _ _ c.requires

pub script_reads-requires : goal.script_reads-requires
script_reads-requires c = (c.if-at-l-2.false, record_within _ _ c.requires _ c.if-at-l-2.false c.if-at-job.true)

pub returns-then-at-job : goal.returns-then-at-job
returns-then-at-job c = c.script_reads.ensures ∙ sym (read_record _ _ c.requires _ c.if-at-l-2.false c.if-at-job.true)

pub returns : goal.returns
returns c = sym (read_trailer _ _ c.requires _ c.if-at-job.false)
