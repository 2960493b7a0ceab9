-- `layout_of` meets its contract: it is the definition; the offsets do not fall. Assumes nothing.
use Rattle.rules.specs.Bytes.{variable_count, node_count, record_count}
use Rattle.fields.specs.Layout.{offsets_of, layout_of}
use Rattle.fields.proofs.sections.layout_of.Goals as goal

pub overflow_sub-result : goal.overflow_sub-result
unfolding offsets_of
overflow_sub-result c = rw c.offsets_at-o.ensures c.requires.nodes

pub overflow_sub-result-2 : goal.overflow_sub-result-2
unfolding offsets_of
overflow_sub-result-2 c = rw c.offsets_at-o.ensures c.requires.script

pub returns : goal.returns
unfolding layout_of offsets_of variable_count node_count record_count
returns c = rw c.offsets_at-o.ensures
