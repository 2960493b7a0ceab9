-- The layout of a job: where its sections start and how many records they hold. Assumes nothing.
use Rattle.std.specs.Prelude.{ℕ, ◌+◌, ◌*◌, ◌≤◌, List, length}
use Rattle.rules.specs.Limits.{max_nodes, max_records, trailer_size, variable_size, node_size, record_size}
use Rattle.rules.specs.Bytes.{variables_at, nodes_at, script_at, trailer_at, variable_count, node_count, record_count}
use Rattle.fields.specs.declared.sections.Layout.{Layout}
use Rattle.fields.specs.declared.sections.Offsets.{Offsets}

-- the four offsets of the trailer
unfoldable pub offsets_of : List ℕ → Offsets
offsets_of b = record { variables = variables_at b; nodes = nodes_at b; script = script_at b; trailer = trailer_at b }

-- the layout that the trailer gives
unfoldable pub layout_of : List ℕ → Layout
layout_of b =
    record { variables = variable_count b; tree = nodes_at b; nodes = node_count b; script = script_at b; records = record_count b }

-- there is a trailer, and its offsets do not fall
pub record Ordered (b : List ℕ) : Type 0 where
  pub trailer : trailer_size ≤ length b
  pub nodes : nodes_at b ≤ script_at b
  pub script : script_at b ≤ trailer_at b

-- the sections lie within the bytes, and there are no more nodes and records than there may be
pub record Inside (b : List ℕ) (l : Layout) : Type 0 where
  pub variables : variable_size * l.variables ≤ length b
  pub nodes : l.tree + node_size * l.nodes ≤ length b
  pub records : l.script + record_size * l.records ≤ length b
  pub few : l.nodes ≤ max_nodes
  pub short : l.records ≤ max_records
