-- The header of a frame. Assumes nothing.
use Rattle.std.specs.Prelude.{List, ℕ, ◌+◌}
use Rattle.rules.specs.Bytes.{half, full}
use Rattle.frames.specs.declared.Header.{Header}

-- from a place on: the size of the body and the budget in 4 bytes each, the places and the lines in 2
unfoldable pub header_at : List ℕ → ℕ → Header
header_at b at = record { size = full b at; budget = full b (at + 4); places = half b (at + 8); lines = half b (at + 10) }
