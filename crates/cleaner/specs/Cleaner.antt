-- What the cleaner's functions hand back, from the rules' definitions of cleaning. Assumes nothing.
use Rattle.std.specs.Prelude.{◌≡◌, true, ◌&&◌, cond, List, [], ◌∷◌, ℕ, zero, suc, ◌-◌, ◌≤◌, ltb, length, Option, Some, None}
use Rattle.rules.specs.Blocks.{first_from}
use Rattle.rules.specs.Check as Check
use Rattle.rules.specs.Check.{length_rule, offset_rule}
use Rattle.rules.specs.Clean as Clean
use Rattle.rules.specs.Clean.{change_at, is_dirty}
use Rattle.fields.specs.declared.sections.Layout.{Layout}
use Rattle.fields.specs.Layout.{layout_of}
use Rattle.cleaner.specs.declared.spots.Spot.{Spot}
use Rattle.cleaner.specs.declared.spots.Section.{Section}
use Rattle.cleaner.specs.declared.spots.Section.TheVariants.{Variables, Nodes, Script, Trailer}
use Rattle.cleaner.specs.declared.changes.Change.{Change}

-- the sections by their numbers, which are 0 to 3
abbrev pub section_of : ℕ → Section
section_of zero = Variables
section_of (suc zero) = Nodes
section_of (suc (suc zero)) = Script
section_of _ = Trailer

abbrev pub number_of : Section → ℕ
number_of Variables = 0
number_of Nodes = 1
number_of Script = 2
number_of Trailer = 3

-- a spot of the rules as the program holds it
unfoldable pub spot_held : Clean.Spot → Spot
spot_held s = record { section = section_of s.section; index = s.index; byte = s.byte }

-- a layout is that of the bytes, which pass the checks 1 and 2
pub record Laid (b : List ℕ) (l : Layout) : Type 0 where
  pub layout : l ≡ layout_of b
  pub lengths : length_rule (length b) ≡ true
  pub offsets : offset_rule b ≡ true

-- the first place from one on whose byte is to be changed
unfoldable pub next_place : List ℕ → ℕ → ℕ
next_place b from = first_from (is_dirty b) (length b - from) from

-- a change, and the place behind it
unfoldable pub found : Clean.Change → ℕ → Change
found c after = record { spot = spot_held c.spot; old = c.old; after = after }

-- a change of the program as the rules have it
abbrev pub said : Change → Clean.Change
said c = record { spot = record { section = number_of c.spot.section; index = c.spot.index; byte = c.spot.byte }; old = c.old }

-- the first change from a place on; none where the sections do not lie within the bytes
unfoldable pub next_of : List ℕ → ℕ → Option Change
next_of b from =
    cond (length_rule (length b) && offset_rule b && ltb (next_place b from) (length b))
    (Some (found (change_at b (next_place b from)) (suc (next_place b from)))) None

-- what n calls hand out, the first from a place on, each other from behind the change before it
unfoldable pub handed : List ℕ → ℕ → ℕ → List Clean.Change
handed b zero from = []
handed b (suc n) from =
    elim (next_of b from) [ Some c ↦ said c ∷ handed b n c.after | None ↦ [] ]

-- the changes that are handed out, call by call, are the report of a job
pub record HandsReport : Type 0 where
  pub every : (b : List ℕ) (n : ℕ) → Check.check_bytes_by Check.first b ≡ Check.accepted → length b ≤ n → handed b n 0 ≡ Clean.report b
