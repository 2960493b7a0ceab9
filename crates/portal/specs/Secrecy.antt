-- Demand 3 of the portal's call, in what C sees of two of them: numbers and areas. Assumes nothing.
use Rattle.std.specs.Prelude.{◌≡◌, List, ℕ, ◌/◌, ◌%◌, length}
use Rattle.rules.specs.Level.{Level}
use Rattle.rules.specs.Number.{range}
use Rattle.rules.specs.Check.{accepted, check_bytes}
use Rattle.rules.specs.Public.{Comparable, Alike}
use Rattle.actions.specs.Board.{seen_board}
use Rattle.portal.specs.Portal.{Handed, portal}

-- the upper half of the number is the ending
unfoldable pub ending_in : Handed → ℕ
ending_in h = h.number / range

-- the lower half is the number of lines
unfoldable pub count_in : Handed → ℕ
count_in h = h.number % range

-- the bytes of the lines that the reader o sees, five for each: "the house .. hands each reader their lines"
unfoldable pub lines_in : Level → Handed → List ℕ
lines_in o h = seen_board o (count_in h) h.area

-- how many these are; the count of all lines is house data
unfoldable pub seen_in : Level → Handed → ℕ
seen_in o h = length (lines_in o h) / 5

-- what o sees of the lines of one call is the beginning of what o sees of the other's, and if both finish it is the same
pub record Unseen (o : Level) (h k : Handed) : Type 0 where
  pub lines : Comparable (lines_in o h) (lines_in o k)
  pub finish : ending_in h ≡ 0 → ending_in k ≡ 0 → lines_in o h ≡ lines_in o k

-- two calls that keep the contract, with accepted jobs that are alike for the reader o, whatever their budgets and areas; a call that 9 turns back counts too
unfoldable pub SecretPortal : Level → Type 0
SecretPortal o =
    (a b : List ℕ) (n m : ℕ) (x y : List ℕ) (h k : Handed) → h ≡ portal a n x → k ≡ portal b m y
    → check_bytes a ≡ accepted → check_bytes b ≡ accepted → Alike o a b → Unseen o h k
