-- The bound on boards is reached: one script over every house number, and four boards of at most three lines. By computation. Assumes nothing.
use mathlib.Core.Path.{◌≡◌, refl, ap}
use Prim.Native.Nat.{ℕ}
use native.Mathlib.Omega.{arith}
use mathlib.Core.List.{List, [], ◌∷◌, map, flat_map}
use lib.ListN.{length}
use borrow.Author.Tests.{eqb-false}
use lib.IntN.{ℤ, pos}
use Rattle.rules.specs.Level.{public}
use Rattle.rules.specs.Trials.{usual, one, both, bare, v, number, value, with_places}
use Rattle.rules.specs.Board.{Different, Family, board}
use Rattle.rules.proofs.Computed.{computed}
use Rattle.rules.proofs.Seen.{line}

-- if v1 is z, up (there is nothing above the root, so 22), end, print value
unfoldable pub leave_at : ℤ → List (List ℕ)
leave_at z = both 2 0 3 (v 1) (number z) ∷ bare 8 ∷ bare 5 ∷ one 6 0 value ∷ []

-- v1 belongs to the house; the script leaves where it is 0, 1 or 2
pub job : ℤ → List ℕ
job z = usual z (flat_map leave_at (pos 0 ∷ pos 1 ∷ pos 2 ∷ []))

pub jobs : Family public ℤ
unfolding computed leave_at job
jobs =
    record {
      job = job;
      budget = λ z. 100;
      lent = λ z. with_places 512;
      taken = λ z. refl;
      alike = λ y z. record { script = refl; parts = record { variables = refl; trees = λ p. refl } };
    }

-- four house numbers
pub numbers : List ℤ
numbers = pos 0 ∷ pos 1 ∷ pos 2 ∷ pos 3 ∷ []

-- their boards
pub boards_differ :
    let ten = line (pos 10) public in map (board jobs) numbers ≡ [] ∷ (ten ∷ []) ∷ (ten ∷ ten ∷ []) ∷ (ten ∷ ten ∷ ten ∷ []) ∷ []
unfolding computed leave_at job jobs numbers
boards_differ = refl

-- as many as the bound allows
pub bound_reached : Different (board jobs) (λ z. length (board jobs z)) 3 numbers × (length numbers ≡ 4)
unfolding computed leave_at job jobs numbers
bound_reached = (
  (
    omega arith,
    (λ e. eqb-false 0 1 refl (ap length e), (λ e. eqb-false 0 2 refl (ap length e), (λ e. eqb-false 0 3 refl (ap length e), tt))),
    (
      omega arith,
      (λ e. eqb-false 1 2 refl (ap length e), (λ e. eqb-false 1 3 refl (ap length e), tt)),
      (omega arith, (λ e. eqb-false 2 3 refl (ap length e), tt), (omega arith, tt, tt)),
    ),
  ),
  refl,
)
