-- Seasons by computation: what is rolled back leaves no trace, and a load stands in the place of what stood before; and as many seasons to tell apart as the bound
-- allows. Assumes nothing.
use mathlib.Core.Path.{◌≡◌, refl, ap}
use Prim.Native.Nat.{ℕ, ◌+◌, ◌*◌}
use native.Mathlib.Omega.{arith}
use mathlib.Core.Bool.{true, false}
use mathlib.Core.Option.{Option, none, some}
use mathlib.Core.List.{List, [], ◌∷◌, ◌++◌, map}
use lib.IntN.{ℤ, pos}
use borrow.Author.Tests.{eqb-false}
use Rattle.rules.specs.Level.{public, secret}
use Rattle.rules.specs.Run.{Line}
use Rattle.rules.specs.Trials.{usual, one, bare, v, number, with_places, same}
use Rattle.rules.specs.Board.{Different}
use Rattle.rules.specs.History.{Store}
use Rattle.rules.specs.Season.{Transaction, load, boards, verdicts, ways, Seasons, shows, rolled_back}
use Rattle.rules.specs.Season as Season
use Rattle.rules.proofs.Computed.{computed}
use Rattle.rules.proofs.Seen.{line}
use Rattle.rules.proofs.Reached.{leave_at}
use Rattle.rules.proofs.HistoryTrials.{script}

-- over the usual tree: v0 is public, 0; v1 is the house's, z
unfoldable pub owned : ℤ → Store
owned z = record { variables = record { level = public; value = pos 0 } ∷ record { level = secret; value = z } ∷ []; tree = same }

-- some records as a follow-on script, and as a job that is loaded, with the house number 7
follow : List (List ℕ) → Transaction
follow cs = Season.script (script 100 512 cs)

reload : List (List ℕ) → Transaction
reload cs = load (record { job = usual (pos 7) cs; budget = 100; lent = with_places 512 })

-- v0 := 5; a load that stops, by up from the root; print v0; v0 := 6 and up, which stops; print v0; a load; print v0
pub transactions : List Transaction
transactions =
    let print = follow (one 6 0 (v 0) ∷ []) in
    follow (one 1 0 (number (pos 5)) ∷ []) ∷ reload (bare 8 ∷ []) ∷ print ∷ follow (one 1 0 (number (pos 6)) ∷ bare 8 ∷ []) ∷ print ∷ reload [] ∷ print ∷ []

pub season_holds :
    boards (owned (pos 0)) transactions
    ≡ some [] ∷ none ∷ some (line (pos 5) public ∷ []) ∷ none ∷ some (line (pos 5) public ∷ []) ∷ some [] ∷ some (line (pos 0) public ∷ []) ∷ []
unfolding computed script owned follow reload transactions
season_holds = refl

-- a script that stops where v1 is 0 or 1, and one that stops where it is 1 or 3
pub pair : List Transaction
pair = follow (leave_at (pos 0) ++ leave_at (pos 1)) ∷ follow (leave_at (pos 1) ++ leave_at (pos 3)) ∷ []

-- over every house number
pub owners : Seasons public 2 ℤ
unfolding computed script leave_at owned follow pair
owners =
    record {
      store = owned;
      transactions = λ z. pair;
      many = λ z. refl;
      agree = λ y z. record { variables = refl; trees = λ p. refl };
      alike = λ y z. (refl, (refl, tt));
    }

-- the verdicts differ
pub verdicts_differ :
    map (λ z. verdicts (owned z) pair) (pos 0 ∷ pos 1 ∷ pos 2 ∷ pos 3 ∷ [])
    ≡ (false ∷ true ∷ []) ∷ (false ∷ false ∷ []) ∷ (true ∷ true ∷ []) ∷ (true ∷ false ∷ []) ∷ []
unfolding computed script leave_at owned follow pair
verdicts_differ = refl

-- a number for each way to be published or not
code : List (Option (List Line)) → ℕ
code [] = 0
code (none ∷ bs) = 2 * code bs
code (some b ∷ bs) = 1 + 2 * code bs

-- as many as the bound allows: four with at most two rollbacks, three with at most one
pub seasons_reached :
    (Different (shows owners) (rolled_back owners) 2 (pos 0 ∷ pos 1 ∷ pos 2 ∷ pos 3 ∷ []) × (ways 2 2 ≡ 4))
    × (Different (shows owners) (rolled_back owners) 1 (pos 0 ∷ pos 2 ∷ pos 3 ∷ []) × (ways 2 1 ≡ 3))
unfolding computed script leave_at owned follow pair owners code
seasons_reached = (
  (
    (
      omega arith,
      (λ e. eqb-false 2 0 refl (ap code e), (λ e. eqb-false 2 3 refl (ap code e), (λ e. eqb-false 2 1 refl (ap code e), tt))),
      (
        omega arith,
        (λ e. eqb-false 0 3 refl (ap code e), (λ e. eqb-false 0 1 refl (ap code e), tt)),
        (omega arith, (λ e. eqb-false 3 1 refl (ap code e), tt), (omega arith, tt, tt)),
      ),
    ),
    refl,
  ),
  (
    (
      omega arith,
      (λ e. eqb-false 2 3 refl (ap code e), (λ e. eqb-false 2 1 refl (ap code e), tt)),
      (omega arith, (λ e. eqb-false 3 1 refl (ap code e), tt), (omega arith, tt, tt)),
    ),
    refl,
  ),
)
