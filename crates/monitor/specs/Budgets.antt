-- R-14 of calls: what two of them answer and leave under two budgets. Assumes nothing.
use Rattle.std.specs.Prelude.{◌≡◌, ℕ, ◌*◌, ◌≤◌, take}
use mathlib.Core.List.{List, [], ◌∷◌, IsPrefix}
use Rattle.rules.specs.Tree.{Forest, Place}
use Rattle.rules.specs.Run.{spent, stop_number}
use Rattle.rules.specs.History.{Store}
use Rattle.rules.specs.Budget.{Raised}
use Rattle.monitor.specs.declared.entry.Outcome.{Outcome}
use Rattle.monitor.specs.Promises.{answer_of, Lent, lent_by, Promises}
use Rattle.monitor.specs.Secrecy.{variable_in}
use Rattle.monitor.specs.Follow.{HoldsStore, Follows}
use Rattle.monitor.specs.Histories.{Call}

-- the bytes of all board lines of a call
unfoldable pub lines_of : {T : Type 0} → Outcome → Lent T → List ℕ
lines_of r x = take (5 * (answer_of r).lines) x.board

-- the call's ending is 25
abbrev pub SpentCall : Outcome → Type 0
SpentCall r = (answer_of r).ending ≡ stop_number spent

-- two calls that leave x and y: "an ending other than 25 under the smaller is the same under the larger", and then Left holds of what they leave; "After a 25, the
-- lines are a beginning of those under the larger budget, and the steps are no more."
pub record ProlongedCall {T : Type 0} (Left : Type 0) (x y : Lent T) (r s : Outcome) : Type 0 where
  pub same : (SpentCall r → ⊥) → (r ≡ s) × Left
  pub lines : IsPrefix (lines_of r x) (lines_of s y)
  pub steps : (answer_of r).steps ≤ (answer_of s).steps

-- for node tables of any kind
module _ {T : Type 0} (places : T → ℕ) (HoldsTree : T → ℕ → Forest → Place → Type 0) where
  -- "with all lines, variables, .. and the tree"
  pub record SameLent (x y : Lent T) : Type 0 where
    pub board : x.board ≡ y.board
    pub variables : (i : ℕ) → variable_in x i ≡ variable_in y i
    pub tree : (k m : ℕ) (t u : Forest) (p q : Place) → HoldsTree x.table k t p → HoldsTree y.table m u q → t ≡ u

  -- "for single jobs": two calls that keep the public run's promise, "With the same job and buffers and two budgets"
  unfoldable pub BudgetCalls : Type 0
  BudgetCalls =
      (b : List ℕ) (n m : ℕ) (x x' y' : Lent T) (r s : Outcome) → Promises places HoldsTree b n x x' r → Promises places HoldsTree b m x y' s
      → Raised n m → ProlongedCall (SameLent x' y') x' y' r s

  module _ (StandsIn : T → Forest → Type 0) where
    -- the same store is held, if any
    pub record SameStore (x y : Lent T) : Type 0 where
      pub there : (s : Store) → HoldsStore StandsIn x s → HoldsStore StandsIn y s
      pub back : (s : Store) → HoldsStore StandsIn y s → HoldsStore StandsIn x s

    -- the same script and buffers of the same size, under a larger budget
    pub record RaisedCall (c d : Call T) : Type 0 where
      pub section : c.section ≡ d.section
      pub budget : Raised c.budget d.budget
      pub sizes : lent_by places c.given ≡ lent_by places d.given

    -- call by call, as far as both lists go
    abbrev pub AllRaisedCalls : List (Call T) → List (Call T) → Type 0
    AllRaisedCalls [] ds = Unit {0}
    AllRaisedCalls (c ∷ cs) [] = Unit {0}
    AllRaisedCalls (c ∷ cs) (d ∷ ds) = RaisedCall c d × AllRaisedCalls cs ds

    -- "script after script", each over the store that x holds or the last call left
    abbrev pub Standing : Lent T → List (Call T) → Type 0
    Standing x [] = Unit {0}
    Standing x (c ∷ cs) =
        SameStore x c.given
        × (Follows places HoldsTree StandsIn c.section c.budget c.given c.left c.outcome × Standing c.left cs)

    -- all lines are the same, and the store
    abbrev pub SameLeft : Call T → Call T → Type 0
    SameLeft c d = (lines_of c.outcome c.left ≡ lines_of d.outcome d.left) × SameStore c.left d.left

    -- "up to and including the first 25"
    abbrev pub ProlongedCalls : List (Call T) → List (Call T) → Type 0
    ProlongedCalls [] ds = Unit {0}
    ProlongedCalls (c ∷ cs) [] = Unit {0}
    ProlongedCalls (c ∷ cs) (d ∷ ds) =
        ProlongedCall (SameLeft c d) c.left d.left c.outcome d.outcome × ((SpentCall c.outcome → ⊥) → ProlongedCalls cs ds)

    -- "for the standing tree": two histories of calls that keep the promise, from the same store
    unfoldable pub BudgetHistories : Type 0
    BudgetHistories =
        (x y : Lent T) (cs ds : List (Call T)) → SameStore x y → AllRaisedCalls cs ds → Standing x cs → Standing y ds → ProlongedCalls cs ds
