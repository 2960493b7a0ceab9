-- Demand 3 of the public run: what two calls leave in what they were lent. Assumes nothing.
use Rattle.std.specs.Prelude.{◌≡◌, List, ℕ, ◌<◌, get_or, pos}
use Rattle.rules.specs.Level.{Level}
use Rattle.rules.specs.Tree.{Forest, Place}
use Rattle.rules.specs.Bytes.{variable_count}
use Rattle.rules.specs.Check.{accepted, check_bytes}
use Rattle.rules.specs.Job.{Variable}
use Rattle.rules.specs.Public.{Comparable, seen_variable, AgreeTrees, Alike}
use Rattle.actions.specs.Board.{seen_board}
use Rattle.monitor.specs.declared.entry.Outcome.{Outcome}
use Rattle.monitor.specs.Promises.{answer_of, Lent, Promises}

-- what the reader o sees of a call's board lines, in bytes: five for each line within their set, of those that its outcome counts
unfoldable pub seen_of : {T : Type 0} → Level → Outcome → Lent T → List ℕ
seen_of o r x = seen_board o (answer_of r).lines x.board

-- variable i as a call left it
abbrev pub variable_in : {T : Type 0} → Lent T → ℕ → Variable
variable_in x i = record { level = get_or x.levels i 0; value = get_or x.values i (pos 0) }

-- for node tables of any kind, as in the promise, and a reader o
module _ {T : Type 0} (places : T → ℕ) (HoldsTree : T → ℕ → Forest → Place → Type 0) (o : Level) where
  -- the reader o sees the same lines, variables and trees in what two calls with n variables left
  pub record SameLeft (n : ℕ) (x y : Lent T) (r s : Outcome) : Type 0 where
    pub lines : seen_of o r x ≡ seen_of o s y
    pub variables : (i : ℕ) → i < n → seen_variable o (variable_in x i) ≡ seen_variable o (variable_in y i)
    pub trees : (k m : ℕ) (t u : Forest) (p q : Place) → HoldsTree x.table k t p → HoldsTree y.table m u q → AgreeTrees o t u

  -- what o sees of "the board lines of one run" is "the beginning of the other's; if both finish," the reader o sees the same
  pub record Unseen (n : ℕ) (x y : Lent T) (r s : Outcome) : Type 0 where
    pub lines : Comparable (seen_of o r x) (seen_of o s y)
    pub finish : (answer_of r).ending ≡ 0 → (answer_of s).ending ≡ 0 → SameLeft n x y r s

  -- two calls that keep the public run's promise, with accepted jobs that are alike for o, whatever their budgets and buffers; a call that 9 or 10 turns back counts too
  unfoldable pub SecretCalls : Type 0
  SecretCalls =
      (a b : List ℕ) (n m : ℕ) (x x' y y' : Lent T) (r s : Outcome) → Promises places HoldsTree a n x x' r → Promises places HoldsTree b m y y' s
      → check_bytes a ≡ accepted → check_bytes b ≡ accepted → Alike o a b → Unseen (variable_count a) x' y' r s
