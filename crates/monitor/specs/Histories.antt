-- The secrecy rule for calls with script after script over what stays. Assumes nothing.
use Rattle.std.specs.Prelude.{◌≡◌, List, [], ◌∷◌, map, ℕ, ◌<◌, length}
use Rattle.rules.specs.Level.{Level}
use Rattle.rules.specs.Tree.{Forest, Place}
use Rattle.rules.specs.Bytes.{variable_count}
use Rattle.rules.specs.Check.{accepted, check_bytes}
use Rattle.rules.specs.Outcome.{check_job}
use Rattle.rules.specs.History.{Store, section_script, after_job, AgreeStores}
use Rattle.rules.specs.Public.{Comparable, Alike}
use Rattle.monitor.specs.declared.entry.Outcome.{Outcome}
use Rattle.monitor.specs.Promises.{answer_of, Lent, lent_by, Promises}
use Rattle.monitor.specs.Secrecy.{seen_of, variable_in, Unseen}
use Rattle.monitor.specs.Follow.{HoldsStore, Follows}

-- a call with a follow-on script: what it is lent, what it leaves there, and its outcome
pub record Call (T : Type 0) : Type 0 where
  pub section : List ℕ
  pub budget : ℕ
  pub given : Lent T
  pub left : Lent T
  pub outcome : Outcome

-- "the same scripts"
abbrev pub SameScripts : {T : Type 0} → List (Call T) → List (Call T) → Type 0
SameScripts cs ds = map (λ c. section_script c.section) cs ≡ map (λ d. section_script d.section) ds

-- the tree and the variables stay; the table may have other places, and the area for lines is another
pub record Stays {T : Type 0} (StandsIn : T → Forest → Type 0) (x y : Lent T) : Type 0 where
  pub tree : (t : Forest) → StandsIn y.table t → StandsIn x.table t
  pub levels : y.levels ≡ x.levels
  pub values : y.values ≡ x.values

-- what a job with n variables left is lent on: its table, and of its variables the first n, which are then all that is lent
pub record LentOn {T : Type 0} (n : ℕ) (x y : Lent T) : Type 0 where
  pub table : y.table ≡ x.table
  pub many : length y.levels ≡ n
  pub variables : (i : ℕ) → i < n → variable_in y i ≡ variable_in x i

-- for node tables of any kind
module _ {T : Type 0} (places : T → ℕ) (HoldsTree : T → ℕ → Forest → Place → Type 0) (StandsIn : T → Forest → Type 0) where
  -- "script after script", from what x holds
  abbrev pub CallHistory : Lent T → List (Call T) → Type 0
  CallHistory x [] = Unit {0}
  CallHistory x (c ∷ cs) =
      Stays StandsIn x c.given
      × (Follows places HoldsTree StandsIn c.section c.budget c.given c.left c.outcome × CallHistory c.left cs)

  -- what a job that was run left, with as many places as it was lent, holds the store after it
  unfoldable pub JobLeavesStore : Type 0
  JobLeavesStore =
      (b : List ℕ) (n : ℕ) (x x' y : Lent T) (r : Outcome) → Promises places HoldsTree b n x x' r → check_job b n (lent_by places x) ≡ accepted
      → places x'.table ≡ places x.table → LentOn (variable_count b) x' y → length y.levels ≡ length y.values
      → HoldsStore StandsIn y (after_job b n (lent_by places x))

  module _ (o : Level) where
    -- "starts that agree on their public parts"
    unfoldable pub AgreeLent : Lent T → Lent T → Type 0
    AgreeLent x y = (s t : Store) → HoldsStore StandsIn x s → HoldsStore StandsIn y t → AgreeStores o s t

    -- two calls that finish leave the same lines for o, and what agrees
    pub record SameAfter (c d : Call T) : Type 0 where
      pub lines : seen_of o c.outcome c.left ≡ seen_of o d.outcome d.left
      pub agree : AgreeLent c.left d.left

    -- "up to and including the first script that stops or is turned away in either"
    abbrev pub UnseenHistory : List (Call T) → List (Call T) → Type 0
    UnseenHistory [] ds = Unit {0}
    UnseenHistory (c ∷ cs) [] = Unit {0}
    UnseenHistory (c ∷ cs) (d ∷ ds) =
        Comparable (seen_of o c.outcome c.left) (seen_of o d.outcome d.left)
        × ((answer_of c.outcome).ending ≡ 0 → (answer_of d.outcome).ending ≡ 0 → SameAfter c d × UnseenHistory cs ds)

    -- two histories of calls that keep the promise, with the same scripts, whatever their budgets and areas
    unfoldable pub SecretHistories : Type 0
    SecretHistories =
        (x y : Lent T) (cs ds : List (Call T)) → AgreeLent x y → SameScripts cs ds → CallHistory x cs → CallHistory y ds → UnseenHistory cs ds

    -- the same from two calls with accepted jobs that are alike for o, which come first
    unfoldable pub SecretJobHistories : Type 0
    SecretJobHistories =
        (a b : List ℕ) (n m : ℕ) (x x' y y' z w : Lent T) (r s : Outcome) (cs ds : List (Call T)) → Promises places HoldsTree a n x x' r
        → Promises places HoldsTree b m y y' s → check_bytes a ≡ accepted → check_bytes b ≡ accepted → Alike o a b → LentOn (variable_count a) x' z
        → LentOn (variable_count b) y' w → SameScripts cs ds → CallHistory z cs → CallHistory w ds
        → Unseen places HoldsTree o (variable_count a) x' y' r s × ((answer_of r).ending ≡ 0 → (answer_of s).ending ≡ 0 → UnseenHistory cs ds)
