-- What a call that wrote a job has written, and what two of them show a reader. Assumes nothing.
use Rattle.std.specs.Prelude.{◌≡◌, List, [], ℕ, take, drop, Ok, Err}
use Rattle.rules.specs.Level.{Level}
use Rattle.rules.specs.Tree.{Forest, Place}
use Rattle.rules.specs.Check.{accepted, check_bytes}
use Rattle.rules.specs.Job.{variables, job_tree, script}
use Rattle.rules.specs.Public.{Alike}
use Rattle.rules.specs.History.{Store}
use Rattle.monitor.specs.Promises.{Lent}
use Rattle.monitor.specs.Follow.{HoldsStore}
use Rattle.monitor.specs.Histories.{AgreeLent}
use Rattle.writer.specs.Writes.{WritesBack}

-- an accepted job that holds a store and no script
pub record JobOf (s : Store) (b : List ℕ) : Type 0 where
  pub taken : check_bytes b ≡ accepted
  pub variables : variables b ≡ s.variables
  pub tree : job_tree b ≡ s.tree
  pub script : script b ≡ []

-- for node tables of any kind
module _ {T : Type 0} (places : T → ℕ) (HoldsTree : T → ℕ → Forest → Place → Type 0) (StandsIn : T → Forest → Type 0) where
  -- a call that keeps the promise and answers with a length: so many bytes of the area are the job of the store that is lent
  unfoldable pub WritesJob : Type 0
  WritesJob = (x : Lent T) (a : List ℕ) (n : ℕ) → WritesBack places StandsIn x a (Ok n) → (s : Store) → HoldsStore StandsIn x s → JobOf s (take n a)

  -- "all three leave the area untouched"; "Bytes of the area beyond the job are untouched."
  unfoldable pub AreaKept : Type 0
  AreaKept = (x : Lent T) (a : List ℕ) (n : ℕ) → (WritesBack places StandsIn x a (Err n) → a ≡ x.board) × (WritesBack places StandsIn x a (Ok n) → drop n a ≡ drop n x.board)

  -- "Two states with the same variables and the same tree give the same bytes, however their places are filled."
  unfoldable pub SameJobs : Type 0
  SameJobs =
      (x y : Lent T) (a b : List ℕ) (n m : ℕ) → WritesBack places StandsIn x a (Ok n) → WritesBack places StandsIn y b (Ok m)
      → (s : Store) → HoldsStore StandsIn x s → HoldsStore StandsIn y s → take n a ≡ take m b

  -- "The public parts of the written job depend only on the public parts of the state.", for the reader o
  unfoldable pub SecretWrites : Level → Type 0
  SecretWrites o =
      (x y : Lent T) (a b : List ℕ) (n m : ℕ) → WritesBack places StandsIn x a (Ok n) → WritesBack places StandsIn y b (Ok m)
      → AgreeLent places HoldsTree StandsIn o x y → Alike o (take n a) (take m b)
