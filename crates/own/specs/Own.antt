-- What the run over node records of its own promises: what the run over lent ones does. Assumes nothing.
use Rattle.std.specs.Prelude.{◌≡◌, List, ◌++◌, Bool, true, false, ℕ, length, replicate, take, drop}
use Rattle.lent.specs.declared.node.Node.{Node}
use Rattle.lent.specs.Lent.{blank, stored, loaded}
use Rattle.monitor.specs.Follow.{Follows}
use Rattle.monitor.specs.Promises.{Lent, lent, Promises}
use Rattle.monitor.specs.declared.entry.Outcome.{Outcome}
use Rattle.entry.specs.Promises.{Tree}
use Rattle.entry.specs.Records.{StandsIn}

-- how many records `run_own` and `follow_own` have
abbrev pub own_places : ℕ
own_places = 513

-- how many of them are made of words first: all for a follow-on script, none for a job
abbrev pub copied_of : Bool → ℕ
copied_of true = own_places
copied_of false = 0

-- the records at first: those that the words spell, or blank ones
abbrev pub own_records : Bool → List ℕ → List Node
own_records follows words = stored words (copied_of follows) (replicate own_places blank)

-- what is promised over the records that are lent, for a follow-on script or for a job; the one leaves the levels alone
abbrev pub Kept : Bool → List ℕ → ℕ → Lent (List Node) → Lent (List Node) → Outcome → Type 0
Kept true b budget x x' r = Follows length Tree StandsIn b budget x x' r × (x'.levels ≡ x.levels)
Kept false b budget x x' r = Promises length Tree b budget x x' r

-- The run with the first n of its own records lent. What it leaves in them, and then the rest, is copied into the words.
pub record Owned (follows : Bool) (b : List ℕ) (budget n : ℕ) (x x' : Lent (List ℕ)) (r : Outcome) : Type 0 where
  pub records : List Node
  pub many : length records ≡ n
  pub promised : Kept follows b budget (lent (take n (own_records follows x.table)) x.levels x.values x.board)
      (lent records x'.levels x'.values x'.board) r
  pub words : x'.table ≡ loaded (records ++ drop n (own_records follows x.table)) own_places x.table
