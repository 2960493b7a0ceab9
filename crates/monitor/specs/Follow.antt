-- What a follow-on script promises, over a tree and variables that a caller lends, for every content of them. Assumes nothing.
use Rattle.std.specs.Prelude.{◌≡◌, Bool, true, false, List, ℕ, ◌*◌, ◌<◌, ◌≤◌, min, length, get_or, Result, Ok, Err}
use Rattle.rules.specs.Limits.{max_variables, max_nodes, bad_follow_on}
use Rattle.rules.specs.Level.{is_level}
use Rattle.rules.specs.Tree.{Forest, Place}
use Rattle.rules.specs.Check.{code}
use Rattle.rules.specs.Job.{listed}
use Rattle.rules.specs.Run.{Buffers}
use Rattle.rules.specs.Outcome as Rules
use Rattle.rules.specs.Outcome.{answer}
use Rattle.rules.specs.History.{Store, FollowOn, section_count, store_rule, check_follow_on, follow, after}
use Rattle.job.specs.declared.checks.Refusal.{Refusal}
use Rattle.job.specs.Answer as Answer
use Rattle.job.specs.Plan.{Whole}
use Rattle.table.specs.Cells.{cell_size, cells, gone}
use Rattle.table.specs.Promises.{Behind}
use Rattle.lent.specs.Stands.{Stands, Decided, Marked}
use Rattle.monitor.specs.declared.entry.Outcome.{Outcome}
use Rattle.monitor.specs.declared.entry.Outcome.TheVariants.{Refused}
use Rattle.monitor.specs.Promises.{answer_of, told, Lent, lent_by, Leaves, places_in, Tree}
use Rattle.monitor.specs.Secrecy.{variable_in}

-- "a standing tree and variables", as lent: the variables are all that is lent, with a level and a value each; StandsIn says which tree stands in a table
pub record HoldsStore {T : Type 0} (StandsIn : T → Forest → Type 0) (x : Lent T) (s : Store) : Type 0 where
  pub even : length x.levels ≡ length x.values
  pub variables : s.variables ≡ listed (variable_in x) (length x.levels) 0
  pub tree : StandsIn x.table s.tree

-- a bare section and a budget, with what is lent
abbrev pub follow_on : {T : Type 0} → (T → ℕ) → List ℕ → ℕ → Lent T → FollowOn
follow_on places b budget x = record { section = b; budget = budget; lent = lent_by places x }

-- for node tables of any kind
module _ {T : Type 0} (places : T → ℕ) (HoldsTree : T → ℕ → Forest → Place → Type 0) where
  -- the answer is that of an outcome of the rules, and so is all that stands in what was lent
  pub record Tells (x x' : Lent T) (o : Rules.Outcome) (r : Outcome) : Type 0 where
    pub outcome : r ≡ told o
    pub answered : answer_of r ≡ answer o
    pub leaves : Leaves places HoldsTree (length x.levels) x x' o

  module _ (StandsIn : T → Forest → Type 0) where
    -- What is lent holds a store: then the script runs over it, and what is lent holds the store after it. Or it holds none: then the script is
    -- turned away with 11, and nothing has changed.
    pub data Follows (b : List ℕ) (budget : ℕ) (x x' : Lent T) (r : Outcome) : Type 0 where
      over : (s : Store) → HoldsStore StandsIn x s → Tells x x' (follow s (follow_on places b budget x)) r
          → HoldsStore StandsIn x' (after s (follow_on places b budget x)) → Follows b budget x x' r
      none : ((s : Store) → HoldsStore StandsIn x s → ⊥) → Tells x x' (Rules.rejected bad_follow_on 0) r → Follows b budget x x' r

-- a tree stands in the first places of words
abbrev pub StandsAmong : ℕ → List ℕ → Forest → Type 0
StandsAmong places words t = Stands (cells words) places t

-- the places of words that a link can lead to, which 65,535 and what comes after are not
abbrev pub linkable : List ℕ → ℕ
linkable words = min (places_in words) gone

-- in all of these
abbrev pub StandsIn : List ℕ → Forest → Type 0
StandsIn words t = StandsAmong (linkable words) words t

-- whether variables and a table, in which a tree stands or not, are such as an accepted job could hold
pub data Storable (stands : Bool) (levels : List ℕ) (values : ℕ) : Bool → Type 0 where
  treeless : stands ≡ false → Storable stands levels values false
  uneven : (length levels ≡ values → ⊥) → Storable stands levels values false
  many : stands ≡ true → length levels ≡ values → max_variables < length levels → Storable stands levels values false
  unlevelled : (i : ℕ) → stands ≡ true → length levels ≡ values → i < length levels → is_level (get_or levels i 0) ≡ false
      → Storable stands levels values false
  storable : stands ≡ true → length levels ≡ values → length levels ≤ max_variables
      → ((i : ℕ) → i < length levels → is_level (get_or levels i 0) ≡ true) → Storable stands levels values true

-- the checks of a script among vs variables that are such, and its plan
pub record Admits (b : List ℕ) (budget places vs : ℕ) (p p' : List ℕ) (r : Result (Unit {0}) Refusal) : Type 0 where
  pub answered : (s : Store) (given : Buffers) → store_rule s ≡ true → length s.variables ≡ vs → given.places ≡ places
      → r ≡ Answer.told (check_follow_on s (record { section = b; budget = budget; lent = given }))
  pub whole : r ≡ Ok tt → Whole (code b 0) (section_count b) p p'
  pub few : r ≡ Ok tt → places ≤ max_nodes

-- a table of places with words for them: whether a tree stands in it, and if so, at the places with a mark
pub record Surveyed (words : List ℕ) (places : ℕ) (stands : Bool) (marks : List ℕ) : Type 0 where
  pub long : cell_size * places ≤ length words
  pub decided : Decided (cells words) places stands
  pub marked : stands ≡ true → Marked (cells words) places marks

-- a script that is turned away with a number and an index, whatever the table, of so many places, in which a tree stands or not
pub data Declined (b : List ℕ) (budget places : ℕ) (stands : Bool) (levels : List ℕ) (values : ℕ) (r : Outcome) : Type 0 where
  by_store : Storable stands levels values false → r ≡ Refused bad_follow_on 0 → Declined b budget places stands levels values r
  by_script : {p p' : List ℕ} (k i : ℕ) → Storable stands levels values true → Admits b budget places (length levels) p p' (Err (record { number = k; index = i })) → r ≡ Refused k i
      → Declined b budget places stands levels values r

-- a script over a table of at most 512 places; one over more is turned away, and nothing has changed
pub record FollowsOver (b : List ℕ) (budget places : ℕ) (stands : Bool) (x x' : Lent (List ℕ)) (r : Outcome) : Type 0 where
  pub few : places ≤ max_nodes → Follows (λ _. places) Tree (StandsAmong places) b budget x x' r
  pub many : max_nodes < places → Declined b budget places stands x.levels (length x.values) r × (x' ≡ x)
  pub behind : Behind places (cells x.table) (cells x'.table)
