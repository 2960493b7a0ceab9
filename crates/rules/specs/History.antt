-- R-1: a standing tree and variables, over which script after script runs, and the secrecy rule for two histories. Assumes nothing.
use Rattle.std.specs.Prelude.{◌≡◌, ℕ, ◌%◌, ◌/◌, Bool, true, ◌&&◌, List, [], ◌∷◌, map, length, leb, eqb}
use Rattle.rules.specs.Limits.{max_variables, max_nodes, max_records, record_size, bad_budget, bad_buffers, bad_follow_on}
use Rattle.rules.specs.Level.{Level, public}
use Rattle.rules.specs.Tree.{Forest, count, size, fits}
use Rattle.rules.specs.Script.{Command}
use Rattle.rules.specs.Check.{Checked, accepted, refused, require, today, check_script, check_bytes}
use Rattle.rules.specs.Job.{Variable, all_levels, variables, job_tree, script_of}
use Rattle.rules.specs.Run.{State, Buffers, run, start}
use Rattle.rules.specs.Outcome.{budget_rule, Outcome, rejected, ran, run_job}
use Rattle.rules.specs.Public.{Agree, Alike, Finishes, Indistinguishable}

-- "a standing tree and variables": the store that scripts share
pub record Store : Type 0 where
  pub variables : List Variable
  pub tree : Forest

-- "A follow-on script is a bare script section", with its budget and the caller's buffers
pub record FollowOn : Type 0 where
  pub section : List ℕ
  pub budget : ℕ
  pub lent : Buffers

-- how many records a bare section holds
unfoldable pub section_count : List ℕ → ℕ
section_count b = length b / record_size

-- the script of a bare section
unfoldable pub section_script : List ℕ → List Command
section_script b = script_of b 0 (section_count b)

-- 11: no "bare section that is not whole records or has more than 1,024"
unfoldable pub section_rule : List ℕ → Bool
section_rule b = eqb (length b % record_size) 0 && leb (section_count b) max_records

-- 11: no "lent tree and variables that no accepted job could hold": at most 64 variables, of levels; one root, at most 512 nodes, the tree rules
unfoldable pub store_rule : Store → Bool
store_rule s =
    leb (length s.variables) max_variables && all_levels s.variables && eqb (count s.tree) 1 && leb (size s.tree) max_nodes
    && fits public public s.tree

-- "11 .. checked first, before 7, 8 and 9; after them 10 is given only for a lent table of more than 512 places"; 12 "after 7 and before 8"
unfoldable pub check_follow_on : Store → FollowOn → Checked
check_follow_on s f =
    require bad_follow_on (section_rule f.section && store_rule s)
    (check_script today f.section (length s.variables) 0 0 0 0 (section_count f.section)
    (require bad_budget (budget_rule f.budget) (require bad_buffers (leb f.lent.places max_nodes) accepted)))

-- one script over a store: "Each starts at the root with cursor level 0."
unfoldable pub follow : Store → FollowOn → Outcome
follow s f =
    elim (check_follow_on s f) [
      | refused k i ↦ rejected k i
      | accepted ↦ ran (run f.lent (section_script f.section) f.budget (start s.variables s.tree))
    ]

-- "A stopped script leaves the tree as its stop left it; one turned away changes no lent buffer."
unfoldable pub leaves : Store → Outcome → Store
leaves s (rejected k i) = s
leaves s (ran e) = record { variables = e.last.memory.variables; tree = e.last.memory.tree }

-- the store after one script
unfoldable pub after : Store → FollowOn → Store
after s f = leaves s (follow s f)

-- "script after script": what becomes of each, also after a stop
unfoldable pub history : Store → List FollowOn → List Outcome
history s [] = []
history s (f ∷ fs) = follow s f ∷ history (after s f) fs

-- the store after all of them
unfoldable pub after_all : Store → List FollowOn → Store
after_all s [] = s
after_all s (f ∷ fs) = after_all (after s f) fs

-- the store that a job brings
unfoldable pub job_store : List ℕ → Store
job_store b = record { variables = variables b; tree = job_tree b }

-- the store after a job
unfoldable pub after_job : List ℕ → ℕ → Buffers → Store
after_job b n lent = leaves (job_store b) (run_job b n lent)

-- an accepted job, and every script after it, whatever becomes of them, leave a store that the next script is not turned away for
pub record StoreKept : Type 0 where
  pub job : (b : List ℕ) (n : ℕ) (lent : Buffers) → check_bytes b ≡ accepted → store_rule (after_job b n lent) ≡ true
  pub scripts : (s : Store) (fs : List FollowOn) → store_rule s ≡ true → store_rule (after_all s fs) ≡ true

-- "the same scripts": one by one alike in command and in every field that is read
unfoldable pub SameScripts : List FollowOn → List FollowOn → Type 0
SameScripts fs gs = map (λ f. section_script f.section) fs ≡ map (λ g. section_script g.section) gs

module _ (o : Level) where
  -- "starts that agree on their public parts"
  abbrev pub AgreeStores : Store → Store → Type 0
  AgreeStores s t = Agree o s.variables t.variables s.tree t.tree

  -- two histories, "up to and including the first script that stops or is turned away in either"
  abbrev pub IndistinguishableHistories : List Outcome → List Outcome → Type 0
  IndistinguishableHistories [] xs = Unit {0}
  IndistinguishableHistories (w ∷ ws) [] = Unit {0}
  IndistinguishableHistories (w ∷ ws) (x ∷ xs) =
      Indistinguishable o w x × ((s t : State) → Finishes w s → Finishes x t → IndistinguishableHistories ws xs)

  -- "The secrecy rule now compares two histories of the same scripts", each with its own budgets and buffers
  unfoldable pub HistorySecrecy : Type 0
  HistorySecrecy =
      (s t : Store) (fs gs : List FollowOn) → AgreeStores s t → SameScripts fs gs → IndistinguishableHistories (history s fs) (history t gs)

  -- the same from two accepted jobs, whose own runs come first
  unfoldable pub JobHistorySecrecy : Type 0
  JobHistorySecrecy =
      (a b : List ℕ) (n m : ℕ) (lent lent' : Buffers) (fs gs : List FollowOn)
      → check_bytes a ≡ accepted → check_bytes b ≡ accepted → Alike o a b → SameScripts fs gs
      → IndistinguishableHistories (run_job a n lent ∷ history (after_job a n lent) fs) (run_job b m lent' ∷ history (after_job b m lent') gs)
