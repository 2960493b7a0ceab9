-- What a reader sees of a store or a job, as a store or a job of its own: hidden nodes are cut off, hidden values are 0, and all levels stay. What is run over
-- it for that reader tells nothing else, however it ends. Assumes nothing.
use Rattle.std.specs.Prelude.{◌≡◌, true, cond, ℕ, zero, suc, ◌+◌, ◌-◌, ◌*◌, ◌≤◌, ◌<◌, length, eqb, ℤ, pos}
use mathlib.Core.List.{List, [], ◌∷◌, ◌++◌, map, flat_map}
use Rattle.rules.specs.Limits.{node_size, no_parent}
use Rattle.rules.specs.Level.{Level, not_above, visible}
use Rattle.rules.specs.Tree.{Label, Forest, nil, tree, with_value, TreeRules}
use Rattle.rules.specs.Bytes.{byte, two, nodes_at, script_at, trailer_at, variable_count, node_count, variable_place, node_place}
use Rattle.rules.specs.Check.{accepted, parent, existence, content, check_bytes}
use Rattle.rules.specs.Job.{Variable, all_levels, listed, script}
use Rattle.rules.specs.Run.{Buffers}
use Rattle.rules.specs.Outcome.{check_job, run_job}
use Rattle.rules.specs.Public.{Alike}
use Rattle.rules.specs.History.{Store, FollowOn, store_rule, history, job_store, after_job, SameScripts, AgreeStores, IndistinguishableHistories}
use Rattle.rules.specs.Arrange.{Moved}
use Rattle.rules.specs.Write.{trailer, script_section, job_of, Ranged}

-- the reader who has all eight parties
unfoldable pub everyone : Level
everyone = 255

module _ (o : Level) where
  -- a value of a level: 0 where that is hidden
  unfoldable pub mask : Level → ℤ → ℤ
  mask l z = cond (visible o l) z (pos 0)

  -- a node's label, its value 0 where the content level is hidden
  unfoldable pub cut_label : Label → Label
  cut_label l = with_value (mask l.content l.value) l

  -- a tree without its hidden nodes: behind a hidden node all is hidden, so that it goes with its children and its right siblings
  unfoldable pub cut : Forest → Forest
  cut nil = nil
  cut (tree l c r) = cond (visible o l.existence) (tree (cut_label l) (cut c) (cut r)) nil

  -- a variable, its value 0 where its level is hidden
  unfoldable pub mask_variable : Variable → Variable
  mask_variable v = record { level = v.level; value = mask v.level v.value }

  -- "the number and levels of all variables, the values of" visible ones
  unfoldable pub view_variables : List Variable → List Variable
  view_variables vs = map mask_variable vs

  -- what the reader o sees of a store
  unfoldable pub view_store : Store → Store
  view_store s = record { variables = view_variables s.variables; tree = cut s.tree }

  -- what the reader o sees of a job, with its script section as it stands
  unfoldable pub project : List ℕ → List ℕ
  project b = job_of (view_store (job_store b)) (script_section b)

  -- scripts over the view, whatever becomes of them: endings, record indexes, steps, lines and last states are the same wherever the reader sees the same
  unfoldable pub NothingTold : Type 0
  NothingTold = (s t : Store) (fs : List FollowOn) → AgreeStores o s t → history (view_store s) fs ≡ history (view_store t) fs

  -- and they look to the reader as they do over the store itself, whatever the budgets and buffers of either
  unfoldable pub Faithful : Type 0
  Faithful = (s : Store) (fs gs : List FollowOn) → SameScripts fs gs → IndistinguishableHistories o (history (view_store s) fs) (history s gs)

  -- the same of a job, and of the scripts after it
  unfoldable pub NothingToldOfJob : Type 0
  NothingToldOfJob =
      (a b : List ℕ) (n : ℕ) (lent : Buffers) (fs : List FollowOn) → check_bytes a ≡ accepted → check_bytes b ≡ accepted → Alike o a b
      → run_job (project a) n lent ∷ history (after_job (project a) n lent) fs ≡ run_job (project b) n lent ∷ history (after_job (project b) n lent) fs

  unfoldable pub FaithfulToJob : Type 0
  FaithfulToJob =
      (b : List ℕ) (n m : ℕ) (lent lent' : Buffers) (fs gs : List FollowOn) → check_bytes b ≡ accepted → SameScripts fs gs
      → IndistinguishableHistories o (run_job (project b) n lent ∷ history (after_job (project b) n lent) fs) (run_job b m lent' ∷ history (after_job b m lent') gs)

-- the view of a job, record by record, in one pass
module _ (o : Level) (b : List ℕ) where
  -- of the four bytes from a place on: themselves, or zeros where the level is hidden
  unfoldable pub four_seen : Level → ℕ → List ℕ
  four_seen l at = cond (visible o l) (listed (byte b) 4 at) (0 ∷ 0 ∷ 0 ∷ 0 ∷ [])

  -- variable i
  unfoldable pub variable_seen : ℕ → List ℕ
  variable_seen i = listed (byte b) 4 (variable_place i) ++ four_seen (byte b (variable_place i)) (variable_place i + 4)

  module _ (base : ℕ) where
    -- how many of the first i records the reader sees: the new index of record i, if it is seen
    unfoldable pub rank : ℕ → ℕ
    rank zero = 0
    rank (suc i) = cond (visible o (existence b base i)) (suc (rank i)) (rank i)

    -- the new index of the parent of record i; the root has none
    unfoldable pub rank_parent : ℕ → ℕ
    rank_parent i = cond (eqb i 0) no_parent (rank (parent b base i))

    -- of the n records from i on, those that the reader sees
    unfoldable pub sifted : ℕ → ℕ → List Moved
    sifted zero i = []
    sifted (suc n) i = cond (visible o (existence b base i)) (record { from = i; parent = rank_parent i } ∷ sifted n (suc i)) (sifted n (suc i))

    -- the record of one: bytes 0 and 1 are its parent's new index, 2 to 7 are as they are, and 8 to 11 where its content is visible
    unfoldable pub sifted_bytes : Moved → List ℕ
    sifted_bytes m =
        two m.parent
        ++ (listed (byte b) 6 (node_place base m.from + 2) ++ four_seen (content b base m.from) (node_place base m.from + 8))

  -- where its script comes to stand
  unfoldable pub sifted_script : ℕ
  sifted_script = nodes_at b + node_size * length (sifted (nodes_at b) (node_count b) 0)

  -- all of it
  unfoldable pub sifted_job : List ℕ
  sifted_job =
      flat_map variable_seen (listed (λ i. i) (variable_count b) 0)
      ++ (flat_map (sifted_bytes (nodes_at b)) (sifted (nodes_at b) (node_count b) 0)
      ++ (script_section b ++ trailer (nodes_at b) sifted_script (sifted_script + (trailer_at b - script_at b))))

-- what the view of a reader o is
pub record ViewRight (o : Level) : Type 0 where
  -- it shows what the store shows
  pub shows : (s : Store) → TreeRules s.tree → AgreeStores o s (view_store o s)
  -- it is made of nothing else
  pub one : (s t : Store) → AgreeStores o s t → view_store o s ≡ view_store o t
  -- a script is not turned away for it
  pub kept : (s : Store) → store_rule s ≡ true → store_rule (view_store o s) ≡ true
  pub ranged : (s : Store) → Ranged s → Ranged (view_store o s)
  pub again : (s : Store) → view_store o (view_store o s) ≡ view_store o s
  -- a part of the view of whoever has more parties
  pub part : (p : Level) (s : Store) → not_above o p ≡ true → view_store o (view_store p s) ≡ view_store o s
  pub told : NothingTold o
  pub faithful : Faithful o

-- what the view of an accepted job is
pub record Projects (o : Level) (b : List ℕ) : Type 0 where
  pub taken : check_bytes (project o b) ≡ accepted
  pub store : job_store (project o b) ≡ view_store o (job_store b)
  pub script : script (project o b) ≡ script b
  pub section : script_section (project o b) ≡ script_section b
  pub alike : Alike o b (project o b)
  -- it is no longer than the job, and a caller's buffers that do for the job do for it
  pub long : length (project o b) ≤ length b
  pub held : (n : ℕ) (lent : Buffers) → check_job b n lent ≡ accepted → check_job (project o b) n lent ≡ accepted

pub record JobViewRight (o : Level) : Type 0 where
  pub projects : (b : List ℕ) → check_bytes b ≡ accepted → Projects o b
  -- it is made of what the reader sees and of the script section. The script alone does not do: command 16 with the set 0 and with the set 1 is one command
  pub one : (a b : List ℕ) → AgreeStores o (job_store a) (job_store b) → script_section a ≡ script_section b → project o a ≡ project o b
  -- it is what one pass over the job's bytes makes
  pub pass : (b : List ℕ) → ((at : ℕ) → byte b at < 256) → check_bytes b ≡ accepted → sifted_job o b ≡ project o b
  pub again : (b : List ℕ) → check_bytes b ≡ accepted → project o (project o b) ≡ project o b
  pub part : (p : Level) (b : List ℕ) → not_above o p ≡ true → check_bytes b ≡ accepted → project o (project p b) ≡ project o b
  pub told : NothingToldOfJob o
  pub faithful : FaithfulToJob o

-- of every reader; and who has all parties sees the store and the job themselves
pub record ProjectionRight : Type 0 where
  pub reader : (o : Level) → ViewRight o
  pub job : (o : Level) → JobViewRight o
  pub whole : (s : Store) → all_levels s.variables ≡ true → TreeRules s.tree → view_store everyone s ≡ s
  pub whole_job : (b : List ℕ) → ((at : ℕ) → byte b at < 256) → check_bytes b ≡ accepted → project everyone b ≡ b
