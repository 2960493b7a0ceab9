-- What the checks hand back, from the rules' definition of the checks. Assumes nothing.
use Rattle.std.specs.Prelude.{◌≡◌, Bool, cond, List, ℕ, suc, ◌≤◌, ◌<◌, ltb, length, Option, Some, None, Result, Ok, Err}
use Rattle.rules.specs.Limits.{max_records, bad_parent, bad_node, bad_block, bad_spare, bad_order}
use Rattle.rules.specs.Bytes.{script_at, record_count, record_place}
use Rattle.rules.specs.Blocks.{block_rule}
use Rattle.rules.specs.Check as Check
use Rattle.rules.specs.Check.{variable_rule_in, parent_rule, order_rule, node_rule_in, record_rule_in, variable_clean, node_clean, record_clean, code, first_fault, require_each, require_if, first, unordered, today}
use Rattle.rules.specs.Check.{check_script, check_records, check_bytes_by}
use Rattle.fields.specs.declared.sections.Layout.{Layout}
use Rattle.job.specs.declared.checks.Refusal.{Refusal}
use Rattle.job.specs.declared.checks.Edition.{Edition}
use Rattle.job.specs.declared.checks.Edition.TheVariants.{First, Unordered, Today}
use Rattle.job.specs.declared.checks.Unclean.{Unclean}
use Rattle.fields.specs.Layout.{layout_of}
use Rattle.job.specs.Plan.{Plans}

-- an edition by the program's name for it
unfoldable pub edition_of : Edition → Check.Edition
edition_of First = first
edition_of Unordered = unordered
edition_of Today = today

-- an accepted job with a layout; a refused one with the paper's number and index
unfoldable pub answer : Layout → Check.Checked → Result Layout Refusal
answer l Check.accepted = Ok l
answer l (Check.refused k i) = Err (record { number = k; index = i })

-- the highest level of an edition: all eight parties, or before R-12 the house
unfoldable pub highest_of : Check.Edition → ℕ
highest_of rules = cond rules.sets 255 1

-- check 7 in an edition, of record i
abbrev pub record_rules : Check.Edition → List ℕ → ℕ → ℕ → ℕ → Bool
record_rules rules b vs base i = record_rule_in rules b vs (record_place base i)

-- what a search came to, if it is one of n
unfoldable pub found : ℕ → ℕ → Option ℕ
found k n = cond (ltb k n) (Some k) None

-- the first of n records that fails a test, where it is asked for
unfoldable pub asked : Bool → (ℕ → Bool) → ℕ → Option ℕ
asked on good n = cond on (found (first_fault good n 0) n) None

-- a scan of n records by the check k, which found a first fault, or else a first record that is not clean
unfoldable pub scan_of : ℕ → ℕ → Option ℕ → ℕ → Result (Option ℕ) Refusal
scan_of k fault unclean n = cond (ltb fault n) (Err (record { number = k; index = fault })) (Ok unclean)

-- what the scan of n records comes to
unfoldable pub scanned : ℕ → Check.Edition → (ℕ → Bool) → (ℕ → Bool) → ℕ → Result (Option ℕ) Refusal
scanned k rules right clean n = scan_of k (first_fault right n 0) (asked rules.spare clean n) n

-- what is not clean, section by section
unfoldable pub unclean_of : Check.Edition → List ℕ → Layout → Unclean
unclean_of rules b l =
    record {
      variables = asked rules.spare (variable_clean b) l.variables;
      nodes = asked rules.spare (node_clean b l.tree) l.nodes;
      records = asked rules.spare (record_clean rules.sets b l.script) l.records;
    }

-- what is not clean in front of the script
pub record Fronted (rules : Check.Edition) (b : List ℕ) (l : Layout) (variable node : Option ℕ) : Type 0 where
  pub variables : variable ≡ asked rules.spare (variable_clean b) l.variables
  pub nodes : node ≡ asked rules.spare (node_clean b l.tree) l.nodes

-- the script lies within the bytes, is not too long, and has room in the words p
pub record Fitted (b : List ℕ) (l : Layout) (p : List ℕ) : Type 0 where
  pub inside : record_place l.script l.records ≤ length b
  pub short : l.records ≤ max_records
  pub room : l.records < length p

-- what the checks of a script hand back
unfoldable pub told : Check.Checked → Result (Unit {0}) Refusal
told Check.accepted = Ok tt
told (Check.refused k i) = Err (record { number = k; index = i })

module _ (b : List ℕ) (l : Layout) where
  -- what is left of the checks from 8 on, for the sections of a layout
  unfoldable pub from_blocks : Check.Checked
  from_blocks = require_each bad_block (block_rule (code b l.script) l.records) (suc l.records) Check.accepted

  module _ (rules : Check.Edition) where
    -- from 12 on
    unfoldable pub from_spare : Check.Checked
    from_spare =
        require_if rules.spare bad_spare (variable_clean b) l.variables
        (require_if rules.spare bad_spare (node_clean b l.tree) l.nodes
        (require_if rules.spare bad_spare (record_clean rules.sets b l.script) l.records from_blocks))

    -- from 7 on, where vs variables stand
    abbrev pub from_script : ℕ → Check.Checked
    from_script vs = check_script rules b vs l.variables l.tree l.nodes l.script l.records Check.accepted

    -- from 5 on
    unfoldable pub from_nodes : Check.Checked
    from_nodes =
        require_each bad_parent (parent_rule b l.tree) l.nodes
        (require_if rules.order bad_order (order_rule b l.tree) l.nodes
        (require_each bad_node (node_rule_in rules b l.tree) l.nodes (from_script l.variables)))

    -- from 4 on
    abbrev pub from_variables : Check.Checked
    from_variables = check_records rules b l.variables l.tree l.nodes l.script l.records

  -- what checks that come to c hand back of a script, and what they make of the words p
  pub record ScriptTold (c : Check.Checked) (p p' : List ℕ) (r : Result (Unit {0}) Refusal) : Type 0 where
    pub answered : r ≡ told c
    pub plans : Plans (code b l.script) l.records c p p'

  -- the same of a job
  pub record JobTold (c : Check.Checked) (p p' : List ℕ) (r : Result Layout Refusal) : Type 0 where
    pub answered : r ≡ answer l c
    pub plans : Plans (code b l.script) l.records c p p'

-- what the checks of an edition make of a job's bytes and the words p: their answer, and the plan of the script
pub record Prepared (rules : Check.Edition) (b p p' : List ℕ) (r : Result Layout Refusal) : Type 0 where
  pub answered : r ≡ answer (layout_of b) (check_bytes_by rules b)
  pub plans : Plans (code b (script_at b)) (record_count b) (check_bytes_by rules b) p p'
