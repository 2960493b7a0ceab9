-- The checks of a job's bytes, 1 to 8 in order of number with 13 before 6 and 12 before 8, and the editions of them. Assumes nothing.
use Rattle.std.specs.Prelude.{ℕ, zero, suc, ◌+◌, ◌-◌, ◌%◌, Bool, true, false, ◌&&◌, ◌||◌, not, cond, List, [], ◌∷◌, length, leb, ltb, eqb, Option, None, Some}
use Rattle.rules.specs.Limits.{max_variables, max_nodes, max_records, max_bytes, trailer_size, variable_size, node_size, record_size, no_parent, command_count, bad_length, bad_offsets, bad_count, bad_variable, bad_parent, bad_node, bad_record, bad_block, bad_spare, bad_order}
use Rattle.rules.specs.Level.{public, not_above, is_level}
use Rattle.rules.specs.Script.{Row, row_of}
use Rattle.rules.specs.Blocks.{block_rule}
use Rattle.rules.specs.Bytes.{byte, half, full, variables_at, nodes_at, script_at, trailer_at, variable_count, node_count, record_count, variable_place, node_place, record_place}

-- 1: not "under 8 or over 23,048 bytes"
unfoldable pub length_rule : ℕ → Bool
length_rule n = leb trailer_size n && leb n max_bytes

-- from one offset to another stand whole records of a size
unfoldable pub whole : ℕ → ℕ → ℕ → Bool
whole size from to = leb from to && eqb ((to - from) % size) 0

-- 2: "0 = variables ≤ nodes ≤ script ≤ trailer = length − 8", and no "part record"
unfoldable pub offset_rule : List ℕ → Bool
offset_rule b =
    eqb (variables_at b) 0 && eqb (trailer_at b) (length b - trailer_size) && whole variable_size 0 (nodes_at b)
    && whole node_size (nodes_at b) (script_at b) && whole record_size (script_at b) (trailer_at b)

-- 3: no "count out of range", of variables, nodes and script records
unfoldable pub count_rule : ℕ → ℕ → ℕ → Bool
count_rule vs ns rs = leb vs max_variables && leb 1 ns && leb ns max_nodes && leb rs max_records

-- 4: a level is one byte, so that no byte is faulty
unfoldable pub variable_rule : List ℕ → ℕ → Bool
variable_rule b i = is_level (byte b (variable_place i))

module _ (b : List ℕ) (base : ℕ) where
  -- "0 and 1 parent's index" of node i, in the section that starts at base
  unfoldable pub parent : ℕ → ℕ
  parent i = half b (node_place base i)

  -- "2 existence"
  unfoldable pub existence : ℕ → ℕ
  existence i = byte b (node_place base i + 2)

  -- "3 content"
  unfoldable pub content : ℕ → ℕ
  content i = byte b (node_place base i + 3)

  -- "4 list"
  unfoldable pub structure : ℕ → ℕ
  structure i = byte b (node_place base i + 4)

  -- 5: "65535 for record 0, the root"; else "A parent comes before its children"
  unfoldable pub parent_rule : ℕ → Bool
  parent_rule i = cond (eqb i 0) (eqb (parent i) no_parent) (ltb (parent i) i)

  -- 6: levels, which every byte is, and "content and list are not below existence"
  unfoldable pub label_rule : ℕ → Bool
  label_rule i =
      is_level (existence i) && is_level (content i) && is_level (structure i) && not_above (existence i) (content i)
      && not_above (existence i) (structure i)

  -- "left means the nearest earlier record with the same parent": the nearest record before i with the parent p
  unfoldable pub nearest : ℕ → ℕ → Option ℕ
  nearest p zero = None
  nearest p (suc i) = cond (eqb (parent i) p) (Some i) (nearest p i)

  -- 6: the existence of node i is "not below that of the sibling to its left"
  unfoldable pub left_rule : ℕ → Option ℕ → Bool
  left_rule i None = true
  left_rule i (Some j) = not_above (existence j) (existence i)

  -- 6: "not below its parent's existence, not above its parent's list level", and the rule of its left sibling
  unfoldable pub child_rule : ℕ → Bool
  child_rule i =
      not_above (existence (parent i)) (existence i) && not_above (existence i) (structure (parent i))
      && left_rule i (nearest (parent i) i)

  -- 6: the rules of one node; "the root has existence 0"
  unfoldable pub node_rule : ℕ → Bool
  node_rule i = label_rule i && cond (eqb i 0) (not_above (existence i) public) (child_rule i)

  -- p is record j or an ancestor of it, found within n steps up
  unfoldable pub on_path : ℕ → ℕ → ℕ → Bool
  on_path p zero j = eqb p j
  on_path p (suc n) j = eqb p j || (not (eqb j 0) && on_path p n (parent j))

  -- 13: no "node after record 0 whose parent is neither the record before it nor an ancestor of that record"
  unfoldable pub order_rule : ℕ → Bool
  order_rule i = eqb i 0 || on_path (parent i) i (i - 1)

-- 7: an operand's kind, and for a variable its index, where there are vars variables
unfoldable pub operand_rule : ℕ → ℕ → ℕ → Bool
operand_rule vars kind n = leb kind 3 && (not (eqb kind 1) || ltb n vars)

module _ (b : List ℕ) (vars : ℕ) where
  -- 7: the expression of the record at a place: operator, left side and, unless the operator is 0, right side
  unfoldable pub expression_rule : ℕ → Bool
  expression_rule at =
      leb (byte b (at + 2)) 5 && operand_rule vars (byte b (at + 3)) (full b (at + 8))
      && (eqb (byte b (at + 2)) 0 || operand_rule vars (byte b (at + 4)) (full b (at + 12)))

  -- 7: the fields that a row names: target, mark ("0 to 3") and expression
  unfoldable pub fields_rule : Row → ℕ → Bool
  fields_rule r at =
      (not r.target || ltb (byte b (at + 1)) vars) && (not r.mark || leb (byte b (at + 1)) 3)
      && (not r.expression || expression_rule at)

  -- 7: no command above 19, and no "field read is out of range"
  unfoldable pub record_rule : ℕ → Bool
  record_rule at = ltb (byte b at) command_count && fields_rule (row_of (byte b at)) at

-- the rules in force by the requests that have landed; a program that keeps the rules of its landing keeps its edition
pub record Edition : Type 0 where
  pub commands : ℕ  -- how many commands there are
  pub spare : Bool  -- spare bytes are zero
  pub order : Bool  -- "each node is followed at once by its whole subtree"
  pub sets : Bool  -- "a level becomes one byte, a set of eight parties", and script records hold sets

-- paper 01 with R-1 to R-3, which the cleaner keeps
unfoldable pub first : Edition
first = record { commands = 17; spare = false; order = false; sets = false }

-- with clean spare bytes, R-4
unfoldable pub clean : Edition
clean = record { commands = 17; spare = true; order = false; sets = false }

-- paper 01 with R-1 to R-9, which the rearranger keeps
unfoldable pub unordered : Edition
unordered = record { commands = command_count; spare = true; order = false; sets = false }

-- with the nodes listed the way they hang, R-10
unfoldable pub ordered : Edition
ordered = record { commands = command_count; spare = true; order = true; sets = false }

-- with sets of parties, R-12, which the summary keeps: the rules in force today
unfoldable pub today : Edition
today = record { commands = command_count; spare = true; order = true; sets = true }

-- R-4: which bytes of a variable are read, from the first on: "byte 0 level, 1 to 3 ignored, 4 to 7 value"
unfoldable pub variable_reads : List Bool
variable_reads = true ∷ false ∷ false ∷ false ∷ true ∷ true ∷ true ∷ true ∷ []

-- of a node: "0 and 1 parent's index .., 2 existence, 3 content, 4 list, 5 to 7 ignored, 8 to 11 value"
unfoldable pub node_reads : List Bool
node_reads = true ∷ true ∷ true ∷ true ∷ true ∷ false ∷ false ∷ false ∷ true ∷ true ∷ true ∷ true ∷ []

-- of a script record, by whether it reads its target, its expression, the expression's right side, the bytes 5 and 6, and the number of either side
unfoldable pub field_reads : Bool → Bool → Bool → Bool → Bool → Bool → Bool → List Bool
field_reads target expression right fifth sixth leftNumber rightNumber =
    true ∷ target ∷ expression ∷ expression ∷ right ∷ fifth ∷ sixth ∷ false ∷ leftNumber ∷ leftNumber ∷ leftNumber ∷ leftNumber ∷ rightNumber
    ∷ rightNumber ∷ rightNumber ∷ rightNumber ∷ []

-- "For kinds 2 and 3 the number is ignored."
unfoldable pub has_number : ℕ → Bool
has_number kind = ltb kind 2

module _ (b : List ℕ) (at : ℕ) where
  -- the record at a place reads its right side: it has an expression, and not "0 left alone (right side ignored)"
  unfoldable pub reads_right : Bool
  reads_right = (row_of (byte b at)).expression && not (eqb (byte b (at + 2)) 0)

  module _ (sets : Bool) where
    -- it reads its target: as a variable's index, as a mark or, where records hold sets, as a reader set
    unfoldable pub reads_target : Bool
    reads_target = ((row_of (byte b at)).target || (row_of (byte b at)).mark) || (sets && (row_of (byte b at)).readers)

    -- which bytes of the record at a place are read: those of "the fields that a command or kind" reads
    unfoldable pub record_reads : List Bool
    record_reads =
        field_reads reads_target (row_of (byte b at)).expression reads_right (sets && (row_of (byte b at)).fifth) (sets && (row_of (byte b at)).sixth)
        ((row_of (byte b at)).expression && has_number (byte b (at + 3))) (reads_right && has_number (byte b (at + 4)))

-- 12: from a place on, each byte is read or zero
unfoldable pub spare_rule : List Bool → List ℕ → ℕ → Bool
spare_rule [] b at = true
spare_rule (r ∷ rs) b at = (r || eqb (byte b at) 0) && spare_rule rs b (suc at)

-- 12, of variable i
unfoldable pub variable_clean : List ℕ → ℕ → Bool
variable_clean b i = spare_rule variable_reads b (variable_place i)

-- 12, of node i in the section that starts at base
unfoldable pub node_clean : List ℕ → ℕ → ℕ → Bool
node_clean b base i = spare_rule node_reads b (node_place base i)

-- 12, of record i in the section that starts at base, where records hold sets or do not
unfoldable pub record_clean : Bool → List ℕ → ℕ → ℕ → Bool
record_clean sets b base i = spare_rule (record_reads b (record_place base i) sets) b (record_place base i)

-- "0 command": that of record i in the section that starts at base
unfoldable pub code : List ℕ → ℕ → ℕ → ℕ
code b base i = byte b (record_place base i)

-- what the checks say: accepted, or refused with a number and an index
pub data Checked : Type 0 where
  accepted : Checked
  refused : ℕ → ℕ → Checked

-- the first of the n indexes i, i + 1, .. that fails the test, or the one after them
unfoldable pub first_fault : (ℕ → Bool) → ℕ → ℕ → ℕ
first_fault good zero i = i
first_fault good (suc n) i = elim (good i) [ true ↦ first_fault good n (suc i) | false ↦ i ]

-- "For 1, 2, 3, 9, 10 and finished the index is 0"
unfoldable pub require : ℕ → Bool → Checked → Checked
require k test next = cond test next (refused k 0)

-- "For 4 to 8 the index is the first faulty record in its section", and for 12 "the record's own in its section"; behind the last of n stands the index n
unfoldable pub require_each : ℕ → (ℕ → Bool) → ℕ → Checked → Checked
require_each k good n next = cond (ltb (first_fault good n 0) n) (refused k (first_fault good n 0)) next

-- 4, in an edition: before R-12 no "variable level above 1"
unfoldable pub variable_rule_in : Edition → List ℕ → ℕ → Bool
variable_rule_in rules b i = (rules.sets || leb (byte b (variable_place i)) 1) && variable_rule b i

-- before R-12: no "level above 1", of node i in the section that starts at base
unfoldable pub house_rule : List ℕ → ℕ → ℕ → Bool
house_rule b base i = leb (existence b base i) 1 && leb (content b base i) 1 && leb (structure b base i) 1

-- 6, in an edition
unfoldable pub node_rule_in : Edition → List ℕ → ℕ → ℕ → Bool
node_rule_in rules b base i = (rules.sets || house_rule b base i) && node_rule b base i

-- 7, in an edition
unfoldable pub record_rule_in : Edition → List ℕ → ℕ → ℕ → Bool
record_rule_in rules b vars at = ltb (byte b at) rules.commands && record_rule b vars at

-- a check that an edition may not have
unfoldable pub require_if : Bool → ℕ → (ℕ → Bool) → ℕ → Checked → Checked
require_if asked k good n next = cond asked (require_each k good n next) next

-- the checks 7, 12 and 8, in an edition, of rs script records from script on where vars variables stand, then the rest; for 12 "sections are searched in
-- file order": in front of the script stand vs variables and ns nodes from tree on, in a bare section none
unfoldable pub check_script : Edition → List ℕ → ℕ → ℕ → ℕ → ℕ → ℕ → ℕ → Checked → Checked
check_script rules b vars vs tree ns script rs next =
    require_each bad_record (λ i. record_rule_in rules b vars (record_place script i)) rs
    (require_if rules.spare bad_spare (variable_clean b) vs
    (require_if rules.spare bad_spare (node_clean b tree) ns
    (require_if rules.spare bad_spare (record_clean rules.sets b script) rs
    (require_each bad_block (block_rule (code b script) rs) (suc rs) next))))

-- the checks 4 to 8, with 13 "checked after 5 and before 6", of vs variables, ns nodes from tree on and rs script records from script on
unfoldable pub check_records : Edition → List ℕ → ℕ → ℕ → ℕ → ℕ → ℕ → Checked
check_records rules b vs tree ns script rs =
    require_each bad_variable (variable_rule_in rules b) vs
    (require_each bad_parent (parent_rule b tree) ns
    (require_if rules.order bad_order (order_rule b tree) ns
    (require_each bad_node (node_rule_in rules b tree) ns (check_script rules b vs vs tree ns script rs accepted))))

-- "Job checks go in order of number.", but for 12, which is "checked after 7 and before 8", and 13
unfoldable pub check_bytes_by : Edition → List ℕ → Checked
check_bytes_by rules b =
    require bad_length (length_rule (length b))
    (require bad_offsets (offset_rule b)
    (require bad_count (count_rule (variable_count b) (node_count b) (record_count b))
    (check_records rules b (variable_count b) (nodes_at b) (node_count b) (script_at b) (record_count b))))

-- by the rules of today
abbrev pub check_bytes : List ℕ → Checked
check_bytes b = check_bytes_by today b
