-- What is known of a job that an edition accepts: every rule holds, as the chain of checks has passed each, and the other way; and its script's command numbers are its bytes, so the
-- jumps by the bytes are the jumps by the script. The same of a bare section. Assumes nothing.
use mathlib.Core.Path.{◌≡◌, refl, sym, ap, ◌∙◌}
use mathlib.Core.Bool.{Bool, true, false, ◌||◌}
use mathlib.Core.List.{List}
use Prim.Native.Nat.{ℕ, suc, ◌<◌}
use native.Mathlib.Omega.{arith}
use lib.ListN.{length}
use lib.Dec.{leb, ltb}
use borrow.Author.Tests.{ne_eqb, ltb-true}
use Rattle.rules.specs.Limits.{bad_length, bad_offsets, bad_count, bad_variable, bad_parent, bad_node, bad_record, bad_block, bad_spare, bad_order}
use Rattle.rules.specs.Bytes.{byte, nodes_at, script_at, variable_count, node_count, record_count, variable_place, record_place}
use Rattle.rules.specs.Script.{number, number_at}
use Rattle.rules.specs.Blocks.{block_rule, goes_to}
use Rattle.rules.specs.Check.{Checked, accepted, length_rule, offset_rule, count_rule, variable_rule, parent, parent_rule, order_rule, node_rule, house_rule, record_rule, code}
use Rattle.rules.specs.Check.{variable_clean, node_clean, record_clean, Edition, today, variable_rule_in, node_rule_in, record_rule_in, check_script, check_records, check_bytes_by, check_bytes}
use Rattle.rules.specs.Job.{script, script_by, script_of}
use Rattle.rules.proofs.Tests.{both, joined}
use Rattle.rules.proofs.Ranges.{other}
use Rattle.rules.proofs.Parts.{by_if}
use Rattle.rules.proofs.Jumps.{is_in, closed}
use Rattle.rules.proofs.SameNumbers.{rule_agree, goes_agree}
use Rattle.rules.proofs.Nests.{parts_done}
use Rattle.rules.proofs.Checks.{met, passed_one, all_met, passed_each, met_if, passed_if}
use Rattle.rules.proofs.Decode.{section_spelled, numbered_at}

-- the spare bytes of vs variables, ns nodes from tree on and rs records from script on, which hold sets or do not, are zero
pub record Clean (sets : Bool) (b : List ℕ) (vs tree ns script rs : ℕ) : Type 0 where
  pub variables : (i : ℕ) → i < vs → variable_clean b i ≡ true
  pub nodes : (i : ℕ) → i < ns → node_clean b tree i ≡ true
  pub records : (i : ℕ) → i < rs → record_clean sets b script i ≡ true

-- what the checks 7, 12 and 8 ask
pub record ScriptRight (rules : Edition) (b : List ℕ) (vars vs tree ns script rs : ℕ) : Type 0 where
  pub known : (i : ℕ) → i < rs → ltb (byte b (record_place script i)) rules.commands ≡ true
  pub records : (i : ℕ) → i < rs → record_rule b vars (record_place script i) ≡ true
  pub clean : rules.spare ≡ true → Clean rules.sets b vs tree ns script rs
  pub blocks : (i : ℕ) → i < suc rs → block_rule (code b script) rs i ≡ true

module _ (rules : Edition) (b : List ℕ) (vars vs tree ns script rs : ℕ) (c : Checked) where
  pub script_right : check_script rules b vars vs tree ns script rs c ≡ accepted → ScriptRight rules b vars vs tree ns script rs × (c ≡ accepted)
  unfolding check_script record_rule_in
  script_right e =
      let x7 = passed_each bad_record _ _ _ e in
      let v = passed_if rules.spare bad_spare _ _ _ x7.1 in
      let n = passed_if rules.spare bad_spare _ _ _ v.1 in
      let r = passed_if rules.spare bad_spare _ _ _ n.1 in
      let x8 = passed_each bad_block _ _ _ r.1 in (
        record {
          known = λ i l. (both _ (record_rule b vars (record_place script i)) (x7.0 i l)).0;
          records = λ i l. (both (ltb (byte b (record_place script i)) rules.commands) _ (x7.0 i l)).1;
          clean = λ q. record { variables = v.0 q; nodes = n.0 q; records = r.0 q };
          blocks = x8.0;
        },
        x8.1,
      )

  pub script_met : ScriptRight rules b vars vs tree ns script rs → check_script rules b vars vs tree ns script rs c ≡ c
  unfolding check_script record_rule_in
  script_met r =
      all_met bad_record _ _ _ (λ i l. joined (r.known i l) (r.records i l)) ∙ met_if rules.spare bad_spare _ _ _ (λ q. (r.clean q).variables)
      ∙ met_if rules.spare bad_spare _ _ _ (λ q. (r.clean q).nodes) ∙ met_if rules.spare bad_spare _ _ _ (λ q. (r.clean q).records)
      ∙ all_met bad_block _ _ _ r.blocks

-- the rules that every edition has
pub record Right (b : List ℕ) : Type 0 where
  pub lengths : length_rule (length b) ≡ true
  pub offsets : offset_rule b ≡ true
  pub counts : count_rule (variable_count b) (node_count b) (record_count b) ≡ true
  pub variables : (i : ℕ) → i < variable_count b → variable_rule b i ≡ true
  pub parents : (i : ℕ) → i < node_count b → parent_rule b (nodes_at b) i ≡ true
  pub nodes : (i : ℕ) → i < node_count b → node_rule b (nodes_at b) i ≡ true
  pub records : (i : ℕ) → i < record_count b → record_rule b (variable_count b) (record_place (script_at b) i) ≡ true
  pub blocks : (i : ℕ) → i < suc (record_count b) → block_rule (code b (script_at b)) (record_count b) i ≡ true

-- those that every edition before R-12 has: no level above 1
pub record House (b : List ℕ) : Type 0 where
  pub variables : (i : ℕ) → i < variable_count b → leb (byte b (variable_place i)) 1 ≡ true
  pub nodes : (i : ℕ) → i < node_count b → house_rule b (nodes_at b) i ≡ true

-- the checks 7, 12 and 8 of a job
abbrev pub JobScript : Edition → List ℕ → Type 0
JobScript rules b = ScriptRight rules b (variable_count b) (variable_count b) (nodes_at b) (node_count b) (script_at b) (record_count b)

-- the rules of an edition
pub record RightBy (rules : Edition) (b : List ℕ) : Type 0 where
  pub right : Right b
  pub house : rules.sets ≡ false → House b
  pub order : rules.order ≡ true → (i : ℕ) → i < node_count b → order_rule b (nodes_at b) i ≡ true
  pub script : JobScript rules b

unless : (a c : Bool) → (a ≡ false → c ≡ true) → (a || c) ≡ true
unless true c h = refl
unless false c h = h refl

module _ (rules : Edition) (b : List ℕ) where
  -- the two parts of the checks 4 and 6
  variable_in_law : (i : ℕ) → variable_rule_in rules b i ≡ true → ((rules.sets || leb (byte b (variable_place i)) 1) ≡ true) × (variable_rule b i ≡ true)
  unfolding variable_rule_in
  variable_in_law i = both (rules.sets || leb (byte b (variable_place i)) 1) (variable_rule b i)

  node_in_law : (i : ℕ) → node_rule_in rules b (nodes_at b) i ≡ true → ((rules.sets || house_rule b (nodes_at b) i) ≡ true) × (node_rule b (nodes_at b) i ≡ true)
  unfolding node_rule_in
  node_in_law i = both (rules.sets || house_rule b (nodes_at b) i) (node_rule b (nodes_at b) i)

  pub right_by : check_bytes_by rules b ≡ accepted → RightBy rules b
  unfolding check_bytes_by check_records
  right_by e =
      let x1 = passed_one bad_length _ _ e in
      let x2 = passed_one bad_offsets _ _ x1.1 in
      let x3 = passed_one bad_count _ _ x2.1 in
      let x4 = passed_each bad_variable _ _ _ x3.1 in
      let x5 = passed_each bad_parent _ _ _ x4.1 in
      let x13 = passed_if rules.order bad_order _ _ _ x5.1 in
      let x6 = passed_each bad_node _ _ _ x13.1 in
      let s = (script_right rules b _ _ _ _ _ _ _ x6.1).0 in
      record {
        right =
            record {
              lengths = x1.0;
              offsets = x2.0;
              counts = x3.0;
              variables = λ i l. (variable_in_law i (x4.0 i l)).1;
              parents = x5.0;
              nodes = λ i l. (node_in_law i (x6.0 i l)).1;
              records = s.records;
              blocks = s.blocks;
            };
        house =
            λ q.
            record {
              variables = λ i l. other rules.sets _ (variable_in_law i (x4.0 i l)).0 q;
              nodes = λ i l. other rules.sets _ (node_in_law i (x6.0 i l)).0 q;
            };
        order = x13.0;
        script = s;
      }

  pub accept_by : RightBy rules b → check_bytes_by rules b ≡ accepted
  unfolding check_bytes_by check_records variable_rule_in node_rule_in
  accept_by s =
      let r = s.right in
      met bad_length _ r.lengths ∙ met bad_offsets _ r.offsets ∙ met bad_count _ r.counts ∙ all_met bad_variable _ _ _ (λ i l. joined (unless rules.sets _ (λ q. (s.house q).variables i l)) (r.variables i l))
      ∙ all_met bad_parent _ _ _ r.parents ∙ met_if rules.order bad_order _ _ _ s.order ∙ all_met bad_node _ _ _ (λ i l. joined (unless rules.sets _ (λ q. (s.house q).nodes i l)) (r.nodes i l))
      ∙ script_met rules b _ _ _ _ _ _ _ s.script

pub right : (b : List ℕ) → check_bytes b ≡ accepted → Right b
right b e = (right_by today b e).right

-- but for the root, a right parent is an earlier record
pub parent_before : (b : List ℕ) (base i : ℕ) → (i ≡ 0 → ⊥) → parent_rule b base i ≡ true → parent b base i < i
unfolding parent_rule
parent_before b base i n h = ltb-true _ _ (rw (ne_eqb i 0 n) at h)

-- n records from base on that pass the checks 7 and 8, of a job or of a bare section
module _ (b : List ℕ) (vars base n : ℕ) (records : (i : ℕ) → i < n → record_rule b vars (record_place base i) ≡ true)
    (blocks : (i : ℕ) → i < suc n → block_rule (code b base) n i ≡ true) where
  -- the first byte of a record is the number of its command
  pub section_numbered : (i : ℕ) → i < n → code b base i ≡ number_at (script_of b base n) i
  unfolding code number_at
  section_numbered i h = sym (ap number (section_spelled b base n i h) ∙ numbered_at b vars (record_place base i) (records i h))

  -- check 8, of the script's command numbers
  pub section_blocks : (i : ℕ) → i < suc n → block_rule (number_at (script_of b base n)) n i ≡ true
  section_blocks i h = sym (rule_agree (code b base) (number_at (script_of b base n)) n section_numbered i (omega arith)) ∙ blocks i h

  pub section_jumps : (k : ℕ) → k < n → goes_to (code b base) n k ≡ goes_to (number_at (script_of b base n)) n k
  unfolding is_in
  section_jumps k h =
      let f = code b base in
      goes_agree f (number_at (script_of b base n)) n section_numbered k h (λ e. closed f n n k h (by_if e) (ap (is_in k) (parts_done f n blocks)))

-- a job's own script
module _ (b : List ℕ) (r : Right b) where
  pub blocks_right : (i : ℕ) → i < suc (record_count b) → block_rule (number_at (script b)) (record_count b) i ≡ true
  unfolding script_by
  blocks_right = section_blocks b (variable_count b) (script_at b) (record_count b) r.records r.blocks

  pub jumps_agree : (k : ℕ) → k < record_count b → goes_to (code b (script_at b)) (record_count b) k ≡ goes_to (number_at (script b)) (record_count b) k
  unfolding script_by
  jumps_agree = section_jumps b (variable_count b) (script_at b) (record_count b) r.records r.blocks
