-- Script records read the same wherever they stand: what a record says, whether it passes and which of its bytes are spare depend on its sixteen bytes alone.
-- So a script section may be moved to other bytes. Assumes nothing.
use mathlib.Core.Path.{◌≡◌, refl, sym, ap, ap₂, ◌∙◌}
use Prim.Native.Nat.{ℕ, suc, ◌+◌, ◌-◌, ◌*◌, ◌≤◌, ◌<◌}
use native.Mathlib.Omega.{arith}
use mathlib.Core.Bool.{Bool, true, ◌&&◌, ◌||◌}
use mathlib.Core.List.{List, [], ◌∷◌}
use lib.ListN.{length, take}
use lib.Seq.{get_or-take, get_or-drop, length-slice}
use lib.Dec.{eqb}
use Rattle.rules.specs.Bytes.{byte, full, script_at, trailer_at, record_place}
use Rattle.rules.specs.Check.{record_rule, fields_rule, expression_rule, reads_right, reads_target, record_reads, spare_rule, variable_clean, node_clean, record_clean, code, Edition}
use Rattle.rules.specs.Job.{set_at, expression_of, command_by, script_from, script_of}
use Rattle.rules.specs.Write.{script_section}
use Rattle.rules.proofs.SameNumbers.{rule_agree}
use Rattle.rules.proofs.Packed.{listed_agree, full_agree}
use Rattle.rules.proofs.ReadBytes.{records_16}
use Rattle.rules.proofs.Accepted.{ScriptRight}

spare_agree : (rs : List Bool) (b c : List ℕ) (x y : ℕ) → ((j : ℕ) → j < length rs → byte b (x + j) ≡ byte c (y + j)) → spare_rule rs b x ≡ spare_rule rs c y
unfolding spare_rule
spare_agree [] b c x y h = refl
spare_agree (r ∷ rs) b c x y h =
    ap₂ ◌&&◌
    (ap (λ (n : ℕ). r || eqb n 0) (ap (byte b) {x = x} {y = x + 0} (omega arith) ∙ h 0 (omega arith) ∙ ap (byte c) {x = y + 0} {y = y} (omega arith)))
    (spare_agree rs b c (suc x) (suc y)
    (λ j l. ap (byte b) {x = suc x + j} {y = x + suc j} (omega arith) ∙ h (suc j) (omega arith) ∙ ap (byte c) {x = y + suc j} {y = suc y + j} (omega arith)))

-- the byte of a section is the job's
pub section_byte : (b : List ℕ) (j : ℕ) → script_at b + j < trailer_at b → byte (script_section b) j ≡ byte b (script_at b + j)
unfolding script_section
section_byte b j h = get_or-drop (script_at b) (take (trailer_at b) b) j 0 ∙ get_or-take (trailer_at b) b (script_at b + j) 0 h

pub section_size : (b : List ℕ) → trailer_at b ≤ length b → length (script_section b) ≡ trailer_at b - script_at b
unfolding script_section
section_size b h = length-slice (script_at b) (trailer_at b) b h

-- one record, at two places
module _ (b c : List ℕ) (x y : ℕ) (same : (j : ℕ) → j < 16 → byte b (x + j) ≡ byte c (y + j)) where
  at : (j m n : ℕ) → j < 16 → m ≡ x + j → n ≡ y + j → byte b m ≡ byte c n
  at j m n l e f = ap (byte b) e ∙ same j l ∙ ap (byte c) (sym f)

  first : byte b x ≡ byte c y
  first = at 0 x y (omega arith) (omega arith) (omega arith)

  left_number : full b (x + 8) ≡ full c (y + 8)
  left_number =
      full_agree b c (x + 8) (y + 8) (same 8 (omega arith)) (at 9 _ _ (omega arith) (omega arith) (omega arith)) (at 10 _ _ (omega arith) (omega arith) (omega arith))
      (at 11 _ _ (omega arith) (omega arith) (omega arith))

  right_number : full b (x + 12) ≡ full c (y + 12)
  right_number =
      full_agree b c (x + 12) (y + 12) (same 12 (omega arith)) (at 13 _ _ (omega arith) (omega arith) (omega arith)) (at 14 _ _ (omega arith) (omega arith) (omega arith))
      (at 15 _ _ (omega arith) (omega arith) (omega arith))

  command_moved : (sets : Bool) → command_by sets b x ≡ command_by sets c y
  unfolding command_by set_at expression_of
  command_moved sets =
      rw (first, same 1 (omega arith), same 2 (omega arith), same 3 (omega arith), same 4 (omega arith), same 5 (omega arith), same 6 (omega arith), left_number, right_number)

  rule_moved : (vars : ℕ) → record_rule b vars x ≡ record_rule c vars y
  unfolding record_rule fields_rule expression_rule
  rule_moved vars =
      rw (first, same 1 (omega arith), same 2 (omega arith), same 3 (omega arith), same 4 (omega arith), left_number, right_number)

  reads_moved : (sets : Bool) → record_reads b x sets ≡ record_reads c y sets
  unfolding record_reads reads_target reads_right
  reads_moved sets = rw (first, same 2 (omega arith), same 3 (omega arith), same 4 (omega arith))

  clean_moved : (sets : Bool) → spare_rule (record_reads b x sets) b x ≡ spare_rule (record_reads c y sets) c y
  clean_moved sets =
      ap (λ (rs : List Bool). spare_rule rs b x) (reads_moved sets)
      ∙ spare_agree (record_reads c y sets) b c x y (λ j l. let z = records_16 sets c y in same j (omega arith))

-- n records, from base on and from low on
module _ (b c : List ℕ) (base low n : ℕ) (same : (j : ℕ) → j < 16 * n → byte b (base + j) ≡ byte c (low + j)) where
  sixteen : (i : ℕ) → i < n → (j : ℕ) → j < 16 → byte b (record_place base i + j) ≡ byte c (record_place low i + j)
  sixteen i h j l =
      ap (byte b) {x = record_place base i + j} {y = base + (16 * i + j)} (omega arith) ∙ same (16 * i + j) (omega arith)
      ∙ ap (byte c) {x = low + (16 * i + j)} {y = record_place low i + j} (omega arith)

  pub script_moved : script_of b base n ≡ script_of c low n
  unfolding script_from
  script_moved = listed_agree _ _ (command_by true b 0) n (λ i l. command_moved b c (record_place base i) (record_place low i) (sixteen i l) true)

  code_moved : (i : ℕ) → i < n → code b base i ≡ code c low i
  unfolding code
  code_moved i l = first b c (record_place base i) (record_place low i) (sixteen i l)

  -- the checks 7, 12 and 8 of the script, where those of the other sections for 12 are known
  pub right_moved : (rules : Edition) (vars ws low-tree ms vs tree ns : ℕ) → ScriptRight rules c vars ws low-tree ms low n
      → (rules.spare ≡ true → (i : ℕ) → i < vs → variable_clean b i ≡ true) → (rules.spare ≡ true → (i : ℕ) → i < ns → node_clean b tree i ≡ true)
      → ScriptRight rules b vars vs tree ns base n
  unfolding code record_clean
  right_moved rules vars ws low-tree ms vs tree ns r variables nodes =
      record {
        known = λ i l. rw (code_moved i l) (r.known i l);
        records = λ i l. rule_moved b c (record_place base i) (record_place low i) (sixteen i l) vars ∙ r.records i l;
        clean =
            λ q.
            record {
              variables = variables q;
              nodes = nodes q;
              records = λ i l. clean_moved b c (record_place base i) (record_place low i) (sixteen i l) rules.sets ∙ (r.clean q).records i l;
            };
        blocks = λ i l. rule_agree (code b base) (code c low) n code_moved i (omega arith) ∙ r.blocks i l;
      }
