-- The plan of a script: a word for each record, and the end mark behind the last. Assumes nothing.
use Rattle.std.specs.Prelude.{◌≡◌, cond, ℕ, suc, ◌+◌, ◌*◌, ◌/◌, ◌%◌, ◌≤◌, ◌<◌, eqb, get_or}
use mathlib.Core.List.{List, head_d}
use Rattle.rules.specs.Limits.{bad_block}
use Rattle.rules.specs.Blocks.{is_in, parts, nest, goes_to}
use Rattle.rules.specs.Check as Check

-- the word of a record: its command, and where it goes if not to the next
unfoldable pub entry : ℕ → ℕ → ℕ
entry command next = command + 65536 * next

-- the command that a word holds
unfoldable pub code_of : ℕ → ℕ
code_of w = w % 256

-- where its record goes
unfoldable pub next_of : ℕ → ℕ
next_of w = w / 65536

-- what stands behind the last record is no command
abbrev pub end_mark : ℕ
end_mark = 255

-- nor is what stands for the end of an if that comes back
abbrev pub end_back : ℕ
end_back = 254

-- what stands for an end, by the command that opened its block
unfoldable pub end_code : ℕ → ℕ
end_code opener = cond (eqb opener 17) end_back 5

-- what stands for record k: its command, but for the end of an if that comes back
unfoldable pub plan_code : (ℕ → ℕ) → ℕ → ℕ
plan_code code k = cond (eqb (code k) 5) (end_code (code (head_d (nest code k) 0))) (code k)

-- the word of record k of n once check 8 has come to record i: of a part that is open there the end is not known, and it goes to the next
unfoldable pub planned : (ℕ → ℕ) → ℕ → ℕ → ℕ → ℕ
planned code n i k = entry (plan_code code k) (cond (is_in k (parts code i)) (suc k) (goes_to code n k))

-- what i passed records of n make of the words p
pub record Partly (code : ℕ → ℕ) (n i : ℕ) (p p' : List ℕ) : Type 0 where
  pub each : (k : ℕ) → k < i → get_or p' k 0 ≡ planned code n i k
  pub spare : (k : ℕ) → i ≤ k → get_or p' k 0 ≡ get_or p k 0

-- what a right script of n records makes of the words p: its plan
pub record Whole (code : ℕ → ℕ) (n : ℕ) (p p' : List ℕ) : Type 0 where
  pub each : (k : ℕ) → k < n → get_or p' k 0 ≡ entry (plan_code code k) (goes_to code n k)
  pub last : get_or p' n 0 ≡ end_mark
  pub spare : (k : ℕ) → n < k → get_or p' k 0 ≡ get_or p k 0

-- what the checks make of the words p, by what they say of a script of n records: a plan; where 8 refuses record i the words of the records before it; else nothing
pub record Plans (code : ℕ → ℕ) (n : ℕ) (c : Check.Checked) (p p' : List ℕ) : Type 0 where
  pub whole : c ≡ Check.accepted → Whole code n p p'
  pub partly : (i : ℕ) → c ≡ Check.refused bad_block i → Partly code n i p p'
  pub untouched : (k i : ℕ) → (k ≡ bad_block → ⊥) → c ≡ Check.refused k i → p' ≡ p
