-- The bytes of a record spell the variable or the command at its index, and where check 7 passes, a record's first byte is its command's number: the
-- list of the commands' numbers, computed, is that of the first twenty numbers. Assumes nothing.
use mathlib.Core.Path.{◌≡◌, refl, sym, ap, ◌∙◌}
use mathlib.Core.Bool.{true}
use mathlib.Core.List.{List}
use Prim.Native.Nat.{ℕ, zero, suc, ◌+◌, ◌<◌}
use native.Mathlib.Nat.{zero-add}
use native.Mathlib.Omega.{arith}
use lib.ListN.{length, get_or, get_or-map}
use Rattle.rules.specs.Limits.{command_count}
use Rattle.rules.specs.Level.{Level}
use Rattle.rules.specs.Bytes.{byte, script_at, variable_count, record_count, variable_place, record_place}
use Rattle.rules.specs.Script.{Expression, act, Action, commands, action_number, number, fetch}
use Rattle.rules.specs.Check.{record_rule}
use Rattle.rules.specs.Job.{Variable, listed, variable_of, variables, set_at, script, script_by, script_of, script_from, command_of, command_by, expression_of}
use Rattle.rules.proofs.Ranges.{record_in}

module _ {A : Type 0} (f : ℕ → A) where
  pub listed_length : (n i : ℕ) → length (listed f n i) ≡ n
  unfolding listed
  listed_length zero i = refl
  listed_length (suc n) i = ap suc (listed_length n (suc i))

  pub listed_at : (d : A) (n i k : ℕ) → k < n → get_or (listed f n i) k d ≡ f (i + k)
  unfolding listed
  listed_at d zero i k h = absurd (omega arith)
  listed_at d (suc n) i zero h = ap f {x = i} {y = i + 0} (omega arith)
  listed_at d (suc n) i (suc k) h = listed_at d n (suc i) k (omega arith) ∙ ap f {x = suc i + k} {y = i + suc k} (omega arith)

  pub listed_from_zero : (d : A) (n k : ℕ) → k < n → get_or (listed f n 0) k d ≡ f k
  listed_from_zero d n k h = listed_at d n 0 k h ∙ ap f (zero-add k)

pub variables_length : (b : List ℕ) → length (variables b) ≡ variable_count b
unfolding variables
variables_length b = listed_length _ (variable_count b) 0

pub variable_at_law : (b : List ℕ) (d : Variable) (i : ℕ) → i < variable_count b → get_or (variables b) i d ≡ variable_of b (variable_place i)
unfolding variables
variable_at_law b d i h = listed_from_zero (λ (k : ℕ). variable_of b (variable_place k)) d (variable_count b) i h

-- what a run goes by: record i of a section's script is what its bytes spell
module _ (b : List ℕ) (base n : ℕ) where
  pub section_length : length (script_of b base n) ≡ n
  unfolding script_from
  section_length = listed_length _ n 0

  pub section_spelled : (i : ℕ) → i < n → fetch (script_of b base n) i ≡ command_of b (record_place base i)
  unfolding script_from fetch
  section_spelled i h = listed_from_zero (λ (k : ℕ). command_of b (record_place base k)) (act Action.skip) n i h

pub script_length : (b : List ℕ) → length (script b) ≡ record_count b
unfolding script_by
script_length b = section_length b (script_at b) (record_count b)

pub spelled : (b : List ℕ) (i : ℕ) → i < record_count b → fetch (script b) i ≡ command_of b (record_place (script_at b) i)
unfolding script_by
spelled b = section_spelled b (script_at b) (record_count b)

numbered : (t : ℕ) (r p q : Level) (e : Expression) (k : ℕ) → k < command_count → number (get_or (commands t r p q e) k (act Action.skip)) ≡ k
unfolding commands action_number number listed
numbered t r p q e k h = sym (get_or-map number (commands t r p q e) k (act Action.skip)) ∙ listed_from_zero (λ (n : ℕ). n) 0 command_count k h

pub numbered_at : (b : List ℕ) (vars at : ℕ) → record_rule b vars at ≡ true → number (command_of b at) ≡ byte b at
unfolding command_by
numbered_at b vars at e =
    numbered (byte b (at + 1)) (set_at true b (at + 1)) (set_at true b (at + 5)) (set_at true b (at + 6)) (expression_of b at) (byte b at) (record_in b vars at e).command
