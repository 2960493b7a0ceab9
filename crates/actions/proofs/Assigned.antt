-- Variables after a store, and what commands 1 and 6 do: the rules' tests come out as those of the levels found, the value is the one found, and a store
-- at one index leaves the other indices alone. Assumes nothing.
use mathlib.Core.Path.{◌≡◌, refl, sym, ap, ◌∙◌}
use mathlib.Core.Bool.{true, false}
use mathlib.Core.List.{List}
use Prim.Native.Nat.{ℕ, ◌+◌, ◌*◌, ◌<◌, ◌≤◌}
use native.Mathlib.Omega.{arith}
use native.Mathlib.Decide.{ℕ_discrete}
use borrow.Author.Tests.{lt-ltb, le-ltb}
use lib.ListN.{length, get_or, set, length-set}
use lib.Seq.{get_or-set_same, get_or-set_other}
use lib.IntN.{ℤ, pos}
use Rattle.rules.specs.Level.{join, not_above}
use Rattle.std.specs.Prelude.{None, Some}
use Rattle.rules.specs.Script.{Expression}
use Rattle.rules.specs.Job.{Variable}
use Rattle.rules.specs.Run as Run
use Rattle.rules.specs.Run.{flow, boardFull, no_variable, variable_at, with_variables, with_line}
use Rattle.actions.specs.declared.memory.Memory.{Memory}
use Rattle.actions.specs.declared.evaluate.Valued.{Valued}
use Rattle.actions.specs.Board.{capacity, replaced}
use Rattle.actions.specs.declared.control.Running.{Running}
use Rattle.actions.specs.declared.control.Stepped.{Stepped}
use Rattle.actions.specs.Shows.{Shows, Variables, slices}
use Rattle.actions.specs.Stands.{stepped, went}
use Rattle.actions.specs.Acts.{Evaluates, Acts}
use Rattle.actions.proofs.Board.{lines_many, replaced_long, replaced_rest, lines_on}
use Rattle.actions.proofs.Doing.{flow_number, board_full_number, overflow_number, does_next, passes, refuses, given_passes, given_stops, goes, stays}
use Rattle.actions.proofs.Evaluation.{context_test}

-- a new value for the variable of index i, stored at j
variables_set : {levels : List ℕ} {values : List ℤ} {n i j : ℕ} {vs : List Variable} (u : ℤ) → Variables levels values n vs → i < n → j ≡ i
    → n ≤ length values → Variables levels (set values j u) n (set vs i (record { level = (variable_at vs i).level; value = u }))
unfolding variable_at
variables_set {levels} {values} {n} {i} {j} {vs} u h lt at long =
    record { many = length-set vs i new ∙ h.many; level = λ k b. level_at_law k b (ℕ_discrete k i); value = λ k b. value_at k b (ℕ_discrete k i) }
  where
    new : Variable
    new = record { level = (get_or vs i no_variable).level; value = u }

    here : get_or (set vs i new) i no_variable ≡ new
    here = get_or-set_same vs i new no_variable (omega (arith, h.many))

    level_at_law : (k : ℕ) → k < n → Dec (k ≡ i) → (get_or (set vs i new) k no_variable).level ≡ get_or levels k 0
    level_at_law k b (yes p) = rw p (ap (λ x. x.level) here ∙ h.level i lt)
    level_at_law k b (no p) = ap (λ x. x.level) (get_or-set_other vs i k new no_variable p) ∙ h.level k b

    value_at : (k : ℕ) → k < n → Dec (k ≡ i) → (get_or (set vs i new) k no_variable).value ≡ get_or (set values j u) k (pos 0)
    value_at k b (yes p) = rw (p, at) (ap (λ x. x.value) here ∙ sym (get_or-set_same values i u (pos 0) (omega arith)))
    value_at k b (no p) =
        ap (λ x. x.value) (get_or-set_other vs i k new no_variable p) ∙ h.value k b ∙ sym (get_or-set_other values j k u (pos 0) (λ q. p (q ∙ at)))

-- the memory with another number of lines
abbrev with_lines : Memory → ℕ → Memory
with_lines m n = record { cursor = m.cursor; level = m.level; lines = n; free = m.free; used = m.used }

-- v is the value and the level of the expression e, and l is that level joined with the context
module _ {words levels : List ℕ} {values : List ℤ} {places vars l : ℕ} (r : Running) {e : Expression} {v : Valued} (pc : ℕ)
    (x : Evaluates words levels values places vars r.memory e v) (inside : r.memory.cursor < places)
    (flows : l ≡ join v.level pc) (b : List ℕ) where
  -- command 1, at the index i
  module _ {i j : ℕ} (lt : i < vars) (at : j ≡ i) where
    level_at_law : {μ : Run.Memory} → Shows places vars (slices words levels values b) r.memory μ → (variable_at μ.variables i).level ≡ get_or levels j 0
    level_at_law s = s.variables.level i lt ∙ ap (λ k. get_or levels k 0) (sym at)

    pub no_assign : {a : Stepped} → not_above l (get_or levels j 0) ≡ false → a ≡ stepped 21 r
        → Acts places vars (slices words levels values b) (slices words levels values b) r a (λ μ. Run.assign pc μ i (variable_at μ.variables i) e)
    unfolding Run.assign
    no_assign h is = stays inside is (λ z. omega arith) (λ μ s. refuses flow _ (context_test pc x flows (level_at_law s) h b μ s) flow_number s)

    pub over_assign : {a : Stepped} → v.value ≡ None → not_above l (get_or levels j 0) ≡ true → a ≡ stepped 27 r
        → Acts places vars (slices words levels values b) (slices words levels values b) r a (λ μ. Run.assign pc μ i (variable_at μ.variables i) e)
    unfolding Run.assign
    over_assign none h is =
        stays inside is (λ z. omega arith)
        (λ μ s. passes flow (context_test pc x flows (level_at_law s) h b μ s) (given_stops _ (x.value b μ s ∙ none) overflow_number s))

    pub did_assign : {a : Stepped} → (u : ℤ) → v.value ≡ Some u → vars ≤ length values → not_above l (get_or levels j 0) ≡ true → a ≡ went r r.memory
        → Acts places vars (slices words levels values b) (slices words levels (set values j u) b) r a
        (λ μ. Run.assign pc μ i (variable_at μ.variables i) e)
    unfolding Run.assign with_variables
    did_assign u has long h is =
        goes r.memory is inside (λ fits. fits)
        (record { grown = omega arith; cells = record { same = λ y h. refl }; values = λ n k. get_or-set_other values j n u (pos 0) (λ p. omega arith); board = refl }) refl refl refl
        (λ μ s.
        passes flow (context_test pc x flows (level_at_law s) h b μ s)
        (given_passes _ (x.value b μ s ∙ has)
        (does_next _ refl (record { tree = s.tree; level = s.level; variables = variables_set u s.variables lt at long; lines = s.lines }))))

  -- command 6
  pub no_output : (d : ℕ) {a : Stepped} → not_above l d ≡ false → a ≡ stepped 21 r
      → Acts places vars (slices words levels values b) (slices words levels values b) r a (λ μ. Run.output pc μ (capacity b) d e)
  unfolding Run.output
  no_output d h is = stays inside is (λ z. omega arith) (λ μ s. refuses flow _ (context_test pc x flows refl h b μ s) flow_number s)

  pub over_output : (d : ℕ) {a : Stepped} → v.value ≡ None → not_above l d ≡ true → a ≡ stepped 27 r
      → Acts places vars (slices words levels values b) (slices words levels values b) r a (λ μ. Run.output pc μ (capacity b) d e)
  unfolding Run.output
  over_output d none h is =
      stays inside is (λ z. omega arith)
      (λ μ s. passes flow (context_test pc x flows refl h b μ s) (given_stops _ (x.value b μ s ∙ none) overflow_number s))

  pub full_output : (d : ℕ) {a : Stepped} → (u : ℤ) → v.value ≡ Some u → not_above l d ≡ true → capacity b ≤ r.memory.lines → a ≡ stepped 24 r
      → Acts places vars (slices words levels values b) (slices words levels values b) r a (λ μ. Run.output pc μ (capacity b) d e)
  unfolding Run.output
  full_output d u has h full is =
      stays inside is (λ z. omega arith) (λ μ s.
      passes flow (context_test pc x flows refl h b μ s)
      (given_passes _ (x.value b μ s ∙ has)
      (refuses boardFull _ (le-ltb (length μ.lines) (capacity b) (omega (arith, lines_many s.lines))) board_full_number s)))

  pub did_output : (d : ℕ) {a : Stepped} → (u : ℤ) → v.value ≡ Some u → not_above l d ≡ true → r.memory.lines < capacity b → (b' : List ℕ)
      → b' ≡ replaced b r.memory.lines (record { number = u; readers = d }) → a ≡ went r (with_lines r.memory (r.memory.lines + 1))
      → Acts places vars (slices words levels values b) (slices words levels values b') r a (λ μ. Run.output pc μ (capacity b) d e)
  unfolding Run.output with_line
  did_output d u has h lt b' put is =
      let new : Run.Line = record { number = u; readers = d } in
      let room : 5 * r.memory.lines + 5 ≤ length b = omega arith in
      rw put
      (goes (with_lines r.memory (r.memory.lines + 1)) is inside (λ fits. omega (arith, replaced_long b r.memory.lines new room))
      (record { grown = omega arith; cells = record { same = λ y h. refl }; values = λ j k. refl; board = replaced_rest b r.memory.lines new room }) refl refl refl
      (λ μ s.
      passes flow (context_test pc x flows refl h b μ s)
      (given_passes _ (x.value b μ s ∙ has)
      (passes boardFull (lt-ltb (length μ.lines) (capacity b) (omega (arith, lines_many s.lines)))
      (does_next _ refl
      (record {
        tree = s.tree;
        level = s.level;
        variables = s.variables;
        lines = lines_on b r.memory.lines new room _ s.lines;
      }))))))
