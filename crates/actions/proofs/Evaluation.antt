-- Values and levels of operands and expressions that the slices show: an operand by its kind, from what the table's node and the variables' slices
-- hold, and an expression by its operator, from its operands. Assumes nothing.
use mathlib.Core.Path.{◌≡◌, refl, sym, ap, ap₂, subst, ◌∙◌}
use mathlib.Core.Bool.{Bool}
use mathlib.Core.List.{List}
use Prim.Native.Nat.{ℕ, zero, suc, ◌<◌, ◌≤◌}
use native.Mathlib.Omega.{arith}
use native.Mathlib.Decide.{ℕ_discrete}
use borrow.Author.Tests.{lt-ltb}
use lib.ListN.{get_or}
use lib.IntN.{ℤ, pos, ◌+ℤ◌, ◌-ℤ◌}
use mir.Syntax.{w32, w64}
use mir.Val.{SFits}
use mir.Facts.{to_z-of_z}
use Rattle.rules.specs.Number.{Value, half_range, signed, Fits, fitting, sum, difference, equal, less, mean}
use Rattle.std.specs.Prelude.{None, Some, IfSome}
use Rattle.rules.specs.Level.{join, not_above, public}
use Rattle.rules.specs.Tree.{sub, label, count, along, child}
use Rattle.rules.specs.Script.{Operand, Operator, Expression, alone, both, apply}
use Rattle.rules.specs.Job.{operand, expression}
use Rattle.rules.specs.Run as Run
use Rattle.rules.specs.Run.{current, operand_value, operand_level, value, level_of, position, flow_of, context_flow}
use Rattle.rules.proofs.Machine.{kept}
use Rattle.rules.proofs.Number.{fitting_in, fitting_fits, equal_fits, less_fits, mean_fits}
use Rattle.table.specs.Cells.{cells}
use Rattle.table.specs.Promises.{Whenever}
use Rattle.fields.specs.Fields.{expression_from}
use Rattle.fields.specs.declared.records.Fields.{Fields}
use Rattle.actions.specs.declared.memory.Memory.{Memory}
use Rattle.actions.specs.declared.evaluate.Valued.{Valued}
use Rattle.actions.specs.declared.evaluate.Found.{Found}
use Rattle.actions.specs.Shows.{Shows, slices, level_in}
use Rattle.actions.specs.Acts.{Operates, Applies, Evaluates}

-- a number that fits comes back from its bits
pub read : {z : ℤ} → Fits z → kept w32 z ≡ z
read h = to_z-of_z {w = w32} (record { sfits = h })

abbrev found : ℤ → ℕ → Found
found v l = record { value = v; level = l }

abbrev valued : Value → ℕ → Valued
valued v l = record { value = v; level = l }

-- what a result stands for fits, if it is a number
may_fit : (r : Value) → ((z : ℤ) → r ≡ Some z → Fits z) → IfSome r Fits
may_fit (Some z) h = h z refl
may_fit None h = tt

-- a small number is below zero for no reading
signed_small : (n : ℕ) → n ≤ 512 → signed n ≡ pos n
unfolding signed
signed_small n h = rw (lt-ltb n half_range (omega arith))

-- ---- operands, by the number of their kind

module _ (k n : ℕ) where
  pub kind_constant : k ≡ 0 → operand k n ≡ Operand.constant (signed n)
  unfolding operand
  kind_constant i = ap (λ j. operand j n) i

  pub kind_variable : k ≡ 1 → operand k n ≡ Operand.variable n
  unfolding operand
  kind_variable i = ap (λ j. operand j n) i

  kind_value : k ≡ 2 → operand k n ≡ Operand.value
  unfolding operand
  kind_value i = ap (λ j. operand j n) i

-- the check of a job leaves no kind above 3
kind_children : (k n : ℕ) → 2 < k → operand k n ≡ Operand.children
unfolding operand
kind_children zero n h = absurd (omega arith)
kind_children (suc zero) n h = absurd (omega arith)
kind_children (suc (suc zero)) n h = absurd (omega arith)
kind_children (suc (suc (suc k))) n h = refl

module _ {words levels : List ℕ} {values : List ℤ} {places vars : ℕ} {m : Memory} where
  pub operates_as : {a a' : Operand} {v : ℤ} {l : ℕ} → a ≡ a' → Operates words levels values places vars m a' (found v l)
      → Operates words levels values places vars m a (found (kept w32 v) l)
  operates_as {a} {a'} {v} {l} i o =
      subst (λ x. Operates words levels values places vars m x (found (kept w32 v) l)) (sym i)
      (subst (λ z. Operates words levels values places vars m a' (found z l)) (sym (read o.fits)) o)

  pub constant : {z v : ℤ} → Fits v → v ≡ z → Operates words levels values places vars m (Operand.constant z) (found v 0)
  unfolding operand_value operand_level public
  constant f e = record { fits = f; value = λ b μ s. sym e; level = λ b μ s. refl }

  pub variable : {n i : ℕ} → i ≡ n → n < vars → Fits (get_or values i (pos 0))
      → Operates words levels values places vars m (Operand.variable n) (found (get_or values i (pos 0)) (get_or levels i 0))
  unfolding operand_value operand_level
  variable {n} {i} j lt f =
      record {
        fits = f;
        value = λ b μ s. s.variables.value n lt ∙ ap (λ x. get_or values x (pos 0)) (sym j);
        level = λ b μ s. s.variables.level n lt ∙ ap (λ x. get_or levels x 0) (sym j);
      }

  -- the working node's
  node_value : {l : ℕ} {v : ℤ} (w c : ℕ) → Fits v → v ≡ signed w → l ≡ join (level_in m) c
      → Whenever (cells words) places m.cursor (λ t p. (label (sub p t)).value ≡ signed w)
      → Whenever (cells words) places m.cursor (λ t p. (label (sub p t)).content ≡ c)
      → Operates words levels values places vars m Operand.value (found v l)
  unfolding operand_value operand_level current
  node_value w c f e g hv hc =
      record {
        fits = f;
        value = λ b μ s. hv m.used m.free μ.tree μ.cursor s.tree ∙ sym e;
        level = λ b μ s. ap₂ join s.level (hc m.used m.free μ.tree μ.cursor s.tree) ∙ sym g;
      }

  node_children : {l : ℕ} {v : ℤ} (w c : ℕ) → Fits v → v ≡ signed w → l ≡ join (level_in m) c
      → Whenever (cells words) places m.cursor (λ t p. (count (along child (sub p t)) ≡ w) × (w ≤ places))
      → Whenever (cells words) places m.cursor (λ t p. (label (sub p t)).structure ≡ c)
      → Operates words levels values places vars m Operand.children (found v l)
  unfolding operand_value operand_level current
  node_children w c f e g hw hc =
      record {
        fits = f;
        value = λ b μ s.
            let h = hw m.used m.free μ.tree μ.cursor s.tree in
            ap pos h.0 ∙ sym (signed_small w (omega (arith, h.1, s.tree.few))) ∙ sym e;
        level = λ b μ s. ap₂ join s.level (hc m.used m.free μ.tree μ.cursor s.tree) ∙ sym g;
      }

  -- what is read of the working node, by its kind
  pub node_read : {k' l : ℕ} {v : ℤ} (k n w c : ℕ) → 1 < k → k ≤ 3 → k' ≡ k → Fits v → v ≡ signed w → l ≡ join (level_in m) c
      → Whenever (cells words) places m.cursor (λ t p. (k' ≡ 2 → (label (sub p t)).value ≡ signed w)
      × (k' ≡ 3 → (count (along child (sub p t)) ≡ w) × (w ≤ places)))
      → Whenever (cells words) places m.cursor (λ t p. (k' ≡ 2 → (label (sub p t)).content ≡ c) × (k' ≡ 3 → (label (sub p t)).structure ≡ c))
      → Operates words levels values places vars m (operand k n) (found v l)
  node_read {k'} {l} {v} k n w c lo hi i f e g hw hc = by (ℕ_discrete k 2)
    where
      by : Dec (k ≡ 2) → Operates words levels values places vars m (operand k n) (found v l)
      by (yes j) =
          subst (λ a. Operates words levels values places vars m a (found v l)) (sym (kind_value k n j))
          (node_value w c f e g (λ u x t p h. (hw u x t p h).0 (i ∙ j)) (λ u x t p h. (hc u x t p h).0 (i ∙ j)))
      by (no j) =
          let three : k ≡ 3 = omega arith in
          subst (λ a. Operates words levels values places vars m a (found v l)) (sym (kind_children k n (omega arith)))
          (node_children w c f e g (λ u x t p h. (hw u x t p h).1 (i ∙ three)) (λ u x t p h. (hc u x t p h).1 (i ∙ three)))

-- ---- operators, by their numbers

module _ (k : ℕ) where
  -- k is the number of o
  abbrev pub Numbers : Operator → Type 0
  Numbers o = (x y : Operand) → expression k x y ≡ both o x y

  pub is_sum : k ≡ 1 → Numbers Operator.sum
  unfolding expression
  is_sum i x y = ap (λ j. expression j x y) i

  pub is_difference : k ≡ 2 → Numbers Operator.difference
  unfolding expression
  is_difference i x y = ap (λ j. expression j x y) i

  pub is_equal : k ≡ 3 → Numbers Operator.equal
  unfolding expression
  is_equal i x y = ap (λ j. expression j x y) i

  pub is_less : k ≡ 4 → Numbers Operator.less
  unfolding expression
  is_less i x y = ap (λ j. expression j x y) i

-- the check of a job leaves no operator above 5
pub is_mean : (k : ℕ) → 4 < k → Numbers k Operator.mean
unfolding expression
is_mean zero h x y = absurd (omega arith)
is_mean (suc zero) h x y = absurd (omega arith)
is_mean (suc (suc zero)) h x y = absurd (omega arith)
is_mean (suc (suc (suc zero))) h x y = absurd (omega arith)
is_mean (suc (suc (suc (suc zero)))) h x y = absurd (omega arith)
is_mean (suc (suc (suc (suc (suc k))))) h x y = refl

-- the function f has what the operator makes of two numbers, exactly
abbrev Exactly : Operator → (ℤ → ℤ → ℤ) → ℤ → ℤ → Type 0
Exactly o f a b = apply o a b ≡ fitting (f a b)

pub exact_sum : (a b : ℤ) → Exactly Operator.sum ◌+ℤ◌ a b
unfolding apply sum
exact_sum a b = refl

pub exact_difference : (a b : ℤ) → Exactly Operator.difference ◌-ℤ◌ a b
unfolding apply difference
exact_difference a b = refl

pub exact_equal : (a b : ℤ) → Exactly Operator.equal equal a b
unfolding apply
exact_equal a b = sym (fitting_in (equal a b) (equal_fits a b))

pub exact_less : (a b : ℤ) → Exactly Operator.less less a b
unfolding apply
exact_less a b = sym (fitting_in (less a b) (less_fits a b))

pub exact_mean : (a b : ℤ) → Fits a × Fits b → Exactly Operator.mean mean a b
unfolding apply
exact_mean a b h = sym (fitting_in (mean a b) (mean_fits (record { sfits = h.0 }) (record { sfits = h.1 })))

-- what a function makes of them, and gives back by its bits
pub applies : {k : ℕ} {a b x : ℤ} (o : Operator) (f : ℤ → ℤ → ℤ) → Numbers k o → SFits w64 a → SFits w64 b → SFits w64 x → Exactly o f a b
    → x ≡ f (kept w64 a) (kept w64 b) → Applies k a b (kept w64 x)
unfolding value
applies o f i ha hb hx g e =
    record {
      is = λ y z μ p q. ap (value μ) (i y z) ∙ ap₂ (apply o) p q ∙ g ∙ ap fitting (sym (to_z-of_z hx ∙ e ∙ ap₂ f (to_z-of_z ha) (to_z-of_z hb)));
    }

-- ---- expressions

-- an expression with two sides reads both
level_both : (k : ℕ) (x y : Operand) (μ : Run.Memory) → (k ≡ 0 → ⊥) → level_of μ (expression k x y) ≡ join (operand_level μ x) (operand_level μ y)
unfolding expression level_of
level_both zero x y μ h = absurd (h refl)
level_both (suc zero) x y μ h = refl
level_both (suc (suc zero)) x y μ h = refl
level_both (suc (suc (suc zero))) x y μ h = refl
level_both (suc (suc (suc (suc zero)))) x y μ h = refl
level_both (suc (suc (suc (suc (suc k))))) x y μ h = refl

module _ {words levels : List ℕ} {values : List ℤ} {places vars : ℕ} {m : Memory} where
  pub one_operand : {r : Found} (f : Fields) → f.operator ≡ 0 → Operates words levels values places vars m (operand f.leftkind f.left) r
      → Evaluates words levels values places vars m (expression_from f) (valued (Some (kept w32 r.value)) r.level)
  unfolding expression_from expression value level_of
  one_operand {r} f i o =
      subst
      (λ k. Evaluates words levels values places vars m (expression k (operand f.leftkind f.left) (operand f.rightkind f.right))
      (valued (Some (kept w32 r.value)) r.level)) (sym i)
      (subst (λ z. Evaluates words levels values places vars m (alone (operand f.leftkind f.left)) (valued (Some z) r.level)) (sym (read o.fits))
      (record { fits = o.fits; value = λ b μ s. ap Some (o.value b μ s); level = o.level }))

  pub two_operands : {p q : Found} {a b z : ℤ} {v : Value} {l : ℕ} (f : Fields) → (f.operator ≡ 0 → ⊥)
      → Operates words levels values places vars m (operand f.leftkind f.left) p
      → Operates words levels values places vars m (operand f.rightkind f.right) q → a ≡ p.value → b ≡ q.value
      → Applies f.operator a b z → v ≡ fitting z → l ≡ join p.level q.level
      → Evaluates words levels values places vars m (expression_from f) (valued v l)
  unfolding expression_from
  two_operands {z = z} {v = v} f i x y p q a n e =
      record {
        fits = may_fit v (λ u j. (fitting_fits z u (sym n ∙ j)).sfits);
        value = λ b μ s. a.is _ _ μ (x.value b μ s ∙ sym p) (y.value b μ s ∙ sym q) ∙ sym n;
        level = λ b μ s. level_both f.operator _ _ μ i ∙ ap₂ join (x.level b μ s) (y.level b μ s) ∙ sym e;
      }

  -- a number that was found comes back from its bits
  pub fits_read : {e : Expression} {r : Valued} {z : ℤ} → Evaluates words levels values places vars m e r → r.value ≡ Some z
      → r.value ≡ Some (kept w32 z)
  fits_read x i = i ∙ ap Some (sym (read (subst (λ o. IfSome o Fits) i x.fits)))

  -- L, from the level that was found
  pub flow_shown : {e : Expression} {r : Valued} (pc : ℕ) → Evaluates words levels values places vars m e r → (b : List ℕ) (μ : Run.Memory)
      → Shows places vars (slices words levels values b) m μ → flow_of pc μ e ≡ join r.level (join pc (level_in m))
  unfolding flow_of position
  flow_shown pc x b μ s = ap₂ join (x.level b μ s) (ap (join pc) s.level)

  -- the rules' test of that level joined with the context alone, against another level
  pub context_test : {e : Expression} {r : Valued} {l k k' : ℕ} {t : Bool} (pc : ℕ) → Evaluates words levels values places vars m e r
      → l ≡ join r.level pc → k' ≡ k → not_above l k ≡ t → (b : List ℕ) (μ : Run.Memory)
      → Shows places vars (slices words levels values b) m μ → not_above (context_flow pc μ e) k' ≡ t
  unfolding context_flow
  context_test pc x flows i h b μ s = ap₂ not_above (ap (λ y. join y pc) (x.level b μ s) ∙ sym flows) i ∙ h
