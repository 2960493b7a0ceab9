-- The array of open parts: a store at the depth begins a part, one at the last entry ends a part and begins another, a smaller depth ends one.
-- Assumes nothing.
use mathlib.Core.Path.{◌≡◌, refl, sym, ap, ◌∙◌}
use mathlib.Core.Logic.{◌⊎◌, inl, inr}
use mathlib.Core.Bool.{true}
use mathlib.Core.List.{List, [], ◌∷◌, tail}
use Prim.Native.Nat.{ℕ, zero, suc, ◌+◌, ◌-◌, ◌≤◌, ◌<◌}
use native.Mathlib.Omega.{arith}
use lib.ListN.{length, get_or, set, length-set}
use lib.Seq.{get_or-set_same, get_or-set_other}
use borrow.Author.Tests.{ltb-true, ne_eqb}
use Rattle.rules.specs.Limits.{max_depth}
use Rattle.rules.specs.Blocks.{branches, opens, head_is_if, placed}
use Rattle.rules.proofs.Tests.{clash}
use Rattle.rules.proofs.Parts.{Plain, is_if_law, is_back_law, if_opens, while_opens, placed_open, placed_else, placed_end}
use Rattle.job.specs.Parts.{stack, Spells}

-- the four kinds of a command that was read as r
module _ {r k : ℕ} (e : r ≡ k) where
  pub opening : (r ≡ 2) ⊎ (r ≡ 4) ⊎ (r ≡ 17) → opens k ≡ true
  opening (inl q) = if_opens k (is_if_law k (sym e ∙ q))
  opening (inr (inl q)) = while_opens k (sym e ∙ q)
  opening (inr (inr q)) = if_opens k (is_back_law k (sym e ∙ q))

  pub plain : ((r ≡ 2) ⊎ (r ≡ 4) ⊎ (r ≡ 17) → ⊥) → (r ≡ 3 → ⊥) → (r ≡ 5 → ⊥) → Plain k
  unfolding branches
  plain none n3 n5 =
      record {
        not_if = rw (ne_eqb k 2 (λ q. none (inl (e ∙ q))), ne_eqb k 17 (λ q. none (inr (inr (e ∙ q)))));
        not3 = λ q. n3 (e ∙ q);
        not4 = λ q. none (inr (inl (e ∙ q)));
        not5 = λ q. n5 (e ∙ q);
      }

stack_length : (xs : List ℕ) (d : ℕ) → length (stack xs d) ≡ d
unfolding stack
stack_length xs zero = refl
stack_length xs (suc d) = ap suc (stack_length xs d)

-- a store at or above the depth
stack_set : (xs : List ℕ) (d e v : ℕ) → d ≤ e → stack (set xs e v) d ≡ stack xs d
unfolding stack
stack_set xs zero e v h = refl
stack_set xs (suc d) e v h = rw (get_or-set_other xs e d v 0 (λ q. omega arith), stack_set xs d e v (omega arith))

stack_push : (xs : List ℕ) (d v : ℕ) → d < length xs → stack (set xs d v) (suc d) ≡ v ∷ stack xs d
unfolding stack
stack_push xs d v h = rw (get_or-set_same xs d v 0 h, stack_set xs d d v (omega arith))

module _ (xs : List ℕ) (d : ℕ) (ps : List ℕ) (s : Spells xs d ps) where
  pub depth : length ps ≡ d
  depth = ap (λ (qs : List ℕ). length qs) (sym s.same) ∙ stack_length xs d

  pub top : (d ≡ 0 → ⊥) → ps ≡ get_or xs (d - 1) 0 ∷ stack xs (d - 1)
  unfolding stack
  top n = sym s.same ∙ ap (stack xs) {x = d} {y = suc (d - 1)} (omega arith)

  pub bottom : d ≡ 0 → ps ≡ []
  unfolding stack
  bottom e = sym s.same ∙ ap (stack xs) e

  -- a record that passes check 8: an opening finds room, an else finds a part that an if began, an end finds a part
  module _ (code : ℕ → ℕ) (k : ℕ) (f : placed code k ps ≡ true) where
    pub room : opens k ≡ true → d < max_depth
    room e = let h : length ps < max_depth = ltb-true _ _ (sym (placed_open code k ps e) ∙ f) in omega (arith, depth)

    pub some_else : k ≡ 3 → d ≡ 0 → ⊥
    unfolding head_is_if
    some_else e z = clash (sym (placed_else code k ps e) ∙ f) (ap (head_is_if code) (bottom z))

    pub by_if_law : k ≡ 3 → branches (code (get_or xs (d - 1) 0)) ≡ true
    unfolding head_is_if
    by_if_law e = sym (ap (head_is_if code) (top (some_else e))) ∙ sym (placed_else code k ps e) ∙ f

    pub some_end : k ≡ 5 → d ≡ 0 → ⊥
    some_end e z = let h : 0 < length ps = ltb-true _ _ (sym (placed_end code k ps e) ∙ f) in omega (arith, depth)

  -- what the stores make of the parts
  module _ (v : ℕ) where
    pub push : d < max_depth → Spells (set xs d v) (d + 1) (v ∷ ps)
    push h =
        record {
          size = simp length-set s.size;
          deep = omega arith;
          same = ap (stack (set xs d v)) {x = d + 1} {y = suc d} (omega arith) ∙ stack_push _ _ v (omega (arith, s.size)) ∙ ap (◌∷◌ v) s.same;
        }

    pub replace : (d ≡ 0 → ⊥) → Spells (set xs (d - 1) v) d (v ∷ tail ps)
    replace n =
        record {
          size = simp length-set s.size;
          deep = s.deep;
          same =
              ap (stack (set xs (d - 1) v)) {x = d} {y = suc (d - 1)} (omega (arith, s.deep))
              ∙ stack_push _ _ v (omega (arith, s.deep, s.size)) ∙ ap (λ (qs : List ℕ). v ∷ tail qs) (sym (top n));
        }

  pub pop : (d ≡ 0 → ⊥) → Spells xs (d - 1) (tail ps)
  pop n = record { size = s.size; deep = omega (arith, s.deep); same = ap tail (sym (top n)) }
