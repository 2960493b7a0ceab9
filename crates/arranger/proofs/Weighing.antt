-- How many records stand in the subtree of each: counted from the last record on, and looked up from the first one on. Assumes nothing.
use mathlib.Core.Path.{◌≡◌, refl, sym, ap, subst, ◌∙◌}
use mathlib.Core.Bool.{true, false}
use mathlib.Core.List.{List}
use Prim.Native.Nat.{ℕ, zero, suc, ◌+◌, ◌-◌, ◌≤◌, ◌<◌}
use native.Mathlib.Omega.{arith}
use lib.Dec.{eqb}
use lib.ListN.{length, get_or, set, length-set, replicate, get_or-replicate}
use lib.Seq.{get_or-set_same, get_or-set_other}
use borrow.Author.Tests.{eqb-true, eqb-false, ne_eqb}
use Rattle.rules.specs.Limits.{max_nodes}
use Rattle.rules.specs.Tree.{Forest, size}
use Rattle.rules.specs.Check.{parent, parent_rule}
use Rattle.rules.specs.Job.{children_of}
use Rattle.rules.specs.Arrange.{moved}
use Rattle.rules.proofs.Tests.{Test, holds, fails, test}
use Rattle.rules.proofs.Accepted.{parent_before}
use Rattle.rules.proofs.Size.{children_few}
use Rattle.rules.proofs.Moved.{children_mine, children_other, moved_length}
use Rattle.arranger.specs.Arranger.{weight, Weighed}

module _ (b : List ℕ) (base : ℕ) where
  weight_none : (p i : ℕ) → weight b base p 0 i ≡ 1
  unfolding weight size children_of
  weight_none p i = refl

  weight_mine : (p k i : ℕ) → eqb (parent b base i) p ≡ true → weight b base p (suc k) i ≡ weight b base p k (suc i) + weight b base i k (suc i)
  unfolding weight size
  weight_mine p k i e = let z = ap size (children_mine b base p k i e) in omega arith

  weight_other : (p k i : ℕ) → eqb (parent b base i) p ≡ false → weight b base p (suc k) i ≡ weight b base p k (suc i)
  unfolding weight
  weight_other p k i e = ap (λ (f : Forest). suc (size f)) (children_other b base p k i e)

  -- no more than there are records
  pub weight_few : (p k i : ℕ) → p < i → weight b base p k i ≤ suc k
  unfolding weight
  weight_few p k i h = let z = children_few b base p k i h in omega arith

  -- as many as are moved
  pub weight_moved : (p q k i j : ℕ) → weight b base p k i ≡ suc (length (moved b base p q k i j))
  unfolding weight
  weight_moved p q k i j = ap suc (sym (moved_length b base p q k i j))

module _ (b : List ℕ) (base n : ℕ) where
  pub weighed_start : n ≤ max_nodes → Weighed b base n n (replicate 512 1)
  weighed_start few =
      let z : n - n ≡ 0 = omega arith in
      record { size = refl; each = λ q h. get_or-replicate 512 q 1 0 (omega arith) ∙ sym (ap (λ (k : ℕ). weight b base q k n) z ∙ weight_none b base q n) }

  module _ (parents : (i : ℕ) → i < n → parent_rule b base i ≡ true) where
    pub weighed_next : (i : ℕ) (ws : List ℕ) → 1 ≤ i → i < n → n ≤ max_nodes → Weighed b base n (suc i) ws
        → Weighed b base n i (set ws (parent b base i) (get_or ws (parent b base i) 0 + get_or ws i 0))
    weighed_next i ws o h few w = record { size = length-set ws _ _ ∙ w.size; each = λ q l. by q l (test (eqb (parent b base i) q)) }
      where
        below : parent b base i < i
        below = parent_before b base i (λ e. omega arith) (parents i h)

        more : n - i ≡ suc (n - suc i)
        more = omega arith

        by : (q : ℕ) → q < n → Test (eqb (parent b base i) q)
            → get_or (set ws (parent b base i) (get_or ws (parent b base i) 0 + get_or ws i 0)) q 0 ≡ weight b base q (n - i) i
        by q l (holds t) =
            let e = eqb-true (parent b base i) q t in
            let s = w.size in
            let x = w.each q l in
            let y = w.each i h in
            rw (more, e) (get_or-set_same ws q _ 0 (omega arith) ∙ (let z = weight_mine b base q (n - suc i) i t in omega arith))
        by q l (fails t) =
            get_or-set_other ws (parent b base i) q _ 0 (λ e. eqb-false (parent b base i) q t (sym e))
            ∙ w.each q l ∙ rw more (sym (weight_other b base q (n - suc i) i t))

    -- no record up to q stands below it
    late : (d q : ℕ) → d ≤ q → q < n → weight b base q (n - (suc q - d)) (suc q - d) ≡ weight b base q (n - suc q) (suc q)
    late zero q h l = let z : suc q - 0 ≡ suc q = omega arith in rw z
    late (suc d) q h l =
        let z : n - (suc q - suc d) ≡ suc (n - (suc q - d)) = omega arith in
        let y : suc (suc q - suc d) ≡ suc q - d = omega arith in
        let p = parent_before b base (suc q - suc d) (λ e. omega arith) (parents (suc q - suc d) (omega arith)) in
        ap (λ (k : ℕ). weight b base q k (suc q - suc d)) z
        ∙ weight_other b base q (n - (suc q - d)) (suc q - suc d) (ne_eqb _ q (λ e. omega arith))
        ∙ ap (weight b base q (n - (suc q - d))) y ∙ late d q (omega arith) l

    pub weight_late : (q : ℕ) → q < n → weight b base q (n - 1) 1 ≡ weight b base q (n - suc q) (suc q)
    weight_late q l = let z : suc q - q ≡ 1 = omega arith in subst (λ i. weight b base q (n - i) i ≡ weight b base q (n - suc q) (suc q)) z (late q q (omega arith) l)
