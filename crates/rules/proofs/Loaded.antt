-- The tree of node records that pass the checks 5 and 6 keeps the tree rules: the children of each record are bounded below by the nearest
-- earlier record with the same parent, or by the parent. And the other way: where the parents are right and the tree keeps the rules, every record passes
-- check 6. Assumes nothing.
use mathlib.Core.Path.{◌≡◌, refl, ap}
use Prim.Native.Nat.{ℕ, zero, suc, ◌+◌, ◌-◌, ◌≤◌, ◌<◌}
use native.Mathlib.Omega.{arith}
use native.Mathlib.Decide.{ℕ_discrete}
use mathlib.Core.Bool.{true, false}
use Rattle.std.specs.Prelude.{Option, None, Some}
use mathlib.Core.List.{List}
use lib.Dec.{eqb, eqb-suc-zero}
use borrow.Author.Tests.{eqb-true, ltb-true, eq-eqb, ne_eqb}
use Rattle.rules.specs.Level.{Level, not_above, is_level}
use Rattle.rules.specs.Tree.{Levels, Fit, Fits, TreeRules}
use Rattle.rules.specs.Check.{parent, existence, content, structure, parent_rule, label_rule, nearest, left_rule, child_rule, node_rule}
use Rattle.rules.specs.Job.{label_of, children_of, tree_of, Variable, all_levels, listed}
use Rattle.rules.proofs.Tests.{Test, holds, fails, test, both, joined}
use Rattle.rules.proofs.Lattice.{na_public, na_refl, na_trans}
use Rattle.rules.proofs.Accepted.{parent_before}

module _ (b : List ℕ) (base n : ℕ) (few : n ≤ 512) (parents : (i : ℕ) → i < n → parent_rule b base i ≡ true) where
  -- the existence of the record found to the left, or of the parent p where there is none
  left_of : ℕ → Option ℕ → Level
  left_of p None = existence b base p
  left_of p (Some j) = existence b base j

  low_at : ℕ → ℕ → Level
  low_at p i = left_of p (nearest b base p i)

  -- no record up to i has the parent i
  not_parent : (j i : ℕ) → j ≤ i → i < n → eqb (parent b base j) i ≡ false
  unfolding parent_rule
  not_parent zero i a h = let e = eqb-true (parent b base 0) 65535 (parents 0 (omega arith)) in ne_eqb _ i (λ q. omega arith)
  not_parent (suc j) i a h = let e = ltb-true (parent b base (suc j)) (suc j) (rw (eqb-suc-zero j) at (parents (suc j) (omega arith))) in ne_eqb _ i (λ q. omega arith)

  none_left : (i k : ℕ) → k ≤ suc i → i < n → nearest b base i k ≡ None
  unfolding nearest
  none_left i zero a h = refl
  none_left i (suc k) a h = rw (not_parent k i (omega arith) h) (none_left i k (omega arith) h)

  low_first : (i : ℕ) → i < n → low_at i (suc i) ≡ existence b base i
  unfolding low_at left_of
  low_first i h = ap (left_of i) (none_left i (suc i) (omega arith) h)

  low_child : (p i : ℕ) → eqb (parent b base i) p ≡ true → low_at p (suc i) ≡ existence b base i
  unfolding low_at left_of nearest
  low_child p i e = rw e

  low_other : (p i : ℕ) → eqb (parent b base i) p ≡ false → low_at p (suc i) ≡ low_at p i
  unfolding low_at left_of nearest
  low_other p i e = rw e

  -- the rules for those of the k records from i on that have the parent p
  Siblings : ℕ → ℕ → ℕ → Type 0
  Siblings k i p = Fits (low_at p i) (structure b base p) (children_of b base p k i)

  module _ (rules : (i : ℕ) → i < n → node_rule b base i ≡ true) where
    record Label-fits (i : ℕ) : Type 0 where
      levels : Levels (label_of b base i)
      content : not_above (existence b base i) (content b base i) ≡ true
      structure : not_above (existence b base i) (structure b base i) ≡ true

    label_fits_law : (i : ℕ) → label_rule b base i ≡ true → Label-fits i
    unfolding label_rule label_of
    label_fits_law i e =
        let x4 = both _ _ e in
        let x3 = both _ _ x4.0 in
        let x2 = both _ _ x3.0 in
        let x1 = both _ _ x2.0 in
        record { levels = record { existence = x1.0; content = x1.1; structure = x2.1 }; content = x3.1; structure = x4.1 }

    above_left : (i p : ℕ) (w : Option ℕ) → not_above (existence b base p) (existence b base i) ≡ true → left_rule b base i w ≡ true
        → not_above (left_of p w) (existence b base i) ≡ true
    unfolding left_rule left_of
    above_left i p None h k = h
    above_left i p (Some j) h k = k

    fit_child : (i p : ℕ) → 1 ≤ i → i < n → parent b base i ≡ p → Fit (low_at p i) (structure b base p) (label_of b base i)
    unfolding node_rule child_rule low_at label_of
    fit_child zero p o a e = absurd (omega arith)
    fit_child (suc i) p o a e =
        let x = both _ _ (rules (suc i) a) in
        let l = label_fits_law (suc i) x.0 in
        let y = both _ _ (rw (eqb-suc-zero i, e) at x.1) in
        let z = both _ _ y.0 in
        record {
          levels = l.levels;
          above = above_left (suc i) p _ z.0 y.1;
          under = z.1;
          content = l.content;
          structure = l.structure;
        }

    siblings : (k i p : ℕ) → 1 ≤ i → i + k ≤ n → Siblings k i p
    unfolding Siblings children_of label_of
    siblings zero i p o a = tt
    siblings (suc k) i p o a =
        pick (test (eqb (parent b base i) p)) (siblings k (suc i) i (omega arith) (omega arith)) (siblings k (suc i) p (omega arith) (omega arith))
      where
        pick : Test (eqb (parent b base i) p) → Siblings k (suc i) i → Siblings k (suc i) p → Siblings (suc k) i p
        pick (holds e) c r =
            rw (e, children_of)
            (fit_child i p o (omega arith) (eqb-true _ p e), rw (low_first i (omega arith)) at c, rw (low_child p i e) at r)
        pick (fails e) c r = rw (e, children_of) (rw (low_other p i e) at r)

    pub tree_rules : 1 ≤ n → TreeRules (tree_of b base n)
    unfolding tree_of node_rule Siblings label_of
    tree_rules o =
        let x = both _ _ (rules 0 (omega arith)) in
        let l = label_fits_law 0 x.0 in (
          record { levels = l.levels; above = na_public _; under = x.1; content = l.content; structure = l.structure },
          rw (low_first 0 (omega arith)) at (siblings (n - 1) 1 0 (omega arith) (omega arith)),
          tt,
        )

  -- the other way: where the tree keeps the rules, each record passes check 6
  label_rule_law : (i : ℕ) {lo hi : Level} → Fit lo hi (label_of b base i) → label_rule b base i ≡ true
  unfolding label_rule label_of
  label_rule_law i f = joined (joined (joined (joined f.levels.existence f.levels.content) f.levels.structure) f.content) f.structure

  left_rule_law : (i p : ℕ) (w : Option ℕ) → not_above (left_of p w) (existence b base i) ≡ true → left_rule b base i w ≡ true
  unfolding left_rule left_of
  left_rule_law i p None h = refl
  left_rule_law i p (Some j) h = h

  -- the rules for a record with the parent p, its children and its right siblings
  record Head (k i p : ℕ) : Type 0 where
    fit : Fit (low_at p i) (structure b base p) (label_of b base i)
    children : Siblings k (suc i) i
    others : Siblings k (suc i) p

  head : (k i p : ℕ) → i < n → eqb (parent b base i) p ≡ true → Siblings (suc k) i p → Head k i p
  unfolding Siblings children_of label_of
  head k i p h e s =
      let z = rw (e, children_of) at s in
      record { fit = z.0; children = rw (low_first i h) z.1; others = rw (low_child p i e) z.2 }

  past : (k i q : ℕ) → eqb (parent b base i) q ≡ false → Siblings (suc k) i q → Siblings k (suc i) q
  unfolding Siblings children_of
  past k i q e s = rw (low_other q i e) (rw (e, children_of) at s)

  -- what is known in front of record i
  record Front (k i : ℕ) : Type 0 where
    low : (q : ℕ) → q < i → not_above (existence b base q) (low_at q i) ≡ true
    fits : (q : ℕ) → q < i → Siblings k i q

  child_rule_law : (k i : ℕ) → 1 ≤ i → i < n → parent b base i < i → Front (suc k) i → node_rule b base i ≡ true
  unfolding node_rule child_rule low_at label_of
  child_rule_law k i o h a s =
      let p = parent b base i in
      let w = head k i p h (eq-eqb p p refl) (s.fits p a) in
      joined (label_rule_law i w.fit)
      (rw (ne_eqb i 0 (λ (e : i ≡ 0). omega arith))
      (joined (joined (na_trans _ _ _ (s.low p a) w.fit.above) w.fit.under) (left_rule_law i p _ w.fit.above)))

  onward : (k i : ℕ) → i < n → parent b base i < i → Front (suc k) i → Front k (suc i)
  unfolding label_of
  onward k i h a s = record { low = λ q l. low q l (ℕ_discrete q i) (test _); fits = λ q l. fits q l (ℕ_discrete q i) (test _) }
    where
      w : Head k i (parent b base i)
      w = head k i (parent b base i) h (eq-eqb (parent b base i) (parent b base i) refl) (s.fits (parent b base i) a)

      low : (q : ℕ) → q < suc i → Dec (q ≡ i) → Test (eqb (parent b base i) q) → not_above (existence b base q) (low_at q (suc i)) ≡ true
      low q l (yes e) t = rw (e, low_first i h) (na_refl _)
      low q l (no e) (holds t) =
          rw (low_child q i t) (na_trans _ _ _ (s.low q (omega arith)) (head k i q h t (s.fits q (omega arith))).fit.above)
      low q l (no e) (fails t) = rw (low_other q i t) (s.low q (omega arith))

      fits : (q : ℕ) → q < suc i → Dec (q ≡ i) → Test (eqb (parent b base i) q) → Siblings k (suc i) q
      fits q l (yes e) t = rw e w.children
      fits q l (no e) (holds t) = (head k i q h t (s.fits q (omega arith))).others
      fits q l (no e) (fails t) = past k i q t (s.fits q (omega arith))

  all_after : (k i : ℕ) → 1 ≤ i → i + k ≡ n → Front k i → (j : ℕ) → i ≤ j → j < n → node_rule b base j ≡ true
  all_after zero i o z s j a c = absurd (omega arith)
  all_after (suc k) i o z s j a c = by (ℕ_discrete i j) (all_after k (suc i) (omega arith) (omega arith) (onward k i (omega arith) below s) j)
    where
      below : parent b base i < i
      below = parent_before b base i (λ (e : i ≡ 0). omega arith) (parents i (omega arith))

      by : Dec (i ≡ j) → (suc i ≤ j → j < n → node_rule b base j ≡ true) → node_rule b base j ≡ true
      by (yes e) r = rw (← e) (child_rule_law k i o (omega arith) below s)
      by (no e) r = r (omega arith) c

  pub node_rules : 1 ≤ n → TreeRules (tree_of b base n) → (i : ℕ) → i < n → node_rule b base i ≡ true
  unfolding tree_of node_rule Siblings label_of
  node_rules o t zero h = joined (label_rule_law 0 t.0) t.0.under
  node_rules o t (suc i) h =
      all_after (n - 1) 1 (omega arith) (omega arith)
      (record {
        low = λ q l. let z : q ≡ 0 = omega arith in rw (z, low_first 0 (omega arith)) (na_refl _);
        fits = λ q l. let z : q ≡ 0 = omega arith in rw (z, low_first 0 (omega arith)) t.1;
      }) (suc i) (omega arith) h

-- the levels of variable records that pass check 4 are levels
pub all_levels_law : (f : ℕ → Variable) (n i : ℕ) → ((k : ℕ) → i ≤ k → k < i + n → is_level (f k).level ≡ true) → all_levels (listed f n i) ≡ true
unfolding listed all_levels
all_levels_law f zero i h = refl
all_levels_law f (suc n) i h = rw (h i (omega arith) (omega arith)) (all_levels_law f n (suc i) (λ k a c. h k (omega arith) (omega arith)))
