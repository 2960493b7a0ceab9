-- Where the search for a left sibling starts nothing is passed over: no record up to the parent has it, since where the parents are right every record
-- comes after its parent; and the last child is the nearest. What check 6 asks of the left sibling it asks of the parent in any case. Assumes nothing.
use mathlib.Core.Path.{◌≡◌, refl, sym, ap, ◌∙◌}
use mathlib.Core.Bool.{Bool, true, false, ◌&&◌, cond}
use Rattle.std.specs.Prelude.{Option, None, Some}
use Rattle.std.specs.Option.{unwrap_or}
use mathlib.Core.List.{List}
use Prim.Native.Nat.{ℕ, zero, suc, ◌≤◌, ◌<◌}
use native.Mathlib.Omega.{arith}
use lib.Dec.{eqb, ltb}
use lib.ListN.{get_or, set, length-set, get_or-replicate, replicate}
use lib.Seq.{get_or-set_same, get_or-set_other}
use borrow.Author.Tests.{eqb-true, eqb-false, eq-eqb, ne_eqb, le-ltb, ltb-false}
use Rattle.rules.specs.Limits.{max_nodes, no_parent}
use Rattle.rules.specs.Level.{public, not_above}
use Rattle.rules.specs.Check.{parent, existence, structure, parent_rule, nearest, left_rule, child_rule}
use Rattle.rules.proofs.Tests.{Test, holds, fails, test}
use Rattle.rules.proofs.Nearest.{near_below}
use Rattle.rules.proofs.Accepted.{parent_before}
use Rattle.fields.specs.Fits.{label_in, node_in}
use Rattle.fields.specs.Siblings.{Rooted, Lasts, child, behind, left, beside, own_rule}

module _ (b : List ℕ) (base p : ℕ) where
  other : p < max_nodes → (k : ℕ) → k ≤ p → parent_rule b base k ≡ true → parent b base k ≡ p → ⊥
  unfolding parent_rule
  other few zero l h e = let z : parent b base 0 ≡ no_parent = eqb-true _ _ h in omega arith
  other few (suc k) l h e = let z = parent_before b base (suc k) (λ q. omega arith) h in omega arith

  -- no record up to p has the parent p
  pub none_before : p < max_nodes → (k : ℕ) → k ≤ suc p → ((j : ℕ) → j < k → parent_rule b base j ≡ true) → nearest b base p k ≡ None
  unfolding nearest
  none_before few zero l h = refl
  none_before few (suc k) l h =
      rw (ne_eqb (parent b base k) p (other few k (omega arith) (h k (omega arith)))) (none_before few k (omega arith) (λ j m. h j (omega arith)))

  -- what is found has the parent p
  near_parent : (k : ℕ) {j : ℕ} → nearest b base p k ≡ Some j → parent b base j ≡ p
  unfolding nearest
  near_parent zero {j} e = let z : ◌≡◌ {A = ℕ} 0 1 = cc in absurd (omega arith)
  near_parent (suc k) {j} e = go (test (eqb (parent b base k) p)) (near_parent k)
    where
      go : Test (eqb (parent b base k) p) → (nearest b base p k ≡ Some j → parent b base j ≡ p) → parent b base j ≡ p
      go (holds q) r =
          let f : Some k ≡ Some j = rw (q, nearest) at e in
          let z : k ≡ j = cc in ap (parent b base) (sym z) ∙ eqb-true _ _ q
      go (fails q) r = let f : nearest b base p k ≡ Some j = rw (q, nearest) at e in r f

  pub near_here : (k : ℕ) → parent b base k ≡ p → nearest b base p (suc k) ≡ Some k
  unfolding nearest
  near_here k e = rw (eq-eqb (parent b base k) p e)

  pub near_past : (k : ℕ) → (parent b base k ≡ p → ⊥) → nearest b base p (suc k) ≡ nearest b base p k
  unfolding nearest
  near_past k n = rw (ne_eqb (parent b base k) p n)

child_some : (i : ℕ) → (i ≡ 0 → ⊥) → child i ≡ Some i
unfolding child
child_some zero n = absurd (n refl)
child_some (suc i) n = refl

-- before the first node nobody has a child
pub lasts_start : (b : List ℕ) (base : ℕ) → Lasts b base 0 (replicate 512 0)
unfolding nearest child
lasts_start b base = record { size = refl; each = λ p h. sym (ap child (get_or-replicate 512 p 0 0 h)) }

module _ (b : List ℕ) (base i : ℕ) (r : Rooted b base i) (xs : List ℕ) (w : Lasts b base i xs) where
  pub lasts_root : i ≡ 0 → Lasts b base (suc i) xs
  unfolding parent_rule
  lasts_root e =
      record {
        size = w.size;
        each = λ p h. near_past b base p i (λ q. other b base p h i (omega arith) (r.parents i (omega arith)) q) ∙ w.each p h;
      }

  module _ (n : i ≡ 0 → ⊥) where
    pub parent_below : parent b base i < i
    parent_below = parent_before b base i n (r.parents i (omega arith))

    pub lasts_child : Lasts b base (suc i) (set xs (parent b base i) i)
    lasts_child = record { size = simp length-set w.size; each = λ p h. go p h (test (eqb (parent b base i) p)) }
      where
        go : (p : ℕ) → p < max_nodes → Test (eqb (parent b base i) p) → nearest b base p (suc i) ≡ child (get_or (set xs (parent b base i) i) p 0)
        go p h (holds z) =
            let e = eqb-true (parent b base i) p z in
            near_here b base p i e ∙ sym (ap child (rw e (get_or-set_same xs p i 0 (omega (arith, w.size)))) ∙ child_some i n)
        go p h (fails z) =
            let f = eqb-false (parent b base i) p z in
            near_past b base p i f ∙ w.each p h ∙ sym (ap child (get_or-set_other xs (parent b base i) p i 0 (λ q. f (sym q))))

    -- the search starts above the parent, and finds what it would find from node i
    abbrev Right : ℕ → Type 0
    Right k = (parent b base i < k) × (k ≤ i) × (nearest b base (parent b base i) i ≡ nearest b base (parent b base i) k)

    none_yet : (t : Test (ltb 0 (parent b base i))) → behind 0 (parent b base i) ≡ suc (parent b base i)
    unfolding behind
    none_yet (holds z) = rw z
    none_yet (fails z) = let e : parent b base i ≡ 0 = omega (arith, ltb-false 0 (parent b base i) z) in rw (z, e)

    from : (l : ℕ) → nearest b base (parent b base i) i ≡ child l → Right (behind l (parent b base i))
    unfolding child behind
    from zero e =
        rw (none_yet (test (ltb 0 (parent b base i))))
        (omega arith, parent_below, e ∙ sym (none_before b base _ (omega (arith, parent_below, r.few)) _ (omega arith) (λ j l. r.parents j (omega (arith, parent_below)))))
    from (suc j) e =
        let q = near_parent b base _ i e in
        let s = near_below b base _ i e in
        let t : parent b base (suc j) < suc j = parent_before b base (suc j) (λ z. omega arith) (r.parents (suc j) (omega arith)) in
        let u : parent b base i < suc j = rw (← q) t in
        rw (le-ltb (suc j) (parent b base i) (omega arith)) (omega arith, s, e ∙ sym (near_here b base _ (suc j) q))

    pub search_start : {k : ℕ} → k ≡ behind (get_or xs (parent b base i) 0) (parent b base i) → Right k
    search_start e = rw e (from _ (w.each _ (omega (arith, parent_below, r.few))))

module _ (b : List ℕ) (base i : ℕ) where
  pub beside_is : {w : Option ℕ} → left b base i ≡ w → beside b base i ≡ unwrap_or w (parent b base i)
  unfolding beside
  beside_is e = ap (λ w. unwrap_or w (parent b base i)) e

  pub beside_below : (i ≡ 0 → ⊥) → Rooted b base i → beside b base i < i
  beside_below n r = go (left b base i) refl
    where
      go : (w : Option ℕ) → left b base i ≡ w → beside b base i < i
      go None e = rw (beside_is e) (parent_before b base i n (r.parents i (omega arith)))
      go (Some j) e = rw (beside_is e) (near_below b base _ i e)

  -- what check 6 asks by the parent, and by what stands beside node i
  abbrev bounded : Bool
  bounded = not_above (existence b base (parent b base i)) (existence b base i) && not_above (existence b base i) (structure b base (parent b base i))

  pub child_beside : child_rule b base i ≡ (bounded && not_above (existence b base (beside b base i)) (existence b base i))
  unfolding child_rule left_rule beside
  child_beside = go (left b base i)
    where
      again : (p q : Bool) → (p && q && true) ≡ (p && q && p)
      again true true = refl
      again true false = refl
      again false q = refl

      go : (w : Option ℕ) → (bounded && left_rule b base i w) ≡ (bounded && not_above (existence b base (unwrap_or w (parent b base i))) (existence b base i))
      go None = again (not_above (existence b base (parent b base i)) (existence b base i)) (not_above (existence b base i) (structure b base (parent b base i)))
      go (Some j) = refl

-- check 6 by what it asks of a node alone and by its parent and left sibling
parts : (l e r c : Bool) → (l && cond e r c) ≡ ((l && cond e r true) && cond e true c)
parts false e r c = refl
parts true true true c = refl
parts true true false c = refl
parts true false r c = refl

pub rule_parts : (top : ℕ) (b : List ℕ) (base i : ℕ) → node_in top b base i ≡ (own_rule top b base i && cond (eqb i 0) true (child_rule b base i))
unfolding node_in own_rule
rule_parts top b base i = parts (label_in top b base i) (eqb i 0) (not_above (existence b base i) public) (child_rule b base i)
