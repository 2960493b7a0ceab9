-- The open parts of a script: what each of the four kinds of records asks of them and makes of them, so that they fall, each begun after the one
-- around it. Assumes nothing.
use mathlib.Core.Path.{◌≡◌, refl, ap, subst}
use mathlib.Core.Logic.{◌⊎◌, inl, inr}
use mathlib.Core.Bool.{Bool, true, false, ◌||◌}
use mathlib.Core.List.{List, [], ◌∷◌, tail}
use Prim.Native.Nat.{ℕ, zero, suc, ◌≤◌, ◌<◌}
use native.Mathlib.Nat.{le-suc, lt-suc_self}
use native.Mathlib.Omega.{arith}
use lib.Dec.{eqb, ltb}
use lib.ListN.{length}
use borrow.Author.Tests.{ne_eqb, eqb-true, eqb-false, lt-ltb, le-ltb}
use Rattle.rules.specs.Limits.{max_depth}
use Rattle.rules.specs.Blocks.{branches, opens, closes, after, parts, head_is_if, placed, block_rule}
use Rattle.rules.proofs.Tests.{Test, holds, fails, test, neither, clash}

-- no if, else, while or end
pub record Plain (k : ℕ) : Type 0 where
  pub not_if : branches k ≡ false
  pub not3 : k ≡ 3 → ⊥
  pub not4 : k ≡ 4 → ⊥
  pub not5 : k ≡ 5 → ⊥

-- the four kinds of records
pub data Kind (k : ℕ) : Type 0 where
  opener : opens k ≡ true → Kind k
  divider : k ≡ 3 → Kind k
  ender : k ≡ 5 → Kind k
  other : Plain k → Kind k

pub kind : (k : ℕ) → Kind k
unfolding opens
kind k = go (test (opens k)) (test (eqb k 3)) (test (eqb k 5))
  where
    go : Test (opens k) → Test (eqb k 3) → Test (eqb k 5) → Kind k
    go (holds e) c d = opener e
    go (fails e) (holds f) d = divider (eqb-true k 3 f)
    go (fails e) (fails f) (holds g) = ender (eqb-true k 5 g)
    go (fails e) (fails f) (fails g) =
        let z = neither (branches k) (eqb k 4) e in
        other (record { not_if = z.0; not3 = eqb-false k 3 f; not4 = eqb-false k 4 z.1; not5 = eqb-false k 5 g })

either : (k a b : ℕ) → (eqb k a || eqb k b) ≡ true → (k ≡ a) ⊎ (k ≡ b)
either k a b e = go (test (eqb k a))
  where
    go : Test (eqb k a) → (k ≡ a) ⊎ (k ≡ b)
    go (holds q) = inl (eqb-true k a q)
    go (fails q) = inr (eqb-true k b (rw q at e))

pub or_true : (a : Bool) → (a || true) ≡ true
or_true true = refl
or_true false = refl

module _ (k : ℕ) where
  pub is_if_law : k ≡ 2 → branches k ≡ true
  unfolding branches
  is_if_law e = rw e

  pub is_back_law : k ≡ 17 → branches k ≡ true
  unfolding branches
  is_back_law e = rw e

  pub if_opens : branches k ≡ true → opens k ≡ true
  unfolding opens
  if_opens e = rw e

  pub while_opens : k ≡ 4 → opens k ≡ true
  unfolding opens
  while_opens e = rw (ap (λ (j : ℕ). eqb j 4) e) (or_true (branches k))

  -- an if is no else, while or end
  pub if_not : (j : ℕ) → branches j ≡ false → branches k ≡ true → k ≡ j → ⊥
  if_not j f e q = clash (subst (λ (i : ℕ). branches i ≡ true) q e) f

  pub if_not_else : branches k ≡ true → k ≡ 3 → ⊥
  unfolding branches
  if_not_else e q = if_not 3 refl e q

  pub if_not_while : branches k ≡ true → k ≡ 4 → ⊥
  unfolding branches
  if_not_while e q = if_not 4 refl e q

  pub else_not_if : k ≡ 3 → branches k ≡ false
  unfolding branches
  else_not_if q = rw q

  pub while_not_if : k ≡ 4 → branches k ≡ false
  unfolding branches
  while_not_if q = rw q

  pub end_not_if : k ≡ 5 → branches k ≡ false
  unfolding branches
  end_not_if q = rw q

  pub else_closes : k ≡ 3 → closes k ≡ true
  unfolding closes
  else_closes e = rw e

  pub end_closes : k ≡ 5 → closes k ≡ true
  unfolding closes
  end_closes e = rw e

  pub opens_either : opens k ≡ true → (branches k ≡ true) ⊎ (k ≡ 4)
  unfolding opens
  opens_either e = go (test (branches k))
    where
      go : Test (branches k) → (branches k ≡ true) ⊎ (k ≡ 4)
      go (holds q) = inl q
      go (fails q) = inr (eqb-true k 4 (rw q at e))

  pub closes_either : closes k ≡ true → (k ≡ 3) ⊎ (k ≡ 5)
  unfolding closes
  closes_either e = either k 3 5 e

  pub opens_closes : opens k ≡ true → closes k ≡ false
  unfolding closes branches
  opens_closes e = go (opens_either e)
    where
      branch : (k ≡ 2) ⊎ (k ≡ 17) → closes k ≡ false
      branch (inl q) = rw q
      branch (inr q) = rw q

      go : (branches k ≡ true) ⊎ (k ≡ 4) → closes k ≡ false
      go (inl q) = branch (either k 2 17 q)
      go (inr q) = rw q

  pub not_else : opens k ≡ true → k ≡ 3 → ⊥
  not_else o e = clash (else_closes e) (opens_closes o)

  pub plain_opens : Plain k → opens k ≡ false
  unfolding opens
  plain_opens p = rw (p.not_if, ne_eqb k 4 p.not4)

  pub plain_closes : Plain k → closes k ≡ false
  unfolding closes
  plain_closes p = rw (ne_eqb k 3 p.not3, ne_eqb k 5 p.not5)

module _ (code : ℕ → ℕ) (k : ℕ) (ps : List ℕ) where
  pub placed_open : opens k ≡ true → placed code k ps ≡ ltb (length ps) max_depth
  unfolding placed
  placed_open e = rw e

  pub placed_else : k ≡ 3 → placed code k ps ≡ head_is_if code ps
  unfolding placed opens branches
  placed_else e = rw e

  pub placed_end : k ≡ 5 → placed code k ps ≡ ltb 0 (length ps)
  unfolding placed opens branches
  placed_end e = rw e

  pub placed_plain : Plain k → placed code k ps ≡ true
  unfolding placed
  placed_plain p = rw (plain_opens k p, ne_eqb k 3 p.not3, ne_eqb k 5 p.not5)

module _ (k i : ℕ) (ps : List ℕ) where
  pub after_open : opens k ≡ true → after k i ps ≡ i ∷ ps
  unfolding after
  after_open e = rw e

  pub after_else : k ≡ 3 → after k i ps ≡ i ∷ tail ps
  unfolding after opens branches
  after_else e = rw e

  pub after_end : k ≡ 5 → after k i ps ≡ tail ps
  unfolding after opens branches
  after_end e = rw e

  pub after_plain : Plain k → after k i ps ≡ ps
  unfolding after
  after_plain p = rw (plain_opens k p, ne_eqb k 3 p.not3, ne_eqb k 5 p.not5)

-- a list that falls, from below a bound, and of each entry and what stands behind it something holds
pub data Falls (P : ℕ → List ℕ → Type 0) : ℕ → List ℕ → Type 0 where
  empty : {i : ℕ} → Falls P i []
  next : {i o : ℕ} {os : List ℕ} → o < i → P o os → Falls P o os → Falls P i (o ∷ os)

module _ {P : ℕ → List ℕ → Type 0} where
  pub raise : {i j : ℕ} {os : List ℕ} → i ≤ j → Falls P i os → Falls P j os
  raise h empty = empty
  raise {j = j} h (next {o = o} l p b) = let m : o < j = omega arith in next m p b

  pub rest : {i : ℕ} {os : List ℕ} → Falls P i os → Falls P i (tail os)
  rest empty = empty
  rest {i} (next {o = o} l p b) = let m : o ≤ i = omega arith in raise m b

  pub first : {i o : ℕ} {os : List ℕ} → Falls P i (o ∷ os) → o < i
  first (next l p b) = l

  pub known : {i o : ℕ} {os : List ℕ} → Falls P i (o ∷ os) → P o os
  known (next l p b) = p

-- a record that begins a part
pub data Begins (k : ℕ) : Type 0 where
  by_if : branches k ≡ true → Begins k
  by_else : k ≡ 3 → Begins k
  by_while : k ≡ 4 → Begins k

pub begins_not : {k : ℕ} → Begins k → k ≡ 5 → ⊥
begins_not {k} (by_if e) q = clash e (end_not_if k q)
begins_not (by_else e) q = omega arith
begins_not (by_while e) q = omega arith

pub opens_begins : (k : ℕ) → opens k ≡ true → Begins k
opens_begins k e = go (opens_either k e)
  where
    go : (branches k ≡ true) ⊎ (k ≡ 4) → Begins k
    go (inl q) = by_if q
    go (inr q) = by_while q

module _ (code : ℕ → ℕ) where
  -- parts that began below i
  abbrev pub Below : ℕ → List ℕ → Type 0
  Below = Falls (λ p ps. Begins (code p))

  falling : (i : ℕ) (ps : List ℕ) → Below i ps → Kind (code i) → Below (suc i) (after (code i) i ps)
  falling i ps b (opener e) = rw (after_open (code i) i ps e) (next (lt-suc_self i) (opens_begins (code i) e) b)
  falling i ps b (divider e) = rw (after_else (code i) i ps e) (next (lt-suc_self i) (by_else e) (rest b))
  falling i ps b (ender e) = rw (after_end (code i) i ps e) (raise (le-suc i) (rest b))
  falling i ps b (other p) = rw (after_plain (code i) i ps p) (raise (le-suc i) b)

  -- the parts that are open at a record began before it, the innermost last
  pub parts_below : (i : ℕ) → Below i (parts code i)
  unfolding parts
  parts_below zero = empty
  parts_below (suc i) = falling i (parts code i) (parts_below i) (kind (code i))

  module _ (i p : ℕ) (ps : List ℕ) (e : parts code i ≡ p ∷ ps) where
    pub before : p < i
    before = first (subst (Below i) e (parts_below i))

    pub begun : Begins (code p)
    begun = known (subst (Below i) e (parts_below i))

  module _ (n i : ℕ) where
    pub rule_inside : i < n → block_rule code n i ≡ placed code (code i) (parts code i)
    unfolding block_rule
    rule_inside h = rw (lt-ltb i n h)

    pub rule_end : n ≤ i → block_rule code n i ≡ eqb (length (parts code i)) 0
    unfolding block_rule
    rule_end h = rw (le-ltb i n h)
