-- How often a place stands in a forest, and sums of such numbers. A place counts 1 where it meets itself and 0 elsewhere, so the sum over all
-- places below a bound is the number of nodes. Assumes nothing.
use mathlib.Core.Path.{◌≡◌, refl, ap, subst}
use Prim.Native.Nat.{ℕ, zero, suc, ◌+◌, ◌<◌, ◌≤◌}
use native.Mathlib.Omega.{arith}
use native.Mathlib.Nat.{le_refl}
use native.Mathlib.Decide.{ℕ_discrete}
use borrow.Author.Tests.{eq-eqb, ne_eqb}
use Rattle.rules.specs.Tree.{count, size}
use Rattle.table.specs.Cells.{Table, gone}
use Rattle.table.specs.Holds.{Placed, empty, node, erase, Stored, Spare, end, more, Linked, Free, one, hit, times, spare_times}

pub hit_same : (x : ℕ) → hit x x ≡ 1
unfolding hit
hit_same x = ap one (eq-eqb x x refl)

pub hit_other : (x y : ℕ) → (x ≡ y → ⊥) → hit x y ≡ 0
unfolding hit
hit_other x y h = ap one (ne_eqb x y h)

-- what stands in one part and in another, which share no place, is not the same
pub differ : (A B : ℕ → ℕ) → ((y : ℕ) → A y + B y ≤ 1) → {x y : ℕ} → 0 < A x → 0 < B y → x ≡ y → ⊥
differ A B once {x} {y} p q e = omega (arith, once y, subst (λ z. 0 < A z) e p)

-- sums of f over the numbers below n
abbrev pub sum_to : ℕ → (ℕ → ℕ) → ℕ
sum_to zero f = 0
sum_to (suc n) f = f n + sum_to n f

pub sum_ext : (n : ℕ) (f g : ℕ → ℕ) → ((i : ℕ) → i < n → g i ≡ f i) → sum_to n g ≡ sum_to n f
sum_ext zero f g h = refl
sum_ext (suc n) f g h = omega (arith, h n (le_refl (suc n)), sum_ext n f g (λ i q. h i (omega arith)))

pub sum_zero : (n : ℕ) → sum_to n (λ _. 0) ≡ 0
sum_zero zero = refl
sum_zero (suc n) = omega (arith, sum_zero n)

sum_one : (n : ℕ) → sum_to n (λ _. 1) ≡ n
sum_one zero = refl
sum_one (suc n) = omega (arith, sum_one n)

pub sum_add : (n : ℕ) (f g : ℕ → ℕ) → sum_to n (λ i. f i + g i) ≡ sum_to n f + sum_to n g
sum_add zero f g = refl
sum_add (suc n) f g = omega (arith, sum_add n f g)

-- one term is more by a
pub sum_spike : (n p a : ℕ) (f g : ℕ → ℕ) → p < n → g p ≡ a + f p → ((i : ℕ) → (i ≡ p → ⊥) → g i ≡ f i) → sum_to n g ≡ a + sum_to n f
sum_spike zero p a f g lt e h = absurd (omega arith)
sum_spike (suc n) p a f g lt e h = go (ℕ_discrete n p) (λ z. sum_spike n p a f g z e h)
  where
    go : Dec (n ≡ p) → (p < n → sum_to n g ≡ a + sum_to n f) → sum_to (suc n) g ≡ a + sum_to (suc n) f
    go (yes q) r = omega (arith, rw (← q) at e, sum_ext n f g (λ i z. h i (λ y. omega arith)))
    go (no q) r = omega (arith, h n q, r (omega arith))

pub sum_bound : (n : ℕ) (f : ℕ → ℕ) → ((i : ℕ) → f i ≤ 1) → sum_to n f ≤ n
sum_bound zero f h = omega arith
sum_bound (suc n) f h = omega (arith, h n, sum_bound n f h)

pub sum_term : (n p : ℕ) (f : ℕ → ℕ) → p < n → f p ≤ sum_to n f
sum_term zero p f lt = absurd (omega arith)
sum_term (suc n) p f lt = go (ℕ_discrete p n) (λ z. sum_term n p f z)
  where
    go : Dec (p ≡ n) → (p < n → f p ≤ sum_to n f) → f p ≤ sum_to (suc n) f
    go (yes q) r = rw q (omega arith)
    go (no q) r = omega (arith, r (omega arith))

-- two terms
pub sum_pair : (n p q : ℕ) (f : ℕ → ℕ) → p < n → q < n → (p ≡ q → ⊥) → f p + f q ≤ sum_to n f
sum_pair zero p q f lt lq ne = absurd (omega arith)
sum_pair (suc n) p q f lp lq ne = go (ℕ_discrete p n) (ℕ_discrete q n) (λ a b. sum_pair n p q f a b ne)
  where
    go : Dec (p ≡ n) → Dec (q ≡ n) → (p < n → q < n → f p + f q ≤ sum_to n f) → f p + f q ≤ sum_to (suc n) f
    go (yes i) (yes j) r = absurd (ne (omega arith))
    go (yes i) (no j) r = rw i (omega (arith, sum_term n q f (omega arith)))
    go (no i) (yes j) r = rw j (omega (arith, sum_term n p f (omega arith)))
    go (no i) (no j) r = omega (arith, r (omega arith) (omega arith))

pub sum_hit : (n x : ℕ) → x < n → sum_to n (λ y. hit y x) ≡ 1
sum_hit n x lt = omega (arith, sum_spike n x 1 (λ _. 0) (λ y. hit y x) lt (hit_same x) (λ i ne. hit_other i x ne), sum_zero n)

pub count_size : (f : Placed) → count (erase f) ≤ size (erase f)
unfolding count size
count_size empty = omega arith
count_size (node x l c r) = omega (arith, count_size r)

module _ (m : Table) (b : ℕ) where
  -- no place from b on
  pub none_beyond : (u v : ℕ) (f : Placed) → Stored m b u v f → (y : ℕ) → b ≤ y → times y f ≡ 0
  none_beyond u v empty h y le = refl
  none_beyond u v (node x l c r) h y le =
      omega (arith, hit_other y x (λ q. omega arith), none_beyond x gone c h.2 y le, none_beyond u x r h.3 y le)

  pub linked_beyond : (f : Placed) → Linked m b f → (y : ℕ) → b ≤ y → times y f ≡ 0
  linked_beyond empty h y le = refl
  linked_beyond (node x l c r) h y le =
      omega (arith, hit_other y x (λ q. omega arith), linked_beyond c h.3 y le, linked_beyond r h.4 y le)

  pub free_beyond : (s : Spare) → Free m b s → (y : ℕ) → b ≤ y → spare_times y s ≡ 0
  free_beyond end h y le = refl
  free_beyond (more x c r s) h y le =
      omega (arith, hit_other y x (λ q. omega arith), linked_beyond c h.4 y le, linked_beyond r h.5 y le, free_beyond s h.6 y le)

  -- the number of nodes
  pub sum_stored : (u v : ℕ) (f : Placed) → Stored m b u v f → sum_to b (λ y. times y f) ≡ size (erase f)
  unfolding size
  sum_stored u v empty h = sum_zero b
  sum_stored u v (node x l c r) h =
      omega (
        arith,
        sum_add b (λ y. hit y x + times y c) (λ y. times y r),
        sum_add b (λ y. hit y x) (λ y. times y c),
        sum_hit b x h.0,
        sum_stored x gone c h.2,
        sum_stored u x r h.3,
      )

  -- siblings are at most as many as the places, where none stands twice
  pub few_siblings : (u v : ℕ) (f : Placed) → Stored m b u v f → ((y : ℕ) → times y f ≤ 1) → count (erase f) ≤ b
  few_siblings u v f h once = omega (arith, count_size f, sum_stored u v f h, sum_bound b (λ y. times y f) once)

-- where each place below b stands once, in the forest or on the stack: as many nodes as places if the stack is empty, else fewer
module _ (m : Table) (b u v : ℕ) (f : Placed) (s : Spare) (h : Stored m b u v f) (once : (y : ℕ) → y < b → times y f + spare_times y s ≡ 1) where
  sum_both : size (erase f) + sum_to b (λ y. spare_times y s) ≡ b
  sum_both =
      omega (
        arith,
        sum_stored m b u v f h,
        sum_add b (λ y. times y f) (λ y. spare_times y s),
        sum_ext b (λ _. 1) (λ y. times y f + spare_times y s) once,
        sum_one b,
      )

  pub size_most : size (erase f) ≤ b
  size_most = omega (arith, sum_both)

  pub size_all : ((y : ℕ) → spare_times y s ≡ 0) → size (erase f) ≡ b
  size_all z = omega (arith, sum_both, sum_ext b (λ _. 0) (λ y. spare_times y s) (λ y _. z y), sum_zero b)

  pub size_less : (x : ℕ) → x < b → 0 < spare_times x s → size (erase f) < b
  size_less x lt z = omega (arith, sum_both, sum_term b x (λ y. spare_times y s) lt)
