-- The children of each record among the records from j on. Where every parent comes before its children, each of these records stands below just one
-- of the records before j. Assumes nothing.
use mathlib.Core.Path.{◌≡◌, refl, sym, ◌∙◌}
use mathlib.Core.Bool.{true, false}
use Prim.Native.Nat.{ℕ, zero, suc, ◌+◌, ◌<◌, ◌≤◌}
use native.Mathlib.Omega.{arith}
use native.Mathlib.Nat.{le_refl}
use native.Mathlib.Decide.{ℕ_discrete}
use lib.Dec.{eqb}
use borrow.Author.Tests.{eq-eqb, ne_eqb}
use Rattle.rules.specs.Tree.{Label, count}
use Rattle.table.specs.Holds.{Placed, empty, node, erase, hit, times}
use Rattle.table.proofs.Counting.{hit_same, hit_other, sum_to, sum_ext, sum_zero, sum_spike, sum_term, sum_pair}

-- how often y stands among the k numbers from j on
abbrev pub among : ℕ → ℕ → ℕ → ℕ
among y j zero = 0
among y j (suc k) = hit y j + among y (suc j) k

pub among_below : (y j k : ℕ) → y < j → among y j k ≡ 0
among_below y j zero h = refl
among_below y j (suc k) h = omega (arith, hit_other y j (λ q. omega arith), among_below y (suc j) k (omega arith))

pub among_once : (y j k : ℕ) → j ≤ y → y < j + k → among y j k ≡ 1
among_once y j zero le lt = absurd (omega arith)
among_once y j (suc k) le lt = go (ℕ_discrete y j) (λ q. among_once y (suc j) k q (omega arith))
  where
    go : Dec (y ≡ j) → (suc j ≤ y → among y (suc j) k ≡ 1) → hit y j + among y (suc j) k ≡ 1
    go (yes q) r = rw q (omega (arith, hit_same j, among_below j (suc j) k (le_refl (suc j))))
    go (no q) r = omega (arith, hit_other y j q, r (omega arith))

among_most : (y j k : ℕ) → among y j k ≤ 1
among_most y j zero = omega arith
among_most y j (suc k) = go (ℕ_discrete y j) (among_most y (suc j) k)
  where
    go : Dec (y ≡ j) → among y (suc j) k ≤ 1 → hit y j + among y (suc j) k ≤ 1
    go (yes q) r = rw q (omega (arith, hit_same j, among_below j (suc j) k (le_refl (suc j))))
    go (no q) r = omega (arith, hit_other y j q)

-- records by their parents and their labels
module _ (par : ℕ → ℕ) (lab : ℕ → Label) where
  -- the children of record i among the k records from j on, left to right, each with its own; a record's place is its index
  pub kids : ℕ → ℕ → ℕ → Placed
  kids i zero j = empty
  kids i (suc k) j = elim (eqb (par j) i) [ true ↦ node j (lab j) (kids j k (suc j)) (kids i k (suc j)) | false ↦ kids i k (suc j) ]

  pub kids_none : (i j : ℕ) → kids i zero j ≡ empty
  unfolding kids
  kids_none i j = refl

  pub kids_hit : (i k j : ℕ) → par j ≡ i → kids i (suc k) j ≡ node j (lab j) (kids j k (suc j)) (kids i k (suc j))
  unfolding kids
  kids_hit i k j e = rw (eq-eqb (par j) i e, kids)

  pub kids_miss : (i k j : ℕ) → (par j ≡ i → ⊥) → kids i (suc k) j ≡ kids i k (suc j)
  unfolding kids
  kids_miss i k j e = rw (ne_eqb (par j) i e, kids)

  -- their places are j and more, and they are at most k
  pub kids_below : (y i k j : ℕ) → y < j → times y (kids i k j) ≡ 0
  kids_below y i zero j h = rw kids_none
  kids_below y i (suc k) j h = go (ℕ_discrete (par j) i) (kids_below y j k (suc j) (omega arith)) (kids_below y i k (suc j) (omega arith))
    where
      go : Dec (par j ≡ i) → times y (kids j k (suc j)) ≡ 0 → times y (kids i k (suc j)) ≡ 0 → times y (kids i (suc k) j) ≡ 0
      go (yes q) a b = rw (kids_hit i k j q) (omega (arith, hit_other y j (λ z. omega arith)))
      go (no q) a b = rw (kids_miss i k j q) b

  pub kids_few : (i k j : ℕ) → count (erase (kids i k j)) ≤ k
  unfolding count
  kids_few i zero j = rw kids_none (omega arith)
  kids_few i (suc k) j = go (ℕ_discrete (par j) i) (kids_few i k (suc j))
    where
      go : Dec (par j ≡ i) → count (erase (kids i k (suc j))) ≤ k → count (erase (kids i (suc k) j)) ≤ suc k
      go (yes q) a = rw (kids_hit i k j q) (omega arith)
      go (no q) a = rw (kids_miss i k j q) (omega arith)

  -- every record from j on stands below just one of the records before j
  pub spread : (y k j : ℕ) → ((x : ℕ) → j ≤ x → x < j + k → par x < x) → sum_to j (λ i. times y (kids i k j)) ≡ among y j k
  spread y zero j h = sum_ext j (λ _. 0) (λ i. times y (kids i zero j)) (λ i _. rw kids_none) ∙ sum_zero j
  spread y (suc k) j h =
      let f : ℕ → ℕ = λ i. times y (kids i k (suc j)) in
      let g : ℕ → ℕ = λ i. times y (kids i (suc k) j) in
      let e : sum_to j g ≡ (hit y j + f j) + sum_to j f =
      sum_spike j (par j) (hit y j + f j) f g (h j (le_refl j) (omega arith)) (rw (kids_hit (par j) k j refl))
      (λ i ne. rw (kids_miss i k j (λ q. ne (sym q)))) in
      omega (arith, e, spread y k (suc j) (λ x a b. h x (omega arith) (omega arith)))

  -- so none stands twice, or below two of them
  module _ (k j : ℕ) (h : (x : ℕ) → j ≤ x → x < j + k → par x < x) (y : ℕ) where
    pub kids_once : (i : ℕ) → i < j → times y (kids i k j) ≤ 1
    kids_once i lt = omega (arith, sum_term j i (λ i. times y (kids i k j)) lt, spread y k j h, among_most y j k)

    pub kids_apart : (i i' : ℕ) → i < j → i' < j → (i ≡ i' → ⊥) → times y (kids i k j) + times y (kids i' k j) ≤ 1
    kids_apart i i' lt lt' ne = omega (arith, sum_pair j i i' (λ i. times y (kids i k j)) lt lt' ne, spread y k j h, among_most y j k)
