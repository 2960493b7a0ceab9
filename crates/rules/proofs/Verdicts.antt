-- Lists of n verdicts with at most q rollbacks, no two the same, are at most `ways n q`: those that begin with a commit and those that begin with a rollback are counted
-- by what follows. Assumes nothing.
use mathlib.Core.Path.{◌≡◌, refl, ap}
use Prim.Native.Nat.{ℕ, zero, suc, ◌+◌, ◌^◌, ◌≤◌}
use native.Mathlib.Omega.{arith}
use native.Mathlib.Nat.{two-pow-succ, one-le-pow}
use mathlib.Core.Bool.{Bool, true, false}
use mathlib.Core.List.{List, [], ◌∷◌, map}
use lib.ListN.{length, length-map}
use Rattle.rules.specs.Board.{Differs, Different}
use Rattle.rules.specs.Season.{rollbacks, ways}

-- v is none of them
abbrev pub Apart : List Bool → List (List Bool) → Type 0
Apart v [] = Unit {0}
Apart v (w ∷ ws) = (v ≡ w → ⊥) × Apart v ws

-- of n verdicts each, at most q of them rollbacks, no two the same
abbrev pub Distinct : ℕ → ℕ → List (List Bool) → Type 0
Distinct n q [] = Unit {0}
Distinct n q (v ∷ vs) = (length v ≡ n) × (rollbacks v ≤ q) × Apart v vs × Distinct n q vs

-- what follows the first verdict, of those that begin with b
behind : Bool → List (List Bool) → List (List Bool)
behind b [] = []
behind b ([] ∷ vs) = behind b vs
behind true ((true ∷ v) ∷ vs) = v ∷ behind true vs
behind true ((false ∷ v) ∷ vs) = behind true vs
behind false ((true ∷ v) ∷ vs) = behind false vs
behind false ((false ∷ v) ∷ vs) = v ∷ behind false vs

apart_behind : (b : Bool) (v : List Bool) (ws : List (List Bool)) → Apart (b ∷ v) ws → Apart v (behind b ws)
unfolding behind
apart_behind b v [] h = tt
apart_behind b v ([] ∷ ws) h = apart_behind b v ws h.1
apart_behind true v ((true ∷ w) ∷ ws) h = (λ e. h.0 (ap (λ x. true ∷ x) e), apart_behind true v ws h.1)
apart_behind true v ((false ∷ w) ∷ ws) h = apart_behind true v ws h.1
apart_behind false v ((true ∷ w) ∷ ws) h = apart_behind false v ws h.1
apart_behind false v ((false ∷ w) ∷ ws) h = (λ e. h.0 (ap (λ x. false ∷ x) e), apart_behind false v ws h.1)

-- as many verdicts less one, and at most p rollbacks, where a first b and at most q leave so many
distinct_behind : (b : Bool) (n p q : ℕ) → ((v : List Bool) → rollbacks (b ∷ v) ≤ q → rollbacks v ≤ p) → (vs : List (List Bool)) → Distinct (suc n) q vs
    → Distinct n p (behind b vs)
unfolding behind
distinct_behind b n p q k [] h = tt
distinct_behind b n p q k ([] ∷ vs) h = distinct_behind b n p q k vs h.3
distinct_behind true n p q k ((true ∷ v) ∷ vs) h =
    (let e = h.0 in omega arith, k v h.1, apart_behind true v vs h.2, distinct_behind true n p q k vs h.3)
distinct_behind true n p q k ((false ∷ v) ∷ vs) h = distinct_behind true n p q k vs h.3
distinct_behind false n p q k ((true ∷ v) ∷ vs) h = distinct_behind false n p q k vs h.3
distinct_behind false n p q k ((false ∷ v) ∷ vs) h =
    (let e = h.0 in omega arith, k v h.1, apart_behind false v vs h.2, distinct_behind false n p q k vs h.3)

-- they begin with the one or with the other
both_behind : (n q : ℕ) (vs : List (List Bool)) → Distinct (suc n) q vs → length vs ≡ length (behind true vs) + length (behind false vs)
unfolding behind
both_behind n q [] h = refl
both_behind n q ([] ∷ vs) h = let e = h.0 in absurd (omega arith)
both_behind n q ((true ∷ v) ∷ vs) h = let r = both_behind n q vs h.3 in omega (arith, r)
both_behind n q ((false ∷ v) ∷ vs) h = let r = both_behind n q vs h.3 in omega (arith, r)

-- without a rollback none begins with one
none_behind : (n : ℕ) (vs : List (List Bool)) → Distinct (suc n) 0 vs → length (behind false vs) ≡ 0
unfolding behind rollbacks
none_behind n [] h = refl
none_behind n ([] ∷ vs) h = none_behind n vs h.3
none_behind n ((true ∷ v) ∷ vs) h = none_behind n vs h.3
none_behind n ((false ∷ v) ∷ vs) h = let l = h.1 in absurd (omega arith)

-- of no verdicts there is one list
one_empty : (q : ℕ) (vs : List (List Bool)) → Distinct 0 q vs → length vs ≤ 1
one_empty q [] h = omega arith
one_empty q ([] ∷ []) h = omega arith
one_empty q ([] ∷ [] ∷ vs) h = absurd (h.2.0 refl)
one_empty q ([] ∷ (b ∷ v) ∷ vs) h = let e = h.3.0 in absurd (omega arith)
one_empty q ((b ∷ v) ∷ vs) h = let e = h.0 in absurd (omega arith)

pub ways_none : (n : ℕ) → ways n 0 ≡ 1
unfolding ways
ways_none zero = refl
ways_none (suc n) = refl

pub at_most : (n q : ℕ) (vs : List (List Bool)) → Distinct n q vs → length vs ≤ ways n q
unfolding ways rollbacks
at_most zero q vs h = one_empty q vs h
at_most (suc n) zero vs h =
    let e = both_behind n 0 vs h in
    let z = none_behind n vs h in
    let l = at_most n 0 (behind true vs) (distinct_behind true n 0 0 (λ v k. k) vs h) in
    let w = ways_none n in omega (arith, e, z, l, w)
at_most (suc n) (suc q) vs h =
    let e = both_behind n (suc q) vs h in
    let l = at_most n (suc q) (behind true vs) (distinct_behind true n (suc q) (suc q) (λ v k. k) vs h) in
    let r = at_most n q (behind false vs) (distinct_behind false n q (suc q) (λ v k. omega arith) vs h) in
    omega (arith, e, l, r)

-- of what is the same where the n verdicts are, for any index, there is no more
module _ {ℓ} {I : Type ℓ} {A : Type 0} (n : ℕ) (verdicts : I → List Bool) (shows : I → List A) (many : (i : I) → length (verdicts i) ≡ n)
    (told : (i j : I) → verdicts i ≡ verdicts j → shows i ≡ shows j) where
  apart : (i : I) (js : List I) → Differs shows (λ k. rollbacks (verdicts k)) i js → Apart (verdicts i) (map verdicts js)
  apart i [] h = tt
  apart i (j ∷ js) h = (λ e. h.0 (told i j e), apart i js h.1)

  distinct : (q : ℕ) (is : List I) → Different shows (λ k. rollbacks (verdicts k)) q is → Distinct n q (map verdicts is)
  distinct q [] h = tt
  distinct q (i ∷ is) h = (many i, h.0, apart i is h.1, distinct q is h.2)

  pub few_told : (q : ℕ) (is : List I) → Different shows (λ k. rollbacks (verdicts k)) q is → length is ≤ ways n q
  few_told q is h = let e = length-map is verdicts in let l = at_most n q (map verdicts is) (distinct q is h) in omega (arith, e, l)

-- a bit for each verdict
pub ways_bits : (n q : ℕ) → ways n q ≤ 2 ^ n
unfolding ways
ways_bits zero q = omega arith
ways_bits (suc n) zero = one-le-pow (suc n) 2 (omega arith)
ways_bits (suc n) (suc q) = let a = ways_bits n (suc q) in let b = ways_bits n q in let d = two-pow-succ n in omega (arith, a, b, d)

-- and no fewer, where all may be rolled back
pub ways_all : (n q : ℕ) → n ≤ q → ways n q ≡ 2 ^ n
unfolding ways
ways_all zero q h = refl
ways_all (suc n) zero h = absurd (omega arith)
ways_all (suc n) (suc q) h =
    let a = ways_all n (suc q) (omega arith) in let b = ways_all n q (omega arith) in let d = two-pow-succ n in omega (arith, a, b, d)

-- n over k: the lists of n verdicts with k rollbacks
pub choose : ℕ → ℕ → ℕ
choose n zero = 1
choose zero (suc k) = 0
choose (suc n) (suc k) = choose n (suc k) + choose n k

-- `ways` is their sum
pub ways_sum : (n q : ℕ) → ways n (suc q) ≡ ways n q + choose n (suc q)
unfolding ways choose
ways_sum zero q = refl
ways_sum (suc n) zero = let a = ways_sum n 0 in let w = ways_none n in omega (arith, a, w)
ways_sum (suc n) (suc q) = let a = ways_sum n (suc q) in let b = ways_sum n q in omega (arith, a, b)
