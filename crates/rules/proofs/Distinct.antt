-- Numbers below k, no two the same, are at most k: without k there are as many below k + 1, or one less. Assumes nothing.
use mathlib.Core.Path.{◌≡◌, refl, sym, ap, subst}
use Prim.Native.Nat.{ℕ, zero, suc, ◌≤◌, ◌<◌}
use native.Mathlib.Omega.{arith}
use mathlib.Core.Bool.{cond}
use mathlib.Core.List.{List, [], ◌∷◌}
use lib.ListN.{length}
use lib.Dec.{eqb}
use borrow.Author.Tests.{eqb-true, eqb-false, ne_eqb}
use Rattle.rules.proofs.Tests.{Test, holds, fails, test}

-- a is none of them
abbrev pub Apart : ℕ → List ℕ → Type 0
Apart a [] = Unit {0}
Apart a (b ∷ bs) = (a ≡ b → ⊥) × Apart a bs

abbrev pub Distinct : ℕ → List ℕ → Type 0
Distinct k [] = Unit {0}
Distinct k (a ∷ ns) = (a < k) × Apart a ns × Distinct k ns

without : ℕ → List ℕ → List ℕ
without k [] = []
without k (a ∷ ns) = cond (eqb a k) (without k ns) (a ∷ without k ns)

apart_without : (k a : ℕ) (bs : List ℕ) → Apart a bs → Apart a (without k bs)
unfolding without
apart_without k a [] h = tt
apart_without k a (b ∷ bs) h = pick (test (eqb b k)) (apart_without k a bs h.1)
  where
    pick : Test (eqb b k) → Apart a (without k bs) → Apart a (without k (b ∷ bs))
    pick (holds e) r = rw e r
    pick (fails e) r = rw e (h.0, r)

distinct_without : (k : ℕ) (ns : List ℕ) → Distinct (suc k) ns → Distinct k (without k ns)
unfolding without
distinct_without k [] h = tt
distinct_without k (a ∷ ns) h = pick (test (eqb a k)) (distinct_without k ns h.2)
  where
    pick : Test (eqb a k) → Distinct k (without k ns) → Distinct k (without k (a ∷ ns))
    pick (holds e) r = rw e r
    pick (fails e) r = rw e (let l = h.0 in let n = eqb-false a k e in omega arith, apart_without k a ns h.1, r)

none_without : (k : ℕ) (ns : List ℕ) → Apart k ns → length (without k ns) ≡ length ns
unfolding without
none_without k [] h = refl
none_without k (a ∷ ns) h = rw (ne_eqb a k (λ e. h.0 (sym e))) (ap suc (none_without k ns h.1))

one_without : (k : ℕ) (ns : List ℕ) → Distinct (suc k) ns → length ns ≤ suc (length (without k ns))
unfolding without
one_without k [] h = omega arith
one_without k (a ∷ ns) h = pick (test (eqb a k)) (one_without k ns h.2)
  where
    pick : Test (eqb a k) → length ns ≤ suc (length (without k ns)) → length (a ∷ ns) ≤ suc (length (without k (a ∷ ns)))
    pick (holds e) r = rw e (let q = none_without k ns (subst (λ x. Apart x ns) (eqb-true a k e) h.1) in omega (arith, q))
    pick (fails e) r = rw e (omega (arith, r))

pub at_most : (k : ℕ) (ns : List ℕ) → Distinct k ns → length ns ≤ k
at_most zero [] h = omega arith
at_most zero (a ∷ ns) h = let l = h.0 in absurd (omega arith)
at_most (suc k) ns h = let a = one_without k ns h in let b = at_most k (without k ns) (distinct_without k ns h) in omega (arith, a, b)
