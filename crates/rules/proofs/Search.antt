-- The two searches of the definitions, `firstFrom` for a test that holds and `firstFault` for one that fails: the second is the first with the
-- test turned round, so each law is proved of the first. Assumes nothing.
use mathlib.Core.Path.{◌≡◌, refl, sym, ap, ◌∙◌}
use mathlib.Core.Bool.{Bool, true, false, not}
use Prim.Native.Nat.{ℕ, zero, suc, ◌+◌, ◌-◌, ◌≤◌, ◌<◌}
use native.Mathlib.Omega.{arith}
use native.Mathlib.Decide.{ℕ_discrete, dec_lt}
use Rattle.rules.specs.Blocks.{first_from}
use Rattle.rules.specs.Check.{first_fault}
use Rattle.rules.proofs.Tests.{Test, holds, fails, test, clash}

module _ (f : ℕ → Bool) (n i : ℕ) where
  first_here : f i ≡ true → first_from f (suc n) i ≡ i
  unfolding first_from
  first_here e = rw (e, first_from)

  first_next : f i ≡ false → first_from f (suc n) i ≡ first_from f n (suc i)
  unfolding first_from
  first_next e = rw (e, first_from)

-- one step of a search that ends before n
module _ (f : ℕ → Bool) (n i : ℕ) (h : i < n) where
  more : n - i ≡ suc (n - suc i)
  more = omega arith

  pub here : f i ≡ true → first_from f (n - i) i ≡ i
  here e = rw more (first_here f (n - suc i) i e)

  pub further : f i ≡ false → first_from f (n - i) i ≡ first_from f (n - suc i) (suc i)
  further e = rw more (first_next f (n - suc i) i e)

-- what the search from i through n indexes comes to: it does not go back, all it passes fail, and if it stays within the n, it ends where the test holds
pub record Found (f : ℕ → Bool) (n i j : ℕ) : Type 0 where
  pub from : i ≤ j
  pub to : j ≤ i + n
  pub missed : (k : ℕ) → i ≤ k → k < j → f k ≡ false
  pub found : j < i + n → f j ≡ true

pub search : (f : ℕ → Bool) (n i : ℕ) → Found f n i (first_from f n i)
unfolding first_from
search f zero i = record { from = omega arith; to = omega arith; missed = λ k a b. absurd (omega arith); found = λ a. absurd (omega arith) }
search f (suc n) i = go (test (f i)) (search f n (suc i))
  where
    go : Test (f i) → Found f n (suc i) (first_from f n (suc i)) → Found f (suc n) i (first_from f (suc n) i)
    go (holds e) r = rw (first_here f n i e) (record { from = omega arith; to = omega arith; missed = λ k a b. absurd (omega arith); found = λ a. e })
    go (fails e) r =
        rw (first_next f n i e)
        (record { from = omega (arith, r.from); to = omega (arith, r.to); missed = λ k a b. past k a b (ℕ_discrete i k); found = λ a. r.found (omega arith) })
      where
        past : (k : ℕ) → i ≤ k → k < first_from f n (suc i) → Dec (i ≡ k) → f k ≡ false
        past k a b (yes q) = rw q at e
        past k a b (no q) = r.missed k (omega arith) b

-- two tests that agree on the indexes find the same
pub first_agree : (f g : ℕ → Bool) (n i : ℕ) → ((k : ℕ) → i ≤ k → k < i + n → f k ≡ g k) → first_from f n i ≡ first_from g n i
unfolding first_from
first_agree f g zero i h = refl
first_agree f g (suc n) i h =
    ap (λ (t : Bool). elim t [ true ↦ i | false ↦ first_from f n (suc i) ]) (h i (omega arith) (omega arith))
    ∙ ap (λ (r : ℕ). elim (g i) [ true ↦ i | false ↦ r ]) (first_agree f g n (suc i) (λ k a b. h k (omega arith) (omega arith)))

-- the test turned round
abbrev pub fault : (ℕ → Bool) → ℕ → Bool
fault good k = not (good k)

turned : (t : Bool) (i j : ℕ) → ◌≡◌ {A = ℕ} (elim t [ true ↦ i | false ↦ j ]) (elim (not t) [ true ↦ j | false ↦ i ])
turned true i j = refl
turned false i j = refl

is_not : (t : Bool) → not t ≡ false → t ≡ true
is_not true e = refl
is_not false e = clash refl e

pub fault_first : (good : ℕ → Bool) (n i : ℕ) → first_fault good n i ≡ first_from (fault good) n i
unfolding first_fault first_from
fault_first good zero i = refl
fault_first good (suc n) i =
    ap (λ (r : ℕ). elim (good i) [ true ↦ r | false ↦ i ]) (fault_first good n (suc i)) ∙ turned (good i) (first_from (fault good) n (suc i)) i

pub fault_agree : (f g : ℕ → Bool) (n i : ℕ) → ((k : ℕ) → i ≤ k → k < i + n → f k ≡ g k) → first_fault f n i ≡ first_fault g n i
fault_agree f g n i h = fault_first f n i ∙ first_agree _ _ n i (λ k a b. ap not (h k a b)) ∙ sym (fault_first g n i)

-- all before the first fault pass
pub passed : (good : ℕ → Bool) (n i k : ℕ) → i ≤ k → k < first_fault good n i → good k ≡ true
passed good n i k a b = is_not (good k) ((search (fault good) n i).missed k a (rw (fault_first good n i) at b))

pub all_pass : (good : ℕ → Bool) (n : ℕ) {r : ℕ} → r ≡ first_fault good n 0 → n ≤ r → (k : ℕ) → k < n → good k ≡ true
all_pass good n e h k l = passed good n 0 k (omega arith) (omega arith)

-- where all pass, the search ends behind them
pub none_faulty : (good : ℕ → Bool) (n : ℕ) → ((k : ℕ) → k < n → good k ≡ true) → first_fault good n 0 ≡ n
none_faulty good n h = by (dec_lt (first_fault good n 0) n)
  where
    by : Dec (first_fault good n 0 < n) → first_fault good n 0 ≡ n
    by (yes l) =
        let e = fault_first good n 0 in
        let z : not (good (first_fault good n 0)) ≡ true = rw e ((search (fault good) n 0).found (omega arith)) in clash z (rw (h _ l))
    by (no l) = let e = fault_first good n 0 in let z = (search (fault good) n 0).to in omega arith

module _ (good : ℕ → Bool) (n : ℕ) where
  -- after i records that passed: what is found from the start is what is found from i on
  pub record Scan (i : ℕ) : Type 0 where
    pub within : i ≤ n
    pub found : first_fault good n 0 ≡ first_from (fault good) (n - i) i

  pub scan_start : Scan 0
  scan_start = let m : n ≡ n - 0 = omega arith in record { within = omega arith; found = fault_first good n 0 ∙ ap (λ (k : ℕ). first_from (fault good) k 0) m }

  pub scan_next : {i : ℕ} → Scan i → i < n → good i ≡ true → Scan (i + 1)
  scan_next {i} s h e =
      let j : i + 1 ≡ suc i = omega arith in record { within = omega arith; found = s.found ∙ further _ n i h (ap not e) ∙ rw j }

  pub scan_stop : {i : ℕ} → Scan i → i < n → good i ≡ false → i ≡ first_fault good n 0
  scan_stop {i} s h e = sym (s.found ∙ here _ n i h (ap not e))

  pub scan_end : {i : ℕ} → Scan i → n ≤ i → i ≡ first_fault good n 0
  unfolding first_from
  scan_end {i} s h = let m : n - i ≡ 0 = omega arith in sym (s.found ∙ ap (λ (k : ℕ). first_from (fault good) k i) m)
