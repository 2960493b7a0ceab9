-- Laws of signed 32-bit numbers: what fits is what its bits spell, 32 bits are those of what they spell, and what an operator gives fits.
-- `signed` and `bits` read and write as the machine does, whose laws are the library's; the rest is by the signs. Assumes nothing.
use mathlib.Core.Path.{◌≡◌, refl, sym, ap, subst, ◌∙◌}
use mathlib.Core.Bool.{Bool, true, false, cond}
use Rattle.std.specs.Prelude.{None, Some}
use Rattle.std.proofs.lemmas.Option.{none-some, same_Some}
use Prim.Native.Nat.{ℕ, zero, suc, ◌+◌, ◌-◌, ◌<◌, ◌≤◌}
use native.Mathlib.Omega.{arith}
use borrow.Author.Tests.{ltb-true, ltb-false, lt-ltb, le-ltb, eq-eqb, ne_eqb}
use lib.Dec.{ltb}
use lib.IntN.{ℤ, pos, negsuc, neg_ℤ, nat_abs, sub_ℕ, ◌+ℤ◌, ◌-ℤ◌}
use lib.Signed.{mag, nat_abs-le, lt_z, shr_z}
use mir.Syntax.{w32}
use mir.Val.{SFits, sel, to_z, of_z, bool_byte}
use mir.Facts.{sfits_to_z, to_z-of_z, of_z-to_z}
use Rattle.rules.specs.Number.{Fits, half_range, range, bits, signed, fitting, same, truth, equal, less, mean}
use Rattle.rules.proofs.Tests.{Test, holds, fails, test}

-- ---- bits

pub bits_below : (v : ℤ) → bits v < range
unfolding bits
bits_below (pos n) = omega arith
bits_below (negsuc n) = omega arith

-- the machine writes a number that fits as its bits
pub bits_of_z : {v : ℤ} → SFits w32 v → bits v ≡ of_z w32 v
unfolding bits
bits_of_z {v = pos n} h = omega arith
bits_of_z {v = negsuc n} h = omega arith

-- and reads 32 bits as signed
pub signed_to_z : (w : ℕ) → signed w ≡ to_z w32 w
unfolding signed
signed_to_z w = by (ltb w half_range)
  where
    by : (t : Bool) → cond t (pos w) (negsuc (range - 1 - w)) ≡ sel t (pos w) (negsuc (range - suc w))
    by true = refl
    by false = ap negsuc (omega arith)

pub signed_fits : (w : ℕ) → w < range → SFits w32 (signed w)
signed_fits w h = subst (SFits w32) (sym (signed_to_z w)) (sfits_to_z (record { fits = h }))

-- whatever the bits are
pub signed_any : (w : ℕ) → Fits (signed w)
unfolding signed
signed_any w = go (ltb w half_range) refl
  where
    go : (t : Bool) → ltb w half_range ≡ t → mag (cond t (pos w) (negsuc (range - 1 - w))) < half_range
    go true e = ltb-true w half_range e
    go false e = let z = ltb-false w half_range e in omega arith

pub signed_bits : {v : ℤ} → SFits w32 v → signed (bits v) ≡ v
signed_bits {v} h = signed_to_z (bits v) ∙ ap (to_z w32) (bits_of_z h) ∙ to_z-of_z h

pub bits_signed : (w : ℕ) → w < range → bits (signed w) ≡ w
bits_signed w h = bits_of_z (signed_fits w h) ∙ ap (of_z w32) (signed_to_z w) ∙ of_z-to_z {w = w32} (record { fits = h })

-- ---- sums and differences

pub sub_less : (a b : ℕ) → a < b → sub_ℕ a b ≡ negsuc (b - suc a)
sub_less a b h = rw (lt-ltb a b h)

pub sub_more : (a b : ℕ) → b ≤ a → sub_ℕ a b ≡ pos (a - b)
sub_more a b h = rw (le-ltb a b h)

-- what fits, and what does not

pub fitting_in : (z : ℤ) → SFits w32 z → fitting z ≡ Some z
unfolding fitting
fitting_in z h = rw (lt-ltb (mag z) half_range h.sfits)

pub fitting_out : (z : ℤ) → half_range ≤ mag z → fitting z ≡ None
unfolding fitting
fitting_out z h = rw (le-ltb (mag z) half_range h)

pub fitting_fits : (z y : ℤ) → fitting z ≡ Some y → SFits w32 y
unfolding fitting
fitting_fits z y e = by (test (ltb (mag z) half_range))
  where
    by : Test (ltb (mag z) half_range) → SFits w32 y
    by (holds t) = subst (SFits w32) (same_Some z y (rw t at e)) (record { sfits = ltb-true (mag z) half_range t })
    by (fails t) = let k : None ≡ Some y = rw t at e in absurd (none-some y k)

mag_sub : (a b k : ℕ) → a < k → b ≤ k → mag (sub_ℕ a b) < k
mag_sub a b k h g = by (ltb a b)
  where
    by : (t : Bool) → mag (cond t (negsuc (b - suc a)) (pos (a - b))) < k
    by true = omega arith
    by false = omega arith

-- y may be -k or k, so that this serves differences too
mag_add : (x y : ℤ) (k : ℕ) → mag x < k → nat_abs y ≤ k → mag (x +ℤ y) < k + k
mag_add (pos a) (pos b) k h g = omega arith
mag_add (pos a) (negsuc b) k h g = omega (arith, mag_sub a (suc b) k h g)
mag_add (negsuc a) (pos b) k h g = omega (arith, mag_sub b (suc a) (suc k) (omega arith) (omega arith))
mag_add (negsuc a) (negsuc b) k h g = omega arith

nat_abs_neg : (y : ℤ) → nat_abs (neg_ℤ y) ≡ nat_abs y
nat_abs_neg (pos zero) = refl
nat_abs_neg (pos (suc n)) = refl
nat_abs_neg (negsuc n) = refl

-- exact results are less than one turn from zero
pub mag_sum : {a b : ℤ} → SFits w32 a → SFits w32 b → mag (a +ℤ b) < range
mag_sum {a} {b} ha hb = mag_add a b half_range ha.sfits (nat_abs-le b hb.sfits)

pub mag_difference : {a b : ℤ} → SFits w32 a → SFits w32 b → mag (a -ℤ b) < range
mag_difference {a} {b} ha hb = mag_add a (neg_ℤ b) half_range ha.sfits (rw nat_abs_neg (nat_abs-le b hb.sfits))

-- ---- tests

-- the machine writes a test as 1 or 0
pub truth_is : (t : Bool) → pos (bool_byte t) ≡ truth t
unfolding truth
truth_is true = refl
truth_is false = refl

pub truth_fits : (t : Bool) → SFits w32 (truth t)
unfolding truth
truth_fits true = record { sfits = omega arith }
truth_fits false = record { sfits = omega arith }

pub equal_fits : (a b : ℤ) → SFits w32 (equal a b)
unfolding equal
equal_fits a b = truth_fits (same a b)

pub less_fits : (a b : ℤ) → SFits w32 (less a b)
unfolding less
less_fits a b = truth_fits (lt_z a b)

pub same_yes : (z : ℤ) → same z z ≡ true
unfolding same
same_yes (pos n) = eq-eqb n n refl
same_yes (negsuc n) = eq-eqb n n refl

pub same_no : (a b : ℤ) → (a ≡ b → ⊥) → same a b ≡ false
unfolding same
same_no (pos a) (pos b) n = ne_eqb a b (λ e. n (ap pos e))
same_no (pos a) (negsuc b) n = refl
same_no (negsuc a) (pos b) n = refl
same_no (negsuc a) (negsuc b) n = ne_eqb a b (λ e. n (ap negsuc e))

-- ---- the mean

mag_half : (s : ℤ) (k : ℕ) → mag s < k + k → mag (shr_z s 2) < k
mag_half (pos a) k h = omega arith
mag_half (negsuc a) k h = omega arith

pub mean_fits : {a b : ℤ} → SFits w32 a → SFits w32 b → SFits w32 (mean a b)
unfolding mean
mean_fits {a} {b} ha hb = record { sfits = mag_half (a +ℤ b) half_range (mag_sum ha hb) }
