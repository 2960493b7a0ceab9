-- Signed 32-bit numbers: their bits, and what each operator makes of two of them. Assumes nothing.
use Rattle.std.specs.Prelude.{ℕ, ◌-◌, ◌%◌, ◌<◌, Bool, false, cond, eqb, ltb, ℤ, pos, negsuc, ◌+ℤ◌, ◌-ℤ◌, Option, None, Some}
use Rattle.std.specs.Int.Signed.{mag, lt_z, shr_z}

-- 2 ^ 31: the first number that is too large
abbrev pub half_range : ℕ
half_range = 2147483648

-- 2 ^ 32: how many numbers there are
abbrev pub range : ℕ
range = 4294967296

-- the low 32 bits of a number, in two's complement
unfoldable pub bits : ℤ → ℕ
bits (pos n) = n % range
bits (negsuc n) = range - 1 - n % range

-- 32 bits as a signed number
unfoldable pub signed : ℕ → ℤ
signed w = cond (ltb w half_range) (pos w) (negsuc (range - 1 - w))

-- a signed 32-bit number: `mag` is z from 0 on, and -1 - z below
abbrev pub Fits : ℤ → Type 0
Fits z = mag z < half_range

-- what an expression comes to: a number, or none
abbrev pub Value : Type 0
Value = Option ℤ

-- an exact result, or none where it is "outside signed 32 bits"
unfoldable pub fitting : ℤ → Value
fitting z = cond (ltb (mag z) half_range) (Some z) None

-- operator 1
unfoldable pub sum : ℤ → ℤ → Value
sum a b = fitting (a +ℤ b)

-- operator 2: "left minus right"
unfoldable pub difference : ℤ → ℤ → Value
difference a b = fitting (a -ℤ b)

-- whether two numbers are one
unfoldable pub same : ℤ → ℤ → Bool
same (pos a) (pos b) = eqb a b
same (pos a) (negsuc b) = false
same (negsuc a) (pos b) = false
same (negsuc a) (negsuc b) = eqb a b

-- a test as a number, "1 or 0"
unfoldable pub truth : Bool → ℤ
truth t = cond t (pos 1) (pos 0)

-- operator 3
unfoldable pub equal : ℤ → ℤ → ℤ
equal a b = truth (same a b)

-- operator 4: "left less than right"
unfoldable pub less : ℤ → ℤ → ℤ
less a b = truth (lt_z a b)

-- operator 5: "The mean is rounded down, below zero too, of the exact sum."
unfoldable pub mean : ℤ → ℤ → ℤ
mean a b = shr_z (a +ℤ b) 2

-- whether a guard is zero
unfoldable pub is_zero : ℤ → Bool
is_zero z = same z (pos 0)
