-- A signed local holds a number's bits, and whoever uses it reads the number back from them. A number that fits comes back as it
-- was, so that casts, operands and results may be taken for the numbers themselves. Assumes nothing.
use mathlib.Core.Path.{◌≡◌, sym, ap, ◌∙◌}
use borrow.Author.Tests.{eqb-true, eqb-false}
use lib.Dec.{eqb}
use lib.IntN.{ℤ}
use mir.Syntax.{Width, w32, w64}
use mir.Val.{SFits, to_z, of_z}
use mir.Facts.{sfits_widen, to_z-of_z}
use Rattle.rules.specs.Number.{same}
use Rattle.rules.proofs.Tests.{Test, holds, fails, test}
use Rattle.rules.proofs.Number.{same_yes, same_no}

-- what a local of width w gives back of z
abbrev pub kept : Width → ℤ → ℤ
kept w z = to_z w (of_z w z)

-- x comes out as r, which fits
pub read_as : {w : Width} {x r : ℤ} → x ≡ r → SFits w r → kept w x ≡ r
read_as {w} e h = ap (kept w) e ∙ to_z-of_z h

-- a number of 32 bits is one of 64
pub in_wide : {z : ℤ} → SFits w32 z → SFits w64 z
in_wide h = sfits_widen {w = w32} tt h

-- the machine compares the bits
pub same_bits : {w : Width} {a b : ℤ} → SFits w a → SFits w b → eqb (of_z w a) (of_z w b) ≡ same a b
same_bits {w} {a} {b} ha hb = by (test (eqb (of_z w a) (of_z w b)))
  where
    by : Test (eqb (of_z w a) (of_z w b)) → eqb (of_z w a) (of_z w b) ≡ same a b
    by (holds t) =
        let e : a ≡ b = sym (to_z-of_z ha) ∙ ap (to_z w) (eqb-true (of_z w a) (of_z w b) t) ∙ to_z-of_z hb in
        t ∙ sym (same_yes b) ∙ ap (λ (z : ℤ). same z b) (sym e)
    by (fails t) = t ∙ sym (same_no a b (λ e. eqb-false (of_z w a) (of_z w b) t (ap (of_z w) e)))
