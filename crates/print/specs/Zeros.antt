-- A buffer that holds zeros behind what waits, so that what waits gives the buffer. Assumes nothing.
use Rattle.std.specs.Prelude.{List, ◌++◌, ◌≡◌, ℕ, ◌-◌, ◌≤◌, length, take, drop, replicate}
use Rattle.std.proofs.Common.{sym, ◌∙◌, ap, subst, length-take-le, take-append-drop}
use Rattle.print.specs.Waiting.{size}

-- the first bytes of a buffer wait, and the others are 0
pub record Padded (used : ℕ) (buf : List ℕ) : Type 0 where
  pub room : used ≤ size
  pub long : length buf ≡ size
  pub zeros : drop used buf ≡ replicate (size - used) 0

module _ {used : ℕ} {buf : List ℕ} (h : Padded used buf) where
  -- so many bytes wait
  pub count : length (take used buf) ≡ used
  count = length-take-le used buf (subst (λ (n : ℕ). used ≤ n) (sym h.long) h.room)

  -- they and zeros are the whole buffer
  pub whole : take used buf ++ replicate (size - length (take used buf)) 0 ≡ buf
  whole =
      ap (λ (n : ℕ). take used buf ++ replicate (size - n) 0) count ∙ ap (λ (l : List ℕ). take used buf ++ l) (sym h.zeros) ∙ take-append-drop used buf
