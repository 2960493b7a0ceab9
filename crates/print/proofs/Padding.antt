-- Laws of a buffer that holds zeros behind what waits: it does so when it was written out, and with a byte more. Assumes nothing.
use mathlib.Core.List.{List, ◌++◌}
use mathlib.Core.Path.{◌≡◌, sym, ◌∙◌, ap}
use native.Mathlib.Omega.{arith}
use Prim.Native.Nat.{ℕ, ◌+◌, ◌-◌, ◌<◌}
use lib.ListN.{length, take, drop, set, replicate, length-set}
use Rattle.std.proofs.Common.{drop-drop}
use Rattle.std.proofs.lemmas.List.{drop-replicate, drop-set-lt, replicate-append-replicate, length-replicate}
use Rattle.print.specs.Waiting.{size}
use Rattle.print.specs.Zeros.{Padded, count}

-- what waits is as long as is used of the buffer
pub many : {used : ℕ} {buf w : List ℕ} → Padded used buf → take used buf ≡ w → length w ≡ used
many h e = sym (ap length e) ∙ count h

-- the first bytes are 0 too
pub cleared : {used : ℕ} {buf : List ℕ} → Padded used buf → (zs : List ℕ) (n : ℕ) → n ≡ used → zs ≡ replicate n 0 → Padded 0 (zs ++ drop used buf)
cleared {used} {buf} h zs n e z =
    let many : n + (size - used) ≡ size = omega (arith, e, h.room) in
    let all : zs ++ drop used buf ≡ replicate size 0 =
    (λ i. z i ++ h.zeros i) ∙ replicate-append-replicate n (size - used) 0 ∙ ap (λ (k : ℕ). replicate k 0) many in record {
      room = omega arith;
      long = ap length all ∙ length-replicate {A = ℕ} size 0;
      zeros = all;
    }

-- one byte more waits
pub longer : {used : ℕ} {buf : List ℕ} → Padded used buf → (b : ℕ) → used < size → Padded (used + 1) (set buf used b)
longer {used} {buf} h b room = let fewer : size - used - 1 ≡ size - (used + 1) = omega arith in record {
  room = omega (arith, room);
  long = length-set buf used b ∙ h.long;
  zeros =
      drop-set-lt (used + 1) buf used b (omega arith) ∙ sym (drop-drop 1 used buf) ∙ ap (λ (l : List ℕ). drop 1 l) h.zeros ∙ drop-replicate 1 (size - used) 0
      ∙ ap (λ (k : ℕ). replicate k 0) fewer;
}
