-- Records of one size, one behind the other: the byte at a record's place is the record's own. And two or four bytes spell their number.
-- Assumes nothing.
use mathlib.Core.Path.{◌≡◌, sym, ap, ◌∙◌}
use Prim.Native.Nat.{ℕ, zero, suc, ◌+◌, ◌*◌, ◌%◌, ◌/◌, ◌<◌}
use native.Mathlib.Nat.{mul-suc, mul-zero}
use native.Mathlib.Omega.{arith}
use mathlib.Core.List.{List, [], ◌∷◌, ◌++◌, flat_map, append_assoc}
use lib.ListN.{length, get_or, length-append, get_or-append}
use lib.Seq.{get_or-append-add, ext_get_or}
use Rattle.rules.specs.Bytes.{byte, half, full}
use Rattle.rules.specs.Job.{listed}
use Rattle.rules.proofs.Decode.{listed_length, listed_from_zero}

-- a list by its elements, computed
pub listed_is : {A : Type 0} (f : ℕ → A) (d : A) (n : ℕ) (xs : List A) → length xs ≡ n → ((k : ℕ) → k < n → f k ≡ get_or xs k d) → listed f n 0 ≡ xs
listed_is f d n xs e h =
    ext_get_or d (listed f n 0) xs (listed_length f n 0 ∙ sym e)
    (λ i l. let z : i < n = omega (arith, listed_length f n 0) in listed_from_zero f d n i z ∙ h i z)

-- two lists by their elements, computed
pub listed_agree : {A : Type 0} (f g : ℕ → A) (d : A) (n : ℕ) → ((k : ℕ) → k < n → f k ≡ g k) → listed f n 0 ≡ listed g n 0
listed_agree f g d n h = listed_is f d n (listed g n 0) (listed_length g n 0) (λ k l. h k l ∙ sym (listed_from_zero g d n k l))

module _ {A : Type 0} (f : A → List ℕ) (s : ℕ) (sized : (x : A) → length (f x) ≡ s) where
  pub packed_length : (xs : List A) → length (flat_map f xs) ≡ s * length xs
  unfolding flat_map
  packed_length [] = sym (mul-zero s)
  packed_length (x ∷ xs) =
      length-append (f x) (flat_map f xs) ∙ (let z = sized x in let y = packed_length xs in let w = mul-suc s (length xs) in omega arith)

  packed_at : (xs : List A) (rest : List ℕ) (d : A) (k j : ℕ) → k < length xs → j < s
      → get_or (flat_map f xs ++ rest) (s * k + j) 0 ≡ get_or (f (get_or xs k d)) j 0
  unfolding flat_map
  packed_at [] rest d k j h l = absurd (omega arith)
  packed_at (x ∷ xs) rest d zero j h l =
      ap (λ (b : List ℕ). get_or b (s * 0 + j) 0) (append_assoc (f x) (flat_map f xs) rest)
      ∙ ap (λ (i : ℕ). get_or (f x ++ (flat_map f xs ++ rest)) i 0) {x = s * 0 + j} {y = j} (let z = mul-zero s in omega arith)
      ∙ get_or-append (f x) (flat_map f xs ++ rest) 0 j (let z = sized x in omega arith)
  packed_at (x ∷ xs) rest d (suc k) j h l =
      ap (λ (b : List ℕ). get_or b (s * suc k + j) 0) (append_assoc (f x) (flat_map f xs) rest)
      ∙ ap (λ (i : ℕ). get_or (f x ++ (flat_map f xs ++ rest)) i 0) {x = s * suc k + j} {y = length (f x) + (s * k + j)}
      (let z = sized x in let w = mul-suc s k in omega arith)
      ∙ get_or-append-add (f x) (flat_map f xs ++ rest) (s * k + j) 0
      ∙ packed_at xs rest d k j (omega arith) l

  -- behind other bytes
  pub field_at : (front : List ℕ) (xs : List A) (rest : List ℕ) (d : A) (k j at : ℕ) → k < length xs → j < s → at ≡ length front + (s * k + j)
      → byte (front ++ (flat_map f xs ++ rest)) at ≡ byte (f (get_or xs k d)) j
  field_at front xs rest d k j at h l e =
      ap (λ (i : ℕ). get_or (front ++ (flat_map f xs ++ rest)) i 0) e
      ∙ get_or-append-add front (flat_map f xs ++ rest) (s * k + j) 0
      ∙ packed_at xs rest d k j h l

-- what two and four bytes spell
pub half_is : (b : List ℕ) (at n : ℕ) → n < 65536 → byte b at ≡ n % 256 → byte b (at + 1) ≡ n / 256 % 256 → half b at ≡ n
unfolding half
half_is b at n h e f = omega arith

pub full_is : (b : List ℕ) (at n : ℕ) → n < 4294967296 → byte b at ≡ n % 256 → byte b (at + 1) ≡ n / 256 % 256
    → byte b (at + 2) ≡ n / 65536 % 256 → byte b (at + 3) ≡ n / 65536 / 256 % 256 → full b at ≡ n
unfolding full
full_is b at n h e f g k = omega arith

-- numbers whose bytes are the same
pub half_agree : (b c : List ℕ) (at x : ℕ) → byte b at ≡ byte c x → byte b (at + 1) ≡ byte c (x + 1) → half b at ≡ half c x
unfolding half
half_agree b c at x e f = omega arith

pub full_agree : (b c : List ℕ) (at x : ℕ) → byte b at ≡ byte c x → byte b (at + 1) ≡ byte c (x + 1) → byte b (at + 2) ≡ byte c (x + 2)
    → byte b (at + 3) ≡ byte c (x + 3) → full b at ≡ full c x
unfolding full
full_agree b c at x e f g h = omega arith
