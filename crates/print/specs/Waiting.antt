-- What waits in the buffer to be written out, and what each call adds to it. Assumes nothing.
use Rattle.std.specs.Prelude.{Bool, true, false, cond, List, [], ◌∷◌, ◌++◌, ◌≡◌, ℕ, zero, suc, ◌+◌, ◌*◌, ◌-◌, ◌≤◌, ◌<◌, ltb, eqb, length, get_or}
use Rattle.io.specs.Digits.{last_digits, IsDigitCount}
use Rattle.rules.specs.Bytes.{byte, full}

-- an output: where it goes, and what waits to be written there
pub record Output : Type 0 where
  pub fd : ℕ
  pub waits : List ℕ

-- how many bytes the buffer has
abbrev pub size : ℕ
size = 65536

-- one byte more: a full buffer is written out first
unfoldable pub push : List ℕ → ℕ → List ℕ
push w b = cond (ltb (length w) size) (w ++ (b ∷ [])) (b ∷ [])

-- a text more, byte by byte
unfoldable pub pushes : List ℕ → List ℕ → List ℕ
pushes w [] = w
pushes w (b ∷ t) = pushes (push w b) t

-- a number more, in decimal: what waits then is v
pub record Number (n : ℕ) (w v : List ℕ) : Type 0 where
  pub count : ℕ
  pub fewest : IsDigitCount 10 1 n count
  pub waits : v ≡ pushes w (last_digits 10 count n)

-- the signed number of 32 bits more: from 2 ^ 31 on it is below zero, and has a minus sign (45)
pub record Signed (bits : ℕ) (w v : List ℕ) : Type 0 where
  pub positive : bits < 2147483648 → Number bits w v
  pub negative : 2147483648 ≤ bits → Number (4294967296 - bits) (push w 45) v

-- the board line at a place of an area more: "prints it in decimal after the number and a space" (32)
pub record Lined (area : List ℕ) (at : ℕ) (w v : List ℕ) : Type 0 where
  pub numbered : List ℕ
  pub number : Signed (full area at) w numbered
  pub readers : Number (byte area (at + 4)) (push numbered 32) v

-- the first n lines of an area more, each behind a name and before a line's end (10)
pub data Listed (name area : List ℕ) (w : List ℕ) : ℕ → List ℕ → Type 0 where
  none : Listed name area w zero w
  more : {n : ℕ} {u v : List ℕ} → Listed name area w n u → Lined area (5 * n) (pushes u name) v → Listed name area w (suc n) (push v 10)

-- a number of 32 bits more, as a signed one or not
abbrev pub Shown : Bool → ℕ → List ℕ → List ℕ → Type 0
Shown true n w v = Signed n w v
Shown false n w v = Number n w v

-- the first k of some numbers more, each behind a space (32), the one at a place signed
pub data Numbers (numbers : List ℕ) (below : ℕ) (w : List ℕ) : ℕ → List ℕ → Type 0 where
  none : Numbers numbers below w zero w
  more : {k : ℕ} {u v : List ℕ} → Numbers numbers below w k u → Shown (eqb k below) (get_or numbers k 0) (push u 32) v → Numbers numbers below w (suc k) v

-- a name and all of some numbers more, and a line's end (10)
pub record Row (name numbers : List ℕ) (below : ℕ) (w v : List ℕ) : Type 0 where
  pub all : List ℕ
  pub listed : Numbers numbers below (pushes w name) (length numbers) all
  pub waits : v ≡ push all 10
