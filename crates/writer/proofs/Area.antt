-- Laws of bytes stored in an area: by the parts that it is cut into. Assumes nothing.
use Rattle.std.specs.Int.{to_le_bytes}
use Rattle.std.proofs.lemmas.Slice.{put_mid-paste}
use borrow.Rule.Slice.PartMut.{put_mid}
use mir.Syntax.{w32}
use mir.Val.{SFits, of_z, to_z}
use mir.Facts.{to_z-of_z}
use mathlib.Core.Path.{◌≡◌, sym, ap, ap₂, ◌∙◌}
use mathlib.Core.List.{List, [], ◌∷◌, ◌++◌, flat_map, append_assoc, append-nil}
use Prim.Native.Nat.{ℕ, zero, suc, ◌+◌, ◌-◌, ◌*◌, ◌/◌, ◌%◌, ◌≤◌}
use native.Mathlib.Omega.{arith}
use native.Mathlib.Numerals.{add-one}
use lib.ListN.{length, get_or, take, drop, length-append, length-drop, take-append-drop}
use lib.Seq.{length-take-le, take_at, take_all, drop-append-add, drop-drop}
use lib.IntN.{ℤ, pos}
use Rattle.rules.specs.Limits.{variable_size}
use Rattle.rules.specs.Number.{bits}
use Rattle.rules.specs.Bytes.{two}
use Rattle.rules.specs.Job.{listed}
use Rattle.rules.specs.Write.{four, variable, variable_bytes}
use Rattle.rules.proofs.Number.{bits_of_z}
use Rattle.rules.proofs.Decode.{listed_length}
use Rattle.rules.proofs.Packed.{packed_length}
use Rattle.rules.proofs.Written.{variable_size_law}
use Rattle.writer.specs.Area.{replaced, lent_variable}

-- the area keeps its length
pub replaced_long : (area : List ℕ) (at : ℕ) (bs : List ℕ) → at + length bs ≤ length area → length (replaced area at bs) ≡ length area
unfolding replaced
replaced_long area at bs h =
    omega (
      arith,
      length-append (take at area ++ bs) (drop (at + length bs) area),
      length-append (take at area) bs,
      length-take-le at area (omega arith),
      length-drop (at + length bs) area,
    )

-- bytes behind bytes
pub replaced_on : (area : List ℕ) (at i : ℕ) (xs ys : List ℕ) → at + length xs ≤ length area → i ≡ at + length xs
    → replaced (replaced area at xs) i ys ≡ replaced area at (xs ++ ys)
unfolding replaced
replaced_on area at i xs ys h e =
    let front = take at area ++ xs in
    let rest = drop (at + length xs) area in
    let long : length front ≡ i = length-append (take at area) xs ∙ (let z = length-take-le at area (omega arith) in omega arith) in
    let past : i + length ys ≡ length front + length ys = omega arith in
    let far : at + length xs + length ys ≡ at + length (xs ++ ys) = let z = length-append xs ys in omega arith in
    ap₂ (λ (p q : List ℕ). p ++ ys ++ q) (take_at front rest i long)
    (ap (λ (k : ℕ). drop k (front ++ rest)) past ∙ drop-append-add front rest (length ys) ∙ drop-drop (length ys) (at + length xs) area ∙ ap (λ (k : ℕ). drop k area) far)
    ∙ ap (λ (p : List ℕ). p ++ drop (at + length (xs ++ ys)) area) (append_assoc (take at area) xs ys)

-- nothing stored
pub replaced_none : (area : List ℕ) (at : ℕ) → replaced area at [] ≡ area
unfolding replaced
replaced_none area at =
    ap (λ (k : ℕ). take at area ++ [] ++ drop k area) {x = at + 0} {y = at} (omega arith)
    ∙ ap (λ (r : List ℕ). r ++ drop at area) (append-nil (take at area)) ∙ take-append-drop at area

-- bytes copied into a part of an area
pub put_replaced : (area : List ℕ) (at n : ℕ) (ys bytes : List ℕ) → ys ≡ bytes → length bytes ≡ n → put_mid at (at + n - at) area ys ≡ replaced area at bytes
unfolding replaced
put_replaced area at n ys bytes e long =
    put_mid-paste at (at + n - at) area ys bytes n e (omega arith) (sym long)
    ∙ ap (λ (b : List ℕ). take at area ++ b ++ drop (at + n) area) (take_all n bytes (omega (arith, long)))
    ∙ ap (λ (k : ℕ). take at area ++ bytes ++ drop (at + k) area) (sym long)

-- the bytes of a signed number, which the machine reads as it stands
pub four_told : (v : ℤ) → SFits w32 v → (r : List ℕ) → r ≡ to_le_bytes w32 (of_z w32 (to_z w32 (of_z w32 v))) → r ≡ four v
unfolding four two
four_told v h r e =
    let w : of_z w32 (to_z w32 (of_z w32 v)) ≡ bits v = ap (of_z w32) (to_z-of_z {w = w32} h) ∙ sym (bits_of_z h) in
    let high : bits v / 65536 / 256 ≡ bits v / 16777216 = omega arith in
    e ∙ ap (to_le_bytes w32) w ∙ ap (λ (k : ℕ). bits v % 256 ∷ bits v / 256 % 256 ∷ bits v / 65536 % 256 ∷ k % 256 ∷ []) (sym high)

-- one record more
pub flat_snoc : {A : Type 0} (f : A → List ℕ) (xs : List A) (x : A) → flat_map f (xs ++ (x ∷ [])) ≡ flat_map f xs ++ f x
unfolding flat_map
flat_snoc f [] x = append-nil (f x)
flat_snoc f (y ∷ ys) x = ap (λ (r : List ℕ). f y ++ r) (flat_snoc f ys x) ∙ sym (append_assoc (f y) (flat_map f ys) (f x))

pub listed_snoc : {A : Type 0} (f : ℕ → A) (n i : ℕ) → listed f (n + 1) i ≡ listed f n i ++ (f (i + n) ∷ [])
unfolding listed
listed_snoc f n i = ap (λ (k : ℕ). listed f k i) (add-one n) ∙ go n i
  where
    go : (n i : ℕ) → listed f (suc n) i ≡ listed f n i ++ (f (i + n) ∷ [])
    go zero i = ap (λ (k : ℕ). f k ∷ []) {x = i} {y = i + 0} (omega arith)
    go (suc n) i = ap (λ r. f i ∷ r) (go n (suc i) ∙ ap (λ (k : ℕ). listed f n (suc i) ++ (f k ∷ [])) {x = suc i + n} {y = i + suc n} (omega arith))

-- one variable more
pub variables_more : (levels : List ℕ) (values : List ℤ) (area a b : List ℕ) (i : ℕ) → variable_size * i + variable_size ≤ length area
    → a ≡ replaced area 0 (flat_map variable_bytes (listed (lent_variable levels values) i 0))
    → b ≡ replaced a (variable_size * i) (variable (get_or levels i 0) (get_or values i (pos 0)))
    → b ≡ replaced area 0 (flat_map variable_bytes (listed (lent_variable levels values) (i + 1) 0))
unfolding variable_bytes
variables_more levels values area a b i room e f =
    let each = lent_variable levels values in
    let long : length (flat_map variable_bytes (listed each i 0)) ≡ variable_size * i =
    packed_length variable_bytes variable_size variable_size_law (listed each i 0) ∙ ap (λ k. variable_size * k) (listed_length each i 0) in
    f
    ∙ ap (λ x. replaced x (variable_size * i) (variable_bytes (each i))) e
    ∙ replaced_on area 0 (variable_size * i) (flat_map variable_bytes (listed each i 0)) (variable_bytes (each i)) (omega arith) (omega arith)
    ∙ ap (replaced area 0)
    (sym (flat_snoc variable_bytes (listed each i 0) (each i))
    ∙ ap (flat_map variable_bytes) (ap (λ k. listed each i 0 ++ (each k ∷ [])) {x = i} {y = 0 + i} (omega arith) ∙ sym (listed_snoc each i 0)))
