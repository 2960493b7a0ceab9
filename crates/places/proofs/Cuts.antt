-- What a slice of eight parts holds after a part was lent: there is what was handed back, and the other parts are as they were. Once for every kind of
-- element. Assumes nothing.
use mathlib.Core.Path.{◌≡◌, refl, sym, ◌∙◌, ap, ap₂}
use Prim.Native.Nat.{ℕ, suc, ◌+◌, ◌-◌, ◌*◌, ◌<◌, ◌≤◌}
use native.Mathlib.Nat.{mul-le-mul_left, mul-suc}
use native.Mathlib.Omega.{arith}
use mathlib.Core.List.{List, ◌++◌}
use lib.ListN.{length, get_or, drop, take, length-append, length-take, length-drop, get_or-append}
use lib.Dec.{ltb}
use lib.Seq.{take_at, drop_at, length-take-le, get_or-take, get_or-drop, get_or-append-add, ext_get_or}
use borrow.Author.Tests.{ltb-true, ltb-false}
use Rattle.rules.specs.Limits.{max_runs}
use Rattle.rules.proofs.Tests.{Test, holds, fails, test}
use Rattle.places.specs.Pieces.{piece, Beside, Filled}

-- from a to e are the first m elements of part i
pub record Cut (n i m a e : ℕ) : Type 0 where
  pub from : a ≡ n * i
  pub to : e ≡ a + m
  pub short : m ≤ n

-- the parts of an earlier place lie in front
ahead : (n i j : ℕ) → i < j → n * i + n ≤ n * j
ahead n i j h = let l = mul-le-mul_left {m = suc i} {n = j} n h in let s = mul-suc n i in omega (arith, l, s)

-- what is cut out of part i lies in the slice
pub inside : (n i m long : ℕ) → i < max_runs → m ≤ n → long ≡ n * max_runs → n * i + m ≤ long
inside n i m long h l e = let a = ahead n i max_runs h in omega (arith, a, l, e)

module _ {A : Type 0} where
  -- the elements from a to e, and the list with others there
  abbrev pub mid : ℕ → ℕ → List A → List A
  mid a e xs = take (e - a) (drop a xs)

  abbrev pub put : ℕ → ℕ → List A → List A → List A
  put a e xs ys = take a xs ++ (ys ++ drop (e - a) (drop a xs))

  pub mid_is : (n i m a e : ℕ) (xs : List A) → Cut n i m a e → mid a e xs ≡ piece n i m xs
  unfolding piece
  mid_is n i m a e xs c =
      let f = c.from in
      let t = c.to in
      let s : e - a ≡ m = omega (arith, t) in
      ap₂ (λ (k : ℕ) (b : ℕ). take k (drop b xs)) s f

  pub piece_length : (n i m : ℕ) (xs : List A) → i < max_runs → m ≤ n → length xs ≡ n * max_runs → length (piece n i m xs) ≡ m
  unfolding piece
  piece_length n i m xs h l e =
      let a = ahead n i max_runs h in
      let t = length-take m (drop (n * i) xs) in
      let d = length-drop (n * i) xs in
      omega (arith, a, t, d, l, e)

  pub beside_same : (n i : ℕ) (xs : List A) → Beside n i xs xs
  beside_same n i xs = record { long = refl; others = λ j k h l. refl }

  -- where part i was lent, and ys came back
  module _ (d : A) (n i m a e : ℕ) (xs ys : List A) (c : Cut n i m a e) (inside : e ≤ length xs) (same : length ys ≡ e - a) where
    up : a + (e - a) ≡ e
    up = let t = c.to in omega (arith, t)

    front : length (take a xs) ≡ a
    front = let t = c.to in length-take-le a xs (omega (arith, t, inside))

    put_length : length (put a e xs ys) ≡ length xs
    put_length =
        let p = length-append (take a xs) (ys ++ drop (e - a) (drop a xs)) in
        let q = length-append ys (drop (e - a) (drop a xs)) in
        let r = length-drop (e - a) (drop a xs) in
        let s = length-drop a xs in
        let f = front in
        let u = up in
        omega (arith, p, q, r, s, f, u, inside, same)

    put_there : take (e - a) (drop a (put a e xs ys)) ≡ ys
    put_there =
        ap (λ (z : List A). take (e - a) z) (drop_at (take a xs) (ys ++ drop (e - a) (drop a xs)) a front) ∙ take_at ys (drop (e - a) (drop a xs)) (e - a) same

    pub piece_put : piece n i m (put a e xs ys) ≡ ys
    piece_put = sym (mid_is n i m a e (put a e xs ys) c) ∙ put_there

    early : (t : ℕ) → t < a → get_or (put a e xs ys) t d ≡ get_or xs t d
    early t h =
        let f = front in
        get_or-append (take a xs) (ys ++ drop (e - a) (drop a xs)) d t (omega (arith, f, h)) ∙ get_or-take a xs t d h

    late : (t : ℕ) → e ≤ t → get_or (put a e xs ys) t d ≡ get_or xs t d
    late t h =
        let f = front in
        let u = up in
        let s : t ≡ length (take a xs) + (length ys + (t - e)) = omega (arith, f, same, u, h) in
        let w : a + ((e - a) + (t - e)) ≡ t = omega (arith, u, h) in
        ap (λ j. get_or (put a e xs ys) j d) s ∙ get_or-append-add (take a xs) (ys ++ drop (e - a) (drop a xs)) (length ys + (t - e)) d
        ∙ get_or-append-add ys (drop (e - a) (drop a xs)) (t - e) d ∙ get_or-drop (e - a) (drop a xs) (t - e) d ∙ get_or-drop a xs ((e - a) + (t - e)) d
        ∙ ap (λ j. get_or xs j d) w

    -- what lies in part j lies before part i or behind it
    outside : (j t : ℕ) → (j ≡ i → ⊥) → t < n → Test (ltb j i) → get_or (put a e xs ys) (n * j + t) d ≡ get_or xs (n * j + t) d
    outside j t h l (holds s) =
        let p = ahead n j i (ltb-true j i s) in
        let f = c.from in
        early (n * j + t) (omega (arith, p, f, l))
    outside j t h l (fails s) =
        let q = ltb-false j i s in
        let z : i < j = omega (arith, q, h) in
        let p = ahead n i j z in
        let f = c.from in
        let u = c.to in
        let w = c.short in
        late (n * j + t) (omega (arith, p, f, u, w))

    others : (j o : ℕ) → (j ≡ i → ⊥) → o ≤ n → piece n j o (put a e xs ys) ≡ piece n j o xs
    unfolding piece
    others j o h l =
        let z = put a e xs ys in
        let l₁ = length-take o (drop (n * j) z) in
        let l₂ = length-drop (n * j) z in
        let l₃ = length-take o (drop (n * j) xs) in
        let l₄ = length-drop (n * j) xs in
        let l₅ = put_length in
        ext_get_or d (take o (drop (n * j) z)) (take o (drop (n * j) xs)) (omega (arith, l₁, l₂, l₃, l₄, l₅)) (λ t q.
        let y : t < o = omega (arith, l₁, q) in
        get_or-take o (drop (n * j) z) t d y ∙ get_or-drop (n * j) z t d ∙ outside j t h (omega (arith, y, l)) (test _) ∙ sym (get_or-drop (n * j) xs t d)
        ∙ sym (get_or-take o (drop (n * j) xs) t d y))

    pub beside : Beside n i xs (put a e xs ys)
    beside = record { long = put_length; others = others }

    pub filled : (zs : List A) → ys ≡ zs → length zs ≡ m → Filled n i zs xs (put a e xs ys)
    filled zs q l = record { starts = ap (λ o. piece n i o (put a e xs ys)) l ∙ piece_put ∙ q; beside = beside }
