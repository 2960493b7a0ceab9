-- Nodes listed with each followed by its whole subtree: what the records with a given parent make of such a list is the forest that it lists.
-- Assumes nothing.
use mathlib.Core.Path.{◌≡◌, refl, sym, ap, ap₂, ◌∙◌}
use Prim.Native.Nat.{ℕ, zero, suc, ◌+◌, ◌≤◌, ◌<◌}
use native.Mathlib.Omega.{arith}
use mathlib.Core.Bool.{cond}
use mathlib.Core.List.{List, [], ◌∷◌, ◌++◌, append_assoc}
use lib.ListN.{length, get_or, length-append}
use lib.Dec.{eqb}
use borrow.Author.Tests.{eq-eqb, ne_eqb}
use Rattle.rules.specs.Tree.{Label, Forest, nil, tree, size}
use Rattle.rules.specs.Number as Number
use Rattle.rules.specs.Write.{Entry, listing, RangedTree}

-- of the entries from index i on, those with parent p, each with its children, which come after it
unfoldable pub kids : ℕ → ℕ → List Entry → Forest
kids p i [] = nil
kids p i (e ∷ es) = cond (eqb e.parent p) (tree e.label (kids i (suc i) es) (kids p (suc i) es)) (kids p (suc i) es)

module _ (p i : ℕ) (e : Entry) (es : List Entry) where
  pub kids_mine : e.parent ≡ p → kids p i (e ∷ es) ≡ tree e.label (kids i (suc i) es) (kids p (suc i) es)
  unfolding kids
  kids_mine h = rw (eq-eqb _ _ h)

  pub kids_other : (e.parent ≡ p → ⊥) → kids p i (e ∷ es) ≡ kids p (suc i) es
  unfolding kids
  kids_other h = rw (ne_eqb _ _ h)

-- an earlier record that is not the parent has no children in a listing
pub skip : (p q j : ℕ) (f : Forest) (rest : List Entry) (e : ℕ) → p < j → (q ≡ p → ⊥) → e ≡ j + size f → kids p j (listing q j f ++ rest) ≡ kids p e rest
unfolding listing size
skip p q j nil rest e h n z = ap (λ (k : ℕ). kids p k rest) {x = j} {y = e} (omega arith)
skip p q j (tree l c r) rest e h n z =
    kids_other p j _ _ n
    ∙ ap (kids p (suc j)) (append_assoc (listing j (suc j) c) (listing q (suc j + size c) r) rest)
    ∙ skip p j (suc j) c _ (suc j + size c) (omega arith) (λ w. omega arith) (omega arith)
    ∙ skip p q (suc j + size c) r rest e (omega arith) n (omega arith)

-- and the parent has the forest that is listed, where what follows has no more children of it or of the nodes listed
pub keep : (p j : ℕ) (f : Forest) (rest : List Entry) (e : ℕ) → p < j → e ≡ j + size f → kids p e rest ≡ nil
    → ((q : ℕ) → j ≤ q → q < e → kids q e rest ≡ nil) → kids p j (listing p j f ++ rest) ≡ f
unfolding listing size
keep p j nil rest e h z mine theirs = ap (λ (k : ℕ). kids p k rest) {x = j} {y = e} (omega arith) ∙ mine
keep p j (tree l c r) rest e h z mine theirs =
    kids_mine p j _ _ refl
    ∙ ap₂ (tree l)
    (ap (kids j (suc j)) (append_assoc (listing j (suc j) c) (listing p (suc j + size c) r) rest)
    ∙ keep j (suc j) c (listing p (suc j + size c) r ++ rest) (suc j + size c) (omega arith) (omega arith) (gone j (omega arith) (omega arith)) (λ q a b. gone q (omega arith) b))
    (ap (kids p (suc j)) (append_assoc (listing j (suc j) c) (listing p (suc j + size c) r) rest)
    ∙ skip p j (suc j) c _ (suc j + size c) (omega arith) (λ w. omega arith) (omega arith)
    ∙ keep p (suc j + size c) r rest e (omega arith) (omega arith) mine (λ q a b. theirs q (omega arith) b))
  where
    gone : (q : ℕ) → j ≤ q → q < suc j + size c → kids q (suc j + size c) (listing p (suc j + size c) r ++ rest) ≡ nil
    gone q a b = skip q p (suc j + size c) r rest e b (λ w. omega arith) (omega arith) ∙ theirs q a (omega arith)

pub listing_length : (p i : ℕ) (f : Forest) → length (listing p i f) ≡ size f
unfolding listing size
listing_length p i nil = refl
listing_length p i (tree l c r) =
    ap suc (length-append (listing i (suc i) c) (listing p (suc i + size c) r) ∙ ap₂ ◌+◌ (listing_length i (suc i) c) (listing_length p (suc i + size c) r))

-- every entry, with its index, has a property
abbrev pub All : (ℕ → Entry → Type 0) → ℕ → List Entry → Type 0
All P i [] = Unit {0}
All P i (e ∷ es) = P i e × All P (suc i) es

module _ (P : ℕ → Entry → Type 0) where
  pub all_append : (i m : ℕ) (xs ys : List Entry) → m ≡ i + length xs → All P i xs → All P m ys → All P i (xs ++ ys)
  all_append i m [] ys z f g = let w : m ≡ i = omega arith in rw w at g
  all_append i m (x ∷ xs) ys z f g = (f.0, all_append (suc i) m xs ys (omega arith) f.1 g)

  pub all_at : (i : ℕ) (es : List Entry) (d : Entry) → All P i es → (k : ℕ) → k < length es → P (i + k) (get_or es k d)
  all_at i [] d f k h = absurd (omega arith)
  all_at i (e ∷ es) d f zero h = let z : i + 0 ≡ i = omega arith in rw z f.0
  all_at i (e ∷ es) d f (suc k) h = let z : i + suc k ≡ suc i + k = omega arith in rw z (all_at (suc i) es d f.1 k (omega arith))

-- its parent stands before it
abbrev pub Before : ℕ → Entry → Type 0
Before i e = e.parent < i

-- its value is a signed 32-bit number
abbrev pub Valued : ℕ → Entry → Type 0
Valued i e = Number.Fits e.label.value

pub before_listing : (p i : ℕ) (f : Forest) → p < i → All Before i (listing p i f)
unfolding listing
before_listing p i nil h = tt
before_listing p i (tree l c r) h = (
  h,
  all_append Before (suc i) (suc i + size c) (listing i (suc i) c) (listing p (suc i + size c) r)
      (ap (λ (n : ℕ). suc i + n) (sym (listing_length i (suc i) c))) (before_listing i (suc i) c (omega arith))
      (before_listing p (suc i + size c) r (omega arith)),
)

pub valued_listing : (p i : ℕ) (f : Forest) → RangedTree f → All Valued i (listing p i f)
unfolding listing
valued_listing p i nil v = tt
valued_listing p i (tree l c r) v = (
  v.0,
  all_append Valued (suc i) (suc i + size c) (listing i (suc i) c) (listing p (suc i + size c) r)
      (ap (λ (n : ℕ). suc i + n) (sym (listing_length i (suc i) c))) (valued_listing i (suc i) c v.1)
      (valued_listing p (suc i + size c) r v.2),
)

-- the records behind the root of a tree
pub before_root : (p : ℕ) (l : Label) (c : Forest) (d : Entry) (k : ℕ) → k < size c → (get_or (listing p 0 (tree l c nil)) (suc k) d).parent < suc k
unfolding listing
before_root p l c d k h =
    let z = all_at Before 1 (listing 0 1 c ++ []) d
    (all_append Before 1 (1 + size c) (listing 0 1 c) [] (ap (λ (n : ℕ). 1 + n) (sym (listing_length 0 1 c))) (before_listing 0 1 c (omega arith)) tt) k
    (let y = listing_length 0 1 c in let x = length-append (listing 0 1 c) [] in omega arith)
    in omega arith
