-- Laws of what waits: a store at its end, or at the start of a full buffer, is a byte more; a text that ends in a byte; the parts of a line. Assumes
-- nothing.
use mathlib.Core.List.{List, [], ◌∷◌, ◌++◌}
use mathlib.Core.Path.{◌≡◌, refl, sym, ◌∙◌, ap, subst}
use native.Mathlib.Numerals.{add-one}
use native.Mathlib.Omega.{arith}
use Prim.Native.Nat.{ℕ, suc, ◌+◌, ◌*◌, ◌≤◌, ◌<◌}
use Rattle.std.proofs.Common.{lit<}
use lib.Dec.{eqb}
use lib.ListN.{length, take, get_or, set}
use lib.Seq.{length-take-le, take-suc, take-suc-set}
use borrow.Author.Tests.{lt-ltb, le-ltb}
use Rattle.print.specs.Waiting.{size, push, pushes, Shown, Lined, Listed, more, Numbers}

push_room : (w : List ℕ) (b : ℕ) → length w < size → push w b ≡ w ++ (b ∷ [])
unfolding push
push_room w b h = rw (lt-ltb (length w) size h)

push_full : (w : List ℕ) (b : ℕ) → size ≤ length w → push w b ≡ b ∷ []
unfolding push
push_full w b h = rw (le-ltb (length w) size h)

-- what waits at the start of a buffer is as long as is used of it
pub waiting : (l : List ℕ) (used : ℕ) (w : List ℕ) → size ≡ length l → used ≤ size → take used l ≡ w → length w ≡ used
waiting l used w whole h e = sym (ap length e) ∙ length-take-le used l (omega arith)

-- a store behind what waits, where there is room
pub stored : (l : List ℕ) (used b : ℕ) (w : List ℕ) → size ≡ length l → used ≤ size → take used l ≡ w → length w < size → take (used + 1) (set l used b) ≡ push w b
stored l used b w whole h e room =
    let long : length w ≡ used = waiting l used w whole h e in
    ap (λ (n : ℕ). take n (set l used b)) (add-one used) ∙ take-suc-set l used b (omega arith) ∙ ap (λ (v : List ℕ). v ++ (b ∷ [])) e ∙ sym (push_room w b room)

-- a byte more in a buffer that was full is one in an empty buffer
pub emptied : (w v : List ℕ) (b : ℕ) → size ≤ length w → v ≡ [] → push v b ≡ push w b
emptied w v b h e = ap (λ (u : List ℕ). push u b) e ∙ push_room [] b (lit< tt) ∙ sym (push_full w b h)

-- a text that ends in a byte
pushes_end : (w t : List ℕ) (b : ℕ) → pushes w (t ++ (b ∷ [])) ≡ push (pushes w t) b
unfolding pushes
pushes_end w [] b = refl
pushes_end w (x ∷ t) b = pushes_end (push w x) t b

-- the first bytes of a text, and one more
pub pushed : (w t : List ℕ) (i : ℕ) → i < length t → push (pushes w (take i t)) (get_or t i 0) ≡ pushes w (take (i + 1) t)
pushed w t i h =
    sym (ap (λ (n : ℕ). pushes w (take n t)) (add-one i) ∙ ap (λ (l : List ℕ). pushes w l) (take-suc t i 0 h) ∙ pushes_end w (take i t) (get_or t i 0))

-- a line more, from what its name, its board line and its end leave
pub lined :
    (name area w u p v x : List ℕ) (n : ℕ) → Listed name area w n u → p ≡ pushes u name → Lined area (5 * n) p v → x ≡ push v 10
    → Listed name area w (n + 1) x
lined name area w u p v x n h named s ended =
    subst (λ (k : ℕ). Listed name area w k x) (sym (add-one n)) (subst (λ (l : List ℕ). Listed name area w (suc n) l) (sym ended) (more h
    (subst (λ (l : List ℕ). Lined area (5 * n) l v) named s)))

-- a number of a row more, behind its space
pub numbered :
    (numbers w u p v : List ℕ) (k below : ℕ) → Numbers numbers below w k u → p ≡ push u 32 → Shown (eqb k below) (get_or numbers k 0) p v
    → Numbers numbers below w (k + 1) v
numbered numbers w u p v k below h spaced s =
    subst (λ (j : ℕ). Numbers numbers below w j v) (sym (add-one k))
    (Numbers.more h (subst (λ (l : List ℕ). Shown (eqb k below) (get_or numbers k 0) l v) spaced s))
