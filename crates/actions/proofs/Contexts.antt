-- The digits of a number as contexts: the lowest is the innermost, a push shifts them up and a pop down. Sixteen of them fit two words: before a
-- push there are at most 15, so the number is below 256 to the power 15, and the highest byte of the upper word is zero. Assumes nothing.
use mathlib.Core.Path.{◌≡◌, sym, ◌∙◌, subst}
use Prim.Native.Nat.{ℕ, zero, suc, ◌+◌, ◌*◌, ◌/◌, ◌%◌, ◌^◌, ◌≤◌, ◌<◌}
use native.Mathlib.Nat.{add-mul-div_left, add-mul-mod_self_left, mod-add-div, mod-eq_of_lt, one-le-pow, pow-suc}
use native.Mathlib.Omega.{arith}
use mathlib.Core.List.{List, [], ◌∷◌, tail}
use lib.ListN.{length}
use Rattle.rules.specs.Limits.{max_depth}
use Rattle.rules.specs.Level.{public}
use Rattle.rules.specs.Run.{Block, context}
use Rattle.actions.specs.declared.guards.Guards.{Guards}
use Rattle.actions.specs.Guards.{Contexts, word, joined, Holds}

-- one more than the highest number of seven bytes
abbrev pub rest : ℕ
rest = 2 ^ 56

-- digits

top : (n : ℕ) (bs : List Block) → Contexts n bs → n % 256 ≡ context bs
unfolding context public
top n [] h = omega arith
top n (b ∷ bs) h = h.0

popped : (n : ℕ) (bs : List Block) → Contexts n bs → Contexts (n / 256) (tail bs)
popped n [] h = omega arith
popped n (b ∷ bs) h = h.1

pushed : (n c : ℕ) (b : Block) (bs : List Block) → Contexts n bs → c < 256 → c ≡ context (b ∷ bs) → Contexts (256 * n + c) (b ∷ bs)
pushed n c b bs h l e =
    let x : (256 * n + c) % 256 ≡ c = omega arith in
    let y : (256 * n + c) / 256 ≡ n = omega arith in
    (x ∙ e, subst (λ (k : ℕ). Contexts k bs) (sym y) h)

-- a number with at most k digits is below 256 to the power k
below : (n k : ℕ) (bs : List Block) → Contexts n bs → length bs ≤ k → n < 256 ^ k
below n k [] h l = omega (arith, one-le-pow k 256 (omega arith))
below n zero (b ∷ bs) h l = omega arith
below n (suc k) (b ∷ bs) h l = omega (arith, pow-suc 256 k, below (n / 256) k bs h.1 (omega arith))

-- two words as one number: l the lower, h the upper

upper : (l h : ℕ) → l + word * h < 256 ^ 15 → h < rest
upper l h p = omega arith

lowest : (l h : ℕ) → (l + word * h) % 256 ≡ l % 256
lowest l h =
    let e : word * h ≡ 256 * (rest * h) = omega arith in
    rw e (add-mul-mod_self_left l 256 (rest * h))

shifted_down : (l h : ℕ) → l / 256 + h % 256 * rest + word * (h / 256) ≡ (l + word * h) / 256
shifted_down l h =
    let e : word * h ≡ 256 * (rest * h) = omega arith in
    let d : (l + 256 * (rest * h)) / 256 ≡ l / 256 + rest * h = add-mul-div_left l (rest * h) (omega arith) in
    rw e (digits (l / 256) h (h % 256) (h / 256) (mod-add-div h 256) ∙ sym d)
  where
    digits : (x h m q : ℕ) → m + 256 * q ≡ h → x + m * rest + word * q ≡ x + rest * h
    digits x h m q e = omega arith

shifted_up : (l h c : ℕ) → h < rest → l % rest * 256 + c + word * (h % rest * 256 + l / rest) ≡ 256 * (l + word * h) + c
shifted_up l h c p = rw (mod-eq_of_lt p) (digits l h c (l % rest) (l / rest) (mod-add-div l rest))
  where
    digits : (l h c m q : ℕ) → m + rest * q ≡ l → m * 256 + c + word * (h * 256 + q) ≡ 256 * (l + word * h) + c
    digits l h c m q e = omega arith

-- seven bytes and one make a word, either way round

pub down_fits : (x y : ℕ) → x < rest → y < 256 → x + y * rest < word
down_fits x y p q = omega arith

pub up_fits : (x y : ℕ) → x < rest → y < 256 → x * 256 + y < word
up_fits x y p q = omega arith

-- what two words hold

pub held_top : (g : Guards) (bs : List Block) → Holds g bs → g.low % 256 ≡ context bs
held_top g bs h = sym (lowest g.low g.high) ∙ top (joined g) bs h.contexts

pub held_pop : (g : Guards) (bs : List Block) → Holds g bs →
    Holds (record { low = g.low / 256 + g.high % 256 * rest; high = g.high / 256 }) (tail bs)
held_pop g bs h = record { contexts = rw (shifted_down g.low g.high) (popped (joined g) bs h.contexts) }

pub held_push : (g : Guards) (c : ℕ) (b : Block) (bs : List Block) → c < 256 → Holds g bs → length bs < max_depth → c ≡ context (b ∷ bs) →
    Holds (record { low = g.low % rest * 256 + c; high = g.high % rest * 256 + g.low / rest }) (b ∷ bs)
held_push g c b bs s h d e =
    let p = upper g.low g.high (below (joined g) 15 bs h.contexts (omega arith)) in
    record { contexts = rw (shifted_up g.low g.high c p) (pushed (joined g) c b bs h.contexts s e) }
