-- What the private functions do, put together from what their calls do: words read are parts of cells, and stores follow one another. Assumes nothing.
use mathlib.Core.Path.{◌≡◌, ap, ◌∙◌}
use Prim.Native.Nat.{ℕ, ◌+◌, ◌<◌, ◌≤◌}
use native.Mathlib.Omega.{arith}
use native.Mathlib.Decide.{ℕ_discrete}
use Rattle.rules.specs.Limits.{max_nodes}
use Rattle.rules.specs.Number.{range}
use Rattle.rules.specs.Tree.{Label, Side, child, sibling}
use Rattle.table.specs.Cells.{cell, Table, gone, word_of, ByteLevels, word_on, link, left_on}
use Rattle.table.specs.Promises.{Behind}
use Rattle.table.specs.Steps.{with_word, Put, one_more, one_less, LedBack, next, final, Attached, Detached, Pushed, some, none, Popped, Took, again, fresh, full, Cleared, Entered, under, alone}
use Rattle.table.proofs.Behind.{put_behind, then_behind, same_behind}
use Rattle.table.proofs.Words.{twice, fits}

-- a left sibling's place fits a word
left_fits : (d : Side) (x : ℕ) → x < range → word_of (left_on d x) ≡ left_on d x
left_fits child x lt = fits gone (omega arith)
left_fits sibling x lt = fits x lt

pub attached : {m m₁ m₂ m₃ m₄ m' : Table} {n x u y old prev : ℕ} {l : Label} (d : Side) → ByteLevels l → n ≤ max_nodes → x < n → u < n → y < n
    → old ≡ link d (m x) → prev ≡ word_of (left_on d x)
    → Put m m₁ y (with_word 5 0 (with_word 9 gone (with_word 0 gone (m y))))
    → Put m₁ m₂ y (cell (m₁ y).first old (word_of u) prev (m₁ y).last (m₁ y).children l)
    → Put m₂ m₃ x (with_word (word_on d) (word_of y) (m₂ x)) → LedBack m₃ n old u (word_of y) m₄ → Put m₄ m' u (with_word 5 (one_more (m₄ u).children) (m₄ u))
    → Attached d l m m' n x u y
unfolding with_word
attached {m₂ = m₂} {m₃} {m₄} {x = x} {u} {y} {old} {prev} {l} d b few lx lu ly i w p q s k z =
    let left : prev ≡ left_on d x = w ∙ left_fits d x (omega arith) in
    record {
      bytes = b;
      m₁ = m₂;
      m₂ = m₃;
      m₃ = m₄;
      placed =
          rw (← i, ← left, ← fits u (omega arith)) (twice (λ a. cell a.first old (word_of u) prev a.last a.children l) p q);
      linked = rw (fits y (omega arith)) at s;
      back = rw (i, fits y (omega arith)) at k;
      counted = z;
    }

pub detached : {m m₁ m₂ m₃ m₄ m' : Table} {n x u y e next prev : ℕ} (d : Side) → next ≡ (m y).right → prev ≡ (m y).left
    → Put m m₁ x (with_word (word_on d) next (m x)) → LedBack m₁ n next u prev m₂ → Put m₂ m₃ y (with_word 1 gone (m₂ y)) → Put m₃ m₄ y (with_word 2 e (m₃ y))
    → Put m₄ m' u (with_word 5 (one_less (m₄ u).children) (m₄ u)) → Detached d m m' n x u y e
detached {m₁ = m₁} {m₂} {m₃} {m₄} d i j p k q s z =
    record { m₁ = m₁; m₂ = m₂; m₃ = m₃; m₄ = m₄; passed = rw i at p; back = rw (i, j) at k; cut = q; stacked = s; counted = z }

pub popped : {m m₁ m' : Table} {n x right rest first e r : ℕ} → right ≡ (m x).right → rest ≡ (m x).parent → first ≡ (m x).first
    → Pushed m n right rest m₁ e → Pushed m₁ n first e m' r → Popped m n x m' r
popped {m₁ = m₁} {e = e} i j k p q = record { m₁ = m₁; rest = e; right = rw (i, j) at p; first = rw k at q }

-- one place more has no children
pub cleared_more : {m m' : Table} {x : ℕ} → Cleared m x → Put m m' x (with_word 5 0 (with_word 9 gone (with_word 0 gone (m x)))) → Cleared m' (x + 1)
unfolding Cleared with_word
cleared_more {m} {m'} {x} h p y lt = go (ℕ_discrete y x)
  where
    go : Dec (y ≡ x) → ((m' y).first ≡ gone) × ((m' y).last ≡ gone) × ((m' y).children ≡ 0)
    go (yes e) = rw e (ap (λ a. a.first) p.on, ap (λ a. a.last) p.on, ap (λ a. a.children) p.on)
    go (no e) =
        let k = h y (omega arith) in
        let s = p.off y e in
        (ap (λ a. a.first) s ∙ k.0, ap (λ a. a.last) s ∙ k.1, ap (λ a. a.children) s ∙ k.2)

-- what a step leaves alone: the cells behind the first n
led_behind : {m m' : Table} {n x u v : ℕ} → u < n → LedBack m n x u v m' → Behind n m m'
led_behind lu (next lt p) = put_behind lt p
led_behind lu (final ge p) = put_behind lu p

pub attached_behind : {d : Side} {n x u y : ℕ} {l : Label} {m m' : Table} → x < n → u < n → y < n → Attached d l m m' n x u y → Behind n m m'
attached_behind lx lu ly g =
    then_behind (then_behind (then_behind (put_behind ly g.placed) (put_behind lx g.linked)) (led_behind lu g.back))
    (put_behind lu g.counted)

pub detached_behind : {d : Side} {n x u y e : ℕ} {m m' : Table} → x < n → u < n → y < n → Detached d m m' n x u y e → Behind n m m'
detached_behind lx lu ly g =
    then_behind
    (then_behind (then_behind (then_behind (put_behind lx g.passed) (led_behind lu g.back)) (put_behind ly g.cut)) (put_behind ly g.stacked))
    (put_behind lu g.counted)

pub pushed_behind : {m m' : Table} {n x e r : ℕ} → Pushed m n x e m' r → Behind n m m'
pushed_behind (some lt p i) = put_behind lt p
pushed_behind (none ge same i) = same_behind same

pub popped_behind : {m m' : Table} {n x r : ℕ} → Popped m n x m' r → Behind n m m'
popped_behind p = then_behind (pushed_behind p.right) (pushed_behind p.first)

pub took_behind : {m m' : Table} {n used free x free' used' : ℕ} → Took m n used free m' x free' used' → Behind n m m'
took_behind (again lt p i u) = popped_behind p
took_behind (fresh ge lt same i e u) = same_behind same
took_behind (full ge le same i e u) = same_behind same

pub entered_behind : {p x n : ℕ} {l : Label} {m m' : Table} → x < n → Entered n p x l m m' → Behind n m m'
entered_behind lx (under m₁ m₂ m₃ b lt p q k s) =
    then_behind (then_behind (then_behind (put_behind lx p) (put_behind (omega arith) q)) (led_behind (omega arith) k)) (put_behind (omega arith) s)
entered_behind lx (alone b ge p) = put_behind lx p
