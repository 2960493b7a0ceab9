-- Laws of pieces: one behind the other, and a line whose numbers are known. Assumes nothing.
use mathlib.Core.List.{List, [], ◌∷◌, ◌++◌}
use mathlib.Core.Path.{◌≡◌, sym, ◌∙◌, ap, subst}
use native.Mathlib.Numerals.{add-one}
use Prim.Native.Nat.{ℕ, ◌+◌}
use Rattle.print.specs.Waiting.{Output, push, pushes, Row}
use Rattle.frames.specs.Pieces.{Piece, row, Puts, none, more, Writes, first}

pub joined : {ps qs : List Piece} {w u v : List ℕ} → Puts ps w u → Puts qs u v → Puts (ps ++ qs) w v
joined none b = b
joined (more x a) b = more x (joined a b)

-- a line of these numbers, which are those
pub lined : {name ns ms w v : List ℕ} {below : ℕ} → ns ≡ ms → Row name ns below w v → Puts (row name ms below ∷ []) w v
lined {name} {w = w} {v = v} {below = below} e x = more (subst (λ (l : List ℕ). Row name l below w v) e x) none

-- two bytes, which are those
pub paired : (w : List ℕ) {u v : List ℕ} {x x' y y' : ℕ} → u ≡ push w x → v ≡ push u y → x ≡ x' → y ≡ y' → v ≡ pushes w (x' ∷ y' ∷ [])
unfolding pushes
paired w {x' = x} {y = y} a b e f = b ∙ ap (λ u. push u y) a ∙ ap (λ z. push (push w z) y) e ∙ ap (push (push w x)) f

module _ {o p q : Output} where
  -- pieces, and then others
  pub after : {ps qs : List Piece} → Writes ps o p → Writes qs p q → Writes (ps ++ qs) o q
  after x y = record { same = y.same ∙ x.same; puts = joined x.puts y.puts }

  -- the first of something, and the next
  pub onward : (f : ℕ → Piece) (i : ℕ) → Writes (first f i) o p → Writes (f i ∷ []) p q → Writes (first f (i + 1)) o q
  unfolding first
  onward f i x y = subst (λ n. Writes (first f n) o q) (sym (add-one i)) (after x y)
