-- A store of one word changes one cell, in one of its parts; several stores to one cell make one change of it. Assumes nothing.
use mathlib.Core.Path.{◌≡◌, refl, ap, ◌∙◌}
use mathlib.Core.List.{List}
use mathlib.Core.Bool.{cond}
use Prim.Native.Nat.{ℕ, zero, suc, ◌+◌, ◌-◌, ◌*◌, ◌<◌, ◌≤◌}
use Rattle.rules.specs.Number.{range}
use Rattle.rules.specs.Tree.{Label, Side, child, sibling}
use native.Mathlib.Omega.{arith}
use native.Mathlib.Decide.{ℕ_discrete}
use lib.Dec.{eqb}
use lib.ListN.{length, set}
use lib.Seq.{get_or-set_same, get_or-set_other}
use borrow.Author.Tests.{eq-eqb, ne_eqb}
use Rattle.table.specs.Cells.{Cell, cell, Table, cell_size, word, word_of, label_with, cells, word_on, link}
use Rattle.table.specs.Steps.{with_word, with_label, Put, one_more, one_less}
use Rattle.table.proofs.Links.{with_link}

-- the cell at x, by its words
spelled : (b : List ℕ) (x : ℕ) (g : ℕ → ℕ) → ((i : ℕ) → i < cell_size → word b x i ≡ g i)
    → cells b x ≡ cell (g 0) (g 1) (g 2) (g 8) (g 9) (g 5) (label_with (g 4) (g 3) (g 6) (g 7))
unfolding cells
spelled b x g h =
    λ i.
    cell (h 0 (omega arith) i) (h 1 (omega arith) i) (h 2 (omega arith) i) (h 8 (omega arith) i) (h 9 (omega arith) i) (h 5 (omega arith) i)
    (label_with (h 4 (omega arith) i) (h 3 (omega arith) i) (h 6 (omega arith) i) (h 7 (omega arith) i))

module _ (b : List ℕ) (x : ℕ) (h : cell_size * x + cell_size ≤ length b) where
  here : (j v i : ℕ) → j < cell_size → word (set b (cell_size * x + j) v) x i ≡ cond (eqb i j) v (word b x i)
  here j v i lt = go (ℕ_discrete i j)
    where
      go : Dec (i ≡ j) → word (set b (cell_size * x + j) v) x i ≡ cond (eqb i j) v (word b x i)
      go (yes q) = rw (eq-eqb i j q, q) (get_or-set_same b (cell_size * x + j) v 0 (omega arith))
      go (no q) = rw (ne_eqb i j q) (get_or-set_other b (cell_size * x + j) (cell_size * x + i) v 0 (λ z. q (omega arith)))

  by_words : (j v : ℕ) → j < cell_size → cells (set b (cell_size * x + j) v) x
      ≡ (let g : ℕ → ℕ = λ i. cond (eqb i j) v (word b x i) in cell (g 0) (g 1) (g 2) (g 8) (g 9) (g 5) (label_with (g 4) (g 3) (g 6) (g 7)))
  by_words j v lt = spelled (set b (cell_size * x + j) v) x (λ i. cond (eqb i j) v (word b x i)) (λ i _. here j v i lt)

  one_word : (j v : ℕ) → j < cell_size → cells (set b (cell_size * x + j) v) x ≡ with_word j v (cells b x)
  unfolding cells with_word
  one_word zero v lt = by_words 0 v lt
  one_word (suc zero) v lt = by_words 1 v lt
  one_word (suc (suc zero)) v lt = by_words 2 v lt
  one_word (suc (suc (suc zero))) v lt = by_words 3 v lt
  one_word (suc (suc (suc (suc zero)))) v lt = by_words 4 v lt
  one_word (suc (suc (suc (suc (suc zero))))) v lt = by_words 5 v lt
  one_word (suc (suc (suc (suc (suc (suc zero)))))) v lt = by_words 6 v lt
  one_word (suc (suc (suc (suc (suc (suc (suc zero))))))) v lt = by_words 7 v lt
  one_word (suc (suc (suc (suc (suc (suc (suc (suc zero)))))))) v lt = by_words 8 v lt
  one_word (suc (suc (suc (suc (suc (suc (suc (suc (suc zero))))))))) v lt = by_words 9 v lt
  one_word (suc (suc (suc (suc (suc (suc (suc (suc (suc (suc k)))))))))) v lt = absurd (omega arith)

  elsewhere : (j v y : ℕ) → j < cell_size → (y ≡ x → ⊥) → cells (set b (cell_size * x + j) v) y ≡ cells b y
  unfolding cells
  elsewhere j v y lt ne =
      spelled (set b (cell_size * x + j) v) y (word b y)
      (λ i hi. get_or-set_other b (cell_size * x + j) (cell_size * y + i) v 0 (λ q. ne (omega arith)))

  pub put_word : (j v : ℕ) → j < cell_size → Put (cells b) (cells (set b (cell_size * x + j) v)) x (with_word j v (cells b x))
  put_word j v lt = record { on = one_word j v lt; off = λ y. elsewhere j v y lt }

-- two changes of one cell
pub twice : {m m₁ m₂ : Table} {x : ℕ} {a : Cell} (f : Cell → Cell) → Put m m₁ x a → Put m₁ m₂ x (f (m₁ x)) → Put m m₂ x (f a)
twice f p q = record { on = q.on ∙ ap f p.on; off = λ y ne. q.off y ne ∙ p.off y ne }

-- a cell gets a label, and is filled, word by word
module _ {m m₁ m₂ m₃ m₄ : Table} {x : ℕ} where
  pub labelled : (v : ℕ) {e c s : ℕ} → Put m m₁ x (with_word 3 e (m x)) → Put m₁ m₂ x (with_word 4 v (m₁ x)) → Put m₂ m₃ x (with_word 6 c (m₂ x))
      → Put m₃ m₄ x (with_word 7 s (m₃ x)) → Put m m₄ x (with_label (label_with v e c s) (m x))
  unfolding with_word
  labelled v {c = c} {s} p₁ p₂ p₃ p₄ = twice (with_word 7 s) (twice (with_word 6 c) (twice (with_word 4 v) p₁ p₂) p₃) p₄

  pub filled : {r u v : ℕ} {l : Label} → Put m m₁ x (with_word 1 r (m x)) → Put m₁ m₂ x (with_word 2 u (m₁ x)) → Put m₂ m₃ x (with_word 8 v (m₂ x))
      → Put m₃ m₄ x (with_label l (m₃ x)) → Put m m₄ x (cell (m x).first r u v (m x).last (m x).children l)
  unfolding with_word
  filled {u = u} {v} {l} p₁ p₂ p₃ p₄ = twice (with_label l) (twice (with_word 8 v) (twice (with_word 2 u) p₁ p₂) p₃) p₄

-- links by their word
pub link_word : (b : List ℕ) (x : ℕ) (d : Side) → word b x (word_on d) ≡ link d (cells b x)
unfolding cells
link_word b x child = refl
link_word b x sibling = refl

pub with_link_law : (d : Side) (v : ℕ) (a : Cell) → with_word (word_on d) v a ≡ with_link d v a
unfolding with_word
with_link_law child v a = refl
with_link_law sibling v a = refl

-- counts that fit
pub one_more_law : (j : ℕ) → j < 4294967295 → one_more j ≡ suc j
unfolding one_more word_of
one_more_law j lt = omega arith

pub one_less_law : (j : ℕ) → 0 < j → j < range → one_less j ≡ j - 1
unfolding one_less word_of
one_less_law j some lt = omega arith

-- a number below 2 ^ 32 is its own word
pub fits : (x : ℕ) → x < range → word_of x ≡ x
unfolding word_of
fits x lt = omega arith
