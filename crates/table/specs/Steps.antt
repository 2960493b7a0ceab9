-- What the table's private functions do to its cells. Assumes nothing.
use Rattle.std.specs.Prelude.{◌≡◌, ℕ, zero, suc, ◌+◌, ◌-◌, ◌<◌, ◌≤◌, ℤ}
use Rattle.rules.specs.Number.{range, signed}
use Rattle.rules.specs.Tree.{Label, Side}
use Rattle.table.specs.Cells.{Cell, cell, Table, ByteLevels, gone, word_of, word_on, link, left_on}

-- a cell with another label
abbrev pub with_label : Label → Cell → Cell
with_label l a = cell a.first a.right a.parent a.left a.last a.children l

abbrev relabelled : Cell → ℤ → ℕ → ℕ → ℕ → Cell
relabelled a v e c s = with_label (record { value = v; existence = e; content = c; structure = s }) a

-- a cell with word j another
unfoldable pub with_word : ℕ → ℕ → Cell → Cell
with_word zero v a = cell v a.right a.parent a.left a.last a.children a.label
with_word (suc zero) v a = cell a.first v a.parent a.left a.last a.children a.label
with_word (suc (suc zero)) v a = cell a.first a.right v a.left a.last a.children a.label
with_word (suc (suc (suc zero))) v a = relabelled a a.label.value v a.label.content a.label.structure
with_word (suc (suc (suc (suc zero)))) v a = relabelled a (signed v) a.label.existence a.label.content a.label.structure
with_word (suc (suc (suc (suc (suc zero))))) v a = cell a.first a.right a.parent a.left a.last v a.label
with_word (suc (suc (suc (suc (suc (suc zero)))))) v a = relabelled a a.label.value a.label.existence v a.label.structure
with_word (suc (suc (suc (suc (suc (suc (suc zero))))))) v a = relabelled a a.label.value a.label.existence a.label.content v
with_word (suc (suc (suc (suc (suc (suc (suc (suc zero)))))))) v a = cell a.first a.right a.parent v a.last a.children a.label
with_word (suc (suc (suc (suc (suc (suc (suc (suc (suc j))))))))) v a = cell a.first a.right a.parent a.left v a.children a.label

-- the cell at x has become a, and no other cell has changed
pub record Put (m m' : Table) (x : ℕ) (a : Cell) : Type 0 where
  pub on : m' x ≡ a
  pub off : (y : ℕ) → (y ≡ x → ⊥) → m' y ≡ m y

-- a cell but for its parent word
abbrev pub orphan : Cell → Cell
orphan a = cell a.first a.right gone a.left a.last a.children a.label

-- the parent words of some cells may have changed, and nothing else
pub record Reparented (touched : ℕ → ℕ) (m m' : Table) : Type 0 where
  pub cells : (y : ℕ) → touched y ≡ 0 → m' y ≡ m y
  pub rest : (y : ℕ) → orphan (m' y) ≡ orphan (m y)

-- one child more, and one less, in 32 bits
unfoldable pub one_more : ℕ → ℕ
one_more j = word_of (j + 1)

unfoldable pub one_less : ℕ → ℕ
one_less j = word_of (j + (range - 1))

-- what stands behind the place v in a list of the parent u leads back to v, in a table of n places: the node at x does by its left link, or where x is no
-- place the parent by its last
pub data LedBack (m : Table) (n x u v : ℕ) (m' : Table) : Type 0 where
  next : x < n → Put m m' x (with_word 8 v (m x)) → LedBack m n x u v m'
  final : n ≤ x → Put m m' u (with_word 9 v (m u)) → LedBack m n x u v m'

-- the place y, with the label l, was linked in front of what stands on the side d of the node at x, under the parent u
pub record Attached (d : Side) (l : Label) (m m' : Table) (n x u y : ℕ) : Type 0 where
  pub bytes : ByteLevels l
  pub m₁ : Table
  pub m₂ : Table
  pub m₃ : Table
  pub placed : Put m m₁ y (cell gone (link d (m x)) u (left_on d x) gone 0 l)
  pub linked : Put m₁ m₂ x (with_word (word_on d) y (m₁ x))
  pub back : LedBack m₂ n (link d (m x)) u y m₃
  pub counted : Put m₃ m' u (with_word 5 (one_more (m₃ u).children) (m₃ u))

-- the first node on the side d of the one at x, which stands at y, was taken out from under the parent u; its parent word leads to e
pub record Detached (d : Side) (m m' : Table) (n x u y e : ℕ) : Type 0 where
  pub m₁ : Table
  pub m₂ : Table
  pub m₃ : Table
  pub m₄ : Table
  pub passed : Put m m₁ x (with_word (word_on d) (m y).right (m x))
  pub back : LedBack m₁ n (m y).right u (m y).left m₂
  pub cut : Put m₂ m₃ y (with_word 1 gone (m₂ y))
  pub stacked : Put m₃ m₄ y (with_word 2 e (m₃ y))
  pub counted : Put m₄ m' u (with_word 5 (one_less (m₄ u).children) (m₄ u))

-- the forest that x leads to, if any, has gone onto the stack that e leads to; r leads to it now
pub data Pushed (m : Table) (n x e : ℕ) (m' : Table) (r : ℕ) : Type 0 where
  some : x < n → Put m m' x (with_word 2 e (m x)) → r ≡ x → Pushed m n x e m' r
  none : n ≤ x → ((y : ℕ) → m' y ≡ m y) → r ≡ e → Pushed m n x e m' r

-- the first place x of the stack has left it, but for the forests that hang from x; r leads to it now
pub record Popped (m : Table) (n x : ℕ) (m' : Table) (r : ℕ) : Type 0 where
  pub m₁ : Table
  pub rest : ℕ
  pub right : Pushed m n (m x).right (m x).parent m₁ rest
  pub first : Pushed m₁ n (m x).first rest m' r

-- a place x was taken: the first of the free places, or else the first that was never used; or there is none
pub data Took (m : Table) (n used free : ℕ) (m' : Table) (x free' used' : ℕ) : Type 0 where
  again : free < n → Popped m n free m' free' → x ≡ free → used' ≡ used → Took m n used free m' x free' used'
  fresh : n ≤ free → used < n → ((y : ℕ) → m' y ≡ m y) → x ≡ used → free' ≡ free → used' ≡ used + 1 → Took m n used free m' x free' used'
  full : n ≤ free → n ≤ used → ((y : ℕ) → m' y ≡ m y) → x ≡ gone → free' ≡ free → used' ≡ used → Took m n used free m' x free' used'

-- the first n places have no children
unfoldable pub Cleared : Table → ℕ → Type 0
Cleared m n = (x : ℕ) → x < n → ((m x).first ≡ gone) × ((m x).last ≡ gone) × ((m x).children ≡ 0)

-- the record x of a job, with the label l, was entered into a table of n places: in front of the children of its parent p, if that
-- comes before it, or else by itself
pub data Entered (n p x : ℕ) (l : Label) (m m' : Table) : Type 0 where
  under : (m₁ m₂ m₃ : Table) → ByteLevels l → p < x → Put m m₁ x (cell (m x).first (m p).first p gone (m x).last (m x).children l)
      → Put m₁ m₂ p (with_word 0 x (m₁ p)) → LedBack m₂ n (m p).first p x m₃ → Put m₃ m' p (with_word 5 (one_more (m₃ p).children) (m₃ p))
      → Entered n p x l m m'
  alone : ByteLevels l → x ≤ p → Put m m' x (cell (m x).first gone gone gone (m x).last (m x).children l) → Entered n p x l m m'
