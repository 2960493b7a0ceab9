-- The labelled tree, its places, what a command does at a place, and the tree rules. Assumes nothing.
use Rattle.std.specs.Prelude.{◌≡◌, ℕ, suc, ◌+◌, Bool, true, false, ◌&&◌, cond, ℤ, pos}
use Rattle.std.proofs.Math.Option.{Option, none, some, map, Option-elim, bind}
use Rattle.rules.specs.Level.{Level, public, not_above, is_level}

-- "A node has a signed 32-bit value, an existence level, a content level and a list level": the last is the structure level, who may know its number of children
pub record Label : Type 0 where
  pub value : ℤ
  pub existence : Level
  pub content : Level
  pub structure : Level

-- siblings from left to right: nothing, or a node with its children and the siblings to its right
pub data Forest : Type 0 where
  nil : Forest
  tree : Label → Forest → Forest → Forest

-- the label of no node
unfoldable pub no_label : Label
no_label = record { value = pos 0; existence = public; content = public; structure = public }

-- the first node's label
unfoldable pub label : Forest → Label
label nil = no_label
label (tree l c r) = l

-- whether there is a first node
unfoldable pub exists : Forest → Bool
exists nil = false
exists (tree l c r) = true

-- how many siblings
unfoldable pub count : Forest → ℕ
count nil = 0
count (tree l c r) = suc (count r)

-- how many nodes
unfoldable pub size : Forest → ℕ
size nil = 0
size (tree l c r) = suc (size c + size r)

-- from a node to its first child, or to its right sibling
pub data Side : Type 0 where
  child sibling : Side

-- what stands on a side of the first node: its children, or its right siblings
unfoldable pub along : Side → Forest → Forest
along d nil = nil
along child (tree l c r) = c
along sibling (tree l c r) = r

-- a place: the way to it from the root, the last move first
pub data Place : Type 0 where
  root : Place
  to : Side → Place → Place

-- the parent's place
unfoldable pub up : Place → Option Place
up root = none
up (to child p) = some p
up (to sibling p) = up p

-- the left sibling's place
unfoldable pub left_of : Place → Option Place
left_of root = none
left_of (to child p) = none
left_of (to sibling p) = some p

-- the node at a place, with its children and right siblings
unfoldable pub sub : Place → Forest → Forest
sub root t = t
sub (to d p) t = along d (sub p t)

-- the place of the last of siblings, the first of which stands at p
unfoldable pub last_from : Place → Forest → Option Place
last_from p nil = none
last_from p (tree l c nil) = some p
last_from p (tree l c (tree k d r)) = last_from (to sibling p) (tree k d r)

-- the place of the last child of the node at p
unfoldable pub last_of : Place → Forest → Option Place
last_of p t = last_from (to child p) (sub (to child p) t)

-- the first node with f done on one of its sides
unfoldable pub on_side : Side → (Forest → Forest) → Forest → Forest
on_side d f nil = nil
on_side child f (tree l c r) = tree l (f c) r
on_side sibling f (tree l c r) = tree l c (f r)

-- the tree with f done at a place
unfoldable pub change : Place → (Forest → Forest) → Forest → Forest
change root f t = f t
change (to d p) f t = change p (on_side d f) t

-- a new node in front of the others
unfoldable pub insert : Label → Forest → Forest
insert l t = tree l nil t

-- the first node removed "with its subtree"
unfoldable pub remove : Forest → Forest
remove nil = nil
remove (tree l c r) = r

-- the two sides are one
unfoldable pub same_side : Side → Side → Bool
same_side child child = true
same_side child sibling = false
same_side sibling child = false
same_side sibling sibling = true

-- the place that a way w from p leads to; a way is a place as seen from p
unfoldable pub beyond : Place → Place → Place
beyond p root = p
beyond p (to d w) = to d (beyond p w)

-- a way without its first move, where that goes to the side d
unfoldable pub without : Side → Place → Option Place
without d root = none
without d (to e root) = cond (same_side e d) (some root) none
without d (to e (to f w)) = map (to e) (without d (to f w))

-- the way from p to q, where the way from the root to q leads over p
unfoldable pub past : Place → Place → Option Place
past root q = some q
past (to d p) q = bind (past p q) (without d)

-- where the node at q stands after a node was inserted at p: what stood at p stands right of the new node
unfoldable pub after_insert : Place → Place → Place
after_insert p q = Option-elim (past p q) q (beyond (to sibling p))

-- where the node at q stands after the one at p was removed "with its subtree": what stood right of p stands at p, and what stood at p or below is nowhere
unfoldable pub after_remove : Place → Place → Option Place
after_remove p q = Option-elim (past p q) (some q) (λ w. map (beyond p) (without sibling w))

-- a label with another value
unfoldable pub with_value : ℤ → Label → Label
with_value v l = record { value = v; existence = l.existence; content = l.content; structure = l.structure }

-- the first node with another value
unfoldable pub set_value : ℤ → Forest → Forest
set_value v nil = nil
set_value v (tree l c r) = tree (with_value v l) c r

-- the three levels of a label are levels
pub record Levels (l : Label) : Type 0 where
  pub existence : is_level l.existence ≡ true
  pub content : is_level l.content ≡ true
  pub structure : is_level l.structure ≡ true

-- the tree rules for a node: hi is its parent's structure level, lo the existence of the sibling to its left, or of its parent where there is none
pub record Fit (lo hi : Level) (l : Label) : Type 0 where
  pub levels : Levels l
  pub above : not_above lo l.existence ≡ true
  pub under : not_above l.existence hi ≡ true
  pub content : not_above l.existence l.content ≡ true
  pub structure : not_above l.existence l.structure ≡ true

-- the tree rules for siblings and all below them
abbrev pub Fits : Level → Level → Forest → Type 0
Fits lo hi nil = Unit {0}
Fits lo hi (tree l c r) = Fit lo hi l × Fits l.existence l.structure c × Fits l.existence hi r

-- "Every tree, at start and after each step": "the root has existence 0", and each node below it keeps the rules
abbrev pub TreeRules : Forest → Type 0
TreeRules t = Fits public public t

-- the rules of a node, as a test
unfoldable pub fits_node : Level → Level → Label → Bool
fits_node lo hi l =
    is_level l.existence && is_level l.content && is_level l.structure && not_above lo l.existence && not_above l.existence hi
    && not_above l.existence l.content && not_above l.existence l.structure

-- the tree rules for siblings and all below them, as a test
unfoldable pub fits : Level → Level → Forest → Bool
fits lo hi nil = true
fits lo hi (tree l c r) = fits_node lo hi l && fits l.existence l.structure c && fits l.existence hi r
