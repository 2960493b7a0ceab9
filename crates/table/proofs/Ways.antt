-- The way from a place of the tree up to the root, with all that hangs beside it: a forest and the way above it make up the whole tree, and the
-- table stores the tree where it stores both, joined at the forest's head and count. Assumes nothing.
use mathlib.Core.Path.{◌≡◌, refl, ap, ◌∙◌}
use Prim.Native.Nat.{ℕ, suc, ◌+◌, ◌<◌, ◌≤◌}
use native.Mathlib.Omega.{arith}
use Rattle.rules.specs.Tree.{Label, Forest, tree, Side, child, sibling, along, Place, root, to, sub, on_side, change, count}
use Rattle.table.specs.Cells.{cell, Table, ByteLevels, gone, left_on}
use Rattle.table.specs.Holds.{Placed, empty, node, erase, head, last, beside, part, Stored, hit, times}

-- a way, innermost first: what is below it stands on a side of the node with this place and label, and the forest on the other side
pub data Way : Type 0 where
  home : Way
  step : Side → ℕ → Label → Placed → Way → Way

-- a node with f on one side and o on the other
abbrev pub node_on : Side → ℕ → Label → Placed → Placed → Placed
node_on child x l f o = node x l f o
node_on sibling x l f o = node x l o f

-- the whole tree
abbrev pub plug : Way → Placed → Placed
plug home f = f
plug (step d x l o k) f = plug k (node_on d x l f o)

-- the place of the tree where the way ends
abbrev pub path_of : Way → Place
path_of home = root
path_of (step d x l o k) = to d (path_of k)

-- the table's place of the parent of what stands there
abbrev pub parent_of : Way → ℕ
parent_of home = gone
parent_of (step child x l o k) = x
parent_of (step sibling x l o k) = parent_of k

-- and that of the node left of it
abbrev pub prev_of : Way → ℕ
prev_of home = gone
prev_of (step d x l o k) = left_on d x

-- how often a place stands on a way
abbrev pub way_times : ℕ → Way → ℕ
way_times y home = 0
way_times y (step d x l o k) = hit y x + times y o + way_times y k

-- the table stores the way above a forest of j trees whose first stands at h, in a list whose last stands at z
abbrev pub Above : Table → ℕ → ℕ → ℕ → ℕ → Way → Type 0
Above m b h j z home = (h ≡ 0) × (j ≡ 1)
Above m b h j z (step child x l o k) =
    (x < b) × (m x ≡ cell h (head o) (parent_of k) (prev_of k) z j l) × Stored m b (parent_of k) x o
    × Above m b x (suc (count (erase o))) (last x o) k × ByteLevels l
Above m b h j z (step sibling x l o k) =
    (x < b) × (m x ≡ cell (head o) h (parent_of k) (prev_of k) (last gone o) (count (erase o)) l) × Stored m b x gone o × Above m b x (suc j) z k
    × ByteLevels l

-- the tree above and the forest below, of the whole
module _ (m : Table) (b : ℕ) where
  pub unplug : (k : Way) (f : Placed) → Stored m b gone gone (plug k f) → head (plug k f) ≡ 0 → count (erase (plug k f)) ≡ 1
      → Stored m b (parent_of k) (prev_of k) f × Above m b (head f) (count (erase f)) (last (prev_of k) f) k
  unfolding count
  unplug home f h z j = (h, (z, j))
  unplug (step child x l o k) f h z j =
      let q = unplug k (node x l f o) h z j in
      (q.0.2, (q.0.0, q.0.1, q.0.3, q.1, q.0.4))
  unplug (step sibling x l o k) f h z j =
      let q = unplug k (node x l o f) h z j in
      (q.0.3, (q.0.0, q.0.1, q.0.2, q.1, q.0.4))

  pub replug : (k : Way) (f : Placed) → Stored m b (parent_of k) (prev_of k) f → Above m b (head f) (count (erase f)) (last (prev_of k) f) k
      → Stored m b gone gone (plug k f) × (head (plug k f) ≡ 0) × (count (erase (plug k f)) ≡ 1)
  unfolding count
  replug home f h w = (h, w.0, w.1)
  replug (step child x l o k) f h w = replug k (node x l f o) (w.0, w.1, h, w.2, w.4) w.3
  replug (step sibling x l o k) f h w = replug k (node x l o f) (w.0, w.1, w.2, h, w.4) w.3

pub plug_times : (y : ℕ) (k : Way) (f : Placed) → times y (plug k f) ≡ times y f + way_times y k
plug_times y home f = omega arith
plug_times y (step child x l o k) f = omega (arith, plug_times y k (node x l f o))
plug_times y (step sibling x l o k) f = omega (arith, plug_times y k (node x l o f))

-- what stands at the way's end, and a change there
pub plug_part : (k : Way) (f : Placed) → part (path_of k) (plug k f) ≡ f
plug_part home f = refl
plug_part (step child x l o k) f = ap (beside child) (plug_part k (node x l f o))
plug_part (step sibling x l o k) f = ap (beside sibling) (plug_part k (node x l o f))

pub plug_sub : (k : Way) (f : Placed) → sub (path_of k) (erase (plug k f)) ≡ erase f
unfolding sub along
plug_sub home f = refl
plug_sub (step child x l o k) f = ap (along child) (plug_sub k (node x l f o))
plug_sub (step sibling x l o k) f = ap (along sibling) (plug_sub k (node x l o f))

pub plug_change : (k : Way) (g : Forest → Forest) (f f' : Placed) → g (erase f) ≡ erase f'
    → change (path_of k) g (erase (plug k f)) ≡ erase (plug k f')
unfolding change on_side
plug_change home g f f' e = e
plug_change (step child x l o k) g f f' e =
    plug_change k (on_side child g) (node x l f o) (node x l f' o) (ap (λ t. tree l t (erase o)) e)
plug_change (step sibling x l o k) g f f' e =
    plug_change k (on_side sibling g) (node x l o f) (node x l o f') (ap (λ t. tree l (erase o) t) e)

-- there is a first node
abbrev pub Some : Placed → Type 0
Some empty = ⊥
Some (node x l c r) = Unit

pub some_node : (f : Placed) {b : ℕ} → head f < b → b ≤ gone → Some f
some_node empty lt le = omega arith
some_node (node x l c r) lt le = tt

-- the way to a place where a node stands
pub record Split (p : Place) (f : Placed) : Type 0 where
  pub k : Way
  pub is_path : path_of k ≡ p
  pub is_whole : plug k (part p f) ≡ f

above : (d : Side) (f : Placed) → Some (beside d f) → Some f
above d empty h = h
above d (node x l c r) h = tt

deeper : (d : Side) (p : Place) (f g : Placed) (k : Way) → Some g → part p f ≡ g → path_of k ≡ p → plug k g ≡ f → Split (to d p) f
deeper d p f empty k h i e w = absurd h
deeper child p f (node x l c r) k h i e w =
    record { k = step child x l r k; is_path = ap (to child) e; is_whole = ap (λ z. plug (step child x l r k) (beside child z)) i ∙ w }
deeper sibling p f (node x l c r) k h i e w =
    record { k = step sibling x l c k; is_path = ap (to sibling) e; is_whole = ap (λ z. plug (step sibling x l c k) (beside sibling z)) i ∙ w }

pub split : (p : Place) (f : Placed) → Some (part p f) → Split p f
split root f h = record { k = home; is_path = refl; is_whole = refl }
split (to d p) f h =
    let h' = above d (part p f) h in
    let s = split p f h' in
    deeper d p f (part p f) s.k h' refl s.is_path s.is_whole
