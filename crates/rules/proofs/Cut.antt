-- The cut of a tree is what a reader sees of it: a hidden node has neither visible children nor visible right siblings, so hidden nodes
-- are cut off, and hidden values are blotted out. A change at a place is a change of the cut there. Assumes nothing.
use mathlib.Core.Path.{◌≡◌, refl, sym, ◌∙◌, ap}
use mathlib.Core.Bool.{Bool, true, false, cond}
use lib.IntN.{ℤ}
use Rattle.rules.specs.Level.{Level, visible}
use Rattle.rules.specs.Tree.{Label, Forest, nil, tree, Side, child, sibling, along, Place, root, to, sub, last_from, label, exists, count, change, on_side, insert, remove, set_value, with_value, Fits}
unfoldable pub use Rattle.rules.specs.Projection.{mask, cut_label, cut}
use Rattle.rules.proofs.Tests.{Test, holds, fails, test, clash}
use Rattle.rules.proofs.Lattice.{hid_up, vis_down}
use Rattle.rules.proofs.Trees.{fits_sub, change_id}

cond_on : (d : Side) (b : Bool) (g : Forest → Forest) (x : Forest) → cond b (on_side d g x) nil ≡ on_side d g (cond b x nil)
unfolding on_side
cond_on d true g x = refl
cond_on d false g x = refl

module _ (o : Level) where
  -- a change at a place

  cut_on : (d : Side) (f g : Forest → Forest) (x : Forest) → cut o (f (along d x)) ≡ g (cut o (along d x)) → cut o (on_side d f x) ≡ on_side d g (cut o x)
  unfolding along on_side cut
  cut_on d f g nil h = refl
  cut_on child f g (tree l c r) h =
      ap (λ z. cond (visible o l.existence) (tree (cut_label o l) z (cut o r)) nil) h
      ∙ cond_on child (visible o l.existence) g (tree (cut_label o l) (cut o c) (cut o r))
  cut_on sibling f g (tree l c r) h =
      ap (λ z. cond (visible o l.existence) (tree (cut_label o l) (cut o c) z) nil) h
      ∙ cond_on sibling (visible o l.existence) g (tree (cut_label o l) (cut o c) (cut o r))

  -- what f does at the place, g does to the cut
  pub cut_change : (p : Place) (f g : Forest → Forest) (t : Forest) → cut o (f (sub p t)) ≡ g (cut o (sub p t)) → cut o (change p f t) ≡ change p g (cut o t)
  unfolding sub change
  cut_change root f g t h = h
  cut_change (to d p) f g t h = cut_change p (on_side d f) (on_side d g) t (cut_on d f g (sub p t) h)

  -- a change that the cut does not show
  pub cut_kept : (p : Place) (f : Forest → Forest) (t : Forest) → cut o (f (sub p t)) ≡ cut o (sub p t) → cut o (change p f t) ≡ cut o t
  cut_kept p f t h = cut_change p f (λ y. y) t h ∙ change_id p (cut o t)

  -- where the tree rules hold: behind what is hidden all is hidden

  pub cut_hidden : (lo hi : Level) (x : Forest) → visible o lo ≡ false → Fits lo hi x → cut o x ≡ nil
  unfolding cut
  cut_hidden lo hi nil e h = refl
  cut_hidden lo hi (tree l c r) e h = rw (hid_up o _ _ h.0.above e)

  -- the cut of what stands on a side, from the equation for a visible node
  along_cut : (d : Side) (lo hi : Level) (x : Forest) → Fits lo hi x → along d (cut o x) ≡ cut o (along d x)
  unfolding cut along
  along_cut d lo hi nil h = refl
  along_cut child lo hi (tree l c r) h = pick (test (visible o l.existence))
    where
      pick : Test (visible o l.existence) → along child (cut o (tree l c r)) ≡ cut o c
      pick (holds e) = rw e
      pick (fails e) = rw e (sym (cut_hidden _ _ c e h.1))
  along_cut sibling lo hi (tree l c r) h = pick (test (visible o l.existence))
    where
      pick : Test (visible o l.existence) → along sibling (cut o (tree l c r)) ≡ cut o r
      pick (holds e) = rw e
      pick (fails e) = rw e (sym (cut_hidden _ _ r e h.2))

  pub cut_sub : (p : Place) (t : Forest) (lo hi : Level) → Fits lo hi t → sub p (cut o t) ≡ cut o (sub p t)
  unfolding sub
  cut_sub root t lo hi h = refl
  cut_sub (to d p) t lo hi h = ap (along d) (cut_sub p t lo hi h) ∙ along_cut d _ _ (sub p t) (fits_sub p t lo hi h)

  -- the three changes, seen

  pub insert_seen : (l : Label) (x : Forest) → visible o l.existence ≡ true → cut o (insert l x) ≡ insert (cut_label o l) (cut o x)
  unfolding insert cut
  insert_seen l x e = rw e

  pub remove_seen : (lo hi : Level) (x : Forest) → Fits lo hi x → cut o (remove x) ≡ remove (cut o x)
  unfolding remove cut
  remove_seen lo hi nil f = refl
  remove_seen lo hi (tree l c r) f = pick (test (visible o l.existence))
    where
      pick : Test (visible o l.existence) → cut o r ≡ remove (cut o (tree l c r))
      pick (holds e) = rw e
      pick (fails e) = rw e (cut_hidden _ _ r e f.2)

  pub set_seen : (z : ℤ) (x : Forest) → cut o (set_value z x) ≡ set_value (mask o (label x).content z) (cut o x)
  unfolding set_value cut label cut_label with_value
  set_seen z nil = refl
  set_seen z (tree l c r) = pick (test (visible o l.existence))
    where
      pick : Test (visible o l.existence) → cut o (set_value z (tree l c r)) ≡ set_value (mask o l.content z) (cut o (tree l c r))
      pick (holds e) = rw e
      pick (fails e) = rw e

  -- and hidden

  pub insert_hidden : (l : Label) (x : Forest) → visible o l.existence ≡ false → cut o x ≡ nil → cut o (insert l x) ≡ cut o x
  unfolding insert cut
  insert_hidden l x e h = rw e (sym h)

  pub remove_hidden : (lo hi : Level) (x : Forest) → Fits lo hi x → visible o (label x).existence ≡ false → cut o (remove x) ≡ cut o x
  unfolding remove cut label
  remove_hidden lo hi nil f e = refl
  remove_hidden lo hi (tree l c r) f e = rw e (cut_hidden _ _ r e f.2)

  pub set_hidden : (z : ℤ) (x : Forest) → visible o (label x).content ≡ false → cut o (set_value z x) ≡ cut o x
  unfolding set_value cut label cut_label with_value mask
  set_hidden z nil e = refl
  set_hidden z (tree l c r) e = rw e

  -- where all siblings are visible, the cut has as many
  pub count_cut : (lo hi : Level) (x : Forest) → visible o hi ≡ true → Fits lo hi x → count (cut o x) ≡ count x
  unfolding count cut
  count_cut lo hi nil e f = refl
  count_cut lo hi (tree l c r) e f = rw (vis_down o _ _ f.0.under e) (ap Prim.Native.Nat.suc (count_cut _ hi r e f.2))

  -- and its last stands where theirs does
  pub last_cut : (lo hi : Level) (p : Place) (x : Forest) → visible o hi ≡ true → Fits lo hi x → last_from p (cut o x) ≡ last_from p x
  unfolding last_from cut
  last_cut lo hi p nil e f = refl
  last_cut lo hi p (tree l c nil) e f = rw (vis_down o _ _ f.0.under e)
  last_cut lo hi p (tree l c (tree k d r)) e f =
      let v = vis_down o _ _ f.2.0.under e in
      rw (vis_down o _ _ f.0.under e, v) (rw v at (last_cut _ hi (to sibling p) (tree k d r) e f.2))

  -- the first nodes of two forests with the same cut: both visible and alike, or both hidden
  pub data Heads (x y : Forest) : Type 0 where
    seen : visible o (label x).existence ≡ true → cut_label o (label x) ≡ cut_label o (label y) → cut o (along child x) ≡ cut o (along child y) → Heads x y
    hidden : visible o (label x).existence ≡ false → visible o (label y).existence ≡ false → Heads x y

  pub heads : (x y : Forest) → exists x ≡ true → exists y ≡ true → cut o x ≡ cut o y → Heads x y
  unfolding exists cut label along
  heads nil y a b e = clash a refl
  heads (tree l c r) nil a b e = clash b refl
  heads (tree l c r) (tree k d q) a b e = pick (test (visible o l.existence)) (test (visible o k.existence))
    where
      node : tree (cut_label o l) (cut o c) (cut o r) ≡ tree (cut_label o k) (cut o d) (cut o q) → visible o l.existence ≡ true → Heads (tree l c r) (tree k d q)
      node h v = seen v (cc) (cc)

      pick : Test (visible o l.existence) → Test (visible o k.existence) → Heads (tree l c r) (tree k d q)
      pick (holds v) (holds w) = node (rw (v, w) at e) v
      pick (holds v) (fails w) = let h = rw (v, w) at e in let z : true ≡ false = cc in clash refl z
      pick (fails v) (holds w) = let h = rw (v, w) at e in let z : true ≡ false = cc in clash refl z
      pick (fails v) (fails w) = hidden v w
