-- The tree rules and look-up, at a place and after a change there. Each law goes along one side of a node first, then up the place.
-- Assumes nothing.
use mathlib.Core.Path.{◌≡◌, refl, ◌∙◌, ap, fun_ext}
use mathlib.Core.Bool.{true}
use mathlib.Core.Option.{some, none-ne-some, some-injective}
use lib.IntN.{ℤ}
use Rattle.rules.specs.Level.{Level, not_above}
use Rattle.rules.specs.Tree.{Label, Forest, nil, tree, Side, child, sibling, along, Place, root, to, up, sub, last_from, label, exists, change, on_side, remove, set_value, with_value, Fit, Fits}
use Rattle.rules.proofs.Tests.{clash}
use Rattle.rules.proofs.Lattice.{na_trans}

-- the bounds of what stands on a side of a node, and at a place

unfoldable pub hi_of : Side → Level → Label → Level
hi_of child hi l = l.structure
hi_of sibling hi l = hi

unfoldable pub lo_at : Level → Place → Forest → Level
lo_at lo root t = lo
lo_at lo (to d p) t = (label (sub p t)).existence

unfoldable pub hi_at : Level → Place → Forest → Level
hi_at hi root t = hi
hi_at hi (to d p) t = hi_of d (hi_at hi p t) (label (sub p t))

fits_along : (d : Side) (lo hi : Level) (x : Forest) → Fits lo hi x → Fits (label x).existence (hi_of d hi (label x)) (along d x)
unfolding label along hi_of
fits_along d lo hi nil h = tt
fits_along child lo hi (tree l c r) h = h.1
fits_along sibling lo hi (tree l c r) h = h.2

pub fits_sub : (p : Place) (t : Forest) (lo hi : Level) → Fits lo hi t → Fits (lo_at lo p t) (hi_at hi p t) (sub p t)
unfolding lo_at hi_at sub
fits_sub root t lo hi h = h
fits_sub (to d p) t lo hi h = fits_along d _ _ (sub p t) (fits_sub p t lo hi h)

fits_on : (d : Side) (f : Forest → Forest) (lo hi : Level) (x : Forest) → Fits lo hi x
    → Fits (label x).existence (hi_of d hi (label x)) (f (along d x)) → Fits lo hi (on_side d f x)
unfolding label along on_side hi_of
fits_on d f lo hi nil h k = tt
fits_on child f lo hi (tree l c r) h k = (h.0, k, h.2)
fits_on sibling f lo hi (tree l c r) h k = (h.0, h.1, k)

pub fits_change : (p : Place) (f : Forest → Forest) (t : Forest) (lo hi : Level) → Fits lo hi t
    → Fits (lo_at lo p t) (hi_at hi p t) (f (sub p t)) → Fits lo hi (change p f t)
unfolding lo_at hi_at sub change
fits_change root f t lo hi h k = k
fits_change (to d p) f t lo hi h k =
    fits_change p (on_side d f) t lo hi h (fits_on d f _ _ (sub p t) (fits_sub p t lo hi h) k)

-- the rules of a node that exists
pub fit_first : (lo hi : Level) (x : Forest) → exists x ≡ true → Fits lo hi x → Fit lo hi (label x)
unfolding exists label
fit_first lo hi nil e h = clash e refl
fit_first lo hi (tree l c r) e h = h.0

-- the structure level of a place's parent
pub hi_parent : (p q : Place) (t : Forest) (hi : Level) → up p ≡ some q → hi_at hi p t ≡ (label (sub q t)).structure
unfolding up hi_at hi_of
hi_parent root q t hi h = let z : ◌≡◌ {A = Level} hi (label (sub q t)).structure = cc in z
hi_parent (to child p) q t hi h = let z : q ≡ p = cc in rw z
hi_parent (to sibling p) q t hi h = hi_parent p q t hi h

-- the last of siblings is one of them, so the structure level of their parent bounds its existence too
pub last_under : (p q : Place) (t x : Forest) (lo hi : Level) → sub p t ≡ x → Fits lo hi x → last_from p x ≡ some q
    → not_above (label (sub q t)).existence hi ≡ true
unfolding last_from sub along label
last_under p q t nil lo hi e f h = absurd (none-ne-some _ h)
last_under p q t (tree l c nil) lo hi e f h = rw (← some-injective _ _ h, e) f.0.under
last_under p q t (tree l c (tree k d r)) lo hi e f h = last_under (to sibling p) q t (tree k d r) _ hi (ap (along sibling) e) f.2 h

-- what the rules of siblings become where the first changes

pub fits_lower : (lo lo' hi : Level) (x : Forest) → not_above lo lo' ≡ true → Fits lo' hi x → Fits lo hi x
fits_lower lo lo' hi nil h k = tt
fits_lower lo lo' hi (tree l c r) h k =
    let f = k.0 in
    (record { levels = f.levels; above = na_trans _ _ _ h f.above; under = f.under; content = f.content; structure = f.structure }, k.1, k.2)

pub fits_remove : (lo hi : Level) (x : Forest) → Fits lo hi x → Fits lo hi (remove x)
unfolding remove
fits_remove lo hi nil h = tt
fits_remove lo hi (tree l c r) h = fits_lower lo _ hi r h.0.above h.2

pub fits_value : (v : ℤ) (lo hi : Level) (x : Forest) → Fits lo hi x → Fits lo hi (set_value v x)
unfolding set_value with_value
fits_value v lo hi nil h = tt
fits_value v lo hi (tree l c r) h =
    let f = h.0 in
    let g = f.levels in (
      record {
        levels = record { existence = g.existence; content = g.content; structure = g.structure };
        above = f.above;
        under = f.under;
        content = f.content;
        structure = f.structure;
      },
      h.1,
      h.2,
    )

-- what stands at a place after a change there

pub exists_along : (d : Side) (x : Forest) → exists (along d x) ≡ true → exists x ≡ true
unfolding along exists
exists_along d nil h = h
exists_along d (tree l c r) h = refl

pub exists_sub : (p : Place) (t : Forest) → exists (sub p t) ≡ true → exists t ≡ true
unfolding sub
exists_sub root t h = h
exists_sub (to d p) t h = exists_sub p t (exists_along d _ h)

along_on : (d : Side) (f : Forest → Forest) (x : Forest) → exists x ≡ true → along d (on_side d f x) ≡ f (along d x)
unfolding along exists on_side
along_on d f nil h = clash h refl
along_on child f (tree l c r) h = refl
along_on sibling f (tree l c r) h = refl

pub sub_change : (p : Place) (f : Forest → Forest) (t : Forest) → exists (sub p t) ≡ true → sub p (change p f t) ≡ f (sub p t)
unfolding sub change
sub_change root f t h = refl
sub_change (to d p) f t h =
    let k = exists_along d (sub p t) h in ap (along d) (sub_change p (on_side d f) t k) ∙ along_on d f (sub p t) k

-- a change on a side of a node leaves the node

pub on_exists : (d : Side) (f : Forest → Forest) (x : Forest) → exists (on_side d f x) ≡ exists x
unfolding exists on_side
on_exists d f nil = refl
on_exists child f (tree l c r) = refl
on_exists sibling f (tree l c r) = refl

pub on_label : (d : Side) (f : Forest → Forest) (x : Forest) → label (on_side d f x) ≡ label x
unfolding label on_side
on_label d f nil = refl
on_label child f (tree l c r) = refl
on_label sibling f (tree l c r) = refl

-- a change that does nothing

on_id : (d : Side) (x : Forest) → on_side d (λ y. y) x ≡ x
unfolding on_side
on_id d nil = refl
on_id child (tree l c r) = refl
on_id sibling (tree l c r) = refl

pub change_id : (p : Place) (t : Forest) → change p (λ y. y) t ≡ t
unfolding change
change_id root t = refl
change_id (to d p) t = ap (λ f. change p f t) (fun_ext (on_id d)) ∙ change_id p t
