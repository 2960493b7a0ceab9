-- Where a node stands after a change of the tree elsewhere: a place that the way does not lead over keeps its nodes, and what the way leads over moves
-- with it. So the node is found again, and a change that a reader does not see moves no node that it sees. Assumes nothing.
use mathlib.Core.Path.{◌≡◌, refl, sym, ◌∙◌, ap}
use mathlib.Core.Bool.{true, false}
use mathlib.Core.Option.{Option, none, some, map, Option-elim, bind, none-ne-some, some-injective}
use lib.IntN.{ℤ}
use Rattle.rules.specs.Level.{Level, not_above}
use Rattle.rules.specs.Tree.{Label, Forest, nil, tree, Side, child, sibling, along, Place, root, to, sub, label, exists, change, on_side, insert, remove, set_value, with_value, Fits, same_side, beyond, without, past, after_insert, after_remove}
use Rattle.rules.proofs.Tests.{Test, holds, fails, test, clash}
use Rattle.rules.proofs.Lattice.{na_refl, na_trans}
use Rattle.rules.proofs.Trees.{lo_at, fits_sub, fit_first, exists_along, exists_sub, sub_change, on_exists, on_label}

-- a node that is there, with the label of another: what is the same for all labels is the same node
pub record Same (x y : Forest) : Type 0 where
  pub there : exists y ≡ true
  pub same : label y ≡ label x

-- or with its existence only
pub record Still (x y : Forest) : Type 0 where
  pub there : exists y ≡ true
  pub existence : (label y).existence ≡ (label x).existence

pub same_still : {x y : Forest} → Same x y → Still x y
same_still h = record { there = h.there; existence = ap (λ (l : Label). l.existence) h.same }

pub no_some : {A B : Type 0} {a : A} → none ≡ some a → B
no_some e = absurd (none-ne-some _ e)

one_node : (x y : Forest) → exists x ≡ true → y ≡ x → Same x y
one_node x y h e = record { there = rw e h; same = rw e }

-- ways

beyond_root : (w : Place) → beyond root w ≡ w
unfolding beyond
beyond_root root = refl
beyond_root (to d w) = ap (to d) (beyond_root w)

beyond_beyond : (d : Side) (p w : Place) → beyond p (beyond (to d root) w) ≡ beyond (to d p) w
unfolding beyond
beyond_beyond d p root = refl
beyond_beyond d p (to e w) = ap (to e) (beyond_beyond d p w)

sub_beyond : (p w : Place) (t : Forest) → sub (beyond p w) t ≡ sub w (sub p t)
unfolding beyond sub
sub_beyond p root t = refl
sub_beyond p (to d w) t = ap (along d) (sub_beyond p w t)

same_side_law : (d e : Side) → same_side d e ≡ true → d ≡ e
unfolding same_side
same_side_law child child h = refl
same_side_law child sibling h = clash h refl
same_side_law sibling child h = clash h refl
same_side_law sibling sibling h = refl

other_side : (d e : Side) (f : Forest → Forest) (x : Forest) → same_side d e ≡ false → along d (on_side e f x) ≡ along d x
unfolding same_side along on_side
other_side d e f nil h = refl
other_side child child f (tree l c r) h = clash refl h
other_side child sibling f (tree l c r) h = refl
other_side sibling child f (tree l c r) h = refl
other_side sibling sibling f (tree l c r) h = clash refl h

-- a way that begins with d
without_some : (d : Side) (w v : Place) → without d w ≡ some v → w ≡ beyond (to d root) v
unfolding without beyond
without_some d root v h = no_some h
without_some d (to e root) v h = pick (test (same_side e d))
  where
    pick : Test (same_side e d) → to e root ≡ beyond (to d root) v
    pick (holds q) =
        let z : root ≡ v = some-injective _ _ (rw q at h) in
        λ i. beyond (to (same_side_law e d q i) root) (z i)
    pick (fails q) = no_some (rw q at h)
without_some d (to e (to f w)) v h = go (without d (to f w)) refl h (without_some d (to f w))
  where
    go : (o : Option Place) → without d (to f w) ≡ o → map (to e) o ≡ some v
        → ((u : Place) → without d (to f w) ≡ some u → to f w ≡ beyond (to d root) u) → to e (to f w) ≡ beyond (to d root) v
    go none q k r = no_some k
    go (some u) q k r = ap (to e) (r u q) ∙ ap (beyond (to d root)) (some-injective _ _ k)

-- one that does not keeps its nodes where the other side changes
without_none : (d e : Side) (w : Place) (f : Forest → Forest) (x : Forest) → without d (to e w) ≡ none → sub (to e w) (on_side d f x) ≡ sub (to e w) x
unfolding without sub
without_none d e root f x h = pick (test (same_side e d))
  where
    pick : Test (same_side e d) → along e (on_side d f x) ≡ along e x
    pick (holds q) = no_some (sym (rw q at h))
    pick (fails q) = other_side e d f x q
without_none d e (to g w) f x h = go (without d (to g w)) refl h (without_none d g w f x)
  where
    go : (o : Option Place) → without d (to g w) ≡ o → map (to e) o ≡ none → (without d (to g w) ≡ none → sub (to g w) (on_side d f x) ≡ sub (to g w) x)
        → along e (sub (to g w) (on_side d f x)) ≡ along e (sub (to g w) x)
    go none q k r = ap (along e) (r q)
    go (some u) q k r = no_some (sym k)

-- a node that gets another value, and what stands below it

set_first : (v : ℤ) (x : Forest) → exists x ≡ true → Still x (set_value v x)
unfolding set_value exists label with_value
set_first v nil h = clash h refl
set_first v (tree l c r) h = record { there = refl; existence = refl }

set_along : (v : ℤ) (d : Side) (x : Forest) → along d (set_value v x) ≡ along d x
unfolding along set_value
set_along v d nil = refl
set_along v child (tree l c r) = refl
set_along v sibling (tree l c r) = refl

set_below : (v : ℤ) (d : Side) (w : Place) (x : Forest) → sub (to d w) (set_value v x) ≡ sub (to d w) x
unfolding sub
set_below v d root x = set_along v d x
set_below v d (to e w) x = ap (along d) (set_below v e w x)

set_sub : (v : ℤ) (w : Place) (x : Forest) → exists (sub w x) ≡ true → Still (sub w x) (sub w (set_value v x))
unfolding sub
set_sub v root x h = set_first v x h
set_sub v (to d w) x h = same_still (one_node _ _ h (set_below v d w x))

-- the existence of a node is not above that of a node which the way over it leads to
existence_past : (w : Place) (x : Forest) (lo hi : Level) → Fits lo hi x → exists (sub w x) ≡ true
    → not_above (label x).existence (label (sub w x)).existence ≡ true
unfolding sub lo_at
existence_past root x lo hi f h = na_refl _
existence_past (to d w) x lo hi f h =
    na_trans _ _ _ (existence_past w x lo hi f (exists_along d _ h)) (fit_first _ _ _ h (fits_sub (to d w) x lo hi f)).above

-- where the way to q leads over p
pub past_some : (p q w : Place) → past p q ≡ some w → q ≡ beyond p w
unfolding past bind
past_some root q w h = some-injective _ _ h ∙ sym (beyond_root w)
past_some (to d p) q w h = go (past p q) refl h (past_some p q)
  where
    go : (o : Option Place) → past p q ≡ o → bind o (without d) ≡ some w → ((v : Place) → past p q ≡ some v → q ≡ beyond p v) → q ≡ beyond (to d p) w
    go none e k r = no_some k
    go (some v) e k r = r v e ∙ ap (beyond p) (without_some d v w k) ∙ beyond_beyond d p w

module _ (t : Forest) (q : Place) (stands : exists (sub q t) ≡ true) where
  -- then a node is at p
  over_stands : (p w : Place) → q ≡ beyond p w → exists (sub p t) ≡ true
  over_stands p w e = exists_sub w (sub p t) (rw (← sub_beyond p w t, ← e) stands)

  -- a node on a side of which something changes
  on_same : (d : Side) (f : Forest → Forest) (w : Place) (x : Forest) → exists (sub w x) ≡ true → without d w ≡ none → Same (sub w x) (sub w (on_side d f x))
  unfolding sub
  on_same d f root x h k = record { there = on_exists d f x ∙ h; same = on_label d f x }
  on_same d f (to e w) x h k = one_node _ _ h (without_none d e w f x k)

  -- a change at a place that the way does not lead over
  same_elsewhere : (p : Place) (f : Forest → Forest) → past p q ≡ none → Same (sub q t) (sub q (change p f t))
  unfolding past bind change
  same_elsewhere root f h = no_some (sym h)
  same_elsewhere (to d p) f h = go (past p q) refl h (same_elsewhere p (on_side d f))
    where
      at : (w : Place) → q ≡ beyond p w → without d w ≡ none → Same (sub q t) (sub q (change p (on_side d f) t))
      at w e k =
          let s = over_stands p w e in
          rw (e, sub_beyond p w t, sub_beyond p w (change p (on_side d f) t), sub_change p (on_side d f) t s)
          (on_same d f w (sub p t) (rw (← sub_beyond p w t, ← e) stands) k)

      go : (o : Option Place) → past p q ≡ o → bind o (without d) ≡ none → (past p q ≡ none → Same (sub q t) (sub q (change p (on_side d f) t)))
          → Same (sub q t) (sub q (change p (on_side d f) t))
      go none e k r = r e
      go (some w) e k r = at w (past_some p q w e) k

  -- what stood at p, after an insertion there
  same_inserted : (p w : Place) (l : Label) → q ≡ beyond p w → Same (sub q t) (sub (beyond (to sibling p) w) (change p (insert l) t))
  unfolding sub along insert
  same_inserted p w l e =
      let s = over_stands p w e in
      one_node _ _ stands
      (sub_beyond (to sibling p) w (change p (insert l) t) ∙ ap (λ (x : Forest). sub w (along sibling x)) (sub_change p (insert l) t s)
      ∙ sym (ap (λ (x : Place). sub x t) e ∙ sub_beyond p w t))

  remove_along : (x : Forest) → remove x ≡ along sibling x
  unfolding remove along
  remove_along nil = refl
  remove_along (tree l c r) = refl

  -- what stood right of p, after a removal there
  same_removed : (p v w : Place) → q ≡ beyond p w → without sibling w ≡ some v → Same (sub q t) (sub (beyond p v) (change p remove t))
  unfolding sub
  same_removed p v w e k =
      let s = over_stands p w e in
      let f : q ≡ beyond (to sibling p) v = e ∙ ap (beyond p) (without_some sibling w v k) ∙ beyond_beyond sibling p v in
      one_node _ _ stands
      (sub_beyond p v (change p remove t) ∙ ap (sub v) (sub_change p remove t s ∙ remove_along (sub p t))
      ∙ sym (ap (λ (x : Place). sub x t) f ∙ sub_beyond (to sibling p) v t))

  -- so the node is found where it is relocated to, in any tree
  pub found_inserted : (p : Place) (l : Label) → Same (sub q t) (sub (after_insert p q) (change p (insert l) t))
  unfolding after_insert Option-elim
  found_inserted p l = pick (past p q) refl
    where
      pick : (o : Option Place) → past p q ≡ o → Same (sub q t) (sub (Option-elim o q (beyond (to sibling p))) (change p (insert l) t))
      pick none h = same_elsewhere p (insert l) h
      pick (some w) h = same_inserted p w l (past_some p q w h)

  pub found_removed : (p r : Place) → after_remove p q ≡ some r → Same (sub q t) (sub r (change p remove t))
  unfolding after_remove Option-elim
  found_removed p r k = pick (past p q) refl k
    where
      at : (x : Place) → some x ≡ some r → Same (sub q t) (sub x (change p remove t)) → Same (sub q t) (sub r (change p remove t))
      at x e h = rw (← some-injective _ _ e) h

      inside : (w : Place) → q ≡ beyond p w → (o : Option Place) → without sibling w ≡ o → map (beyond p) o ≡ some r
          → Same (sub q t) (sub r (change p remove t))
      inside w e none f k = no_some k
      inside w e (some v) f k = at (beyond p v) k (same_removed p v w e f)

      pick : (o : Option Place) → past p q ≡ o → Option-elim o (some q) (λ w. map (beyond p) (without sibling w)) ≡ some r
          → Same (sub q t) (sub r (change p remove t))
      pick none h k = at q k (same_elsewhere p remove h)
      pick (some w) h k = inside w (past_some p q w h) _ refl k

  -- and after another value at p
  pub still_written : (p : Place) (v : ℤ) → Still (sub q t) (sub q (change p (set_value v) t))
  still_written p v = pick (past p q) refl
    where
      pick : (o : Option Place) → past p q ≡ o → Still (sub q t) (sub q (change p (set_value v) t))
      pick none h = same_still (same_elsewhere p (set_value v) h)
      pick (some w) h =
          let e = past_some p q w h in
          let s = over_stands p w e in
          rw (e, sub_beyond p w t, sub_beyond p w (change p (set_value v) t), sub_change p (set_value v) t s)
          (set_sub v w (sub p t) (rw (← sub_beyond p w t, ← e) stands))

  pub existence_over : (p w : Place) (lo hi : Level) → Fits lo hi t → q ≡ beyond p w
      → not_above (label (sub p t)).existence (label (sub q t)).existence ≡ true
  existence_over p w lo hi f e =
      rw (e, sub_beyond p w t)
      (existence_past w (sub p t) _ _ (fits_sub p t lo hi f) (rw (← sub_beyond p w t, ← e) stands))

  -- what becomes of the node at q when something changes at p: its place stays; or the way led over p, so that what stands at p exists no higher
  pub data Fate (p : Place) (u : Forest) : Option Place → Type 0 where
    unmoved : Same (sub q t) (sub q u) → Fate p u (some q)
    moved : (r : Place) → exists (sub p t) ≡ true → not_above (label (sub p t)).existence (label (sub q t)).existence ≡ true
        → Same (sub q t) (sub r u) → Fate p u (some r)
    gone : exists (sub p t) ≡ true → not_above (label (sub p t)).existence (label (sub q t)).existence ≡ true → Fate p u none

  module _ (lo hi : Level) (fits : Fits lo hi t) (p : Place) where
    pub fate_insert : (l : Label) → Fate p (change p (insert l) t) (some (after_insert p q))
    unfolding after_insert Option-elim
    fate_insert l = pick (past p q) refl
      where
        pick : (o : Option Place) → past p q ≡ o → Fate p (change p (insert l) t) (some (Option-elim o q (beyond (to sibling p))))
        pick none h = unmoved (same_elsewhere p (insert l) h)
        pick (some w) h =
            let e = past_some p q w h in moved _ (over_stands p w e) (existence_over p w lo hi fits e) (same_inserted p w l e)

    pub fate_remove : Fate p (change p remove t) (after_remove p q)
    unfolding after_remove Option-elim
    fate_remove = pick (past p q) refl
      where
        inside : (w : Place) → q ≡ beyond p w → (o : Option Place) → without sibling w ≡ o → Fate p (change p remove t) (map (beyond p) o)
        inside w e none k = gone (over_stands p w e) (existence_over p w lo hi fits e)
        inside w e (some v) k = moved _ (over_stands p w e) (existence_over p w lo hi fits e) (same_removed p v w e k)

        pick : (o : Option Place) → past p q ≡ o → Fate p (change p remove t) (Option-elim o (some q) (λ w. map (beyond p) (without sibling w)))
        pick none h = unmoved (same_elsewhere p remove h)
        pick (some w) h = inside w (past_some p q w h) _ refl

-- a place that is nowhere after a removal at p is p, or lies below it
pub lost_below : (p q : Place) → after_remove p q ≡ none → (w : Place) × (q ≡ beyond p w) × (without sibling w ≡ none)
unfolding after_remove Option-elim
lost_below p q h = pick (past p q) refl h
  where
    inside : (w : Place) (o : Option Place) → without sibling w ≡ o → map (beyond p) o ≡ none → without sibling w ≡ none
    inside w none e k = e
    inside w (some v) e k = no_some (sym k)

    pick : (o : Option Place) → past p q ≡ o → Option-elim o (some q) (λ w. map (beyond p) (without sibling w)) ≡ none → (w : Place) × (q ≡ beyond p w) × (without sibling w ≡ none)
    pick none e k = no_some (sym k)
    pick (some w) e k = (w, past_some p q w e, inside w _ refl k)
