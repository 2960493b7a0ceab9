-- Where a node stands after another one came, went or got another value elsewhere in the tree. The rules' laws of places are of all labels: here each
-- node's label is its place of the table, so that what they find again is that place. Assumes nothing.
use mathlib.Core.Path.{◌≡◌, refl, sym, ap, subst, ◌∙◌}
use mathlib.Core.Bool.{true}
use mathlib.Core.Option.{none, some, map, none-ne-some}
use Prim.Native.Nat.{ℕ, ◌+◌, ◌<◌}
use native.Mathlib.Omega.{arith}
use native.Mathlib.Decide.{dec_lt}
use lib.IntN.{pos}
use lib.Signed.{mag}
use Rattle.rules.specs.Level.{public}
use Rattle.rules.specs.Tree.{Label, Forest, Side, child, sibling, along, Place, root, to, sub, label, exists, change, insert, remove, without, same_side, beyond, after_insert, after_remove}
use Rattle.rules.proofs.Places.{Same, found_inserted, found_removed, lost_below}
use Rattle.table.specs.Cells.{Table, gone}
use Rattle.table.specs.Holds.{Placed, empty, node, erase, head, beside, part, hit, times, Holds}
use Rattle.table.proofs.Counting.{hit_same, none_beyond}
use Rattle.table.proofs.Ways.{Way, home, step, plug, path_of, plug_part, plug_change, Some}
use Rattle.table.proofs.Unique.{Stands, there, under, Start, begin, first, start, part_under}

-- a place as a label
label_at : ℕ → Label
label_at x = record { value = pos x; existence = public; content = public; structure = public }

-- a forest, and a way, with the places as labels
abbrev tagged : Placed → Placed
tagged empty = empty
tagged (node x l c r) = node x (label_at x) (tagged c) (tagged r)

abbrev tagged_way : Way → Way
tagged_way home = home
tagged_way (step d x l o k) = step d x (label_at x) (tagged o) (tagged_way k)

tag_path : (k : Way) → path_of (tagged_way k) ≡ path_of k
tag_path home = refl
tag_path (step d x l o k) = ap (to d) (tag_path k)

tag_plug : (k : Way) (f : Placed) → plug (tagged_way k) (tagged f) ≡ tagged (plug k f)
tag_plug home f = refl
tag_plug (step child x l o k) f = tag_plug k (node x l f o)
tag_plug (step sibling x l o k) f = tag_plug k (node x l o f)

tag_beside : (d : Side) (f : Placed) → beside d (tagged f) ≡ tagged (beside d f)
tag_beside d empty = refl
tag_beside child (node x l c r) = refl
tag_beside sibling (node x l c r) = refl

tag_part : (p : Place) (f : Placed) → part p (tagged f) ≡ tagged (part p f)
tag_part root f = refl
tag_part (to d p) f = ap (beside d) (tag_part p f) ∙ tag_beside d (part p f)

erase_beside : (d : Side) (f : Placed) → along d (erase f) ≡ erase (beside d f)
unfolding along
erase_beside d empty = refl
erase_beside child (node x l c r) = refl
erase_beside sibling (node x l c r) = refl

erase_part : (p : Place) (f : Placed) → sub p (erase f) ≡ erase (part p f)
unfolding sub
erase_part root f = refl
erase_part (to d p) f = ap (along d) (erase_part p f) ∙ erase_beside d (part p f)

-- what stands at a place of the tree, by its label
shown : (p : Place) (f : Placed) → sub p (erase (tagged f)) ≡ erase (tagged (part p f))
shown p f = erase_part p (tagged f) ∙ ap erase (tag_part p f)

to_tag : {x : ℕ} (g : Placed) → Some g → head g ≡ x → (exists (erase (tagged g)) ≡ true) × (label (erase (tagged g)) ≡ label_at x)
unfolding exists label
to_tag empty h e = absurd h
to_tag (node y l c r) h e = (refl, ap label_at e)

of_tag : {x : ℕ} (g : Placed) → exists (erase (tagged g)) ≡ true → label (erase (tagged g)) ≡ label_at x → Some g × (head g ≡ x)
unfolding exists label label_at
of_tag empty h e = let z : ◌≡◌ {A = ℕ} 0 1 = cc in absurd (omega arith)
of_tag (node y l c r) h e = (tt, ap (λ (a : Label). mag a.value) e)

-- the same label is the same place
again : {x : ℕ} (p q : Place) (f g : Placed) (t : Forest) → t ≡ erase (tagged g) → Stands x p f → Same (sub p (erase (tagged f))) (sub q t) → Stands x q g
again p q f g t e h s =
    let a = to_tag (part p f) h.0 h.1 in
    let z : sub q t ≡ erase (tagged (part q g)) = ap (sub q) e ∙ shown q g in
    of_tag (part q g) (ap exists (sym z) ∙ s.there) (ap label (sym z) ∙ s.same ∙ ap label (shown p f) ∙ a.1)

there_tagged : {x : ℕ} (p : Place) (f : Placed) → Stands x p f → exists (sub p (erase (tagged f))) ≡ true
there_tagged p f h = ap exists (shown p f) ∙ (to_tag (part p f) h.0 h.1).0

tag_change : (k : Way) (g : Forest → Forest) (f f' : Placed) → g (erase (tagged f)) ≡ erase (tagged f')
    → change (path_of k) g (erase (tagged (plug k f))) ≡ erase (tagged (plug k f'))
tag_change k g f f' e =
    subst (λ p. change p g (erase (tagged (plug k f))) ≡ erase (tagged (plug k f'))) (tag_path k)
    (ap (λ t. change (path_of (tagged_way k)) g (erase t)) (sym (tag_plug k f)) ∙ plug_change (tagged_way k) g (tagged f) (tagged f') e
    ∙ ap erase (tag_plug k f'))

module _ {x : ℕ} (q : Place) (k : Way) where
  -- a node y comes at the end of the way
  pub stands_grown : (y : ℕ) (l : Label) (f : Placed) → Stands x q (plug k f) → Stands x (after_insert (path_of k) q) (plug k (node y l empty f))
  unfolding insert
  stands_grown y l f h =
      let t = erase (tagged (plug k f)) in
      again q _ (plug k f) (plug k (node y l empty f)) _ (tag_change k (insert (label_at y)) f (node y l empty f) refl) h
      (found_inserted t q (there_tagged q (plug k f) h) (path_of k) (label_at y))

  module _ (y : ℕ) (l : Label) (e r : Placed) where
    -- the node y there goes, and leaves this one
    pub stands_pruned : (q' : Place) → after_remove (path_of k) q ≡ some q' → Stands x q (plug k (node y l e r)) → Stands x q' (plug k r)
    unfolding remove
    stands_pruned q' w h =
        let f = node y l e r in
        again q q' (plug k f) (plug k r) _ (tag_change k remove f r refl) h
        (found_removed (erase (tagged (plug k f))) q (there_tagged q (plug k f) h) (path_of k) q' w)

    -- y gets another label
    pub stands_labelled : (l' : Label) → Stands x q (plug k (node y l e r)) → Stands x q (plug k (node y l' e r))
    stands_labelled l' h =
        let f = node y l e r in
        let f' = node y l' e r in
        again q q (plug k f) (plug k f') (erase (tagged (plug k f))) (ap erase (sym (tag_plug k f) ∙ tag_plug k f')) h
        (record { there = there_tagged q (plug k f) h; same = refl })

-- a way that leads on from a node to the right
right_way : (p : Place) → without sibling (under sibling p) ≡ some p
unfolding without same_side
right_way root = refl
right_way (to e root) = refl
right_way (to e (to f p)) = ap (map (to e)) (right_way (to f p))

part_beyond : (p w : Place) (f : Placed) → part (beyond p w) f ≡ part w (part p f)
unfolding beyond
part_beyond p root f = refl
part_beyond p (to d w) f = ap (beside d) (part_beyond p w f)

-- what the removal of the node y takes along is y, or stands below it
pub stands_lost : {x : ℕ} (q : Place) (k : Way) (y : ℕ) (l : Label) (e r : Placed) → after_remove (path_of k) q ≡ none → Stands x q (plug k (node y l e r))
    → 0 < hit x y + times x e
stands_lost {x} q k y l e r w h =
    let b = lost_below (path_of k) q w in
    let i : part q (plug k f) ≡ part b.0 f =
    ap (λ p. part p (plug k f)) b.1 ∙ part_beyond (path_of k) b.0 (plug k f) ∙ ap (part b.0) (plug_part k f) in
    go b.0 (start b.0) b.2 (subst (λ g. Some g × (head g ≡ x)) i h)
  where
    f : Placed
    f = node y l e r

    go : (w : Place) → Start w → without sibling w ≡ none → Stands x w f → 0 < hit x y + times x e
    go w begin n h = let z : hit x y ≡ 1 = rw h.1 (hit_same x) in omega arith
    go w (first child p) n h =
        let s = subst (λ g. Some g × (head g ≡ x)) (part_under child p f) h in omega (arith, there x p e s.0 s.1)
    go w (first sibling p) n h = absurd (none-ne-some _ (sym n ∙ right_way p))

-- the table's view from another node of its tree
pub elsewhere : {m : Table} {n used free x y : ℕ} {t : Forest} {p q : Place} (h : Holds m n used free x t p) → Stands y q h.placed → Holds m n used free y t q
elsewhere {m} {used = used} {y = y} {q = q} h s =
    record {
      few = h.few;
      room = h.room;
      placed = h.placed;
      spare = h.spare;
      is_tree = h.is_tree;
      is_root = h.is_root;
      alone = h.alone;
      stored = h.stored;
      here = s.1;
      live = below (dec_lt y used);
      freed = h.freed;
      leads = h.leads;
      each = h.each;
    }
  where
    below : Dec (y < used) → y < used
    below (yes z) = z
    below (no z) = absurd (omega (arith, there y q h.placed s.0 s.1, none_beyond m used gone gone h.placed h.stored y (omega arith)))
