-- A cut is made of what the reader sees at each place, so that trees which agree place by place have equal cuts. Where the tree rules hold, a cut shows what
-- the tree shows, and trees with equal cuts agree. Assumes nothing.
use mathlib.Core.Path.{◌≡◌, refl, sym, ◌∙◌, ap}
use mathlib.Core.Option.{Option, none, some}
use lib.IntN.{ℤ, pos}
use Rattle.rules.specs.Level.{Level, public, visible}
use Rattle.rules.specs.Tree.{Label, Forest, nil, tree, Side, child, sibling, along, Place, root, to, sub, with_value, TreeRules}
use Rattle.rules.specs.Public.{SeenNode, seen_value, seen_label, seen_node, AgreeTrees}
use Rattle.rules.proofs.Tests.{Test, holds, fails, test}
use Rattle.rules.proofs.Cut.{mask, cut_label, cut, cut_sub}

-- a place of what stands on a side of the first node, as a place of the whole
within : Side → Place → Place
within d root = to d root
within d (to e p) = to e (within d p)

sub_within : (d : Side) (p : Place) (t : Forest) → sub (within d p) t ≡ sub p (along d t)
unfolding sub within
sub_within d root t = refl
sub_within d (to e p) t = ap (along e) (sub_within d p t)

-- what is seen of a value, as a value
unfoldable pub unmask : Option ℤ → ℤ
unmask none = pos 0
unmask (some z) = z

-- what is seen of a node, as a label
labelled : SeenNode → Label
labelled n = record { value = unmask n.value; existence = n.existence; content = n.content; structure = n.structure }

-- what is seen of the first node, with its children and its right siblings
built : Option SeenNode → Forest → Forest → Forest
built none c r = nil
built (some n) c r = tree (labelled n) c r

module _ (o : Level) where
  pub masked : (l : Level) (z : ℤ) → unmask (seen_value o l z) ≡ mask o l z
  unfolding unmask seen_value mask
  masked l z = pick (test (visible o l))
    where
      pick : Test (visible o l) → unmask (seen_value o l z) ≡ mask o l z
      pick (holds e) = rw e
      pick (fails e) = rw e

  pub unmasked : (l : Level) (z : ℤ) → seen_value o l (mask o l z) ≡ seen_value o l z
  unfolding seen_value mask
  unmasked l z = pick (test (visible o l))
    where
      pick : Test (visible o l) → seen_value o l (mask o l z) ≡ seen_value o l z
      pick (holds e) = rw e
      pick (fails e) = rw e

  label_seen : (l : Label) → labelled (seen_label o l) ≡ cut_label o l
  unfolding labelled seen_label cut_label with_value
  label_seen l = λ i. record { value = masked l.content l.value i; existence = l.existence; content = l.content; structure = l.structure }

  seen_label_law : (l : Label) → seen_label o (cut_label o l) ≡ seen_label o l
  unfolding seen_label cut_label with_value
  seen_label_law l = λ i. record { existence = l.existence; content = l.content; structure = l.structure; value = unmasked l.content l.value i }

  -- a cut is made of what is seen
  cut_built : (l : Label) (c r : Forest) → cut o (tree l c r) ≡ built (seen_node o (tree l c r)) (cut o c) (cut o r)
  unfolding built seen_node cut
  cut_built l c r = pick (test (visible o l.existence))
    where
      pick : Test (visible o l.existence) → cut o (tree l c r) ≡ built (seen_node o (tree l c r)) (cut o c) (cut o r)
      pick (holds e) = rw e (ap (λ k. tree k (cut o c) (cut o r)) (sym (label_seen l)))
      pick (fails e) = rw e

  seen_cut : (x : Forest) → seen_node o (cut o x) ≡ seen_node o x
  unfolding seen_node cut cut_label with_value
  seen_cut nil = refl
  seen_cut (tree l c r) = pick (test (visible o l.existence))
    where
      pick : Test (visible o l.existence) → seen_node o (cut o (tree l c r)) ≡ seen_node o (tree l c r)
      pick (holds e) = rw (e, e) (ap some (seen_label_law l))
      pick (fails e) = rw e

  agree_along : (d : Side) (t u : Forest) → AgreeTrees o t u → AgreeTrees o (along d t) (along d u)
  unfolding AgreeTrees
  agree_along d t u h p = ap (seen_node o) (sym (sub_within d p t)) ∙ h (within d p) ∙ ap (seen_node o) (sub_within d p u)

  -- agreement place by place gives equal cuts, whatever the trees
  pub cuts_equal : (t u : Forest) → AgreeTrees o t u → cut o t ≡ cut o u
  unfolding AgreeTrees sub along seen_node built cut
  cuts_equal nil nil h = refl
  cuts_equal nil (tree m d q) h = ap (λ n. built n (cut o d) (cut o q)) (h root) ∙ sym (cut_built m d q)
  cuts_equal (tree l c r) nil h = cut_built l c r ∙ ap (λ n. built n (cut o c) (cut o r)) (h root)
  cuts_equal (tree l c r) (tree m d q) h =
      cut_built l c r
      ∙ (λ i.
      built (h root i) (cuts_equal c d (agree_along child (tree l c r) (tree m d q) h) i)
      (cuts_equal r q (agree_along sibling (tree l c r) (tree m d q) h) i))
      ∙ sym (cut_built m d q)

  -- a cut shows what the tree shows
  pub cut_shows : (t : Forest) → TreeRules t → AgreeTrees o t (cut o t)
  unfolding AgreeTrees
  cut_shows t f p = sym (seen_cut (sub p t)) ∙ ap (seen_node o) (sym (cut_sub o p t public public f))

  -- and equal cuts agree place by place
  pub places_agree : (t u : Forest) → TreeRules t → TreeRules u → cut o t ≡ cut o u → AgreeTrees o t u
  unfolding AgreeTrees
  places_agree t u f g h p = cut_shows t f p ∙ ap (λ x. seen_node o (sub p x)) h ∙ sym (cut_shows u g p)
