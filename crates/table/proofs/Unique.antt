-- A table holds at most one tree, and no two of its nodes share a place. The links from place 0 on tell the whole tree; and a place that led
-- to two nodes would stand twice in it. Assumes nothing.
use mathlib.Core.Path.{◌≡◌, refl, sym, ap, subst, ◌∙◌}
use mathlib.Core.Bool.{true≢false}
use mathlib.Core.Option.{Option, some-ne-none, some-injective}
use Prim.Native.Nat.{ℕ, ◌<◌, ◌≤◌}
use native.Mathlib.Omega.{arith}
use Rattle.rules.specs.Tree.{Label, Forest, Side, child, sibling, Place, root, to, sub, exists, size}
use Rattle.table.specs.Cells.{Table, gone}
use Rattle.table.specs.Holds.{Placed, empty, node, erase, head, beside, part, Stored, Spare, hit, times, Holds}
use Rattle.table.specs.Promises.{Leads, outside, missing, found}
use Rattle.table.proofs.Counting.{hit_same, size_most}
use Rattle.table.proofs.Ways.{Way, plug, replug, plug_times, Some, some_node, split}
use Rattle.table.proofs.Focus.{Focus}
use Rattle.table.proofs.Moves.{stands}

node≡ : {x x' : ℕ} {l l' : Label} {c c' r r' : Placed} → x ≡ x' → l ≡ l' → c ≡ c' → r ≡ r' → node x l c r ≡ node x' l' c' r'
node≡ p q s z = λ i. node (p i) (q i) (s i) (z i)

-- one forest from one place
pub same : (m : Table) (b b' u u' v v' : ℕ) (f g : Placed) → b ≤ gone → b' ≤ gone → Stored m b u v f → Stored m b' u' v' g → head f ≡ head g → f ≡ g
same m b b' u u' v v' empty empty le le' h h' e = refl
same m b b' u u' v v' empty (node y l c r) le le' h h' e = absurd (omega arith)
same m b b' u u' v v' (node x l c r) empty le le' h h' e = absurd (omega arith)
same m b b' u u' v v' (node x l c r) (node y l' c' r') le le' h h' e =
    let a = sym h.1 ∙ ap m e ∙ h'.1 in
    node≡ e (ap (λ z. z.label) a) (same m b b' x y gone gone c c' le le' h.2 h'.2 (ap (λ z. z.first) a))
    (same m b b' u u' x y r r' le le' h.3 h'.3 (ap (λ z. z.right) a))

module _ {m : Table} {n n' used used' free free' x x' : ℕ} {t t' : Forest} {p p' : Place} where
  pub one_placing : (h : Holds m n used free x t p) (h' : Holds m n' used' free' x' t' p') → h.placed ≡ h'.placed
  one_placing h h' =
      same m used used' gone gone gone gone h.placed h'.placed (omega (arith, h.room, h.few)) (omega (arith, h'.room, h'.few)) h.stored h'.stored
      (h.is_root ∙ sym h'.is_root)

  -- a table holds at most one tree
  pub one_tree : Holds m n used free x t p → Holds m n' used' free' x' t' p' → t ≡ t'
  one_tree h h' = sym h.is_tree ∙ ap erase (one_placing h h') ∙ h'.is_tree

-- a place where a node of the forest stands is one of the forest's
pub there : (x : ℕ) (p : Place) (f : Placed) → Some (part p f) → head (part p f) ≡ x → 0 < times x f
there x p f h e =
    let s = split p f h in
    omega (arith, ap (times x) s.is_whole, plug_times x s.k (part p f), first (part p f) h e)
  where
    first : (g : Placed) → Some g → head g ≡ x → 0 < times x g
    first empty h e = absurd h
    first (node y l c r) h e = let z : hit x y ≡ 1 = rw e (hit_same x) in omega arith

-- the placing of a tree, seen from a place of it
pub placing : {m : Table} {n used free x : ℕ} {t : Forest} {p : Place} {w : Placed} {k : Way} {f : Placed} {s : Spare} (h : Holds m n used free x t p)
    → Focus m n used free t w k f s → h.placed ≡ plug k f
placing {m} {used = used} {k = k} {f} h g =
    let q = replug m used k f g.stored g.above in
    let le : used ≤ gone = omega (arith, h.room, h.few) in
    same m used used gone gone gone gone h.placed (plug k f) le le h.stored q.0 (h.is_root ∙ sym q.1)

-- a place of the tree is the root, or leads on from one of its two sides
abbrev pub under : Side → Place → Place
under d root = to d root
under d (to e p) = to e (under d p)

pub data Start : Place → Type 0 where
  begin : Start root
  first : (d : Side) (p : Place) → Start (under d p)

pub start : (p : Place) → Start p
start root = begin
start (to e p) = go p (start p)
  where
    go : (p : Place) → Start p → Start (to e p)
    go p begin = first e root
    go p (first d q) = first d (to e q)

pub part_under : (d : Side) (p : Place) (f : Placed) → part (under d p) f ≡ part p (beside d f)
part_under d root f = refl
part_under d (to e p) f = ap (beside e) (part_under d p f)

-- the node at p stands at x
abbrev pub Stands : ℕ → Place → Placed → Type 0
Stands x p f = Some (part p f) × (head (part p f) ≡ x)

nothing : (p : Place) → part p empty ≡ empty
nothing root = refl
nothing (to d p) = ap (beside d) (nothing p)

OneWay : ℕ → Placed → Type 0
OneWay x f = (p q : Place) → Stands x p f → Stands x q f → p ≡ q

module _ (x y : ℕ) (l : Label) (c r : Placed) (once : times x (node y l c r) ≤ 1) where
  -- what stands at a place below stands below
  along_side : (d : Side) (p : Place) → Stands x (under d p) (node y l c r) → Stands x p (beside d (node y l c r))
  along_side d p h = subst (λ g. Some g × (head g ≡ x)) (part_under d p (node y l c r)) h

  in_side : (d : Side) (p : Place) → Stands x (under d p) (node y l c r) → 0 < times x (beside d (node y l c r))
  in_side d p h = let s = along_side d p h in there x p (beside d (node y l c r)) s.0 s.1

  not_both : (d : Side) (p : Place) → y ≡ x → Stands x (under d p) (node y l c r) → ⊥
  not_both child p e h = let z : hit x y ≡ 1 = rw e (hit_same x) in omega (arith, in_side child p h)
  not_both sibling p e h = let z : hit x y ≡ 1 = rw e (hit_same x) in omega (arith, in_side sibling p h)

  one_way : OneWay x c → OneWay x r → (p q : Place) → Start p → Start q → Stands x p (node y l c r) → Stands x q (node y l c r) → p ≡ q
  unfolding OneWay
  one_way hc hr p q begin begin h k = refl
  one_way hc hr p q begin (first d q') h k = absurd (not_both d q' h.1 k)
  one_way hc hr p q (first d p') begin h k = absurd (not_both d p' k.1 h)
  one_way hc hr p q (first child p') (first child q') h k = ap (under child) (hc p' q' (along_side child p' h) (along_side child q' k))
  one_way hc hr p q (first child p') (first sibling q') h k = absurd (omega (arith, in_side child p' h, in_side sibling q' k))
  one_way hc hr p q (first sibling p') (first child q') h k = absurd (omega (arith, in_side sibling p' h, in_side child q' k))
  one_way hc hr p q (first sibling p') (first sibling q') h k = ap (under sibling) (hr p' q' (along_side sibling p' h) (along_side sibling q' k))

apart : (x : ℕ) (f : Placed) → times x f ≤ 1 → OneWay x f
unfolding OneWay
apart x empty once p q h k = absurd (subst Some (nothing p) h.0)
apart x (node y l c r) once p q h k = one_way x y l c r once (apart x c (omega arith)) (apart x r (omega arith)) p q (start p) (start q) h k

pub held_stands : {m : Table} {n used free x : ℕ} {t : Forest} {p : Place} (h : Holds m n used free x t p) → Stands x p h.placed
held_stands {used = used} {p = p} h =
    (some_node (part p h.placed) (subst (λ z. z < used) (sym h.here) h.live) (omega (arith, h.room, h.few)), h.here)

-- a node's place is one of its tree's
pub lives : {m : Table} {n used free x : ℕ} {t : Forest} {p : Place} (h : Holds m n used free x t p) → 0 < times x h.placed
lives {x = x} {p = p} h = let s = held_stands h in there x p h.placed s.0 s.1

-- no two nodes share a place of the table, and each has just one
module _ {m : Table} {n used free x : ℕ} {t : Forest} {p : Place} where
  pub own_place : {p' : Place} → Holds m n used free x t p → Holds m n used free x t p' → p ≡ p'
  unfolding OneWay
  own_place {p'} h h' =
      apart x h.placed (omega (arith, h.each x h.live)) p p' (held_stands h)
      (subst (Stands x p') (one_placing h' h) (held_stands h'))

  pub own_node : {x' : ℕ} → Holds m n used free x t p → Holds m n used free x' t p → x ≡ x'
  own_node h h' = sym h.here ∙ ap (λ f. head (part p f)) (one_placing h h') ∙ h'.here

  -- a tree has no more nodes than the table has places
  pub few_nodes : Holds m n used free x t p → size t ≤ n
  few_nodes h =
      omega (arith, ap size h.is_tree, size_most m used gone gone h.placed h.spare h.stored h.each, h.room)

-- a move leads to one place
pub one_lead : {m : Table} {n used free r r' : ℕ} {t : Forest} {o : Option Place} → Leads m n used free t o r → Leads m n used free t o r' → r < n
    → r ≡ r'
one_lead (outside ge e) l lt = absurd (omega arith)
one_lead (missing q ge e z) l lt = absurd (omega arith)
one_lead (found q lt' e h) (outside ge e') lt = absurd (some-ne-none q (sym e ∙ e'))
one_lead {t = t} (found q lt' e h) (missing q' ge e' z) lt =
    absurd (true≢false (sym (stands h) ∙ ap (λ v. exists (sub v t)) (some-injective q q' (sym e ∙ e')) ∙ z))
one_lead {m} {n} {used} {free} {r' = r'} {t} (found q lt' e h) (found q' lt'' e' h') lt =
    own_node h (subst (λ v. Holds m n used free r' t v) (some-injective q' q (sym e' ∙ e)) h')
