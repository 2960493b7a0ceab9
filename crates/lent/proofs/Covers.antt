-- The walk that asks whether a tree stands in a table is at a link that is to lead to a forest of so many trees, and behind it wait the links to the
-- right siblings of the nodes above. Each step leaves unchanged which forests fill these links. Assumes nothing.
use mathlib.Core.Logic.{◌↔◌}
use mathlib.Core.Path.{◌≡◌, refl, sym, ap, subst, ◌∙◌}
use mathlib.Core.Bool.{Bool, true, false, true≢false, ◌&&◌, cond}
use Prim.Native.Nat.{ℕ, suc, ◌+◌, ◌-◌, ◌<◌, ◌≤◌}
use native.Mathlib.Omega.{arith}
use lib.Dec.{ltb}
use borrow.Author.Tests.{lt-ltb, le-ltb}
use Rattle.rules.specs.Level.{Level, public}
use Rattle.rules.specs.Limits.{max_nodes}
use Rattle.rules.specs.Tree.{Label, Forest, count, Fit, Fits}
use Rattle.table.specs.Cells.{Cell, cell, Table, ByteLevels, gone}
use Rattle.table.specs.Holds.{Placed, empty, node, erase, head, last, Stored, hit, times}
use Rattle.lent.specs.Stands.{Stands, label_fits}
use Rattle.table.proofs.Counting.{sum_to, sum_ext, sum_stored}

-- the nodes above the link, innermost first: the place of each, and how many siblings are due to its right
pub data Trail : Type 0 where
  home : Trail
  under : ℕ → ℕ → Trail → Trail

abbrev pub above : Trail → ℕ
above home = gone
above (under x c k) = x

abbrev pub depth : Trail → ℕ
depth home = 0
depth (under x c k) = suc (depth k)

-- the structure level that bounds nodes with the parent u
unfoldable pub bound : Table → ℕ → ℕ → Level
bound m n u = cond (ltb u n) (m u).label.structure public

pub bound_in : (m : Table) (n u : ℕ) → u < n → bound m n u ≡ (m u).label.structure
unfolding bound
bound_in m n u lt = rw (lt-ltb u n lt)

pub bound_out : (m : Table) (n u : ℕ) → n ≤ u → bound m n u ≡ public
unfolding bound
bound_out m n u le = rw (le-ltb u n le)

-- the forest of j trees that a link y of nodes with the parent u, right of v, leads to; a parent leads to the last of them
pub record Fills (m : Table) (n u v y j lo : ℕ) (f : Placed) : Type 0 where
  pub heads : head f ≡ y
  pub stored : Stored m n u v f
  pub ends : u < n → last v f ≡ (m u).last
  pub counted : count (erase f) ≡ j
  pub fits : Fits lo (bound m n u) (erase f)

-- the links that wait are filled, so that with the places in `mk` each place stands as often as T says
abbrev pub Rest : Table → ℕ → (ℕ → ℕ) → (ℕ → ℕ) → Trail → Type 0
Rest m n T mk home = (z : ℕ) → z < n → mk z ≡ T z
Rest m n T mk (under x c k) =
    (f : Placed) × Fills m n (above k) x (m x).right c (m x).label.existence f × Rest m n T (λ z. times z f + mk z) k

-- the link y, right of v, and those that wait are filled
pub record Cover (m : Table) (n : ℕ) (T mk : ℕ → ℕ) (k : Trail) (v y j lo : ℕ) : Type 0 where
  pub f : Placed
  pub fills : Fills m n (above k) v y j lo f
  pub rest : Rest m n T (λ z. times z f + mk z) k

module _ (m : Table) (n : ℕ) (T : ℕ → ℕ) where
  pub rest_ext : (mk mk' : ℕ → ℕ) (k : Trail) → ((z : ℕ) → z < n → mk z ≡ mk' z) → Rest m n T mk k → Rest m n T mk' k
  rest_ext mk mk' home e h = λ z lt. sym (e z lt) ∙ h z lt
  rest_ext mk mk' (under x c k) e h =
      (h.0, h.1, rest_ext (λ z. times z h.0 + mk z) (λ z. times z h.0 + mk' z) k (λ z lt. omega (arith, e z lt)) h.2)

  pub rest_le : (mk : ℕ → ℕ) (k : Trail) → Rest m n T mk k → (z : ℕ) → z < n → mk z ≤ T z
  rest_le mk home h z lt = omega (arith, h z lt)
  rest_le mk (under x c k) h z lt = omega (arith, rest_le (λ z. times z h.0 + mk z) k h.2 z lt)

-- the tests of a node
pub both : (a b : Bool) → (a && b) ≡ true → (a ≡ true) × (b ≡ true)
both true b e = (refl, e)
both false b e = absurd (true≢false (sym e))

pub fit_test : (lo hi : Level) (l : Label) → label_fits lo hi l ≡ true → Fit lo hi l
unfolding label_fits
fit_test lo hi l e =
    let g = both _ _ e in
    let f = both _ _ g.0 in
    let d = both _ _ f.0 in
    let c = both _ _ d.0 in
    let b = both _ _ c.0 in
    let a = both _ _ b.0 in
    record {
      levels = record { existence = a.0; content = a.1; structure = b.1 };
      above = c.1;
      under = d.1;
      content = f.1;
      structure = g.1;
    }

pub test_fit : (lo hi : Level) (l : Label) → Fit lo hi l → label_fits lo hi l ≡ true
unfolding label_fits
test_fit lo hi l h =
    rw (h.levels.existence, h.levels.content, h.levels.structure, h.above, h.under, h.content, h.structure)

-- a link that leads to no node
pub no_node : {m : Table} {n u v j lo : ℕ} (f : Placed) → n ≤ gone → Fills m n u v gone j lo f → f ≡ empty
no_node empty le h = refl
no_node (node x l c r) le h = absurd (omega (arith, h.heads, h.stored.0))

pub empty_fills : {m : Table} {n u v lo : ℕ} → (u < n → v ≡ (m u).last) → Fills m n u v gone 0 lo empty
unfolding count
empty_fills e = record { heads = refl; stored = tt; ends = e; counted = refl; fits = tt }

-- a link that leads to a node: what the node's cell says of it, and what its two links lead to
pub record Found (m : Table) (n u v y j lo : ℕ) (f : Placed) : Type 0 where
  pub below : y < n
  pub more : 0 < j
  pub parent : (m y).parent ≡ u
  pub left : (m y).left ≡ v
  pub fit : Fit lo (bound m n u) (m y).label
  pub bytes : ByteLevels (m y).label
  pub c : Placed
  pub r : Placed
  pub is : (z : ℕ) → times z f ≡ hit z y + times z c + times z r
  pub down : Fills m n y gone (m y).first (m y).children (m y).label.existence c
  pub on : Fills m n u y (m y).right (j - 1) (m y).label.existence r

cell≡ : {f r u v z j : ℕ} (a : Cell) → f ≡ a.first → r ≡ a.right → a.parent ≡ u → a.left ≡ v → z ≡ a.last → j ≡ a.children
    → a ≡ cell f r u v z j a.label
cell≡ a p q s w e g = λ i. cell (sym p i) (sym q i) (s i) (w i) (sym e i) (sym g i) a.label

module _ {m : Table} {n u v y j lo : ℕ} where
  pub found : (f : Placed) → (y ≡ gone → ⊥) → Fills m n u v y j lo f → Found m n u v y j lo f
  unfolding count
  found empty ne h = absurd (ne (sym h.heads))
  found (node x l c r) ne h =
      let e : m y ≡ cell (head c) (head r) u v (last gone c) (count (erase c)) l = sym (ap m h.heads) ∙ h.stored.1 in
      let a : (m y).label ≡ l = ap (λ v. v.label) e in
      let lt : y < n = omega (arith, h.heads, h.stored.0) in
      let below = subst (λ v. Fits v.existence v.structure (erase c)) (sym a) h.fits.1 in
      record {
        below = lt;
        more = omega (arith, h.counted);
        parent = ap (λ v. v.parent) e;
        left = ap (λ v. v.left) e;
        fit = subst (λ v. Fit lo (bound m n u) v) (sym a) h.fits.0;
        bytes = subst ByteLevels (sym a) h.stored.4;
        c = c;
        r = r;
        is = λ z. ap (λ v. hit z v + times z c + times z r) h.heads;
        down =
            record {
              heads = sym (ap (λ v. v.first) e);
              stored = subst (λ v. Stored m n v gone c) h.heads h.stored.2;
              ends = λ _. sym (ap (λ v. v.last) e);
              counted = sym (ap (λ v. v.children) e);
              fits = subst (λ v. Fits (m y).label.existence v (erase c)) (sym (bound_in m n y lt)) below;
            };
        on =
            record {
              heads = sym (ap (λ v. v.right) e);
              stored = subst (λ v. Stored m n u v r) h.heads h.stored.3;
              ends = λ q. subst (λ v. last v r ≡ (m u).last) h.heads (h.ends q);
              counted = omega (arith, h.counted);
              fits = subst (λ v. Fits v.existence (bound m n u) (erase r)) (sym a) h.fits.2;
            };
      }

  filled : y < n → 0 < j → (m y).parent ≡ u → (m y).left ≡ v → Fit lo (bound m n u) (m y).label → ByteLevels (m y).label → (c r : Placed)
      → Fills m n y gone (m y).first (m y).children (m y).label.existence c → Fills m n u y (m y).right (j - 1) (m y).label.existence r
      → Fills m n u v y j lo (node y (m y).label c r)
  unfolding count
  filled lt pos p q fit bytes c r hc hr =
      record {
        heads = refl;
        stored = (lt, cell≡ (m y) hc.heads hr.heads p q (hc.ends lt) hc.counted, hc.stored, hr.stored, bytes);
        ends = hr.ends;
        counted = omega (arith, hr.counted);
        fits = (fit, subst (λ v. Fits (m y).label.existence v (erase c)) (bound_in m n y lt) hc.fits, hr.fits);
      }

-- the two steps of the walk: down to the children of a node that is entered, and on from the end of a list to what is right of the node above
module _ (m : Table) (n : ℕ) (le : n ≤ gone) (T mk : ℕ → ℕ) where
  pub cover_down : (mk' : ℕ → ℕ) (k : Trail) (v y j lo : ℕ) → y < n → 0 < j → (m y).parent ≡ above k → (m y).left ≡ v
      → Fit lo (bound m n (above k)) (m y).label → ByteLevels (m y).label
      → ((z : ℕ) → z < n → mk' z ≡ hit z y + mk z)
      → Cover m n T mk k v y j lo ↔ Cover m n T mk' (under y (j - 1) k) gone (m y).first (m y).children (m y).label.existence
  cover_down mk' k v y j lo lt pos p w fit bytes e = (
    λ h.
        let d = found h.f (λ q. omega arith) h.fills in
        record {
          f = d.c;
          fills = d.down;
          rest = (
            d.r,
            d.on,
            rest_ext m n T (λ z. times z h.f + mk z) (λ z. times z d.r + (times z d.c + mk' z)) k (λ z q. omega (arith, d.is z, e z q)) h.rest,
          );
        },
    λ h.
        record {
          f = node y (m y).label h.f h.rest.0;
          fills = filled lt pos p w fit bytes h.f h.rest.0 h.fills h.rest.1;
          rest =
              rest_ext m n T (λ z. times z h.rest.0 + (times z h.f + mk' z)) (λ z. times z (node y (m y).label h.f h.rest.0) + mk z) k
              (λ z q. omega (arith, e z q)) h.rest.2;
        },
  )

  pub cover_up : (k : Trail) (v x c lo : ℕ) → (m x).last ≡ v
      → Cover m n T mk (under x c k) v gone 0 lo ↔ Cover m n T mk k x (m x).right c (m x).label.existence
  cover_up k v x c lo z = (
    λ h.
        let e = no_node h.f le h.fills in
        record {
          f = h.rest.0;
          fills = h.rest.1;
          rest =
              rest_ext m n T (λ z. times z h.rest.0 + (times z h.f + mk z)) (λ z. times z h.rest.0 + mk z) k
              (λ z q. omega (arith, ap (times z) e)) h.rest.2;
        },
    λ h.
        record {
          f = empty;
          fills = empty_fills (λ _. sym z);
          rest =
              (h.f, h.fills, rest_ext m n T (λ z. times z h.f + mk z) (λ z. times z h.f + (0 + mk z)) k (λ z q. omega arith) h.rest);
        },
  )

-- a tree that stands in the table is what fills the first link
module _ {m : Table} {n : ℕ} (le : n ≤ gone) where
  pub stands_cover : {t : Forest} (h : Stands m n t) → Cover m n (λ z. times z h.placed) (λ _. 0) home gone 0 1 public
  stands_cover {t} h =
      record {
        f = h.placed;
        fills =
            record {
              heads = h.is_root;
              stored = h.stored;
              ends = λ lt. absurd (omega arith);
              counted = ap count h.is_tree ∙ h.alone;
              fits =
                  subst (λ v. Fits public v (erase h.placed)) (sym (bound_out m n gone le))
                  (subst (λ v. Fits public public v) (sym h.is_tree) h.rules);
            };
        rest = λ z lt. omega arith;
      }

  pub cover_stands : {T : ℕ → ℕ} → sum_to n T ≤ max_nodes → (h : Cover m n T (λ _. 0) home gone 0 1 public) → Stands m n (erase h.f)
  cover_stands {T} total h =
      record {
        placed = h.f;
        is_tree = refl;
        is_root = h.fills.heads;
        alone = h.fills.counted;
        stored = h.fills.stored;
        few =
            omega
            (arith, sum_stored m n gone gone h.f h.fills.stored, sum_ext n T (λ z. times z h.f) (λ z lt. omega (arith, h.rest z lt)), total);
        rules = subst (λ v. Fits public v (erase h.f)) (bound_out m n gone le) h.fills.fits;
      }
