-- A node is removed from a side of the cursor's node, where it has a parent: the view goes to that side, the first node there goes, and the view
-- comes back. A node that stood in the tree stands there still, or was below the one that has gone. Assumes nothing.
use mathlib.Core.Path.{◌≡◌, refl, sym, ap, subst, ◌∙◌}
use mathlib.Core.Option.{none, some}
use Prim.Native.Nat.{ℕ, ◌+◌, ◌-◌, ◌<◌, ◌≤◌}
use native.Mathlib.Omega.{arith}
use Rattle.rules.specs.Tree.{Label, Forest, Side, Place, to, change, remove, count, after_remove}
use Rattle.table.specs.Cells.{Table, gone, word_of, left_on}
use Rattle.table.specs.Holds.{Placed, empty, node, head, Spare, end, more, hit, times, Holds}
use Rattle.table.specs.Promises.{Leads, Removed}
use Rattle.table.specs.Steps.{with_word, Put, Reparented, LedBack, Detached}
use Rattle.table.proofs.Ways.{Way, step, plug, path_of, parent_of, plug_times}
use Rattle.table.proofs.Focus.{Focus}
use Rattle.table.proofs.Unique.{Stands, there as standing, held_stands, placing, one_lead}
use Rattle.table.proofs.Moves.{few_above, counts_all, to_side}
use Rattle.table.proofs.Links.{with_link, with_count, link_count, same_count, led_count}
use Rattle.table.proofs.Changes.{prune}
use Rattle.table.proofs.Sides.{return, link_above, has_parent, at, way_on, forest_on, view_on}
use Rattle.table.proofs.Relocating.{stands_pruned, stands_lost, elsewhere}
use Rattle.table.proofs.Words.{with_link_law, fits, one_less_law}

-- the first node of a forest stands at y, with the forest c below it and r to its right
pub record First (y : ℕ) (f : Placed) : Type 0 where
  pub l : Label
  pub c : Placed
  pub r : Placed
  pub was : f ≡ node y l c r

first : {y : ℕ} (f : Placed) → y ≡ head f → (y ≡ gone → ⊥) → First y f
first empty e ne = absurd (ne e)
first (node q l c r) e ne = record { l = l; c = c; r = r; was = ap (λ v. node v l c r) (sym e) }

-- it goes from the end of the way; the parent words below it may have changed before
module _ {m m₀ m' : Table} {n used free x y u : ℕ} {t : Forest} {l a : Label} {o c r : Placed} {k : Way} {s : Spare} (d : Side) where
  cut_off : Focus m n used free t empty (step d x l o k) (node y a c r) s → u ≡ parent_of (step d x l o k) → u < n
      → Reparented (λ i. times i c) m m₀ → Detached d m₀ m' n x u y free
      → Focus m' n used y (change (to d (path_of k)) remove t) empty (step d x l o k) r (more y c empty s)
  unfolding with_word count
  cut_off h z lu p g =
      let K = step d x l o k in
      let right : (m₀ y).right ≡ head r = ap (λ v. v.right) (p.rest y) ∙ ap (λ v. v.right) h.stored.1 in
      let left : (m₀ y).left ≡ left_on d x = ap (λ v. v.left) (p.rest y) ∙ ap (λ v. v.left) h.stored.1 in
      let passed : Put m₀ g.m₁ x (with_link d (head r) (m₀ x)) =
      subst (λ v. Put m₀ g.m₁ x v) (with_link_law d (m₀ y).right (m₀ x) ∙ ap (λ v. with_link d v (m₀ x)) right) g.passed in
      let back : LedBack g.m₁ n (head r) (parent_of K) (left_on d x) g.m₂ = rw (right, left, z) at g.back in
      let ne : parent_of K ≡ gone → ⊥ = λ i. omega (arith, h.few) in
      let kept : (g.m₄ u).children ≡ (m (parent_of K)).children =
      same_count g.stacked refl u ∙ same_count g.cut refl u ∙ led_count back u ∙ same_count passed (link_count d (head r) (m₀ x)) u
      ∙ ap (λ v. v.children) (p.rest u) ∙ ap (λ v. (m v).children) z in
      let fewer = one_less_law (g.m₄ u).children (omega (arith, kept, counts_all m used y _ _ K h.above ne)) (omega (arith, kept, few_above K _ h ne, h.few)) in
      let counted = subst (λ v. Put g.m₄ m' v (with_count ((g.m₄ v).children - 1) (g.m₄ v))) z (subst (λ i. Put g.m₄ m' u (with_count i (g.m₄ u))) fewer g.counted) in
      prune h ne p passed back g.cut g.stacked counted

-- what leads to the free places fits a word
free_fits : {m : Table} {n used free : ℕ} {t : Forest} {w f : Placed} {k : Way} {s : Spare} → Focus m n used free t w k f s → word_of free ≡ free
free_fits {s = end} h = fits _ (omega (arith, h.leads))
free_fits {s = more x c r s} h = fits _ (omega (arith, h.leads, h.freed.0, h.room, h.few))

-- removal on a side of the cursor's node
module _ {m : Table} {n used free x : ℕ} {t : Forest} {p : Place} (h : Holds m n used free x t p) (d : Side) where
  abbrev there : Way
  there = way_on h d

  module _ {y : ℕ} (ly : y < n) (e : Leads m n used free t (some (to d p)) y) where
    is_head : y ≡ head (forest_on h d)
    is_head = one_lead e (to_side h d) ly ∙ link_above d (view_on h d)

    -- a node stands there
    pub found : First y (forest_on h d)
    found = first (forest_on h d) is_head (λ z. omega (arith, h.few))

  module _ {y : ℕ} (o : First y (forest_on h d)) where
    pub seen_first : Focus m n used free t empty there (node y o.l o.c o.r) (at h).s
    seen_first = subst (λ f. Focus m n used free t empty there f (at h).s) o.was (view_on h d)

    -- its cell leads to its parent
    above : (m y).parent ≡ parent_of there
    above = ap (λ a. a.parent) seen_first.stored.1

    -- which is a node
    pub never_parentless : {u : ℕ} → u ≡ (m y).parent → n ≤ u → ⊥
    never_parentless z ge =
        omega (arith, has_parent d (at h).k _ seen_first (omega (arith, seen_first.stored.0, h.room)), above, z)

    -- it has gone
    abbrev pub Gone : Table → Type 0
    Gone m' = Focus m' n used y (change (path_of there) remove t) empty there o.r (more y o.c empty (at h).s)

    pub pruned : {m₀ m' : Table} {u : ℕ} → u ≡ (m y).parent → u < n → Reparented (λ i. times i o.c) m m₀
        → Detached d m₀ m' n x u y (word_of free) → Gone m'
    pruned z lu g w = cut_off d seen_first (z ∙ above) lu g (rw (free_fits seen_first) at w)

    -- a node that stood in the tree
    stood : {i : ℕ} {q : Place} → Holds m n used free i t q → Stands i q (plug there (node y o.l o.c o.r))
    stood {i} {q} k = subst (Stands i q) (placing k seen_first) (held_stands k)

    -- stands there still
    stays : {i : ℕ} {q q' : Place} → Holds m n used free i t q → after_remove (path_of there) q ≡ some q' → Stands i q' (plug there o.r)
    stays {q = q} {q'} k w = stands_pruned q there y o.l o.c o.r q' w (stood k)

    pub removed : {m' : Table} → Gone m' → Removed d m m' n used free y x t p
    removed {m'} g =
        let held : Holds m' n used y x (change (path_of there) remove t) (path_of (at h).k) = return d (at h).k g in
        subst (λ q. Removed d m m' n used free y x t q) (at h).is_path
        (record {
          done = held;
          moved = λ i q q' k w. elsewhere held (subst (Stands i q') (sym (placing held g)) (stays k w));
        })

    -- or is one of those that have gone
    pub gone_below : (i : ℕ) (q : Place) → Holds m n used free i t q → after_remove (to d p) q ≡ none → 0 < hit i y + times i o.c
    gone_below i q k w =
        stands_lost q there y o.l o.c o.r (subst (λ v. after_remove (to d v) q ≡ none) (sym (at h).is_path) w) (stood k)

    pub not_below : (i : ℕ) (q q' : Place) → Holds m n used free i t q → after_remove (to d p) q ≡ some q' → hit i y + times i o.c ≡ 0
    not_below i q q' k w =
        let s = stays k (subst (λ v. after_remove (to d v) q ≡ some q') (sym (at h).is_path) w) in
        omega (arith, standing i q' _ s.0 s.1, plug_times i there o.r, seen_first.once i)
