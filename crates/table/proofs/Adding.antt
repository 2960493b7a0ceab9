-- A node is added on a side of the cursor's node: the view goes to that side, a free place becomes the first node there, and the view comes back.
-- It is possible exactly where a place is free. Assumes nothing.
use mathlib.Core.Path.{◌≡◌, sym, ap, subst}
use Prim.Native.Nat.{ℕ, suc, ◌<◌, ◌≤◌}
use native.Mathlib.Omega.{arith}
use Rattle.rules.specs.Tree.{Label, Forest, Side, Place, to, up, change, insert, after_insert}
use Rattle.table.specs.Cells.{cell, Table, gone, left_on}
use Rattle.table.specs.Holds.{Placed, empty, node, head, Spare, hit, times, Holds}
use Rattle.table.specs.Promises.{Leads, Added}
use Rattle.table.specs.Steps.{with_word, Put, LedBack, Attached, Took}
use Rattle.table.proofs.Counting.{hit_same, differ}
use Rattle.table.proofs.Ways.{Way, step, path_of, parent_of, way_times, plug_times}
use Rattle.table.proofs.Focus.{Focus, seen, whole}
use Rattle.table.proofs.Unique.{Stands, held_stands, placing, lives, one_lead}
use Rattle.table.proofs.Links.{with_count, link_count, same_count, parent_there, led_count}
use Rattle.table.proofs.Changes.{loose, grow}
use Rattle.table.proofs.Relocating.{stands_grown, elsewhere}
use Rattle.table.proofs.Spares.{handed, found_room, refused}
use Rattle.table.proofs.Moves.{few_above, climb}
use Rattle.table.proofs.Sides.{return, link_above, at, way_on, forest_on, view_on}
use Rattle.table.proofs.Words.{with_link_law, one_more_law}

-- the place y is linked in, with the label a
module _ {m m' : Table} {n used free x y u : ℕ} {t : Forest} {l : Label} {o f : Placed} {k : Way} {s : Spare} (d : Side) (a : Label) where
  hung : Focus m n used free t (loose y) (step d x l o k) f s → y < used → u ≡ parent_of (step d x l o k) → u < n
      → Attached d a m m' n x u y
      → Focus m' n used free (change (to d (path_of k)) (insert a) t) empty (step d x l o k) (node y a empty f) s
  unfolding with_word
  hung h ly z lu g =
      let placed : Put m g.m₁ y (cell gone (head f) (parent_of (step d x l o k)) (left_on d x) gone 0 a) =
      subst (λ v. Put m g.m₁ y (cell gone (head f) v (left_on d x) gone 0 a)) z
      (subst (λ v. Put m g.m₁ y (cell gone v u (left_on d x) gone 0 a)) (link_above d h) g.placed) in
      let linked = subst (λ v. Put g.m₁ g.m₂ x v) (with_link_law d y (g.m₁ x)) g.linked in
      let back : LedBack g.m₂ n (head f) (parent_of (step d x l o k)) y g.m₃ =
      subst (λ v. LedBack g.m₂ n (head f) v y g.m₃) z (subst (λ v. LedBack g.m₂ n v u y g.m₃) (link_above d h) g.back) in
      let ne : parent_of (step d x l o k) ≡ gone → ⊥ = λ i. omega (arith, h.few) in
      let uy : u ≡ y → ⊥ =
      differ (λ i. way_times i (step d x l o k)) (λ i. hit i y) (λ i. omega (arith, h.once i))
      (subst (λ v. 1 ≤ way_times v (step d x l o k)) (sym z) (parent_there (step d x l o k) ne)) (omega (arith, hit_same y)) in
      let few : (g.m₃ u).children ≤ n =
      omega (arith, led_count g.back u, same_count linked (link_count d y (g.m₁ x)) u, ap (λ i. i.children) (g.placed.off u uy), ap (λ i. (m i).children) z, few_above _ f h ne) in
      let counted : Put g.m₃ m' u (with_count (suc (g.m₃ u).children) (g.m₃ u)) =
      subst (λ i. Put g.m₃ m' u (with_count i (g.m₃ u))) (one_more_law (g.m₃ u).children (omega (arith, h.few))) g.counted in
      grow a g.bytes h ly ne placed linked back (subst (λ v. Put g.m₃ m' v (with_count (suc (g.m₃ v).children) (g.m₃ v))) z counted)

-- adding on a side of the cursor's node, under its parent there
module _ {m : Table} {n used free x : ℕ} {t : Forest} {p : Place} {u : ℕ} (h : Holds m n used free x t p) (d : Side) (lu : u < n)
    (z : Leads m n used free t (up (to d p)) u) where
  abbrev there : Way
  there = way_on h d

  view : Focus m n used free t empty there (forest_on h d) (at h).s
  view = view_on h d

  is_parent : u ≡ parent_of there
  is_parent = one_lead z (subst (λ q. Leads m n used free t (up (to d q)) (parent_of there)) (at h).is_path (climb there _ view)) lu

  module _ {m₁ : Table} {y free' used' : ℕ} (took : Took m n used free m₁ y free' used') where
    pub added_none : {a : Label} → n ≤ y → Added d a m m₁ n used free x y free' used' t p
    added_none ge =
        record {
          when = found_room view took;
          none = λ _. (refused view took ge).1;
          kept = λ _ i q' k. let a = seen k in subst (λ v. Holds m₁ n used' free' i t v) a.is_path (whole a.k (refused a.focus took ge).0);
          done = λ i. absurd (omega arith);
          stands = λ i. absurd (omega arith);
          vacant = λ i. absurd (omega arith);
          moved = λ i. absurd (omega arith);
        }

    pub added : {a : Label} {m' : Table} → y < n → Attached d a m₁ m' n x u y → Added d a m m' n used free x y free' used' t p
    added {a} {m'} ly g =
        let new = handed view took ly in
        let f = hung d a new.focus new.below is_parent lu g in
        record {
          when = found_room view took;
          none = λ i. absurd (omega arith);
          kept = λ i. absurd (omega arith);
          done = λ _. subst (λ q. Holds m' n used' free' x (change (to d q) (insert a) t) q) (at h).is_path (return d (at h).k f);
          stands = λ _. subst (λ q. Holds m' n used' free' y (change (to d q) (insert a) t) (to d q)) (at h).is_path (whole there f);
          vacant =
              λ _ q k.
              omega
              (arith, lives k, ap (times y) (placing k view), plug_times y there (forest_on h d), new.focus.once y, hit_same y);
          moved =
              λ _ i q k.
              let held = whole there f in
              subst (λ q'. Holds m' n used' free' i (change (to d q') (insert a) t) (after_insert (to d q') q)) (at h).is_path
              (elsewhere held
              (subst (Stands i (after_insert (path_of there) q)) (sym (placing held f))
              (stands_grown q there y a (forest_on h d) (subst (Stands i q) (placing k view) (held_stands k)))));
        }
