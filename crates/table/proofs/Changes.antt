-- A node comes, goes or gets another value at the end of a way. Each is a few stores, one cell at a time: the link to the forest, the cells of the
-- node itself, the link back from behind it, and the parent's count; all other cells of the tree and of the free places stay. Assumes nothing.
use mathlib.Core.Path.{◌≡◌, refl, sym, ap, subst, ◌∙◌}
use Prim.Native.Nat.{ℕ, suc, ◌+◌, ◌-◌, ◌<◌, ◌≤◌}
use native.Mathlib.Omega.{arith}
use native.Mathlib.Nat.{le_refl}
use lib.IntN.{ℤ}
use Rattle.rules.specs.Tree.{Label, no_label, Forest, Side, sibling, count, change, insert, remove, with_value, set_value}
use Rattle.table.specs.Cells.{Cell, cell, Table, ByteLevels, gone, left_on}
use Rattle.table.specs.Holds.{Placed, empty, node, erase, head, last, Spare, more, hit, times, spare_times}
use Rattle.table.specs.Steps.{Put, orphan, Reparented, LedBack}
use Rattle.table.proofs.Counting.{hit_same, differ}
use Rattle.table.proofs.Frames.{stored, linked_by, freed, still_linked}
use Rattle.table.proofs.Ways.{Way, step, path_of, parent_of, way_times, Above, plug_change}
use Rattle.table.proofs.Focus.{Focus}
use Rattle.table.proofs.Links.{with_link, with_count, same_above, parent_there, relink, retally, led_stored, led_above, led_same}

-- a cell with another parent word, or another value
abbrev with_parent : ℕ → Cell → Cell
with_parent v a = cell a.first a.right v a.left a.last a.children a.label

abbrev pub with_number : ℤ → Cell → Cell
with_number v a = cell a.first a.right a.parent a.left a.last a.children (with_value v a.label)

-- a place that is handed out
abbrev pub loose : ℕ → Placed
loose x = node x no_label empty empty

module _ {n used free : ℕ} {t : Forest} {s : Spare} where
  -- the loose place x becomes the first node at the end of the way
  pub grow : {m m₁ m₂ m₃ m₄ : Table} {d : Side} {c x : ℕ} {a : Label} {o f : Placed} {k : Way} (l : Label) → ByteLevels l
      → Focus m n used free t (loose x) (step d c a o k) f s → x < used → (parent_of (step d c a o k) ≡ gone → ⊥)
      → Put m m₁ x (cell gone (head f) (parent_of (step d c a o k)) (left_on d c) gone 0 l) → Put m₁ m₂ c (with_link d x (m₁ c))
      → LedBack m₂ n (head f) (parent_of (step d c a o k)) x m₃
      → Put m₃ m₄ (parent_of (step d c a o k)) (with_count (suc (m₃ (parent_of (step d c a o k))).children) (m₃ (parent_of (step d c a o k))))
      → Focus m₄ n used free (change (path_of (step d c a o k)) (insert l) t) empty (step d c a o k) (node x l empty f) s
  unfolding count insert
  grow {m} {m₁} {m₂} {m₃} {m₄} {d} {c} {x} {a} {o} {f} {k} l bytes h lt ne p₁ p₂ p₃ p₄ =
      let K = step d c a o k in
      let u = parent_of K in
      let v = left_on d c in
      let j = count (erase f) in
      let least : n ≤ gone = omega (arith, h.few) in
      let onWay : (y : ℕ) → way_times y K ≤ 1 = λ y. omega (arith, h.once y) in
      let cK : 0 < way_times c K = omega (arith, hit_same c) in
      let uK = parent_there K ne in
      let xx : 0 < hit x x = omega (arith, hit_same x) in
      let notX : (y : ℕ) → 0 < times y f + way_times y K + spare_times y s → y ≡ x → ⊥ =
      λ y q. differ (λ y. times y f + way_times y K + spare_times y s) (λ y. hit y x) (λ y. omega (arith, h.once y)) q xx in
      let notWay : (y z : ℕ) → 0 < hit y x + times y f + spare_times y s → 0 < way_times z K → y ≡ z → ⊥ =
      λ y z. differ (λ y. hit y x + times y f + spare_times y s) (λ y. way_times y K) (λ y. omega (arith, h.once y)) in
      let s₂ =
      stored m m₂ (le_refl used) u v f (λ y q. p₂.off y (notWay y c (omega arith) cK) ∙ p₁.off y (notX y (omega arith))) h.stored in
      let s₃ = led_stored v least h.room f (λ y. omega (arith, h.once y)) s₂ p₃ in
      let a₁ = same_above m m₁ (le_refl used) (head f) j (last v f) K (λ y q. p₁.off y (notX y (omega arith))) h.above in
      let a₂ = relink m₁ m₂ used (head f) j (last v f) d c a o k x onWay p₂ a₁ in
      let a₃ = led_above v least h.room x j f K refl ne (λ y. omega (arith, h.once y)) s₂ p₃ a₂ in
      let ag : (y : ℕ) → 0 < hit y x + spare_times y s → m₄ y ≡ m₁ y =
      λ y q. p₄.off y (notWay y u (omega arith) uK)
      ∙ led_same v least h.room f s₂ p₃ y (omega (arith, h.once y)) (notWay y u (omega arith) uK) ∙ p₂.off y (notWay y c (omega arith) cK) in
      record {
        few = h.few;
        room = h.room;
        stored = (
          lt,
          ag x (omega arith) ∙ p₁.on,
          tt,
          stored m₃ m₄ (le_refl used) u x f (λ y q. p₄.off y (notWay y u (omega arith) uK)) s₃,
          bytes,
        );
        above = retally m₃ m₄ used u suc (λ i. i) p₄ ne x j (last x f) K refl (λ _ _. refl) onWay a₃;
        freed = freed m m₄ (le_refl used) s (λ y q. ag y (omega arith) ∙ p₁.off y (notX y (omega arith))) h.freed;
        leads = h.leads;
        once = λ y. omega (arith, h.once y);
        each = λ y z. omega (arith, h.each y z);
        is_tree = sym (plug_change K (insert l) f (node x l empty f) refl) ∙ ap (change (path_of K) (insert l)) h.is_tree;
      }

  -- the first node q at the end of the way goes to the free places, with its children, whose parent words may have changed before
  pub prune : {m m₀ m₁ m₂ m₃ m₄ m₅ : Table} {d : Side} {c q : ℕ} {a b : Label} {o w e r : Placed} {k : Way}
      → Focus m n used free t w (step d c a o k) (node q b e r) s → (parent_of (step d c a o k) ≡ gone → ⊥) → Reparented (λ y. times y e) m m₀
      → Put m₀ m₁ c (with_link d (head r) (m₀ c)) → LedBack m₁ n (head r) (parent_of (step d c a o k)) (left_on d c) m₂
      → Put m₂ m₃ q (with_link sibling gone (m₂ q)) → Put m₃ m₄ q (with_parent free (m₃ q))
      → Put m₄ m₅ (parent_of (step d c a o k)) (with_count ((m₄ (parent_of (step d c a o k))).children - 1) (m₄ (parent_of (step d c a o k))))
      → Focus m₅ n used q (change (path_of (step d c a o k)) remove t) w (step d c a o k) r (more q e empty s)
  unfolding count remove
  prune {m} {m₀} {m₁} {m₂} {m₃} {m₄} {m₅} {d} {c} {q} {a} {b} {o} {w} {e} {r} {k} h ne p₀ p₁ p₂ p₃ p₄ p₅ =
      let K = step d c a o k in
      let u = parent_of K in
      let v = left_on d c in
      let j = count (erase r) in
      let least : n ≤ gone = omega (arith, h.few) in
      let onWay : (y : ℕ) → way_times y K ≤ 1 = λ y. omega (arith, h.once y) in
      let cK : 0 < way_times c K = omega (arith, hit_same c) in
      let uK = parent_there K ne in
      let qq : 0 < hit q q = omega (arith, hit_same q) in
      let notQ : (y : ℕ) → 0 < times y e + times y r + way_times y K + spare_times y s → y ≡ q → ⊥ =
      λ y z. differ (λ y. times y e + times y r + way_times y K + spare_times y s) (λ y. hit y q) (λ y. omega (arith, h.once y)) z qq in
      let notWay : (y z : ℕ) → 0 < hit y q + times y e + times y r + spare_times y s → 0 < way_times z K → y ≡ z → ⊥ =
      λ y z. differ (λ y. hit y q + times y e + times y r + spare_times y s) (λ y. way_times y K) (λ y. omega (arith, h.once y)) in
      let ag₀ : (y : ℕ) → 0 < times y r + way_times y K + spare_times y s → m₀ y ≡ m y = λ y z. p₀.cells y (omega (arith, h.once y)) in
      let s₁ = stored m m₁ (le_refl used) u q r (λ y z. p₁.off y (notWay y c (omega arith) cK) ∙ ag₀ y (omega arith)) h.stored.3 in
      let s₂ = led_stored q least h.room r (λ y. omega (arith, h.once y)) s₁ p₂ in
      let ag₄ : (y : ℕ) → 0 < times y e + times y r + way_times y K + spare_times y s → m₄ y ≡ m₂ y =
      λ y z. p₄.off y (notQ y z) ∙ p₃.off y (notQ y z) in
      let ag₂ : (y : ℕ) → 0 < hit y q + times y e + spare_times y s → m₂ y ≡ m₀ y =
      λ y z. led_same q least h.room r s₁ p₂ y (omega (arith, h.once y)) (notWay y u (omega arith) uK) ∙ p₁.off y (notWay y c (omega arith) cK) in
      let ag : (y : ℕ) → 0 < times y e + spare_times y s → m₅ y ≡ m₀ y =
      λ y z. p₅.off y (notWay y u (omega arith) uK) ∙ ag₄ y (omega arith) ∙ ag₂ y (omega arith) in
      let atQ : m₅ q ≡ with_parent free (with_link sibling gone (m₀ q)) =
      p₅.off q (notWay q u (omega arith) uK) ∙ p₄.on ∙ ap (with_parent free) (p₃.on ∙ ap (with_link sibling gone) (ag₂ q (omega arith))) in
      let a₀ = same_above m m₀ (le_refl used) q (suc j) (last q r) K (λ y z. ag₀ y (omega arith)) h.above in
      let a₁ = relink m₀ m₁ used q (suc j) (last q r) d c a o k (head r) onWay p₁ a₀ in
      let a₂ = led_above q least h.room (head r) (suc j) r K refl ne (λ y. omega (arith, h.once y)) s₁ p₂ a₁ in
      let a₄ = same_above m₂ m₄ (le_refl used) (head r) (suc j) (last v r) K (λ y z. ag₄ y (omega arith)) a₂ in
      let a₅ = retally m₄ m₅ used u (λ i. i - 1) (λ i. i) p₅ ne (head r) (suc j) (last v r) K refl (λ i z. omega arith) onWay a₄ in
      record {
        few = h.few;
        room = h.room;
        stored = stored m₂ m₅ (le_refl used) u v r (λ y z. p₅.off y (notWay y u (omega arith) uK) ∙ ag₄ y (omega arith)) s₂;
        above = subst (λ i. Above m₅ used (head r) i (last v r) K) (omega arith) a₅;
        freed = (
          h.stored.0,
          ap (λ z. z.first) atQ ∙ ap (λ z. z.first) (p₀.rest q) ∙ ap (λ z. z.first) h.stored.1,
          ap (λ z. z.right) atQ,
          ap (λ z. z.parent) atQ ∙ sym h.leads,
          linked_by m m₅ (le_refl used) e (λ y z. ap orphan (ag y (omega arith)) ∙ p₀.rest y) (still_linked m used q gone e h.stored.2),
          tt,
          freed m m₅ (le_refl used) s (λ y z. ag y (omega arith) ∙ ag₀ y (omega arith)) h.freed,
        );
        leads = refl;
        once = λ y. omega (arith, h.once y);
        each = λ y z. omega (arith, h.each y z);
        is_tree = sym (plug_change K remove (node q b e r) r refl) ∙ ap (change (path_of K) remove) h.is_tree;
      }

  -- the node at the end of the way gets another value
  pub revalue : {m m' : Table} {x : ℕ} {a : Label} {w c r : Placed} (k : Way) (v : ℤ) → Focus m n used free t w k (node x a c r) s
      → Put m m' x (with_number v (m x)) → Focus m' n used free (change (path_of k) (set_value v) t) w k (node x (with_value v a) c r) s
  unfolding count set_value with_value
  revalue {m} {m'} {x} {a} {w} {c} {r} k v h p =
      let b = h.stored.4 in
      let xx : 0 < hit x x = omega (arith, hit_same x) in
      let ag : (y : ℕ) → 0 < times y c + times y r + way_times y k + spare_times y s → m' y ≡ m y =
      λ y q. p.off y (differ (λ y. times y c + times y r + way_times y k + spare_times y s) (λ y. hit y x) (λ y. omega (arith, h.once y)) q xx) in
      record {
        few = h.few;
        room = h.room;
        stored = (
          h.stored.0,
          p.on ∙ ap (with_number v) h.stored.1,
          stored m m' (le_refl used) x gone c (λ y q. ag y (omega arith)) h.stored.2,
          stored m m' (le_refl used) (parent_of k) x r (λ y q. ag y (omega arith)) h.stored.3,
          record { existence = b.existence; content = b.content; structure = b.structure },
        );
        above = same_above m m' (le_refl used) x (suc (count (erase r))) (last x r) k (λ y q. ag y (omega arith)) h.above;
        freed = freed m m' (le_refl used) s (λ y q. ag y (omega arith)) h.freed;
        leads = h.leads;
        once = λ y. omega (arith, h.once y);
        each = λ y z. omega (arith, h.each y z);
        is_tree = sym (plug_change k (set_value v) (node x a c r) (node x (with_value v a) c r) refl) ∙ ap (change (path_of k) (set_value v)) h.is_tree;
      }
