-- Taking a free place. The first one of the stack is replaced by the forests that hang from it, its right siblings and then its children; where
-- the stack is empty, the first place that was never used comes. All places are live exactly when there is neither. Assumes nothing.
use mathlib.Core.Path.{◌≡◌, refl, sym, ap, ◌∙◌}
use Prim.Native.Nat.{ℕ, ◌+◌, ◌<◌, ◌≤◌}
use native.Mathlib.Omega.{arith}
use native.Mathlib.Nat.{le_refl}
use native.Mathlib.Decide.{ℕ_discrete}
use lib.Dec.{ltb}
use borrow.Author.Tests.{lt-ltb, le-ltb}
use Rattle.rules.specs.Tree.{Forest, count, size}
use Rattle.table.specs.Cells.{Table, gone}
use Rattle.table.specs.Holds.{Placed, empty, node, erase, head, last, Stored, Spare, end, more, top, Linked, Free, hit, times, spare_times}
use Rattle.table.specs.Steps.{Pushed, some, none, Popped, Took, again, fresh, full, with_word}
use Rattle.table.proofs.Counting.{hit_same, hit_other, differ, none_beyond, free_beyond, size_all, size_less}
use Rattle.table.proofs.Frames.{stored, linked, freed}
use Rattle.table.proofs.Ways.{Way, plug, parent_of, prev_of, way_times, replug, plug_times}
use Rattle.table.proofs.Focus.{Focus}
use Rattle.table.proofs.Links.{same_above, unchanged}
use Rattle.table.proofs.Changes.{loose}

-- the stack with a forest on it
abbrev pub onto : Placed → Spare → Spare
onto empty s = s
onto (node x l c r) s = more x c r s

pub onto_times : (y : ℕ) (f : Placed) (s : Spare) → spare_times y (onto f s) ≡ times y f + spare_times y s
onto_times y empty s = omega arith
onto_times y (node x l c r) s = omega arith

module _ {m m' : Table} {n used : ℕ} (few : n ≤ gone) (room : used ≤ n) where
  -- a push changes only the forest's first cell
  pub push_same : (f : Placed) {e r : ℕ} → Linked m used f → Pushed m n (head f) e m' r → (y : ℕ) → times y f ≡ 0 → m' y ≡ m y
  push_same empty h (some lt p e) y z = absurd (omega arith)
  push_same empty h (none ge same e) y z = same y
  push_same (node x l c r) h (some lt p e) y z = p.off y (λ q. omega (arith, hit_same x, ap (λ v. hit v x) q))
  push_same (node x l c r) h (none ge same e) y z = same y

  -- the stack after a push
  pub push_free : (f : Placed) (s : Spare) {r : ℕ} → ((y : ℕ) → times y f + spare_times y s ≤ 1) → Linked m used f → Free m used s
      → Pushed m n (head f) (top s) m' r → Free m' used (onto f s) × (r ≡ top (onto f s))
  unfolding with_word
  push_free empty s once h g (some lt p e) = absurd (omega arith)
  push_free empty s once h g (none ge same e) = (freed m m' (le_refl used) s (λ y _. same y) g, e)
  push_free (node x l c r) s once h g (some lt p e) =
      let xx : 0 < hit x x = omega (arith, hit_same x) in
      let ag : (y : ℕ) → 0 < times y c + times y r + spare_times y s → m' y ≡ m y =
      λ y q. p.off y (differ (λ y. times y c + times y r + spare_times y s) (λ y. hit y x) (λ y. omega (arith, once y)) q xx) in (
        (
          h.0,
          ap (λ a. a.first) p.on ∙ h.1,
          ap (λ a. a.right) p.on ∙ h.2,
          ap (λ a. a.parent) p.on,
          linked m m' (le_refl used) c (λ y q. ag y (omega arith)) h.3,
          linked m m' (le_refl used) r (λ y q. ag y (omega arith)) h.4,
          freed m m' (le_refl used) s (λ y q. ag y (omega arith)) g,
        ),
        e,
      )
  push_free (node x l c r) s once h g (none ge same e) = absurd (omega arith)

-- the first place x of the stack has left it: those below it and to its right are first then
pub record Unstacked (m m' : Table) (used : ℕ) (c r : Placed) (s : Spare) (free : ℕ) : Type 0 where
  pub freed : Free m' used (onto c (onto r s))
  pub leads : free ≡ top (onto c (onto r s))
  pub same : (y : ℕ) → times y c + times y r ≡ 0 → m' y ≡ m y

pub unstack : {m m' : Table} {n used free : ℕ} → n ≤ gone → used ≤ n → (x : ℕ) (c r : Placed) (s : Spare)
    → ((y : ℕ) → hit y x + times y c + times y r + spare_times y s ≤ 1) → Free m used (more x c r s) → Popped m n x m' free
    → Unstacked m m' used c r s free
unstack {m} {m'} {n} {used} {free} few room x c r s once g p =
    let q₁ : Pushed m n (head r) (top s) p.m₁ p.rest = rw (g.2, g.3) at p.right in
    let f₁ = push_free few room r s (λ y. omega (arith, once y)) g.5 g.6 q₁ in
    let q₂ : Pushed p.m₁ n (head c) (top (onto r s)) m' free = rw (g.1, f₁.1) at p.first in
    let kept : (y : ℕ) → times y r ≡ 0 → p.m₁ y ≡ m y = push_same few room r g.5 q₁ in
    let c₁ = linked m p.m₁ (le_refl used) c (λ y z. kept y (omega (arith, once y))) g.4 in
    let f₂ = push_free few room c (onto r s) (λ y. omega (arith, once y, onto_times y r s)) c₁ f₁.0 q₂ in
    record {
      freed = f₂.0;
      leads = f₂.1;
      same = λ y z. push_same few room c c₁ q₂ y (omega arith) ∙ kept y (omega arith);
    }

-- the place x is handed out
pub record Handed (m : Table) (n used free x : ℕ) (t : Forest) (k : Way) (f : Placed) : Type 0 where
  pub s : Spare
  pub focus : Focus m n used free t (loose x) k f s
  pub below : x < used

module _ {m : Table} {n used : ℕ} {t : Forest} {k : Way} {f : Placed} where
  pop : (s : Spare) {m' : Table} {free : ℕ} → Focus m n used (top s) t empty k f s → top s < n → Popped m n (top s) m' free
      → Handed m' n used free (top s) t k f
  pop end h lt p = absurd (omega (arith, h.few))
  pop (more x c r s) {m'} h lt p =
      let u = unstack (omega (arith, h.few)) h.room x c r s (λ y. omega (arith, h.once y)) h.freed p in
      let ag : (y : ℕ) → 0 < times y f + way_times y k → m' y ≡ m y = λ y z. u.same y (omega (arith, h.once y)) in
      record {
        s = onto c (onto r s);
        focus = record {
          few = h.few;
          room = h.room;
          stored = stored m m' (le_refl used) (parent_of k) (prev_of k) f (λ y z. ag y (omega arith)) h.stored;
          above = same_above m m' (le_refl used) (head f) (count (erase f)) (last (prev_of k) f) k (λ y z. ag y (omega arith)) h.above;
          freed = u.freed;
          leads = sym u.leads;
          once = λ y. omega (arith, h.once y, onto_times y r s, onto_times y c (onto r s));
          each = λ y z. omega (arith, h.each y z, onto_times y r s, onto_times y c (onto r s));
          is_tree = h.is_tree;
        };
        below = h.freed.0;
      }

module _ {m : Table} {n used free : ℕ} {t : Forest} {k : Way} {f : Placed} {s : Spare} (h : Focus m n used free t empty k f s) where
  tree_stored : Stored m used gone gone (plug k f)
  tree_stored = (replug m used k f h.stored h.above).0

  pub none_new : (y : ℕ) → used ≤ y → times y f + way_times y k + spare_times y s ≡ 0
  none_new y le = omega (arith, none_beyond m used gone gone (plug k f) tree_stored y le, plug_times y k f, free_beyond m used s h.freed y le)

  -- a place that was never used
  begin : {m' : Table} → ((y : ℕ) → m' y ≡ m y) → used < n → Handed m' n (used + 1) free used t k f
  begin {m'} same lt =
      let le : used ≤ used + 1 = omega arith in
      record {
        s = s;
        focus = record {
          few = h.few;
          room = omega arith;
          stored = stored m m' le (parent_of k) (prev_of k) f (λ y _. same y) h.stored;
          above = same_above m m' le (head f) (count (erase f)) (last (prev_of k) f) k (λ y _. same y) h.above;
          freed = freed m m' le s (λ y _. same y) h.freed;
          leads = h.leads;
          once = λ y. once y (ℕ_discrete y used);
          each = λ y z. each y z (ℕ_discrete y used);
          is_tree = h.is_tree;
        };
        below = omega arith;
      }
    where
      once : (y : ℕ) → Dec (y ≡ used) → times y (loose used) + times y f + way_times y k + spare_times y s ≤ 1
      once y (yes q) = rw q (omega (arith, hit_same used, none_new used (le_refl used)))
      once y (no q) = omega (arith, hit_other y used q, h.once y)

      each : (y : ℕ) → y < used + 1 → Dec (y ≡ used) → 1 ≤ times y (loose used) + times y f + way_times y k + spare_times y s
      each y z (yes q) = rw q (omega (arith, hit_same used))
      each y z (no q) = omega (arith, h.each y (omega arith))

  pub handed : {m' : Table} {x free' used' : ℕ} → Took m n used free m' x free' used' → x < n → Handed m' n used' free' x t k f
  handed {m'} {free' = free'} (again lt p j u) z =
      let b = h.leads in
      let q : Handed m' n used free' (top s) t k f = pop s (rw (← b) at h) (rw (← b) at lt) (rw (← b) at p) in
      rw (j, u, ← b) q
  handed (fresh ge lt same j e u) z = rw (j, e, u) (begin same lt)
  handed (full ge le same j e u) z = absurd (omega (arith, h.few))

  -- a place is found exactly where not every place holds a live node
  once : (y : ℕ) → y < used → times y (plug k f) + spare_times y s ≡ 1
  once y z = omega (arith, plug_times y k f, h.once y, h.each y z)

  no_spare : (s : Spare) → Free m used s → n ≤ top s → (y : ℕ) → spare_times y s ≡ 0
  no_spare end g ge y = refl
  no_spare (more x c r s) g ge y = absurd (omega (arith, h.room))

  some_spare : (s : Spare) → Free m used s → top s < n → (top s < used) × (0 < spare_times (top s) s)
  some_spare end g lt = absurd (omega (arith, h.few))
  some_spare (more x c r s) g lt = (g.0, omega (arith, hit_same x))

  size_is : n ≤ free → size t ≡ used
  size_is ge = ap size (sym h.is_tree) ∙ size_all m used gone gone (plug k f) s tree_stored once (no_spare s h.freed (rw (← h.leads) at ge))

  size_below : free < n → size t < used
  size_below lt =
      let q = some_spare s h.freed (rw (← h.leads) at lt) in
      omega (arith, ap size h.is_tree, size_less m used gone gone (plug k f) s tree_stored once (top s) q.0 q.1)

  pub found_room : {m' : Table} {x free' used' : ℕ} → Took m n used free m' x free' used' → ltb x n ≡ ltb (size t) n
  found_room (again lt p j u) = lt-ltb _ n (omega arith) ∙ sym (lt-ltb (size t) n (omega (arith, size_below lt, h.room)))
  found_room (fresh ge lt same j e u) = lt-ltb _ n (omega arith) ∙ sym (lt-ltb (size t) n (omega (arith, size_is ge)))
  found_room (full ge le same j e u) = le-ltb _ n (omega (arith, h.few)) ∙ sym (le-ltb (size t) n (omega (arith, size_is ge)))

  -- nothing changes where there is none
  pub refused : {m' : Table} {x free' used' : ℕ} → Took m n used free m' x free' used' → n ≤ x → Focus m' n used' free' t empty k f s × (x ≡ gone)
  refused (again lt p j u) z = absurd (omega arith)
  refused (fresh ge lt same j e u) z = absurd (omega arith)
  refused (full ge le same j e u) z = (rw (e, u) (unchanged h (λ y _. same y)), j)
