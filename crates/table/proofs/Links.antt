-- One link or one count of the way changes. A link to the forest changes only the frame next to it; a count, and the link to the last of the forest,
-- change in the cell of the forest's parent, which the way reaches past the siblings to the left. Assumes nothing.
use mathlib.Core.Path.{◌≡◌, refl, sym, ap, subst, ◌∙◌}
use Prim.Native.Nat.{ℕ, suc, ◌+◌, ◌<◌, ◌≤◌}
use native.Mathlib.Omega.{arith}
use native.Mathlib.Nat.{le_refl}
use native.Mathlib.Decide.{ℕ_discrete}
use Rattle.rules.specs.Tree.{Label, Forest, Side, child, sibling, count}
use Rattle.table.specs.Cells.{Cell, cell, Table, gone}
use Rattle.table.specs.Holds.{Placed, empty, node, erase, head, last, Stored, Spare, hit, times, spare_times}
use Rattle.table.specs.Steps.{with_word, Put, LedBack, next, final}
use Rattle.table.proofs.Counting.{hit_same, differ}
use Rattle.table.proofs.Frames.{stored, freed}
use Rattle.table.proofs.Ways.{Way, home, step, parent_of, prev_of, way_times, Above}
use Rattle.table.proofs.Focus.{Focus}

-- a cell with another link to a side, or another count
abbrev pub with_link : Side → ℕ → Cell → Cell
with_link child v a = cell v a.right a.parent a.left a.last a.children a.label
with_link sibling v a = cell a.first v a.parent a.left a.last a.children a.label

abbrev pub with_count : ℕ → Cell → Cell
with_count v a = cell a.first a.right a.parent a.left a.last v a.label

-- a cell with g done to its count and e to its link to the last child
abbrev with_tally : (ℕ → ℕ) → (ℕ → ℕ) → Cell → Cell
with_tally g e a = cell a.first a.right a.parent a.left (e a.last) (g a.children) a.label

-- a link leaves counts alone
pub link_count : (d : Side) (v : ℕ) (a : Cell) → (with_link d v a).children ≡ a.children
link_count child v a = refl
link_count sibling v a = refl

-- a part of a cell that a change of it leaves alone stays in every cell
pub same_part : {A : Type 0} {m m' : Table} {x : ℕ} {a : Cell} (g : Cell → A) → Put m m' x a → g a ≡ g (m x) → (y : ℕ) → g (m' y) ≡ g (m y)
same_part {m = m} {m'} {x} g p e y = go (ℕ_discrete y x)
  where
    go : Dec (y ≡ x) → g (m' y) ≡ g (m y)
    go (yes q) = rw q (ap g p.on ∙ e)
    go (no q) = ap g (p.off y q)

pub same_count : {m m' : Table} {x : ℕ} {a : Cell} → Put m m' x a → a.children ≡ (m x).children → (y : ℕ) → (m' y).children ≡ (m y).children
same_count = same_part (λ c. c.children)

module _ (m m' : Table) {b b' : ℕ} (le : b ≤ b') where
  -- a table that agrees on the places of a way stores it too
  pub same_above : (h j z : ℕ) (k : Way) → ((y : ℕ) → 0 < way_times y k → m' y ≡ m y) → Above m b h j z k → Above m' b' h j z k
  same_above h j z home ag w = w
  same_above h j z (step child x l o k) ag w = (
    omega arith,
    ag x (omega (arith, hit_same x)) ∙ w.1,
    stored m m' le (parent_of k) x o (λ y q. ag y (omega arith)) w.2,
    same_above x (suc (count (erase o))) (last x o) k (λ y q. ag y (omega arith)) w.3,
    w.4,
  )
  same_above h j z (step sibling x l o k) ag w = (
    omega arith,
    ag x (omega (arith, hit_same x)) ∙ w.1,
    stored m m' le x gone o (λ y q. ag y (omega arith)) w.2,
    same_above x (suc j) z k (λ y q. ag y (omega arith)) w.3,
    w.4,
  )

-- the parent stands on the way
pub parent_there : (k : Way) → (parent_of k ≡ gone → ⊥) → 0 < way_times (parent_of k) k
parent_there home ne = absurd (ne refl)
parent_there (step child x l o k) ne = omega (arith, hit_same x)
parent_there (step sibling x l o k) ne = omega (arith, parent_there k ne)

module _ (m m' : Table) (b h j z : ℕ) where
  -- the link to the forest leads to h'
  pub relink : (d : Side) (x : ℕ) (l : Label) (o : Placed) (k : Way) (h' : ℕ) → ((y : ℕ) → way_times y (step d x l o k) ≤ 1)
      → Put m m' x (with_link d h' (m x)) → Above m b h j z (step d x l o k) → Above m' b h' j z (step d x l o k)
  relink child x l o k h' once p w =
      let ag : (y : ℕ) → 0 < times y o + way_times y k → m' y ≡ m y =
      λ y q. p.off y (differ (λ y. times y o + way_times y k) (λ y. hit y x) (λ y. omega (arith, once y)) q (omega (arith, hit_same x))) in (
        w.0,
        p.on ∙ ap (with_link child h') w.1,
        stored m m' (le_refl b) (parent_of k) x o (λ y q. ag y (omega arith)) w.2,
        same_above m m' (le_refl b) x (suc (count (erase o))) (last x o) k (λ y q. ag y (omega arith)) w.3,
        w.4,
      )
  relink sibling x l o k h' once p w =
      let ag : (y : ℕ) → 0 < times y o + way_times y k → m' y ≡ m y =
      λ y q. p.off y (differ (λ y. times y o + way_times y k) (λ y. hit y x) (λ y. omega (arith, once y)) q (omega (arith, hit_same x))) in (
        w.0,
        p.on ∙ ap (with_link sibling h') w.1,
        stored m m' (le_refl b) x gone o (λ y q. ag y (omega arith)) w.2,
        same_above m m' (le_refl b) x (suc j) z k (λ y q. ag y (omega arith)) w.3,
        w.4,
      )

-- the parent's count changes from j to g j, and its link to the last child from z to f z
module _ (m m' : Table) (b u : ℕ) (g f : ℕ → ℕ) (p : Put m m' u (with_tally g f (m u))) (ne : u ≡ gone → ⊥) where
  pub retally : (h j z : ℕ) (k : Way) → parent_of k ≡ u → ((i : ℕ) → j ≤ i → g (suc i) ≡ suc (g i)) → ((y : ℕ) → way_times y k ≤ 1)
      → Above m b h j z k → Above m' b h (g j) (f z) k
  retally h j z home e gs once w = absurd (ne (sym e))
  retally h j z (step child x l o k) e gs once w =
      let ag : (y : ℕ) → 0 < times y o + way_times y k → m' y ≡ m y =
      λ y q. p.off y (λ z. differ (λ y. times y o + way_times y k) (λ y. hit y x) (λ y. omega (arith, once y)) q (omega (arith, hit_same x)) (z ∙ sym e)) in (
        w.0,
        subst (λ i. m' i ≡ with_tally g f (m i)) (sym e) p.on ∙ ap (with_tally g f) w.1,
        stored m m' (le_refl b) (parent_of k) x o (λ y q. ag y (omega arith)) w.2,
        same_above m m' (le_refl b) x (suc (count (erase o))) (last x o) k (λ y q. ag y (omega arith)) w.3,
        w.4,
      )
  retally h j z (step sibling x l o k) e gs once w =
      let there = parent_there k (λ i. ne (sym e ∙ i)) in
      let ag : (y : ℕ) → 0 < hit y x + times y o → m' y ≡ m y =
      λ y q. p.off y (λ z. differ (λ y. hit y x + times y o) (λ y. way_times y k) (λ y. omega (arith, once y)) q there (z ∙ sym e)) in (
        w.0,
        ag x (omega (arith, hit_same x)) ∙ w.1,
        stored m m' (le_refl b) x gone o (λ y q. ag y (omega arith)) w.2,
        subst (λ i. Above m' b x i (f z) k) (gs j (le_refl j)) (retally x (suc j) z k e (λ i q. gs i (omega arith)) (λ y. omega (arith, once y)) w.3),
        w.4,
      )

-- what stands behind v' leads back to it: the forest stood right of v, and stands right of v' then
module _ {m m' : Table} {n b u v' : ℕ} (v : ℕ) (few : n ≤ gone) (room : b ≤ n) where
  pub led_stored : (f : Placed) → ((y : ℕ) → times y f ≤ 1) → Stored m b u v f → LedBack m n (head f) u v' m' → Stored m' b u v' f
  unfolding with_word
  led_stored empty once h q = tt
  led_stored (node x l c r) once h (next lt p) =
      let ag : (y : ℕ) → 0 < times y c + times y r → m' y ≡ m y =
      λ y q. p.off y (differ (λ y. times y c + times y r) (λ y. hit y x) (λ y. omega (arith, once y)) q (omega (arith, hit_same x))) in (
        h.0,
        p.on ∙ ap (with_word 8 v') h.1,
        stored m m' (le_refl b) x gone c (λ y q. ag y (omega arith)) h.2,
        stored m m' (le_refl b) u x r (λ y q. ag y (omega arith)) h.3,
        h.4,
      )
  led_stored (node x l c r) once h (final ge p) = absurd (omega arith)

  -- so does the way above it tell
  pub led_above : (h j : ℕ) (f : Placed) (k : Way) → parent_of k ≡ u → (u ≡ gone → ⊥) → ((y : ℕ) → times y f + way_times y k ≤ 1) → Stored m b u v f
      → LedBack m n (head f) u v' m' → Above m b h j (last v f) k → Above m' b h j (last v' f) k
  unfolding with_word
  led_above h j empty k e ne once s (next lt p) w = absurd (omega arith)
  led_above h j empty k e ne once s (final ge p) w =
      retally m m' b u (λ i. i) (λ _. v') p ne h j v k e (λ _ _. refl) (λ y. omega (arith, once y)) w
  led_above h j (node x l c r) k e ne once s (next lt p) w =
      same_above m m' (le_refl b) h j (last x r) k
      (λ y q. p.off y (differ (λ y. way_times y k) (λ y. hit y x) (λ y. omega (arith, once y)) q (omega (arith, hit_same x)))) w
  led_above h j (node x l c r) k e ne once s (final ge p) w = absurd (omega arith)

  -- elsewhere nothing changes
  pub led_same : (f : Placed) → Stored m b u v f → LedBack m n (head f) u v' m' → (y : ℕ) → times y f ≡ 0 → (y ≡ u → ⊥) → m' y ≡ m y
  led_same empty s (next lt p) y z ne = absurd (omega arith)
  led_same empty s (final ge p) y z ne = p.off y ne
  led_same (node x l c r) s (next lt p) y z ne = p.off y (λ q. omega (arith, hit_same x, ap (λ i. hit i x) q))
  led_same (node x l c r) s (final ge p) y z ne = absurd (omega arith)

  -- where the parent leads to the last, it does then
  pub led_last : (f : Placed) → Stored m b u v f → LedBack m n (head f) u v' m' → (m u).last ≡ last v f → (m' u).last ≡ last v' f
  unfolding with_word
  led_last empty s (next lt p) e = absurd (omega arith)
  led_last empty s (final ge p) e = ap (λ c. c.last) p.on
  led_last (node x l c r) s (next lt p) e = same_part (λ c. c.last) p refl u ∙ e
  led_last (node x l c r) s (final ge p) e = absurd (omega arith)

-- no count changes, and no link to a first child
module _ {m m' : Table} {n x u v : ℕ} where
  pub led_count : LedBack m n x u v m' → (y : ℕ) → (m' y).children ≡ (m y).children
  unfolding with_word
  led_count (next lt p) = same_count p refl
  led_count (final ge p) = same_count p refl

  pub led_first : LedBack m n x u v m' → (y : ℕ) → (m' y).first ≡ (m y).first
  unfolding with_word
  led_first (next lt p) = same_part (λ c. c.first) p refl
  led_first (final ge p) = same_part (λ c. c.first) p refl

-- a table that agrees on all places holds what was held
pub unchanged : {m m' : Table} {n used free : ℕ} {t : Forest} {w : Placed} {k : Way} {f : Placed} {s : Spare} → Focus m n used free t w k f s
    → ((y : ℕ) → 0 < times y f + way_times y k + spare_times y s → m' y ≡ m y) → Focus m' n used free t w k f s
unchanged {m} {m'} {used = used} {k = k} {f} {s} h ag =
    record {
      few = h.few;
      room = h.room;
      stored = stored m m' (le_refl used) (parent_of k) (prev_of k) f (λ y q. ag y (omega arith)) h.stored;
      above = same_above m m' (le_refl used) (head f) (count (erase f)) (last (prev_of k) f) k (λ y q. ag y (omega arith)) h.above;
      freed = freed m m' (le_refl used) s (λ y q. ag y (omega arith)) h.freed;
      leads = h.leads;
      once = h.once;
      each = h.each;
      is_tree = h.is_tree;
    }
