-- What callers need of a tree that stands in a table: at most one does; the tree of a run does; and a table that was found to hold one, with its other
-- places made free, can be run on. Assumes nothing.
use mathlib.Core.Path.{◌≡◌, refl, sym, ap, ◌∙◌}
use mathlib.Core.Bool.{Bool, true}
use mathlib.Core.List.{List}
use Prim.Native.Nat.{ℕ, ◌<◌, ◌≤◌}
use native.Mathlib.Omega.{arith}
use native.Mathlib.Nat.{le_refl}
use native.Mathlib.Decide.{dec_lt}
use Rattle.rules.specs.Tree.{Forest, Place, root, size, TreeRules}
use Rattle.table.specs.Cells.{Table, gone}
use Rattle.table.specs.Holds.{erase, times, Holds}
use Rattle.lent.specs.Stands.{Stands, Decided, Marked, Reclaimed}
use Rattle.table.proofs.Counting.{none_beyond, sum_stored, sum_bound}
use Rattle.table.proofs.Frames.{stored}
use Rattle.table.proofs.Unique.{same}

-- a table stores at most one tree
pub stands_one : {m : Table} {n : ℕ} {t t' : Forest} → n ≤ gone → Stands m n t → Stands m n t' → t ≡ t'
stands_one {m} {n} le h h' =
    sym h.is_tree
    ∙ ap erase (same m n n gone gone gone gone h.placed h'.placed le le h.stored h'.stored (h.is_root ∙ sym h'.is_root))
    ∙ h'.is_tree

-- the tree that a run left is the one that stands
pub held_one : {m : Table} {n k used free at : ℕ} {t t' : Forest} {p : Place} → n ≤ gone → Holds m k used free at t p → Stands m n t' → t ≡ t'
held_one {m} {n} {used = used} le h h' =
    sym h.is_tree
    ∙ ap erase
    (same m used n gone gone gone gone h.placed h'.placed (omega (arith, h.room, h.few)) le h.stored h'.stored (h.is_root ∙ sym h'.is_root))
    ∙ h'.is_tree

-- a tree stands in every table with the same first n cells
pub stands_same : {m m' : Table} {n : ℕ} {t : Forest} → ((x : ℕ) → x < n → m' x ≡ m x) → Stands m n t → Stands m' n t
stands_same {m} {m'} {n} e h =
    record {
      placed = h.placed;
      is_tree = h.is_tree;
      is_root = h.is_root;
      alone = h.alone;
      stored = stored m m' (le_refl n) gone gone h.placed (λ y q. e y (below y q (dec_lt y n))) h.stored;
      few = h.few;
      rules = h.rules;
    }
  where
    below : (y : ℕ) → 0 < times y h.placed → Dec (y < n) → y < n
    below y q (yes lt) = lt
    below y q (no ge) = absurd (omega (arith, none_beyond m n gone gone h.placed h.stored y (omega arith)))

-- and what is known of the one holds of the other
pub decided_same : {m m' : Table} {n : ℕ} {r : Bool} → ((x : ℕ) → x < n → m' x ≡ m x) → Decided m n r → Decided m' n r
decided_same e d =
    record {
      sound = λ a. let s = d.sound a in (s.0, stands_same e s.1);
      exact = λ t h. d.exact t (stands_same (λ x q. sym (e x q)) h);
    }

pub marked_same : {m m' : Table} {n : ℕ} (marks : List ℕ) → ((x : ℕ) → x < n → m' x ≡ m x) → Marked m n marks → Marked m' n marks
unfolding Marked stands_same
marked_same marks e h t s x lt few = h t (stands_same (λ y q. sym (e y q)) s) x lt few

-- what a run leaves stands
pub holds_stands : {m : Table} {n used free at : ℕ} {t : Forest} {p : Place} → Holds m n used free at t p → TreeRules t → Stands m n t
holds_stands {m} {n} {used} h rules =
    record {
      placed = h.placed;
      is_tree = h.is_tree;
      is_root = h.is_root;
      alone = h.alone;
      stored = stored m m h.room gone gone h.placed (λ y q. refl) h.stored;
      few =
          omega (
            arith,
            h.few,
            h.room,
            sum_stored m used gone gone h.placed h.stored,
            sum_bound used (λ x. times x h.placed) (λ x. one x (dec_lt x used)),
            ap size h.is_tree,
          );
      rules = rules;
    }
  where
    one : (x : ℕ) → Dec (x < used) → times x h.placed ≤ 1
    one x (yes lt) = omega (arith, h.each x lt)
    one x (no ge) = omega (arith, none_beyond m used gone gone h.placed h.stored x (omega arith))

-- the table that a run can go on with
pub record Resumed (m m' : Table) (n free : ℕ) : Type 0 where
  pub t : Forest
  pub stands : Stands m n t
  pub holds : Holds m' n n free 0 t root

pub resumed : {m m' : Table} {n free : ℕ} (marks : List ℕ) → Decided m n true → Marked m n marks → Reclaimed m m' n marks free → Resumed m m' n free
unfolding Reclaimed
resumed marks d h r = let s = d.sound refl in record { t = s.0; stands = s.1; holds = r h s.0 s.1 }
