-- A move of the cursor does what the rules say: the slices stay, so they show the memory moved to wherever the table holds the tree with the cursor
-- at the new place, and a link leads to no place of the table just where the tree has no node there. Assumes nothing.
use mathlib.Core.Path.{◌≡◌, refl, sym, ap, ap₂, ◌∙◌}
use mathlib.Core.Bool.{true, false}
use mathlib.Core.Option.{Option, none, some}
use mathlib.Core.List.{List}
use Prim.Native.Nat.{ℕ, ◌%◌, ◌<◌, ◌≤◌}
use native.Mathlib.Omega.{arith}
use lib.IntN.{ℤ}
use Rattle.rules.specs.Level.{Level, public, join, not_above}
use Rattle.rules.specs.Tree.{no_label, Forest, nil, tree, Place, root, to, up, child, sibling, sub, exists, count}
use Rattle.rules.specs.Run as Run
use Rattle.rules.specs.Run.{Result, stop, flow, absent, need, move_to, go_joining, go_to}
use Rattle.rules.proofs.Tests.{Test, holds, fails, test}
use Rattle.table.specs.Cells.{Table, cell, cells, gone}
use Rattle.table.specs.Holds.{node, empty, end, hit, Holds}
use Rattle.table.specs.Promises.{Leads, outside, missing, found}
use Rattle.table.proofs.Moves.{stands}
use Rattle.actions.specs.declared.memory.Memory.{Memory}
use Rattle.actions.specs.declared.control.Running.{Running}
use Rattle.actions.specs.declared.control.Stepped.{Stepped}
use Rattle.actions.specs.Shows.{Slices, slices, Shows, level_in}
use Rattle.actions.specs.Stands.{stepped}
use Rattle.actions.specs.Acts.{Does, Acts, with_cursor, moved_to, move_of, Target}
use Rattle.actions.proofs.Doing.{flow_number, absent_number, does_next, passes, refuses, does_as, kept_refl, goes, stays, stops}

-- in a memory that is shown, the action is a move to the node at a place of the table, with a level
pub record Moves (places : ℕ) (x : Slices) (m : Memory) (pc place level : ℕ) (μ : Run.Memory) (action : Result Run.Memory) : Type 0 where
  pub p : Place
  pub l : Level
  pub tree : Holds (cells x.words) places m.used m.free place μ.tree p
  pub same : l ≡ level
  pub is : action ≡ move_to pc μ p l

module _ {places vars : ℕ} {x : Slices} (r : Running) {pc place level : ℕ} where
  -- where the context is not above the cursor's level, and where it is
  there : {μ : Run.Memory} {z : Result Run.Memory} → not_above pc (level_in r.memory) ≡ true → level < 256 → Shows places vars x r.memory μ
      → Moves places x r.memory pc place level μ z → Does (Shows places vars x (with_cursor r.memory place level)) 0 μ z
  unfolding move_to Run.with_cursor
  there e small s a =
      let low : level ≡ level % 256 = omega arith in
      does_as a.is
      (passes flow (ap (not_above pc) s.level ∙ e)
      (does_next _ refl (record { tree = a.tree; level = a.same ∙ low; variables = s.variables; lines = s.lines })))

  held : {μ : Run.Memory} {z : Result Run.Memory} → not_above pc (level_in r.memory) ≡ false → Shows places vars x r.memory μ
      → Moves places x r.memory pc place level μ z → Does (Shows places vars x r.memory) 21 μ z
  unfolding move_to
  held e s a = does_as a.is (refuses flow _ (ap (not_above pc) s.level ∙ e) flow_number s)

  -- the cursor goes there, where the context is not above its level
  pub acts_move : {a : Stepped} {action : Run.Memory → Result Run.Memory} → r.memory.cursor < places → place < places
      → (a ≡ moved_to pc r place level) × (level < 256)
      → ((μ : Run.Memory) → Shows places vars x r.memory μ → Moves places x r.memory pc place level μ (action μ)) → Acts places vars x x r a action
  unfolding moved_to
  acts_move {a} {action} inside lt (i, small) f = by (test (not_above pc (level_in r.memory)))
    where
      by : Test (not_above pc (level_in r.memory)) → Acts places vars x x r a action
      by (holds e) = goes (with_cursor r.memory place level) (i ∙ rw e) lt (λ h. h) kept_refl refl refl refl (λ μ s. there e small s (f μ s))
      by (fails e) = stays inside (i ∙ rw e) (λ z. omega arith) (λ μ s. held e s (f μ s))

module _ (pc : ℕ) (μ : Run.Memory) (k : Place → Level) {o : Option Place} where
  -- to no node
  away : o ≡ none → go_joining pc μ k o ≡ stop absent
  unfolding go_joining
  away i = rw i

  astray : {q : Place} → o ≡ some q → exists (sub q μ.tree) ≡ false → go_joining pc μ k o ≡ stop absent
  unfolding go_joining need
  astray i e = rw (i, e)

  -- to a node
  arrives : {q : Place} → o ≡ some q → exists (sub q μ.tree) ≡ true → go_joining pc μ k o ≡ move_to pc μ q (join μ.level (k q))
  unfolding go_joining need
  arrives i e = rw (i, e)

module _ {w l b : List ℕ} {v : List ℤ} {places vars : ℕ} (r : Running) {a : Stepped} (pc : ℕ) {place : ℕ} {o : Forest → Place → Option Place}
    (inside : r.memory.cursor < places) (target : Target w places r.memory place o) (k : Run.Memory → Place → Level) where
  -- a link that leads to no place
  pub acts_absent : places ≤ place → a ≡ stepped 22 r
      → Acts places vars (slices w l v b) (slices w l v b) r a (λ μ. go_joining pc μ (k μ) (o μ.tree μ.cursor))
  acts_absent ge is = stops inside absent is absent_number (λ μ s. by μ (target.leads μ.tree μ.cursor s.tree))
    where
      by : (μ : Run.Memory) → Leads (cells w) places r.memory.used r.memory.free μ.tree (o μ.tree μ.cursor) place
          → go_joining pc μ (k μ) (o μ.tree μ.cursor) ≡ stop absent
      by μ (outside z i) = away pc μ (k μ) i
      by μ (missing q z i e) = astray pc μ (k μ) i e
      by μ (found q z i h) = absurd (omega arith)

  -- a link that leads to a place, where the level e is joined
  pub acts_go : {e level : ℕ} → place < places
      → ((μ : Run.Memory) (q : Place) → Shows places vars (slices w l v b) r.memory μ
      → Holds (cells w) places r.memory.used r.memory.free place μ.tree q → k μ q ≡ e)
      → level ≡ join (level_in r.memory) e → (a ≡ moved_to pc r place level) × (level < 256)
      → Acts places vars (slices w l v b) (slices w l v b) r a (λ μ. go_joining pc μ (k μ) (o μ.tree μ.cursor))
  acts_go {e} {level} lt ex j is = acts_move r inside lt is (λ μ s. by μ s (target.leads μ.tree μ.cursor s.tree))
    where
      by : (μ : Run.Memory) → Shows places vars (slices w l v b) r.memory μ
          → Leads (cells w) places r.memory.used r.memory.free μ.tree (o μ.tree μ.cursor) place
          → Moves places (slices w l v b) r.memory pc place level μ (go_joining pc μ (k μ) (o μ.tree μ.cursor))
      by μ s (outside z i) = absurd (omega arith)
      by μ s (missing q z i f) = absurd (omega arith)
      by μ s (found q z i h) =
          record {
            p = q;
            l = join μ.level (k μ q);
            tree = h;
            same = ap₂ join s.level (ex μ q s h) ∙ sym j;
            is = arrives pc μ (k μ) i (stands h);
          }

-- a table of one place holds a tree of one node
single : Holds (λ y. cell gone gone gone gone gone 0 no_label) 1 1 gone 0 (tree no_label nil nil) root
unfolding count hit no_label public
single =
    record {
      few = omega arith;
      room = omega arith;
      placed = node 0 no_label empty empty;
      spare = end;
      is_tree = refl;
      is_root = refl;
      alone = refl;
      here = refl;
      live = omega arith;
      stored = (omega arith, refl, tt, tt, record { existence = omega arith; content = omega arith; structure = omega arith });
      freed = tt;
      leads = refl;
      each = λ y h. (let e : y ≡ 0 = omega arith in rw e);
    }

-- what is the root's place in every table is the one of that table, 0
module _ {r : ℕ} (home : (t : Table) (n used free y : ℕ) (f : Forest) (p : Place) → Holds t n used free y f p → Holds t n used free r f root) where
  pub at_zero : r < 1
  at_zero = (home _ _ _ _ _ _ _ single).live

-- a command's move by its number
module _ {places vars : ℕ} {x x' : Slices} {r : Running} {a : Stepped} (pc : ℕ) {k : ℕ} where
  pub is_root : k ≡ 7 → Acts places vars x x' r a (λ μ. move_to pc μ root pc) → Acts places vars x x' r a (λ μ. move_of k pc μ)
  unfolding move_of
  is_root e h = rw e h

  pub is_up : k ≡ 8 → Acts places vars x x' r a (λ μ. go_to pc μ (up μ.cursor)) → Acts places vars x x' r a (λ μ. move_of k pc μ)
  unfolding move_of
  is_up e h = rw e h

  pub is_child : k ≡ 9 → Acts places vars x x' r a (λ μ. go_to pc μ (some (to child μ.cursor))) → Acts places vars x x' r a (λ μ. move_of k pc μ)
  unfolding move_of
  is_child e h = rw e h

  pub is_sibling : k ≡ 10 → Acts places vars x x' r a (λ μ. go_to pc μ (some (to sibling μ.cursor))) → Acts places vars x x' r a (λ μ. move_of k pc μ)
  unfolding move_of
  is_sibling e h = rw e h
