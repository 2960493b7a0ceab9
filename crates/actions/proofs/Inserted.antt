-- Insertions, removals and writes as the rules give them: an action that changes the words and what leads to the free places shows the memory with the
-- tree changed, once the tests before it, read from the table, are those of the rules. Assumes nothing.
use mathlib.Core.Path.{◌≡◌, refl, sym, ap, ap₂, subst, ◌∙◌}
use mathlib.Core.Bool.{Bool, true, false, ◌&&◌}
use mathlib.Core.Option.{Option, some}
use mathlib.Core.List.{List}
use Prim.Native.Nat.{ℕ, zero, suc, ◌<◌, ◌≤◌}
use native.Mathlib.Omega.{arith}
use lib.IntN.{ℤ}
use lib.Dec.{ltb}
use borrow.Author.Tests.{lt-ltb, le-ltb, ltb-true, ltb-false}
use Rattle.rules.specs.Limits.{max_nodes}
use Rattle.rules.specs.Number.{Fits, bits, signed}
use Rattle.std.specs.Prelude.{None, Some, IfSome}
use Rattle.rules.specs.Level.{join, not_above}
use Rattle.rules.specs.Tree.{Forest, Place, Side, child, sibling, to, up, sub, label}
use Rattle.rules.specs.Script.{Expression}
use Rattle.rules.specs.Run as Run
use Rattle.rules.specs.Run.{Result, flow, absent, tableFull, stop_number, need, with_tree, current, position, flow_of, may_touch, new_label, insert_at, remove_at}
use Rattle.rules.proofs.Tests.{Test, holds, fails, test, clash}
use Rattle.rules.proofs.Number.{signed_bits}
use Rattle.table.specs.Cells.{cells, label_new}
use Rattle.table.specs.Holds.{Holds}
use Rattle.table.specs.Since.{number, Forgets}
use Rattle.table.specs.Promises.{Whenever, Leads, found, Behind, Added, Removed, Valued as Revalued}
use Rattle.table.specs.declared.Taken.{Taken}
use Rattle.table.specs.declared.shape.NewNode.{NewNode}
use Rattle.table.proofs.Moves.{stands}
use Rattle.table.proofs.Remembering.{added_relocates, refused_relocates, valued_relocates, removed_relocates}
use Rattle.actions.specs.declared.memory.Memory.{Memory}
use Rattle.actions.specs.declared.evaluate.Valued.{Valued}
use Rattle.actions.specs.declared.control.Running.{Running}
use Rattle.actions.specs.declared.control.Stepped.{Stepped}
use Rattle.actions.specs.Shows.{slices, Shows, level_in}
use Rattle.actions.specs.Stands.{stepped, with_memory, went}
use Rattle.actions.specs.Marks.{count_at}
use Rattle.actions.specs.Acts.{Does, Kept, shifted, closed_up, Same, Becomes, Acting, Acts, Evaluates, with_space, MayTouch, MayAdd, new_node, Placed}
use Rattle.actions.proofs.Doing.{flow_number, absent_number, table_full_number, overflow_number, does_next, does_stop, passes, refuses, given_passes, given_stops, does_as, halts, moves_on, stays_by, stays}
use Rattle.actions.proofs.Evaluation.{flow_shown}
use Rattle.actions.proofs.Touched.{there, nowhere, Under, under, no_parent_law, position_is}

module _ {places vars : ℕ} {w w' l b : List ℕ} {v : List ℤ} {m : Memory} {free used : ℕ} where
  -- the words hold the same tree in another way, or another tree
  pub with_space_law : {μ : Run.Memory} → Shows places vars (slices w l v b) m μ → Holds (cells w') places used free m.cursor μ.tree μ.cursor
      → Shows places vars (slices w' l v b) (with_space m free used) μ
  with_space_law s h = record { tree = h; level = s.level; variables = s.variables; lines = s.lines }

  pub with_tree_law : {μ : Run.Memory} {t : Forest} → Shows places vars (slices w l v b) m μ → Holds (cells w') places used free m.cursor t μ.cursor
      → Shows places vars (slices w' l v b) (with_space m free used) (with_tree μ t)
  unfolding with_tree
  with_tree_law s h = record { tree = h; level = s.level; variables = s.variables; lines = s.lines }

-- a number that is not zero
open_some : {n : ℕ} → (n ≡ 0 → ⊥) → 0 < n
open_some {n = zero} ne = absurd (ne refl)
open_some {n = suc n} ne = omega arith

-- an action that changes words and what leads to the free places touches nothing else
words_only : {places vars n : ℕ} {w w' l b : List ℕ} {v : List ℤ} → Behind places (cells w) (cells w')
    → Kept places vars (slices w l v b) (slices w' l v b) n n
words_only h = record { grown = omega arith; cells = h; values = λ j h. refl; board = refl }

-- where a move from the cursor leads
abbrev LeadsTo : List ℕ → ℕ → Memory → (Place → Option Place) → ℕ → Type 0
LeadsTo w places m o r =
    (used free : ℕ) (t : Forest) (p : Place) → Holds (cells w) places used free m.cursor t p → Leads (cells w) places used free t (o p) r

-- the place on a side of the cursor, and that of the parent which a node there has
abbrev pub Beside : List ℕ → ℕ → Memory → Side → ℕ → Type 0
Beside w places m side = LeadsTo w places m (λ p. some (to side p))

abbrev pub Above : List ℕ → ℕ → Memory → Side → ℕ → Type 0
Above w places m side = LeadsTo w places m (λ p. up (to side p))

-- the parent is the cursor's node, or that node's own
module _ (w : List ℕ) {places : ℕ} (m : Memory) where
  pub above_first : m.cursor < places → Above w places m child m.cursor
  unfolding up
  above_first lt used free t p h = found p lt refl h

  pub above_right : {r : ℕ} → LeadsTo w places m up r → Above w places m sibling r
  unfolding up
  above_right leads = leads

-- removals
module _ (r : Running) (pc : ℕ) (side : Side) {places vars old : ℕ} {w l b : List ℕ} {v : List ℤ} (inside : r.memory.cursor < places)
    (beside : Beside w places r.memory side old) where
  pub remove_absent : {a : Stepped} {ks : List ℕ} → places ≤ old → a ≡ stepped 22 r
      → Acting (closed_up side) (Becomes ks ks) places vars (slices w l v b) (slices w l v b) r a (λ μ. remove_at pc μ (to side μ.cursor))
  unfolding remove_at
  remove_absent ge is = stays_by (λ k k' q. q.1 ∙ sym q.0) inside is (λ z. omega arith) (λ μ s. refuses absent _ (nowhere (beside _ _ _ _ s.tree) ge) absent_number s)

  module _ {c : ℕ} {ok : Bool} (at : c ≡ join pc (level_in r.memory)) (lt : old < places) (may : MayTouch w places r.memory c old ok) where
    touched : {μ : Run.Memory} → Shows places vars (slices w l v b) r.memory μ → may_touch pc μ (sub (to side μ.cursor) μ.tree) ≡ ok
    touched {μ} s = sym (may.touch pc μ _ (position_is pc at s) (beside _ _ _ _ s.tree))

    pub remove_refused : {a : Stepped} {ks : List ℕ} → ok ≡ false → a ≡ stepped 21 r
        → Acting (closed_up side) (Becomes ks ks) places vars (slices w l v b) (slices w l v b) r a (λ μ. remove_at pc μ (to side μ.cursor))
    unfolding remove_at
    remove_refused e is =
        stays_by (λ k k' q. q.1 ∙ sym q.0) inside is (λ z. omega arith) (λ μ s. passes absent (stands (there (beside _ _ _ _ s.tree) lt)) (refuses flow _ (touched s ∙ e) flow_number s))

    pub removed : {w' : List ℕ} {free : ℕ} {a : Stepped} {ks ks' : List ℕ} {kept : Bool} → ok ≡ true → kept ≡ ltb 0 (number ks count_at)
        → ((used : ℕ) (t : Forest) (p : Place) → Holds (cells w) places used r.memory.free r.memory.cursor t p
        → Leads (cells w) places used r.memory.free t (some (to side p)) old
        → Removed side (cells w) (cells w') places used r.memory.free free r.memory.cursor t p
        × Forgets kept side (cells w) places used r.memory.free t p ks ks')
        → Behind places (cells w) (cells w') → places ≤ max_nodes → a ≡ went r (with_space r.memory free r.memory.used)
        → Acting (closed_up side) (Becomes ks ks') places vars (slices w l v b) (slices w' l v b) r a (λ μ. remove_at pc μ (to side μ.cursor))
    unfolding remove_at with_tree
    removed {ks = ks} {ks'} {kept} e any gone behind few is =
        moves_on _ is inside (λ h. h) (words_only behind)
        (λ k k' q μ s.
        let d = gone _ _ _ s.tree (beside _ _ _ _ s.tree) in
        passes absent (stands (there (beside _ _ _ _ s.tree) lt))
        (passes flow (touched s ∙ e)
        (does_next _ refl
        (record {
          shows = with_tree_law s d.0.done;
          moves = λ some-open.
              rw (q.0, q.1)
              (removed_relocates d.0
              (subst (λ z. Forgets z side (cells w) places r.memory.used r.memory.free μ.tree μ.cursor ks ks') (any ∙ lt-ltb 0 (number ks count_at) (open_some (rw q.0 at some-open))) d.1));
          behind = λ y h. rw (q.0, q.1) (d.1.behind y (omega arith));
        }))))

-- the two rules of an insertion, tested as one
module _ {P : Run.Memory → Type 0} {n : ℕ} {μ : Run.Memory} where
  both_refused : (p q : Bool) (x : Result Run.Memory) → (p && q) ≡ false → n ≡ stop_number flow → P μ → Does P n μ (need flow p (need flow q x))
  both_refused true q x e i h = passes flow refl (refuses flow x e i h)
  both_refused false q x e i h = refuses flow _ refl i h

  both_passed : (p q : Bool) (x : Result Run.Memory) → (p && q) ≡ true → Does P n μ x → Does P n μ (need flow p (need flow q x))
  both_passed true q x e d = passes flow refl (passes flow e d)
  both_passed false q x e d = clash e refl

-- y is the value and the level of the expression e
module _ {w l : List ℕ} {v : List ℤ} {places vars : ℕ} {m : Memory} {e : Expression} {y : Valued} (x : Evaluates w l v places vars m e y) where
  -- the value, by its bits
  told : {u : ℤ} {n : ℕ} → y.value ≡ Some u → n ≡ bits u → signed n ≡ u
  told has i = ap signed i ∙ signed_bits (record { sfits = subst (λ o. IfSome o Fits) has x.fits })

  -- the label of a new node
  new_label_law : {u : ℤ} {new : NewNode} (b : List ℕ) (pc d f : ℕ) → y.value ≡ Some u → new ≡ new_node u y.level d f pc m → (μ : Run.Memory)
      → Shows places vars (slices w l v b) m μ → label_new new ≡ new_label pc μ d f e u
  unfolding new_label
  new_label_law b pc d f has is μ s =
      ap label_new is
      ∙ λ j.
      record {
        value = told has refl j;
        existence = position_is pc refl s j;
        content = ap (λ z. join z d) (sym (flow_shown pc x b μ s)) j;
        structure = ap (λ z. join z f) (position_is pc refl s) j;
      }

-- insertions
abbrev pub Inserts : ℕ → Side → ℕ → ℕ → ℕ → Expression → Run.Memory → Result Run.Memory
Inserts pc side content list places e μ = insert_at pc μ places (to side μ.cursor) (up (to side μ.cursor)) content list e

-- what an insertion on a side asks of the table: the parent's place, what stands on the side, and whether C may add a node there
pub record Asked (w : List ℕ) (places : ℕ) (m : Memory) (pc : ℕ) (side : Side) (above : ℕ) (ok : Bool) : Type 0 where
  pub old : ℕ
  pub c : ℕ
  pub inside : m.cursor < places
  pub on : Above w places m side above
  pub beside : Beside w places m side old
  pub at : c ≡ join pc (level_in m)
  pub lt : above < places
  pub may : MayAdd w places m above old c ok

module _ (r : Running) (pc : ℕ) (side : Side) (content list : ℕ) (e : Expression) {places vars : ℕ} {w l b : List ℕ} {v : List ℤ} where
  pub insert_absent : {above : ℕ} {a : Stepped} → r.memory.cursor < places → Above w places r.memory side above → places ≤ above → a ≡ stepped 22 r
      → Acting (shifted side) Same places vars (slices w l v b) (slices w l v b) r a (Inserts pc side content list places e)
  unfolding insert_at
  insert_absent inside on ge is =
      stays inside is (λ z. omega arith)
      (λ μ s.
      does_as (ap (λ o. insert_at pc μ places (to side μ.cursor) o content list e) (no_parent_law side s.tree (on _ _ _ _ s.tree) ge))
      (does_stop absent absent_number s))

  module _ {above : ℕ} {ok : Bool} (g : Asked w places r.memory pc side above ok) where
    -- the parent's place
    parent : {μ : Run.Memory} → Shows places vars (slices w l v b) r.memory μ
        → Under (cells w) places r.memory.used r.memory.free above μ.tree (up (to side μ.cursor))
    parent s = under (g.on _ _ _ _ s.tree) g.lt

    gated : {μ : Run.Memory} (s : Shows places vars (slices w l v b) r.memory μ)
        → ok ≡ (not_above (position pc μ) (label (sub (parent s).place μ.tree)).structure && may_touch pc μ (sub (to side μ.cursor) μ.tree))
    gated {μ} s =
        let i = position_is pc g.at s in
        g.may.add pc μ _ _ i (parent s).holds (g.beside _ _ _ _ s.tree)
        ∙ ap (λ z. not_above z (label (sub (parent s).place μ.tree)).structure && may_touch pc μ (sub (to side μ.cursor) μ.tree)) i

    -- the insertion under that parent
    as_under : {μ : Run.Memory} (s : Shows places vars (slices w l v b) r.memory μ)
        → Inserts pc side content list places e μ ≡ insert_at pc μ places (to side μ.cursor) (some (parent s).place) content list e
    as_under {μ} s = ap (λ o. insert_at pc μ places (to side μ.cursor) o content list e) (parent s).is

    pub insert_refused : {a : Stepped} → ok ≡ false → a ≡ stepped 21 r
        → Acting (shifted side) Same places vars (slices w l v b) (slices w l v b) r a (Inserts pc side content list places e)
    unfolding insert_at
    insert_refused shut is =
        stays g.inside is (λ z. omega arith) (λ μ s. does_as (as_under s) (both_refused _ _ _ (sym (gated s) ∙ shut) flow_number s))

    -- y is the value and the level of the expression e
    module _ (may-go : ok ≡ true) {y : Valued} (x : Evaluates w l v places vars r.memory e y) where
      pub insert_over : {a : Stepped} → y.value ≡ None → a ≡ stepped 27 r
          → Acting (shifted side) Same places vars (slices w l v b) (slices w l v b) r a (Inserts pc side content list places e)
      unfolding insert_at
      insert_over none is =
          stays g.inside is (λ z. omega arith)
          (λ μ s.
          does_as (as_under s) (both_passed _ _ _ (sym (gated s) ∙ may-go) (given_stops _ (x.value b μ s ∙ none) overflow_number s)))

      module _ {u : ℤ} (has : y.value ≡ Some u) (w' : List ℕ) {got : Taken} (new : NewNode)
          (added : (t : Forest) (p : Place) → Holds (cells w) places r.memory.used r.memory.free r.memory.cursor t p
          → Leads (cells w) places r.memory.used r.memory.free t (up (to side p)) above
          → Added side (label_new new) (cells w) (cells w') places r.memory.used r.memory.free r.memory.cursor got.place got.free got.used t p)
          (behind : Behind places (cells w) (cells w')) where
        result : {μ : Run.Memory} → Shows places vars (slices w l v b) r.memory μ
            → Added side (label_new new) (cells w) (cells w') places r.memory.used r.memory.free r.memory.cursor got.place got.free got.used μ.tree μ.cursor
        result s = added _ _ s.tree (g.on _ _ _ _ s.tree)

        insert_full : {a : Stepped} → places ≤ got.place → a ≡ stepped 23 (with_memory r (with_space r.memory got.free got.used))
            → Acting (shifted side) Same places vars (slices w l v b) (slices w' l v b) r a (Inserts pc side content list places e)
        unfolding insert_at
        insert_full i is =
            halts _ is (λ z. omega arith) g.inside (λ h. h) (words_only behind)
            (λ k k' q μ s.
            does_as (as_under s)
            (both_passed _ _ _ (sym (gated s) ∙ may-go)
            (given_passes _ (x.value b μ s ∙ has)
            (refuses tableFull _ (sym (result s).when ∙ le-ltb got.place places i) table_full_number
            (record {
              shows = with_space_law s ((result s).kept i _ _ s.tree);
              moves = λ _. rw q (refused_relocates (result s) i);
              behind = λ y h. rw q;
            })))))

        insert_done : {a : Stepped} → ((μ : Run.Memory) → Shows places vars (slices w l v b) r.memory μ → label_new new ≡ new_label pc μ content list e u)
            → got.place < places → a ≡ went r (with_space r.memory got.free got.used)
            → Acting (shifted side) Same places vars (slices w l v b) (slices w' l v b) r a (Inserts pc side content list places e)
        unfolding insert_at with_tree
        insert_done labels i is =
            moves_on _ is g.inside (λ h. h) (words_only behind)
            (λ k k' q μ s.
            let done = subst (λ a. Added side a (cells w) (cells w') places r.memory.used r.memory.free r.memory.cursor
            got.place got.free got.used μ.tree μ.cursor) (labels μ s) (result s) in
            does_as (as_under s)
            (both_passed _ _ _ (sym (gated s) ∙ may-go)
            (given_passes _ (x.value b μ s ∙ has)
            (passes tableFull (sym (result s).when ∙ lt-ltb got.place places i)
            (does_next _ refl
            (record {
              shows = with_tree_law s (done.done i);
              moves = λ _. rw q (added_relocates done i);
              behind = λ y h. rw q;
            }))))))

        pub inserted : {a : Stepped} → new ≡ new_node u y.level content list pc r.memory → Placed places r got a
            → Acting (shifted side) Same places vars (slices w l v b) (slices w' l v b) r a (Inserts pc side content list places e)
        inserted {a} is p = by (test (ltb got.place places))
          where
            by : Test (ltb got.place places) → Acting (shifted side) Same places vars (slices w l v b) (slices w' l v b) r a (Inserts pc side content list places e)
            by (holds i) = insert_done (new_label_law x b pc content list has is) (ltb-true _ _ i) (p.taken (ltb-true _ _ i))
            by (fails i) = insert_full (ltb-false _ _ i) (p.full (ltb-false _ _ i))

-- y is the value and the level of the expression e, and k is L
module _ {w l : List ℕ} {v : List ℤ} {places vars k : ℕ} (r : Running) {e : Expression} {y : Valued} (pc : ℕ)
    (x : Evaluates w l v places vars r.memory e y) (flows : k ≡ join y.level (join pc (level_in r.memory))) (b : List ℕ) where
  -- writes to a node of the content c
  module _ {c : ℕ} (inside : r.memory.cursor < places)
      (contents : Whenever (cells w) places r.memory.cursor (λ t p. (label (sub p t)).content ≡ c)) where
    content_test : {t : Bool} → not_above k c ≡ t → (μ : Run.Memory) → Shows places vars (slices w l v b) r.memory μ
        → not_above (flow_of pc μ e) (label (current μ)).content ≡ t
    unfolding current
    content_test h μ s = ap₂ not_above (flow_shown pc x b μ s ∙ sym flows) (contents _ _ _ _ s.tree) ∙ h

    pub write_refused : {a : Stepped} → not_above k c ≡ false → a ≡ stepped 21 r
        → Acts places vars (slices w l v b) (slices w l v b) r a (λ μ. Run.write pc μ e)
    unfolding Run.write
    write_refused h is = stays inside is (λ z. omega arith) (λ μ s. refuses flow _ (content_test h μ s) flow_number s)

    pub write_over : {a : Stepped} → y.value ≡ None → not_above k c ≡ true → a ≡ stepped 27 r
        → Acts places vars (slices w l v b) (slices w l v b) r a (λ μ. Run.write pc μ e)
    unfolding Run.write
    write_over none h is =
        stays inside is (λ z. omega arith)
        (λ μ s. passes flow (content_test h μ s) (given_stops _ (x.value b μ s ∙ none) overflow_number s))

    pub written : (w' : List ℕ) {u : ℤ} {n : ℕ} {a : Stepped} → y.value ≡ Some u → not_above k c ≡ true → n ≡ bits u
        → ((used free : ℕ) (t : Forest) (p : Place) → Holds (cells w) places used free r.memory.cursor t p
        → Revalued (signed n) (cells w) (cells w') places used free r.memory.cursor t p)
        → Behind places (cells w) (cells w') → a ≡ went r r.memory
        → Acts places vars (slices w l v b) (slices w' l v b) r a (λ μ. Run.write pc μ e)
    unfolding Run.write with_tree
    written w' has h i set behind is =
        moves_on r.memory is inside (λ z. z) (words_only behind)
        (λ k k' q μ s.
        let d = subst (λ z. Revalued z (cells w) (cells w') places r.memory.used r.memory.free r.memory.cursor μ.tree μ.cursor) (told x has i) (set _ _ _ _ s.tree) in
        passes flow (content_test h μ s)
        (given_passes _ (x.value b μ s ∙ has)
        (does_next _ refl
        (record { shows = with_tree_law s d.done; moves = λ _. rw q (valued_relocates d); behind = λ y h. rw q }))))
