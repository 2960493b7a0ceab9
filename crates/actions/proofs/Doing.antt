-- What an action does, test by test: a result of the rules is its next thing, its stop, or a test in front of a result; and an action that changes
-- nothing is one that stops. Each law is by the cases of the test. Assumes nothing.
use mathlib.Core.Path.{◌≡◌, refl, sym, ap, subst, ◌∙◌}
use mathlib.Core.Bool.{Bool, true, false}
use mathlib.Core.Option.{Option, some}
use Rattle.std.specs.Prelude.{None, Some}
use Rattle.rules.specs.Number.{Value}
use mathlib.Core.List.{List, [], ◌∷◌, map}
use Prim.Native.Nat.{ℕ, suc, ◌*◌, ◌/◌, ◌<◌, ◌≤◌}
use native.Mathlib.Numerals.{add-one}
use native.Mathlib.Omega.{arith}
use native.Mathlib.Decide.{ℕ_discrete}
use lib.ListN.{length}
use lib.IntN.{ℤ}
use Rattle.rules.specs.Limits.{max_nodes}
use Rattle.rules.specs.Tree.{Place}
use Rattle.rules.specs.Run as Run
use Rattle.rules.specs.Run.{State, Block, on_block, Result, next, stop, Stop, flow, absent, tableFull, boardFull, overflow, stop_number, need, given}
use Rattle.rules.proofs.Relocate.{blocks_skip, context_on}
use Rattle.table.specs.Cells.{cells}
use Rattle.table.specs.Holds as Table
use Rattle.table.specs.Since.{number}
use Rattle.table.proofs.Unique.{one_tree}
use Rattle.table.proofs.Remembering.{Relocates}
use Rattle.actions.specs.declared.memory.Memory.{Memory}
use Rattle.actions.specs.declared.guards.Guards.{Guards}
use Rattle.actions.specs.Guards.{Contexts, Holds}
use Rattle.actions.specs.Shows.{Slices, Shows}
use Rattle.actions.specs.declared.control.Running.{Running}
use Rattle.actions.specs.declared.control.Stepped.{Stepped}
use Rattle.actions.specs.Stands.{Stands, stepped, with_memory, went}
use Rattle.actions.specs.Marks.{count_at, Marked}
use Rattle.actions.specs.Acts.{Does, Kept, Same, Acting, Acts}
use Rattle.actions.proofs.Remembered.{marked_none, marked_after, stands_still}

-- the numbers of the stops
pub flow_number : 21 ≡ stop_number flow
unfolding stop_number
flow_number = refl

pub absent_number : 22 ≡ stop_number absent
unfolding stop_number
absent_number = refl

pub table_full_number : 23 ≡ stop_number tableFull
unfolding stop_number
table_full_number = refl

pub board_full_number : 24 ≡ stop_number boardFull
unfolding stop_number
board_full_number = refl

pub overflow_number : 27 ≡ stop_number overflow
unfolding stop_number
overflow_number = refl

-- what a test `!t` of the code says, where t is what a function gave for the rules' test
pub refused : {t u : Bool} → t ≡ u → t ≡ false → u ≡ false
refused e h = sym e ∙ h

pub allowed : {t u : Bool} → t ≡ u → t ≡ true → u ≡ true
allowed e h = sym e ∙ h

-- the number n and what comes after a, as a result says
module _ {A : Type 0} {P : A → Type 0} {n : ℕ} {a : A} where
  pub does_next : (b : A) → n ≡ 0 → P b → Does P n a (next b)
  does_next b i p = record { does = (i, p) }

  pub does_stop : (k : Stop) → n ≡ stop_number k → P a → Does P n a (stop k)
  does_stop k i p = record { does = (i, p) }

  -- a test that holds is passed, and one that fails stops
  pub passes : (k : Stop) {t : Bool} {x : Result A} → t ≡ true → Does P n a x → Does P n a (need k t x)
  unfolding need
  passes k e d = rw e d

  pub refuses : (k : Stop) {t : Bool} (x : Result A) → t ≡ false → n ≡ stop_number k → P a → Does P n a (need k t x)
  unfolding need
  refuses k x e i p = rw e (does_stop k i p)

  -- a value that is there is passed on, and where there is none it stops
  pub given_passes : {v : Value} {z : ℤ} (x : ℤ → Result A) → v ≡ Some z → Does P n a (x z) → Does P n a (given v x)
  unfolding given
  given_passes x e d = rw e d

  pub given_stops : {v : Value} (x : ℤ → Result A) → v ≡ None → n ≡ stop_number overflow → P a → Does P n a (given v x)
  unfolding given
  given_stops x e i p = rw e (does_stop overflow i p)

  pub does_need : (k : Stop) (t : Bool) {x : Result A} → (t ≡ true → Does P n a x) → (t ≡ false → (n ≡ stop_number k) × P a) → Does P n a (need k t x)
  unfolding need
  does_need k true f g = f refl
  does_need k false f g = does_stop k (g refl).0 (g refl).1

  -- what holds after it, weakened
  pub does_map : {Q : A → Type 0} {x : Result A} → ((b : A) → P b → Q b) → Does P n a x → Does Q n a x
  does_map {x = next b} f d = record { does = (d.does.0, f b d.does.1) }
  does_map {x = stop k} f d = record { does = (d.does.0, f a d.does.1) }

  -- a result that is known to be another
  pub does_as : {x y : Result A} → x ≡ y → Does P n a y → Does P n a x
  does_as {x} {y} e d = subst (Does P n a) (sym e) d

-- nothing is touched where nothing changes
pub kept_refl : {places vars n : ℕ} {x : Slices} → Kept places vars x x n n
kept_refl = record { grown = omega arith; cells = record { same = λ y h. refl }; values = λ j h. refl; board = refl }

-- no stop has the number 0
pub stop_number_law : (k : Stop) → stop_number k ≡ 0 → ⊥
unfolding stop_number
stop_number_law flow e = omega arith
stop_number_law absent e = omega arith
stop_number_law tableFull e = omega arith
stop_number_law boardFull e = omega arith
stop_number_law Run.spent e = omega arith
stop_number_law overflow e = omega arith

-- the memory μ with the numbers m has become μ' with m', and each node has moved by f; what stands behind the places is as it was
pub record Moved (places vars : ℕ) (x x' : Slices) (k k' : List ℕ) (m m' : Memory) (f : Place → Option Place) (μ μ' : Run.Memory) : Type 0 where
  pub shows : Shows places vars x' m' μ'
  pub moves : (number k count_at ≡ 0 → ⊥)
      → Relocates f (cells x.words) places m.used m.free μ.tree k (cells x'.words) m'.used m'.free μ'.tree k'
  pub behind : (y : ℕ) → max_nodes ≤ y → number k' y ≡ number k y

-- what the blocks remember then
marks_moved : {places vars : ℕ} {x x' : Slices} {k k' : List ℕ} {m m' : Memory} {f : Place → Option Place} {μ μ' : Run.Memory} (bs : List Block)
    → Moved places vars x x' k k' m m' f μ μ' → Marked (cells x.words) places m.used m.free μ.tree k (number k count_at) bs
    → Marked (cells x'.words) places m'.used m'.free μ'.tree k' (number k' count_at) (map (on_block f) bs)
marks_moved {places} {x' = x'} {k} {k'} {m' = m'} {f} {μ' = μ'} bs d h =
    subst (λ j. Marked (cells x'.words) places m'.used m'.free μ'.tree k' j (map (on_block f) bs)) (sym (d.behind count_at (omega arith)))
    (by (ℕ_discrete (number k count_at) 0))
  where
    by : Dec (number k count_at ≡ 0) → Marked (cells x'.words) places m'.used m'.free μ'.tree k' (number k count_at) (map (on_block f) bs)
    by (yes z) = marked_none f z h
    by (no z) = marked_after (d.moves z) d.behind h

-- the contexts stay
guards_on : {g : Guards} (f : Place → Option Place) (bs : List Block) → Holds g bs → Holds g (map (on_block f) bs)
guards_on f bs h = record { contexts = go _ bs h.contexts }
  where
    go : (n : ℕ) (bs : List Block) → Contexts n bs → Contexts n (map (on_block f) bs)
    go n [] c = c
    go n (b ∷ bs) c = (c.0 ∙ sym (context_on f (b ∷ bs)), go (n / 256) bs c.1)

-- what an action does with the memory, as an answer: with a number it stops where it was, and else it goes on
module _ {places vars : ℕ} {x x' : Slices} {k k' : List ℕ} {r : Running} {m : Memory} (s : State) (st : Stands places vars x k r s) (bs : List Block) (i : ℕ) where
  halted : {n : ℕ} → (n ≡ 0 → ⊥) → (z : Result Run.Memory) → Does (Moved places vars x x' k k' r.memory m some s.memory) n s.memory z
      → Does (Stands places vars x' k' (with_memory r m)) n s (Run.onward s bs i z)
  unfolding Run.onward Run.relocate
  halted ne (next μ) d = absurd (ne d.does.0)
  halted ne (stop j) d =
      does_stop j d.does.0
      (record {
        memory = d.does.1.shows;
        guards = st.guards;
        marks = subst (Marked _ _ _ _ _ _ _) (blocks_skip s.memory.cursor s.blocks) (marks_moved s.blocks d.does.1 st.marks);
        at = st.at;
      })

  gone : (f : Place → Option Place) (z : Result Run.Memory) → Does (Moved places vars x x' k k' r.memory m f s.memory) 0 s.memory z
      → bs ≡ map (on_block f) s.blocks → i ≡ suc s.at → Does (Stands places vars x' k' (went r m).running) 0 s (Run.onward s bs i z)
  unfolding Run.onward Run.stepped
  gone f (next μ) d e j =
      does_next _ refl
      (record {
        memory = d.does.1.shows;
        guards = subst (Holds r.guards) (sym e) (guards_on f s.blocks st.guards);
        marks = subst (Marked _ _ _ _ _ _ _) (sym e) (marks_moved s.blocks d.does.1 st.marks);
        at = j ∙ ap suc st.at ∙ sym (add-one _);
      })
  gone f (stop j) d e h = absurd (stop_number_law j (sym d.does.0))

module _ {move : Place → Place → Option Place} {marks : List ℕ → List ℕ → Type 0} {places vars : ℕ} {x x' : Slices} {r : Running} {a : Stepped}
    {action : Run.Memory → Result Run.Memory} where
  -- stopped, with the memory m
  pub halts : (m : Memory) {n : ℕ} → a ≡ stepped n (with_memory r m) → (n ≡ 0 → ⊥) → m.cursor < places
      → (5 * r.memory.lines ≤ length x.board → 5 * m.lines ≤ length x'.board) → Kept places vars x x' r.memory.lines m.lines
      → ((k k' : List ℕ) → marks k k' → (μ : Run.Memory) → Shows places vars x r.memory μ → Does (Moved places vars x x' k k' r.memory m some μ) n μ (action μ))
      → Acting move marks places vars x x' r a action
  halts m i ne inside room kept f =
      subst (λ z. Acting move marks places vars x x' r z action) (sym i)
      (record {
        cursor = inside;
        room = room;
        kept = kept;
        within = λ n h. omega arith;
        counted = λ z. absurd (ne z);
        uncounted = λ _. refl;
        acts = λ k k' q s st. halted s st _ _ ne (action s.memory) (f k k' q s.memory st.memory);
      })

  -- gone on, with the memory m
  pub moves_on : (m : Memory) → a ≡ went r m → m.cursor < places
      → (5 * r.memory.lines ≤ length x.board → 5 * m.lines ≤ length x'.board) → Kept places vars x x' r.memory.lines m.lines
      → ((k k' : List ℕ) → marks k k' → (μ : Run.Memory) → Shows places vars x r.memory μ
      → Does (Moved places vars x x' k k' r.memory m (move μ.cursor) μ) 0 μ (action μ))
      → Acting move marks places vars x x' r a action
  moves_on m i inside room kept f =
      subst (λ z. Acting move marks places vars x x' r z action) (sym i)
      (record {
        cursor = inside;
        room = room;
        kept = kept;
        within = λ n h. omega arith;
        counted = λ _. refl;
        uncounted = λ n. absurd (n refl);
        acts = λ k k' q s st. gone s st _ _ (move s.memory.cursor) (action s.memory) (f k k' q s.memory st.memory) refl refl;
      })

-- where the words and what leads to the free places stay, so does the tree, and every node of it
stills : {places vars : ℕ} {x x' : Slices} {k : List ℕ} {m m' : Memory} {μ μ' : Run.Memory} → x'.words ≡ x.words → m'.used ≡ m.used → m'.free ≡ m.free
    → Shows places vars x m μ → Shows places vars x' m' μ' → Moved places vars x x' k k m m' some μ μ'
stills {places} {x = x} {x'} {m = m} {m'} {μ} {μ'} ew eu ef s s' =
    record {
      shows = s';
      moves = λ z.
          stands_still λ y q h.
          subst (λ t. Table.Holds (cells x'.words) places m'.used m'.free y t q)
          (one_tree h' s'.tree) (rw (ew, eu, ef) h);
      behind = λ y l. refl;
    }
  where
    h' : Table.Holds (cells x'.words) places m'.used m'.free m.cursor μ.tree μ.cursor
    h' = rw (ew, eu, ef) s.tree

-- an action that leaves the table alone
module _ {places vars : ℕ} {x x' : Slices} {r : Running} {a : Stepped} {action : Run.Memory → Result Run.Memory} where
  pub goes : (m : Memory) → a ≡ went r m → m.cursor < places
      → (5 * r.memory.lines ≤ length x.board → 5 * m.lines ≤ length x'.board) → Kept places vars x x' r.memory.lines m.lines
      → x'.words ≡ x.words → m.used ≡ r.memory.used → m.free ≡ r.memory.free
      → ((μ : Run.Memory) → Shows places vars x r.memory μ → Does (Shows places vars x' m) 0 μ (action μ)) → Acts places vars x x' r a action
  goes m i inside room kept ew eu ef f =
      moves_on m i inside room kept λ k k' q μ s.
      subst (λ k₁. Does (Moved places vars x x' k k₁ r.memory m some μ) 0 μ (action μ)) (sym q)
      (does_map (λ μ' s'. stills ew eu ef s s') (f μ s))

-- an action that leaves slices and memory alone, and stops or goes on
module _ {move : Place → Place → Option Place} {marks : List ℕ → List ℕ → Type 0} (same : (k k' : List ℕ) → marks k k' → k' ≡ k) {places vars : ℕ} {x : Slices}
    {r : Running} {a : Stepped} {action : Run.Memory → Result Run.Memory} (inside : r.memory.cursor < places) where
  pub stays_by : {n : ℕ} → a ≡ stepped n r → (n ≡ 0 → ⊥)
      → ((μ : Run.Memory) → Shows places vars x r.memory μ → Does (Shows places vars x r.memory) n μ (action μ))
      → Acting move marks places vars x x r a action
  stays_by {n} i ne f =
      halts r.memory i ne inside (λ h. h) kept_refl λ k k' q μ s.
      subst (λ k₁. Does (Moved places vars x x k k₁ r.memory r.memory some μ) n μ (action μ)) (sym (same k k' q))
      (does_map (λ μ' s'. stills refl refl refl s s') (f μ s))

module _ {move : Place → Place → Option Place} {places vars : ℕ} {x : Slices} {r : Running} {a : Stepped} {action : Run.Memory → Result Run.Memory}
    (inside : r.memory.cursor < places) where
  pub stays : {n : ℕ} → a ≡ stepped n r → (n ≡ 0 → ⊥)
      → ((μ : Run.Memory) → Shows places vars x r.memory μ → Does (Shows places vars x r.memory) n μ (action μ))
      → Acting move Same places vars x x r a action
  stays i ne f = stays_by (λ k k' q. q) inside i ne f

  -- as one does that stops in every memory shown
  pub stops : (k : Stop) {n : ℕ} → a ≡ stepped n r → n ≡ stop_number k → ((μ : Run.Memory) → Shows places vars x r.memory μ → action μ ≡ stop k)
      → Acting move Same places vars x x r a action
  stops k i j f = stays i (λ z. stop_number_law k (sym j ∙ z)) (λ μ s. does_as (f μ s) (does_stop k j s))

module _ {places vars : ℕ} {x : Slices} {r : Running} {a : Stepped} {action : Run.Memory → Result Run.Memory} (inside : r.memory.cursor < places) where
  pub passes_on : a ≡ went r r.memory
      → ((μ : Run.Memory) → Shows places vars x r.memory μ → action μ ≡ next μ) → Acts places vars x x r a action
  passes_on i f = goes r.memory i inside (λ h. h) kept_refl refl refl refl (λ μ s. does_as (f μ s) (does_next μ refl s))
