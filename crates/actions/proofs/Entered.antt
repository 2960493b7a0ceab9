-- What an if and a while do, from the guard's value and level: the block stack with one context more, and the record that comes next by whether the
-- value is zero; or a stop, where there is no value. The machine reads the value back from its bits, which leaves one that fits as it is. Assumes nothing.
use mathlib.Core.Path.{◌≡◌, refl, sym, ◌∙◌, ap, ap₂, subst}
use mathlib.Core.Bool.{Bool, true, false, cond}
use mathlib.Core.Option.{some}
use mathlib.Core.List.{List, ◌∷◌, tail}
use Rattle.std.specs.Prelude.{None, Some, IfSome}
use Prim.Native.Nat.{ℕ, suc, ◌+◌, ◌-◌, ◌%◌, ◌<◌, ◌≤◌}
use native.Mathlib.Numerals.{add-one}
use native.Mathlib.Omega.{arith}
use lib.ListN.{length}
use lib.IntN.{ℤ}
use mir.Syntax.{w32}
use mir.Facts.{to_z-of_z}
use Rattle.rules.specs.Limits.{max_nodes, max_depth}
use Rattle.rules.specs.Level.{join}
use Rattle.rules.specs.Number.{Fits, is_zero}
use Rattle.rules.specs.Tree.{Forest}
use Rattle.rules.specs.Script.{Expression}
use Rattle.rules.specs.Run.{State, Saved, Block, absent, context, level_of, with_cursor, leave, restore, onward, stepped, pushed, saving, raised, enter_if, enter_while, enter_back, leave_block}
use Rattle.rules.proofs.Machine.{kept}
use Rattle.table.specs.Cells.{Table, cells}
use Rattle.actions.specs.declared.evaluate.Valued.{Valued}
use Rattle.actions.specs.declared.guards.Guards.{Guards}
use Rattle.actions.specs.declared.control.Running.{Running}
use Rattle.actions.specs.declared.control.Stepped.{Stepped}
use Rattle.actions.specs.Guards.{Holds}
use Rattle.actions.specs.Shows.{Slices, level_in}
use Rattle.actions.specs.declared.marks.Saved as Code
use Rattle.actions.specs.Marks as Marks
use Rattle.actions.specs.Marks.{marks_size, Marked, plain, dropping, Recalled, found, lost, Recalls}
use Rattle.actions.specs.Acts.{Does}
use Rattle.actions.specs.Stands.{Stands, stepped as halted}
use Rattle.actions.specs.Control.{Jumps, Keeps, Enters, Saves, Restores}
use Rattle.actions.proofs.Doing.{absent_number, overflow_number, does_next, does_stop, given_passes, given_stops}
use Rattle.actions.proofs.Remembered.{marked_few, marked_saving, saving_long, marked_dropping, dropping_long}

-- one step more, with the guards g, at the record i
abbrev after : Running → Guards → ℕ → Stepped
after r g i = record { stop = 0; running = record { memory = r.memory; guards = g; at = i; left = r.left - 1 } }

-- a jump is one, with the guards as they are
pub jumped : {r : Running} {j : ℕ} {a : Stepped} → Jumps r j a → a ≡ after r r.guards j
jumped h =
    λ i. record {
      stop = h.passes.stop i;
      running = record { memory = h.passes.memory i; guards = h.guards i; at = h.at i; left = h.passes.left i };
    }

keeps : (r : Running) (g : Guards) (i : ℕ) → Keeps r (after r g i)
keeps r g i = record { memory = refl; counted = λ _. refl; uncounted = λ n. absurd (n refl) }

-- one block more, which remembers nothing
marked_pushed : {m : Table} {n used free : ℕ} {t : Forest} {ks : List ℕ} {k : ℕ} (s : State) (e : Expression) → Marked m n used free t ks k s.blocks
    → Marked m n used free t ks k (pushed s e)
unfolding pushed
marked_pushed s e h = plain _ refl h

marked_while : {m : Table} {n used free : ℕ} {t : Forest} {ks : List ℕ} {k : ℕ} (b : Bool) (s : State) (e : Expression) → Marked m n used free t ks k s.blocks
    → Marked m n used free t ks k (cond b s.blocks (pushed s e))
marked_while true s e h = h
marked_while false s e h = marked_pushed s e h

-- without a value, at the record r
pub enters_over : {f : State → ℕ → Expression → ℤ → State} (r : Running) (v : Valued) (j : ℕ) {a : Stepped} → v.value ≡ None → a ≡ halted 27 r
    → Enters f r v j a
enters_over {f} r v j none is =
    subst (Enters f r v j) (sym is)
    (record {
      keeps = record { memory = refl; counted = λ z. absurd (omega arith); uncounted = λ _. refl };
      within = λ n h k. omega arith;
      enters = λ places vars x k s e fits value level deep st. given_stops _ (value ∙ none) overflow_number st;
    })

-- the guard's value y, which z says to be zero or not
module _ (r : Running) (v : Valued) (j : ℕ) {y : ℤ} (has : v.value ≡ Some y) (z : Bool) (zero : is_zero (kept w32 y) ≡ z) where
  within : (n : ℕ) → j ≤ n → r.at < n → cond z j (r.at + 1) ≤ n
  within n h k = pick z
    where
      pick : (b : Bool) → cond b j (r.at + 1) ≤ n
      pick true = h
      pick false = omega arith

  is_zero_law : IfSome v.value Fits → is_zero y ≡ z
  is_zero_law fits = ap is_zero (sym (to_z-of_z {w = w32} (record { sfits = subst (λ o. IfSome o Fits) has fits }))) ∙ zero

  next_at : (s : State) → is_zero y ≡ z → s.at ≡ r.at → cond (is_zero y) j (suc s.at) ≡ cond z j (r.at + 1)
  next_at s h k = rw (h, k, add-one)

  -- a while, with the guards g that it has then
  pub enters_while : (g : Guards)
      → ((s : State) (e : Expression) → level_of s.memory e ≡ v.level → length s.blocks < max_depth → Holds r.guards s.blocks
      → Holds g (cond z s.blocks (pushed s e)))
      → Enters enter_while r v j (after r g (cond z j (r.at + 1)))
  unfolding enter_while stepped
  enters_while g held =
      record {
        keeps = keeps r _ _;
        within = within;
        enters = λ places vars x ks s e fits is level deep st.
            let k = is_zero_law fits in
            given_passes _ (is ∙ has)
            (does_next _ refl
            (record {
              memory = st.memory;
              guards = subst (λ (b : Bool). Holds g (cond b s.blocks (pushed s e))) (sym k) (held s e level deep st.guards);
              marks = marked_while (is_zero y) s e st.marks;
              at = next_at s k st.at;
            }));
      }

  -- an if
  pub enters_if : (g : Guards)
      → ((s : State) (e : Expression) → level_of s.memory e ≡ v.level → length s.blocks < max_depth → Holds r.guards s.blocks
      → Holds g (pushed s e))
      → Enters enter_if r v j (after r g (cond z j (r.at + 1)))
  unfolding enter_if stepped
  enters_if g held =
      record {
        keeps = keeps r _ _;
        within = within;
        enters = λ places vars x ks s e fits is level deep st.
            given_passes _ (is ∙ has)
            (does_next _ refl
            (record {
              memory = st.memory;
              guards = held s e level deep st.guards;
              marks = marked_pushed s e st.marks;
              at = next_at s (is_zero_law fits) st.at;
            }));
      }

-- one block more, by the top of the stack, the joined level and the push
pub pushed_held : (r : Running) (v : Valued) (g : Guards) (t l : ℕ) → ((bs : List Block) → Holds r.guards bs → t ≡ context bs) → l ≡ join v.level t
    → ((b : Block) (bs : List Block) → Holds r.guards bs → length bs < max_depth → l ≡ context (b ∷ bs) → Holds g (b ∷ bs))
    → (s : State) (e : Expression) → level_of s.memory e ≡ v.level → length s.blocks < max_depth → Holds r.guards s.blocks → Holds g (pushed s e)
unfolding pushed context
pushed_held r v g t l top joined pushes s e level deep held =
    pushes _ s.blocks held deep (joined ∙ rw (level, top s.blocks held))

-- an if that comes back, without a value
pub saves_over : (places : ℕ) (r : Running) (v : Valued) (j : ℕ) (ks : List ℕ) {a : Stepped} → v.value ≡ None → a ≡ halted 27 r → Saves places r v j ks ks a
saves_over places r v j ks none is =
    subst (Saves places r v j ks ks) (sym is)
    (record {
      stays = record { cursor = λ h. h; lines = refl; counted = λ z. absurd (omega arith); uncounted = λ _. refl; within = λ n h k. omega arith; long = refl };
      enters = λ vars x s e fits value level deep st. given_stops _ (value ∙ none) overflow_number st;
    })

-- with the guard's value y, which z says to be zero or not; l is the cursor's level, i the context in the block and l' the level in it
module _ (places : ℕ) (r : Running) (v : Valued) (j : ℕ) (ks : List ℕ) (long : marks_size ≤ length ks) (inside : r.memory.cursor < places)
    (few : places ≤ max_nodes) {y : ℤ} (has : v.value ≡ Some y) (z : Bool) (zero : is_zero (kept w32 y) ≡ z) (g : Guards) {t i l l' : ℕ}
    (tops : (bs : List Block) → Holds r.guards bs → t ≡ context bs) (joined : i ≡ join v.level t)
    (pushes : (b : Block) (bs : List Block) → Holds r.guards bs → length bs < max_depth → i ≡ context (b ∷ bs) → Holds g (b ∷ bs))
    (levels : l ≡ level_in r.memory) (raises : l' ≡ join l i) (small : l' < 256) where
  -- the context in the block
  inner : {places vars : ℕ} {x : Slices} {ks : List ℕ} (s : State) (e : Expression) → level_of s.memory e ≡ v.level → Stands places vars x ks r s
      → i ≡ join (level_of s.memory e) (context s.blocks)
  inner s e level st = joined ∙ rw (level, tops s.blocks st.guards)

  abbrev saved_answer : Stepped
  saved_answer =
      record {
        stop = 0;
        running =
            record {
              memory = record { cursor = r.memory.cursor; level = l'; lines = r.memory.lines; free = r.memory.free; used = r.memory.used };
              guards = g;
              at = cond z j (r.at + 1);
              left = r.left - 1;
            };
      }

  pub saves : Saves places r v j ks (Marks.saving ks r.memory.cursor l) saved_answer
  unfolding enter_back stepped raised saving with_cursor context
  saves =
      record {
        stays =
            record {
              cursor = λ h. h;
              lines = refl;
              counted = λ _. refl;
              uncounted = λ n. absurd (n refl);
              within = within r v j has z zero;
              long = saving_long ks r.memory.cursor l;
            };
        enters = λ vars x s e fits is level deep st.
            given_passes _ (is ∙ has)
            (does_next _ refl
            (record {
              memory =
                  record {
                    tree = st.memory.tree;
                    level =
                        ap₂ join (st.memory.level ∙ sym levels) (sym (inner s e level st)) ∙ sym raises
                        ∙ (let q : l' ≡ l' % 256 = omega arith in q);
                    variables = st.memory.variables;
                    lines = st.memory.lines;
                  };
              guards = pushes _ s.blocks st.guards deep (inner s e level st);
              marks =
                  marked_saving ks r.memory.cursor l long (omega arith) (omega (arith, marked_few st.marks)) _ _ refl refl
                  (omega (arith, st.memory.level, levels)) st.memory.tree st.marks;
              at = next_at r v j has z zero s (is_zero_law r v j has z zero fits) st.at;
            }));
      }

-- the end of an if that comes back
module _ (places : ℕ) (r : Running) (j : ℕ) (ks : List ℕ) where
  lost_leaves : {vars : ℕ} {x : Slices} (s : State) (b : Block) (bs : List Block) (q : Saved) → Stands places vars x ks r s → b.saved ≡ some q
      → Recalled (cells x.words) places r.memory.used r.memory.free s.memory.tree q None
      → Does (Stands places vars x ks r) 22 s (leave_block s j (b ∷ bs))
  unfolding leave_block leave restore onward
  lost_leaves s b bs q st e (lost i) = rw (e, i) (does_stop absent absent_number st)

  pub restores_lost : {a : Stepped} → Recalls ks places None → a ≡ halted 22 r → Restores places r j ks ks a
  restores_lost recall is =
      subst (Restores places r j ks ks) (sym is)
      (record {
        stays = record { cursor = λ h. h; lines = refl; counted = λ z. absurd (omega arith); uncounted = λ _. refl; within = λ n h k. omega arith; long = refl };
        leaves = λ vars x s b bs q e e' st.
            subst (λ cs. Does (Stands places vars x ks r) 22 s (leave_block s j cs)) (sym e)
            (lost_leaves s b bs q st e'
            (recall.recalls _ _ _ _ b bs q (subst (Marked _ _ _ _ _ ks _) e st.marks) e'));
      })

  module _ (saved : Code.Saved) (recall : Recalls ks places (Some saved)) (long : marks_size ≤ length ks) (g : Guards) (pops : (bs : List Block) → Holds r.guards bs → Holds g (tail bs)) where
    abbrev returned : Stepped
    returned =
        record {
          stop = 0;
          running =
              record {
                memory = record { cursor = saved.place; level = saved.level; lines = r.memory.lines; free = r.memory.free; used = r.memory.used };
                guards = g;
                at = j;
                left = r.left - 1;
              };
        }

    found_leaves : {vars : ℕ} {x : Slices} (s : State) (b : Block) (bs : List Block) (q : Saved) → Stands places vars x ks r s → s.blocks ≡ b ∷ bs
        → b.saved ≡ some q → Recalled (cells x.words) places r.memory.used r.memory.free s.memory.tree q (Some saved)
        → Does (Stands places vars x (dropping ks) returned.running) 0 s (leave_block s j (b ∷ bs))
    unfolding leave_block leave restore onward stepped with_cursor
    found_leaves s b bs q st eb e (found _ p i h l) =
        rw (e, i)
        (does_next _ refl
        (record {
          memory = record { tree = h; level = sym l; variables = st.memory.variables; lines = st.memory.lines };
          guards = subst (λ cs. Holds g (tail cs)) eb (pops s.blocks st.guards);
          marks = marked_dropping ks long e (subst (Marked _ _ _ _ _ ks _) eb st.marks);
          at = refl;
        }))

    pub restores_found : Restores places r j ks (dropping ks) returned
    restores_found =
        record {
          stays =
              record {
                cursor = λ _. recall.within;
                lines = refl;
                counted = λ _. refl;
                uncounted = λ n. absurd (n refl);
                within = λ n h k. h;
                long = dropping_long ks;
              };
          leaves = λ vars x s b bs q e e' st.
              subst (λ cs. Does (Stands places vars x (dropping ks) returned.running) 0 s (leave_block s j cs)) (sym e)
              (found_leaves s b bs q st e e'
              (recall.recalls _ _ _ _ b bs q (subst (Marked _ _ _ _ _ ks _) e st.marks) e'));
        }
