-- The four commands of control land where the rules' do. Assumes nothing.
use mathlib.Core.Path.{◌≡◌, refl, sym, subst}
use mathlib.Core.Option.{none}
use mathlib.Core.List.{List, [], ◌∷◌, tail}
use Prim.Native.Nat.{ℕ}
use native.Mathlib.Omega.{arith}
use Rattle.rules.specs.Run as Run
use Rattle.rules.specs.Run.{State, Block, next, Stop, stop_number, stepped, onward, leave, leave_block}
use Rattle.table.specs.Cells.{cells}
use Rattle.table.specs.Since.{number}
use Rattle.actions.specs.declared.control.Running.{Running}
use Rattle.actions.specs.declared.control.Stepped.{Stepped}
use Rattle.actions.specs.Shows.{Slices}
use Rattle.actions.specs.Guards.{Holds}
use Rattle.actions.specs.Marks.{count_at, Marked}
use Rattle.actions.specs.Stands.{Stands, ended}
use Rattle.actions.specs.Acts.{Does}
use Rattle.actions.specs.Control.{Passes, Keeps, Jumps, Leaves}
use Rattle.actions.proofs.Remembered.{marked_rest}

-- no stop has the number that stands for the script's end
pub stop_below : (k : Stop) → stop_number k ≡ ended → ⊥
unfolding stop_number
stop_below Run.flow e = omega arith
stop_below Run.absent e = omega arith
stop_below Run.tableFull e = omega arith
stop_below Run.boardFull e = omega arith
stop_below Run.spent e = omega arith
stop_below Run.overflow e = omega arith

-- a step that does not stop is counted
pub passes_keeps : {r : Running} {a : Stepped} → Passes r a → Keeps r a
passes_keeps p = record { memory = p.memory; counted = λ _. p.left; uncounted = λ n. absurd (n p.stop) }

module _ (places vars : ℕ) (x : Slices) (k : List ℕ) (r : Running) (s : State) (st : Stands places vars x k r s) where
  -- after a jump, with the slices as they were
  pub jump_steps : (j : ℕ) (a : Stepped) → Jumps r j a → Does (Stands places vars x k a.running) a.stop s (next (stepped s s.memory s.blocks j))
  unfolding stepped
  jump_steps j a h =
      record {
        does = (
          h.passes.stop,
          record {
            memory = rw h.passes.memory st.memory;
            guards = rw h.guards st.guards;
            marks = rw h.passes.memory st.marks;
            at = sym h.at;
          },
        );
      }

  after_leave_law : (j : ℕ) (a : Stepped) → Leaves r j a → (bs : List Block) → Holds a.running.guards bs
      → Marked (cells x.words) places r.memory.used r.memory.free s.memory.tree k (number k count_at) bs
      → Does (Stands places vars x k a.running) a.stop s (next (stepped s s.memory bs j))
  unfolding stepped
  after_leave_law j a h bs g m =
      record {
        does = (
          h.passes.stop,
          record {
            memory = rw h.passes.memory st.memory;
            guards = g;
            marks = rw h.passes.memory m;
            at = sym h.at;
          },
        );
      }

  by_blocks : (j : ℕ) (a : Stepped) → Leaves r j a → (bs : List Block) → ((b : Block) (cs : List Block) → bs ≡ b ∷ cs → b.saved ≡ none)
      → Holds a.running.guards (tail bs)
      → Marked (cells x.words) places r.memory.used r.memory.free s.memory.tree k (number k count_at) bs
      → Does (Stands places vars x k a.running) a.stop s (leave_block s j bs)
  unfolding leave_block onward leave
  by_blocks j a h [] n g m = after_leave_law j a h [] g m
  by_blocks j a h (b ∷ bs) n g m =
      subst (λ o. Does (Stands places vars x k a.running) a.stop s (onward s bs j (leave s.memory o))) (sym (n b bs refl))
      (after_leave_law j a h bs g (marked_rest (n b bs refl) m))

  -- where the innermost block remembers nothing
  pub leave_steps : (j : ℕ) (a : Stepped) → ((b : Block) (bs : List Block) → s.blocks ≡ b ∷ bs → b.saved ≡ none) → Leaves r j a
      → Does (Stands places vars x k a.running) a.stop s (leave_block s j s.blocks)
  leave_steps j a n h = by_blocks j a h s.blocks n (h.guards s.blocks st.guards) st.marks
