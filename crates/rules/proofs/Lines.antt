-- A run only adds to its lines, and to those that a reader sees. Assumes nothing.
use mathlib.Core.Path.{◌≡◌, refl, sym, ◌∙◌, ap}
use Prim.Native.Nat.{ℕ}
use mathlib.Core.Option.{Option, none, some}
use mathlib.Core.List.{List, [], ◌∷◌, ◌++◌, IsPrefix, append-nil, append_assoc}
use Rattle.rules.specs.Level.{Level}
use Rattle.rules.specs.Tree.{Place}
use Rattle.rules.specs.Script.{Expression, Action, Command}
use Rattle.rules.specs.Run.{Line, Memory, State, Buffers, with_variables, with_tree, with_cursor, with_line, assign, output, move_to, go_joining, go_to, go_to_last, insert_at, remove_at, write, effect, run}
use Rattle.rules.specs.Public.{seen_lines}
use Rattle.rules.proofs.Seen.{seen_append}
use Rattle.rules.proofs.Results.{Good, good_need, good_given, good_map}
use Rattle.rules.proofs.Runs.{memory_keeps}

-- a record, so that the lists can be read off
pub record Extends {A : Type 0} (xs ys : List A) : Type 0 where
  pub prefix : IsPrefix xs ys

pub extends_refl : {A : Type 0} {xs ys : List A} → xs ≡ ys → Extends xs ys
extends_refl {A} {xs} h = record { prefix = ([], append-nil xs ∙ h) }

pub extends_trans : {A : Type 0} {xs ys zs : List A} → Extends xs ys → Extends ys zs → Extends xs zs
extends_trans {A} {xs} {ys} {zs} a b =
    record { prefix = (a.prefix.0 ++ b.prefix.0, sym (append_assoc xs _ _) ∙ ap (λ w. w ++ b.prefix.0) a.prefix.1 ∙ b.prefix.1) }

-- a memory with no line less
Longer : Memory → Memory → Type 0
Longer m m' = Extends m.lines m'.lines

module _ (pc : Level) (m : Memory) where
  go_lines : (l : Place → Level) (q : Option Place) → Good (Longer m) (go_joining pc m l q)
  unfolding Longer go_joining move_to with_cursor
  go_lines l none = tt
  go_lines l (some p) = good_need (Longer m) _ _ _ λ _. good_need (Longer m) _ _ _ λ _. extends_refl refl

  insert_lines : (places : ℕ) (p : Place) (q : Option Place) (c l : Level) (e : Expression) → Good (Longer m) (insert_at pc m places p q c l e)
  unfolding Longer insert_at with_tree
  insert_lines places p none c l e = tt
  insert_lines places p (some q) c l e =
      good_need (Longer m) _ _ _ λ _. good_need (Longer m) _ _ _ λ _. good_given (Longer m) _ _ λ _.
      good_need (Longer m) _ _ _ λ _. extends_refl refl

  effect_lines : (lent : Buffers) (a : Action) → Good (Longer m) (effect lent pc m a)
  unfolding Longer effect assign output move_to go_to go_to_last remove_at write with_variables with_tree with_cursor with_line
  effect_lines lent Action.skip = extends_refl refl
  effect_lines lent (Action.assign i e) = good_need (Longer m) _ _ _ λ _. good_given (Longer m) _ _ λ _. extends_refl refl
  effect_lines lent (Action.output r e) =
      good_need (Longer m) _ _ _ λ _. good_given (Longer m) _ _ λ z. good_need (Longer m) _ _ _ λ _. record { prefix = (record { number = z; readers = r } ∷ [], refl) }
  effect_lines lent Action.goRoot = good_need (Longer m) _ _ _ λ _. extends_refl refl
  effect_lines lent Action.goParent = go_lines _ _
  effect_lines lent (Action.go d) = go_lines _ _
  effect_lines lent Action.goLeft = go_lines _ _
  effect_lines lent Action.goLast = go_lines _ _
  effect_lines lent (Action.insert d c l e) = insert_lines _ _ _ c l e
  effect_lines lent (Action.remove d) = good_need (Longer m) _ _ _ λ _. good_need (Longer m) _ _ _ λ _. extends_refl refl
  effect_lines lent (Action.write e) = good_need (Longer m) _ _ _ λ _. good_given (Longer m) _ _ λ _. extends_refl refl
  effect_lines lent (Action.raise l) = good_need (Longer m) _ _ _ λ _. extends_refl refl

moved_lines : (m n : Memory) (p : Place) (l : Level) → Longer m n → Longer m (with_cursor n p l)
unfolding Longer with_cursor
moved_lines m n p l h = h

-- what a reader sees of lines begins what they see of more lines
seen_extends : (o : Level) (xs ys : List Line) → Extends xs ys → Extends (seen_lines o xs) (seen_lines o ys)
seen_extends o xs ys h = record { prefix = (seen_lines o h.prefix.0, sym (seen_append o xs h.prefix.0) ∙ ap (seen_lines o) h.prefix.1) }

-- the lines so far begin those of the whole run
pub run_longer : (lent : Buffers) (cs : List Command) (n : ℕ) (s : State) → Extends s.memory.lines (run lent cs n s).last.memory.lines
unfolding Longer
run_longer lent cs n s =
    memory_keeps lent cs (Longer s.memory)
    (λ pc m a h. good_map (Longer m) (Longer s.memory) (λ m' k. extends_trans h k) (effect lent pc m a) (effect_lines pc m lent a))
    (moved_lines s.memory) n s (extends_refl refl)

-- for every reader
pub run_lines : (lent : Buffers) (cs : List Command) (o : Level) (n : ℕ) (s : State)
    → Extends (seen_lines o s.memory.lines) (seen_lines o (run lent cs n s).last.memory.lines)
run_lines lent cs o n s = seen_extends o _ _ (run_longer lent cs n s)
