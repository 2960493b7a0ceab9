-- What a reader sees of a memory and of open blocks, and confinement: an action whose context the reader does not see changes nothing of it. Assumes nothing.
use mathlib.Core.Path.{◌≡◌, refl, ap}
use Prim.Native.Nat.{ℕ, zero, suc}
use mathlib.Core.Bool.{true, false, cond}
use mathlib.Core.Option.{Option, none, some}
use mathlib.Core.List.{List, [], ◌∷◌, map}
use lib.ListN.{get_or, set}
use lib.IntN.{ℤ}
use Rattle.rules.specs.Level.{Level, not_above, visible}
use Rattle.rules.specs.Tree.{Forest, nil, tree, Place, label, exists}
use Rattle.rules.specs.Script.{Expression, Action}
use Rattle.rules.specs.Job.{Variable}
use Rattle.rules.specs.Run.{Line, Memory, Saved, Block, Buffers, no_variable, variable_at, current, with_variables, with_tree, with_cursor, with_line, position, flow_of, context_flow, assign, output, move_to, go_joining, go_to, go_to_last, may_touch, new_label, insert_at, remove_at, write, effect}
use Rattle.rules.specs.Public.{SeenVariable, seen_variable, seen_value, seen_lines}
use Rattle.rules.proofs.Tests.{clash}
use Rattle.rules.proofs.Lattice.{hid_up, hid_left, hid_right}
use Rattle.rules.proofs.Cut.{cut, cut_kept, insert_hidden, remove_hidden, set_hidden}
use Rattle.rules.proofs.Seen.{seen_hidden}
use Rattle.rules.proofs.Results.{Good, good_need, good_given}
use Rattle.rules.proofs.Sound.{Sound, there}

pub record View : Type 0 where
  pub variables : List SeenVariable
  pub tree : Forest
  pub cursor : Option Saved
  pub lines : List Line

-- what is seen of a block: its guard, whether it comes back, and to what if that is seen
pub record SeenBlock : Type 0 where
  pub guard : Level
  pub saved : Option (Option Saved)

-- an element that looks the same, in place of another
map_set : {A B : Type 0} (f : A → B) (xs : List A) (i : ℕ) (x d : A) → f x ≡ f (get_or xs i d) → map f (set xs i x) ≡ map f xs
map_set f [] i x d h = refl
map_set f (y ∷ ys) zero x d h = ap (λ z. z ∷ map f ys) h
map_set f (y ∷ ys) (suc i) x d h = ap (λ z. f y ∷ z) (map_set f ys i x d h)

module _ (o : Level) where
  -- a place that is remembered, where its level is visible
  unfoldable pub seen_at : Option Place → Level → Option Saved
  seen_at p l = cond (visible o l) (some (record { place = p; level = l })) none

  -- the cursor, where its level is visible
  unfoldable pub seen_cursor : Place → Level → Option Saved
  seen_cursor p l = seen_at (some p) l

  unfoldable pub seen_saved : Option Saved → Option (Option Saved)
  seen_saved none = none
  seen_saved (some r) = some (seen_at r.place r.level)

  unfoldable pub seen_block : Block → SeenBlock
  seen_block b = record { guard = b.guard; saved = seen_saved b.saved }

  unfoldable pub looks : List Block → List SeenBlock
  looks bs = map seen_block bs

  unfoldable pub view : Memory → View
  view m =
      record { variables = map (seen_variable o) m.variables; tree = cut o m.tree; cursor = seen_cursor m.cursor m.level; lines = seen_lines o m.lines }

  -- a memory that looks as m does
  unfoldable pub Kept : Memory → Memory → Type 0
  Kept m m' = view m' ≡ view m

  kept_tree : (m : Memory) (t : Forest) → cut o t ≡ cut o m.tree → Kept m (with_tree m t)
  unfolding Kept view with_tree
  kept_tree m t h = rw h

  -- the cursor moves, unseen before and after
  pub kept_cursor : (m : Memory) (p : Place) (l : Level) → visible o m.level ≡ false → visible o l ≡ false → Kept m (with_cursor m p l)
  unfolding Kept view with_cursor seen_cursor seen_at
  kept_cursor m p l e h = rw (e, h)

  hidden_variable : (v : Variable) (z : ℤ) → visible o v.level ≡ false → seen_variable o (record { level = v.level; value = z }) ≡ seen_variable o v
  unfolding seen_variable seen_value
  hidden_variable v z e = rw e

  -- actions on the tree from a position that is not seen
  module _ (pc : Level) (m : Memory) (sound : Sound m) (dark : visible o (position pc m) ≡ false) where
    touched : (x : Forest) → exists x ≡ true → may_touch pc m x ≡ true → visible o (label x).existence ≡ false
    unfolding may_touch label exists
    touched nil e h = clash e refl
    touched (tree l c r) e h = hid_up o _ _ h dark

    cut_touched : (x : Forest) → may_touch pc m x ≡ true → cut o x ≡ nil
    unfolding may_touch cut
    cut_touched nil h = refl
    cut_touched (tree l c r) h = rw (hid_up o _ _ h dark)

    new_hidden : (c l : Level) (e : Expression) (z : ℤ) → visible o (new_label pc m c l e z).existence ≡ false
    unfolding new_label
    new_hidden c l e z = dark

    flow_hidden : (e : Expression) → visible o (flow_of pc m e) ≡ false
    unfolding flow_of
    flow_hidden e = hid_right o _ _ dark

    pub kept_insert : (places : ℕ) (p : Place) (q : Option Place) (c l : Level) (e : Expression) → Good (Kept m) (insert_at pc m places p q c l e)
    unfolding insert_at
    kept_insert places p none c l e = tt
    kept_insert places p (some q) c l e =
        good_need (Kept m) _ _ _ λ _. good_need (Kept m) _ _ _ λ h. good_given (Kept m) _ _ λ z. good_need (Kept m) _ _ _ λ _.
        kept_tree m _ (cut_kept o p _ m.tree (insert_hidden o _ _ (new_hidden c l e z) (cut_touched _ h)))

    pub kept_remove : (p : Place) → Good (Kept m) (remove_at pc m p)
    unfolding remove_at
    kept_remove p =
        good_need (Kept m) _ _ _ λ e. good_need (Kept m) _ _ _ λ h.
        kept_tree m _ (cut_kept o p _ m.tree (remove_hidden o _ _ _ (there m sound p) (touched _ e h)))

    pub kept_write : (e : Expression) → Good (Kept m) (write pc m e)
    unfolding write current
    kept_write e =
        good_need (Kept m) _ _ _ λ h. good_given (Kept m) _ _ λ _.
        kept_tree m _ (cut_kept o m.cursor _ m.tree (set_hidden o _ _ (hid_up o _ _ h (flow_hidden e))))

  -- moves, where the rule lets through only what is not seen

  pub kept_move : (pc : Level) (m : Memory) (p : Place) (l : Level)
      → (not_above pc m.level ≡ true → (visible o m.level ≡ false) × (visible o l ≡ false)) → Good (Kept m) (move_to pc m p l)
  unfolding move_to
  kept_move pc m p l k = good_need (Kept m) _ _ _ λ h. kept_cursor m p l (k h).0 (k h).1

  pub kept_go : (pc : Level) (m : Memory) (l : Place → Level) (q : Option Place) → (not_above pc m.level ≡ true → visible o m.level ≡ false)
      → Good (Kept m) (go_joining pc m l q)
  unfolding go_joining
  kept_go pc m l none k = tt
  kept_go pc m l (some p) k = good_need (Kept m) _ _ _ λ _. kept_move pc m p _ (λ h. (k h, hid_left o _ _ (k h)))

  module _ (pc : Level) (m : Memory) (sound : Sound m) (dark : visible o pc ≡ false) where
    below : visible o (position pc m) ≡ false
    unfolding position
    below = hid_left o _ _ dark

    level_hidden : not_above pc m.level ≡ true → visible o m.level ≡ false
    level_hidden h = hid_up o _ _ h dark

    context_hidden : (e : Expression) → visible o (context_flow pc m e) ≡ false
    unfolding context_flow
    context_hidden e = hid_right o _ _ dark

    kept_assign : (i : ℕ) (e : Expression) → Good (Kept m) (assign pc m i (variable_at m.variables i) e)
    unfolding assign variable_at Kept view with_variables
    kept_assign i e =
        good_need (Kept m) _ _ _ λ h. good_given (Kept m) _ _ λ _.
        let k = map_set (seen_variable o) m.variables i _ no_variable (hidden_variable _ _ (hid_up o _ _ h (context_hidden e))) in
        λ j. record { variables = k j; tree = (view m).tree; cursor = (view m).cursor; lines = (view m).lines }

    kept_output : (capacity : ℕ) (r : Level) (e : Expression) → Good (Kept m) (output pc m capacity r e)
    unfolding output Kept view with_line
    kept_output capacity r e =
        good_need (Kept m) _ _ _ λ h. good_given (Kept m) _ _ λ z. good_need (Kept m) _ _ _ λ _.
        let k = seen_hidden o m.lines z r (hid_up o _ _ h (context_hidden e)) in
        λ j. record { variables = (view m).variables; tree = (view m).tree; cursor = (view m).cursor; lines = k j }

    -- confinement
    pub confined : (lent : Buffers) (a : Action) → Good (Kept m) (effect lent pc m a)
    unfolding effect Kept go_to go_to_last
    confined lent Action.skip = refl
    confined lent (Action.assign i e) = kept_assign i e
    confined lent (Action.output r e) = kept_output _ r e
    confined lent Action.goRoot = kept_move pc m _ _ (λ h. (level_hidden h, dark))
    confined lent Action.goParent = kept_go pc m _ _ level_hidden
    confined lent (Action.go d) = kept_go pc m _ _ level_hidden
    confined lent Action.goLeft = kept_go pc m _ _ level_hidden
    confined lent Action.goLast = kept_go pc m _ _ level_hidden
    confined lent (Action.insert d c l e) = kept_insert pc m sound below _ _ _ c l e
    confined lent (Action.remove d) = kept_remove pc m sound below _
    confined lent (Action.write e) = kept_write pc m sound below e
    confined lent (Action.raise l) = kept_move pc m _ _ (λ h. (level_hidden h, hid_left o _ _ (level_hidden h)))
