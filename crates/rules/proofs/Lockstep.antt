-- Two memories with the same view, in one context that the reader sees: after the same action in both, wherever both go on, the views are
-- the same again. Where the cursor is seen both do the same to the cut; where it is not, each is confined. Assumes nothing.
use mathlib.Core.Path.{◌≡◌, refl, sym, ◌∙◌, ap}
use Prim.Native.Nat.{ℕ, zero, suc}
use mathlib.Core.Bool.{true, false}
use mathlib.Core.Option.{Option, none, some, some-injective}
use Rattle.std.specs.Prelude.{Some}
use Rattle.std.proofs.lemmas.Option.{same_Some}
use mathlib.Core.List.{List, [], ◌∷◌, map}
use lib.ListN.{set}
use lib.IntN.{ℤ}
use Rattle.rules.specs.Level.{Level, join, not_above, visible}
use Rattle.rules.specs.Tree as Tree
use Rattle.rules.specs.Tree.{Forest, Side, Place, root, to, up, left_of, sub, last_of, label, exists, change, set_value, with_value}
use Rattle.rules.specs.Script.{Expression, Action}
use Rattle.rules.specs.Job.{Variable}
use Rattle.rules.specs.Run.{Memory, Buffers, absent, Result, variable_at, current, level_of, value, with_variables, with_tree, with_cursor, with_line, position, flow_of, context_flow, assign, output, move_to, go_joining, go_to, go_to_last, new_label, insert_at, remove_at, write, effect}
use Rattle.rules.specs.Public.{seen_variable, seen_value}
use Rattle.rules.proofs.Tests.{Test, holds, fails, test}
use Rattle.rules.proofs.Lattice.{vis_down, vis_both, vis_left, hid_left, hid_right}
use Rattle.rules.proofs.Cut.{mask, cut_label, cut, cut_change, insert_seen, remove_seen, set_seen, Heads, seen, hidden, heads}
use Rattle.rules.proofs.Seen.{seen_same}
use Rattle.rules.proofs.Results.{Good, Good₂, good₂_need, good₂_given, good₂_stop, good₂_of}
use Rattle.rules.proofs.Sound.{Sound, there}
use Rattle.rules.proofs.View.{view, seen_at, seen_cursor, Kept, kept_go, kept_insert, kept_remove, kept_write}
use Rattle.rules.proofs.Alike.{Agrees, agree_value, agree_level, agree_hidden, expressions, lasts, levels_eq, existence_eq, content_eq, tree_eq, variables_eq, variable_eq, Cursors, seen_both, seen_neither, cursors, subs, nodes}

map_set : {A B : Type 0} (f : A → B) (xs : List A) (i : ℕ) (x : A) → map f (set xs i x) ≡ set (map f xs) i (f x)
map_set f [] i x = refl
map_set f (y ∷ ys) zero x = refl
map_set f (y ∷ ys) (suc i) x = ap (λ z. f y ∷ z) (map_set f ys i x)

module _ (o : Level) where
  unfoldable pub SameView : Memory → Memory → Type 0
  SameView m n = view o m ≡ view o n

  -- one level, and one value where it is visible, look the same

  mask_eq : (l₁ l₂ : Level) (z₁ z₂ : ℤ) → l₁ ≡ l₂ → (visible o l₁ ≡ true → z₁ ≡ z₂) → mask o l₁ z₁ ≡ mask o l₂ z₂
  unfolding mask
  mask_eq l₁ l₂ z₁ z₂ l k = pick (test (visible o l₁))
    where
      pick : Test (visible o l₁) → mask o l₁ z₁ ≡ mask o l₂ z₂
      pick (holds e) = rw (← l, k e)
      pick (fails e) = rw (← l, e)

  variable_same : (w₁ w₂ : Variable) (z₁ z₂ : ℤ) → seen_variable o w₁ ≡ seen_variable o w₂ → (visible o w₁.level ≡ true → z₁ ≡ z₂)
      → seen_variable o (record { level = w₁.level; value = z₁ }) ≡ seen_variable o (record { level = w₂.level; value = z₂ })
  unfolding seen_variable seen_value
  variable_same w₁ w₂ z₁ z₂ h k = pick (test (visible o w₁.level))
    where
      l : w₁.level ≡ w₂.level
      l = ap (λ w. w.level) h

      pick : Test (visible o w₁.level) → seen_variable o (record { level = w₁.level; value = z₁ }) ≡ seen_variable o (record { level = w₂.level; value = z₂ })
      pick (holds e) = rw (k e, l)
      pick (fails e) = rw (e, l, rw l at e)

  module _
      (lent₁ lent₂ : Buffers) (pc : Level) (light : visible o pc ≡ true) (m₁ m₂ : Memory) (s₁ : Sound m₁) (s₂ : Sound m₂) (v : view o m₁ ≡ view o m₂)
    where
      -- two values that an expression has, one where its level is visible
      one_value : (e : Expression) (y z : ℤ) → value m₁ e ≡ Some y → value m₂ e ≡ Some z → visible o (level_of m₁ e) ≡ true → y ≡ z
      one_value e y z a b k = same_Some y z (sym a ∙ agree_value o (expressions o m₁ m₂ s₁ s₂ v e) k ∙ b)

      -- and so where that level, joined with another, is not above a visible one
      value_eq : (e : Expression) (y z : ℤ) → value m₁ e ≡ Some y → value m₂ e ≡ Some z → (x l : Level)
          → not_above (join (level_of m₁ e) x) l ≡ true → visible o l ≡ true → y ≡ z
      value_eq e y z a b x l h k = one_value e y z a b (vis_left o _ _ (vis_down o _ _ h k))

      view_tree : (t u : Forest) → cut o t ≡ cut o u → SameView (with_tree m₁ t) (with_tree m₂ u)
      unfolding SameView view with_tree
      view_tree t u h = λ i. record { variables = (v i).variables; tree = h i; cursor = (v i).cursor; lines = (v i).lines }

      view_cursor : (p q : Place) (l k : Level) → seen_cursor o p l ≡ seen_cursor o q k → SameView (with_cursor m₁ p l) (with_cursor m₂ q k)
      unfolding SameView view with_cursor
      view_cursor p q l k h = λ i. record { variables = (v i).variables; tree = (v i).tree; cursor = h i; lines = (v i).lines }

      -- by the cursors: seen at one place, or each memory is kept
      by_cursor : (act : Buffers → Memory → Result Memory)
          → (visible o m₁.level ≡ true → m₁.cursor ≡ m₂.cursor → m₁.level ≡ m₂.level → Good₂ SameView (act lent₁ m₁) (act lent₂ m₂))
          → ((lent : Buffers) (m : Memory) → Sound m → visible o m.level ≡ false → Good (Kept o m) (act lent m))
          → Good₂ SameView (act lent₁ m₁) (act lent₂ m₂)
      unfolding SameView Kept
      by_cursor act light dark = pick (cursors o m₁ m₂ s₁ s₂ v)
        where
          pick : Cursors o m₁ m₂ s₁ s₂ v → Good₂ SameView (act lent₁ m₁) (act lent₂ m₂)
          pick (seen_both e p l) = light e p l
          pick (seen_neither e f) =
              good₂_of (Kept o m₁) (Kept o m₂) SameView (λ s t h k. h ∙ v ∙ sym k) (act lent₁ m₁) (act lent₂ m₂) (dark lent₁ m₁ s₁ e) (dark lent₂ m₂ s₂ f)

      -- 1
      lock_assign : (i : ℕ) (e : Expression)
          → Good₂ SameView (assign pc m₁ i (variable_at m₁.variables i) e) (assign pc m₂ i (variable_at m₂.variables i) e)
      unfolding assign context_flow SameView view with_variables
      lock_assign i e =
          good₂_need SameView _ _ _ _ _ _ λ h _. good₂_given SameView _ _ _ _ λ y z a b.
          let w = variable_same _ _ y z (variable_eq o m₁ m₂ s₁ s₂ v i) (value_eq e y z a b _ _ h) in
          let k = map_set (seen_variable o) m₁.variables i _ ∙ (λ j. set (variables_eq o m₁ m₂ s₁ s₂ v j) i (w j)) ∙ sym (map_set (seen_variable o) m₂.variables i _) in
          λ j. record { variables = k j; tree = (v j).tree; cursor = (v j).cursor; lines = (v j).lines }

      -- 6
      lock_output : (n₁ n₂ : ℕ) (r : Level) (e : Expression) → Good₂ SameView (output pc m₁ n₁ r e) (output pc m₂ n₂ r e)
      unfolding output context_flow SameView view with_line
      lock_output n₁ n₂ r e =
          good₂_need SameView _ _ _ _ _ _ λ h _. good₂_given SameView _ _ _ _ λ y z a b. good₂_need SameView _ _ _ _ _ _ λ _ _.
          let w = seen_same o m₁.lines m₂.lines y z r (ap (λ x. x.lines) v) (value_eq e y z a b _ r h) in
          λ j. record { variables = (v j).variables; tree = (v j).tree; cursor = (v j).cursor; lines = w j }

      -- 7
      lock_root : Good₂ SameView (move_to pc m₁ root pc) (move_to pc m₂ root pc)
      unfolding move_to
      lock_root = good₂_need SameView _ _ _ _ _ _ λ _ _. view_cursor _ _ _ _ refl

      -- 16: where the cursor is not seen, neither is the level that it is raised to
      lock_raise : (k : Level) → Good₂ SameView (move_to pc m₁ m₁.cursor (join m₁.level k)) (move_to pc m₂ m₂.cursor (join m₂.level k))
      unfolding move_to seen_cursor seen_at
      lock_raise k = good₂_need SameView _ _ _ _ _ _ λ _ _. view_cursor _ _ _ _ (pick (cursors o m₁ m₂ s₁ s₂ v))
        where
          pick : Cursors o m₁ m₂ s₁ s₂ v → seen_cursor o m₁.cursor (join m₁.level k) ≡ seen_cursor o m₂.cursor (join m₂.level k)
          pick (seen_both e p l) = λ i. seen_cursor o (p i) (join (l i) k)
          pick (seen_neither e f) = rw (hid_left o _ k e, hid_left o _ k f)

      -- two moves to nodes, where the cursors look the same behind them
      lock_joining : (j k : Place → Level) (a b : Option Place)
          → ((p q : Place) → a ≡ some p → b ≡ some q → exists (sub p m₁.tree) ≡ true → exists (sub q m₂.tree) ≡ true
          → seen_cursor o p (join m₁.level (j p)) ≡ seen_cursor o q (join m₂.level (k q)))
          → Good₂ SameView (go_joining pc m₁ j a) (go_joining pc m₂ k b)
      unfolding go_joining move_to
      lock_joining j k none b h = tt
      lock_joining j k (some p) none h = good₂_stop SameView (go_joining pc m₁ j (some p)) absent
      lock_joining j k (some p) (some q) h =
          good₂_need SameView _ _ _ _ _ _ λ x y. good₂_need SameView _ _ _ _ _ _ λ _ _. view_cursor _ _ _ _ (h p q refl refl x y)

      -- 8, 9, 10 and 18: at the same place
      node_seen : (p q : Place) → p ≡ q → m₁.level ≡ m₂.level → exists (sub p m₁.tree) ≡ true → exists (sub q m₂.tree) ≡ true
          → seen_cursor o p (join m₁.level (label (sub p m₁.tree)).existence) ≡ seen_cursor o q (join m₂.level (label (sub q m₂.tree)).existence)
      unfolding seen_cursor seen_at
      node_seen p q place l x y = pick (heads o _ _ x y (subs o m₁ m₂ s₁ s₂ v p ∙ ap (λ x. cut o (sub x m₂.tree)) place))
        where
          pick : Heads o (sub p m₁.tree) (sub q m₂.tree)
              → seen_cursor o p (join m₁.level (label (sub p m₁.tree)).existence) ≡ seen_cursor o q (join m₂.level (label (sub q m₂.tree)).existence)
          pick (seen a h c) = λ i. seen_cursor o (place i) (join (l i) (existence_eq o _ _ h i))
          pick (hidden a b) = rw (hid_right o m₁.level _ a, hid_right o m₂.level _ b)

      -- which both find from their cursors
      lock_go : (f : Place → Option Place) → Good₂ SameView (go_to pc m₁ (f m₁.cursor)) (go_to pc m₂ (f m₂.cursor))
      unfolding go_to
      lock_go f =
          by_cursor (λ lent m. go_to pc m (f m.cursor))
          (λ e c l. lock_joining _ _ _ _ λ p q a b x y. node_seen p q (some-injective _ _ (sym a ∙ ap f c ∙ b)) l x y)
          (λ lent m s e. kept_go o pc m _ _ (λ _. e))

      -- 19: at one place where the list of children is seen, else at a level that is not
      last_seen : (j k : Level) (a b : Option Place) (p q : Place) → Agrees o j k a b → a ≡ some p → b ≡ some q → seen_cursor o p j ≡ seen_cursor o q k
      unfolding seen_cursor seen_at
      last_seen j k a b p q agree x y = pick (test (visible o j))
        where
          pick : Test (visible o j) → seen_cursor o p j ≡ seen_cursor o q k
          pick (holds e) = λ i. seen_cursor o (some-injective _ _ (sym x ∙ agree_value o agree e ∙ y) i) (agree_level o agree e i)
          pick (fails e) = rw (e, agree_hidden o agree e)

      lock_last : Good₂ SameView (go_to_last pc m₁) (go_to_last pc m₂)
      unfolding go_to_last
      lock_last = lock_joining _ _ _ _ λ p q a b _ _. last_seen _ _ _ _ p q (lasts o m₁ m₂ s₁ s₂ v) a b

      -- the same done to the cut at the same place
      cut_eq : (p q : Place) (f g h k : Forest → Forest) → p ≡ q → h ≡ k → cut o (f (sub p m₁.tree)) ≡ h (cut o (sub p m₁.tree))
          → cut o (g (sub q m₂.tree)) ≡ k (cut o (sub q m₂.tree)) → cut o (change p f m₁.tree) ≡ cut o (change q g m₂.tree)
      cut_eq p q f g h k w x a b =
          cut_change o p f h m₁.tree a ∙ (λ i. change (w i) (x i) (tree_eq o m₁ m₂ s₁ s₂ v i)) ∙ sym (cut_change o q g k m₂.tree b)

      position_eq : m₁.level ≡ m₂.level → position pc m₁ ≡ position pc m₂
      unfolding position
      position_eq l = ap (join pc) l

      position_seen : visible o m₁.level ≡ true → visible o (position pc m₁) ≡ true
      unfolding position
      position_seen e = vis_both o _ _ light e

      position_hidden : (m : Memory) → visible o m.level ≡ false → visible o (position pc m) ≡ false
      unfolding position
      position_hidden m e = hid_right o _ _ e

      -- 11 and 12
      new_eq : visible o m₁.level ≡ true → m₁.cursor ≡ m₂.cursor → m₁.level ≡ m₂.level → (b k : Level) (e : Expression) (y z : ℤ)
          → value m₁ e ≡ Some y → value m₂ e ≡ Some z → cut_label o (new_label pc m₁ b k e y) ≡ cut_label o (new_label pc m₂ b k e z)
      unfolding cut_label with_value new_label flow_of
      new_eq a p l b k e y z d g =
          let h = position_eq l in
          let c : join (flow_of pc m₁ e) b ≡ join (flow_of pc m₂ e) b = λ i. join (join (levels_eq o m₁ m₂ s₁ s₂ v a p l e i) (h i)) b in
          let w = mask_eq _ _ y z c (λ q. one_value e y z d g (vis_left o _ _ (vis_left o _ _ q))) in
          λ i. record { value = w i; existence = h i; content = c i; structure = join (h i) k }

      new_seen : (m : Memory) (b k : Level) (e : Expression) (z : ℤ) → visible o (position pc m) ≡ true → visible o (new_label pc m b k e z).existence ≡ true
      unfolding new_label
      new_seen m b k e z h = h

      insert_seen_at : (n₁ n₂ : ℕ) (p q : Place) (c d : Option Place) (b k : Level) (e : Expression) → p ≡ q → visible o m₁.level ≡ true
          → m₁.cursor ≡ m₂.cursor → m₁.level ≡ m₂.level → Good₂ SameView (insert_at pc m₁ n₁ p c b k e) (insert_at pc m₂ n₂ q d b k e)
      unfolding insert_at
      insert_seen_at n₁ n₂ p q none d b k e w a u l = tt
      insert_seen_at n₁ n₂ p q (some c) none b k e w a u l = good₂_stop SameView (insert_at pc m₁ n₁ p (some c) b k e) absent
      insert_seen_at n₁ n₂ p q (some c) (some d) b k e w a u l =
          good₂_need SameView _ _ _ _ _ _ λ _ _. good₂_need SameView _ _ _ _ _ _ λ _ _. good₂_given SameView _ _ _ _ λ y z f g.
          good₂_need SameView _ _ _ _ _ _ λ _ _.
          view_tree _ _
          (cut_eq p q _ _ _ _ w (ap Tree.insert (new_eq a u l b k e y z f g)) (insert_seen o _ _ (new_seen m₁ b k e y (position_seen a)))
          (insert_seen o _ _ (new_seen m₂ b k e z (rw (← position_eq l) (position_seen a)))))

      lock_insert : (d : Side) (b k : Level) (e : Expression) → Good₂ SameView (effect lent₁ pc m₁ (Action.insert d b k e)) (effect lent₂ pc m₂ (Action.insert d b k e))
      unfolding effect
      lock_insert d b k e =
          by_cursor (λ lent m. insert_at pc m lent.places (to d m.cursor) (up (to d m.cursor)) b k e)
          (λ a p l. insert_seen_at _ _ _ _ _ _ b k e (ap (to d) p) a p l) (λ lent m s a. kept_insert o pc m s (position_hidden m a) _ _ _ b k e)

      -- 13 and 14
      lock_remove : (d : Side) → Good₂ SameView (remove_at pc m₁ (to d m₁.cursor)) (remove_at pc m₂ (to d m₂.cursor))
      unfolding remove_at
      lock_remove d =
          by_cursor (λ lent m. remove_at pc m (to d m.cursor))
          (λ a p l.
          good₂_need SameView _ _ _ _ _ _ λ _ _. good₂_need SameView _ _ _ _ _ _ λ _ _.
          view_tree _ _
          (cut_eq _ _ _ _ Tree.remove Tree.remove (ap (to d) p) refl (remove_seen o _ _ _ (there m₁ s₁ (to d m₁.cursor))) (remove_seen o _ _ _ (there m₂ s₂ (to d m₂.cursor)))))
          (λ lent m s a. kept_remove o pc m s (position_hidden m a) _)

      -- 15
      lock_write : (e : Expression) → Good₂ SameView (write pc m₁ e) (write pc m₂ e)
      unfolding write flow_of current
      lock_write e =
          by_cursor (λ lent m. write pc m e)
          (λ a p l.
          good₂_need SameView _ _ _ _ _ _ λ h _. good₂_given SameView _ _ _ _ λ y z f g.
          let c = content_eq o _ _ (nodes o m₁ m₂ s₁ s₂ v a p).labels in
          view_tree _ _
          (cut_eq _ _ _ _ _ _ p (ap set_value (mask_eq _ _ y z c (value_eq e y z f g _ _ h))) (set_seen o _ _) (set_seen o _ _)))
          (λ lent m s a. kept_write o pc m s (position_hidden m a) e)

      pub lockstep : (a : Action) → Good₂ SameView (effect lent₁ pc m₁ a) (effect lent₂ pc m₂ a)
      unfolding effect SameView
      lockstep Action.skip = v
      lockstep (Action.assign i e) = lock_assign i e
      lockstep (Action.output r e) = lock_output _ _ r e
      lockstep Action.goRoot = lock_root
      lockstep Action.goParent = lock_go up
      lockstep (Action.go d) = lock_go (λ p. some (to d p))
      lockstep Action.goLeft = lock_go left_of
      lockstep Action.goLast = lock_last
      lockstep (Action.insert d b k e) = lock_insert d b k e
      lockstep (Action.remove d) = lock_remove d
      lockstep (Action.write e) = lock_write e
      lockstep (Action.raise k) = lock_raise k
