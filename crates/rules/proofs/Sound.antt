-- What every action whose sets are levels keeps, in a context that is a level: the tree rules, a cursor on a node whose existence is not above the cursor level,
-- and that all levels are levels. So C is never below the working node's existence. Assumes nothing.
use mathlib.Core.Path.{◌≡◌, refl, ◌∙◌, ap}
use Prim.Native.Nat.{ℕ, zero, suc}
use mathlib.Core.Bool.{true}
use mathlib.Core.Option.{Option, none, some}
use mathlib.Core.List.{List, [], ◌∷◌}
use lib.ListN.{set}
use lib.IntN.{ℤ}
use Rattle.rules.specs.Level.{Level, public, join, not_above, is_level}
use Rattle.rules.specs.Tree as Tree
use Rattle.rules.specs.Tree.{Forest, nil, tree, Side, child, Place, root, to, up, sub, last_of, label, exists, change, on_side, remove, set_value, with_value, Levels, Fits, TreeRules}
use Rattle.rules.specs.Script.{Operand, Expression, alone, Action}
use Rattle.rules.specs.Script as Script
use Rattle.rules.specs.Job.{Variable, all_levels}
use Rattle.rules.specs.Run.{Memory, Buffers, no_variable, variable_at, current, operand_level, level_of, with_variables, with_tree, with_cursor, with_line, position, flow_of, assign, output, move_to, go_joining, go_to, go_to_last, may_touch, new_label, insert_at, remove_at, write, effect}
use Rattle.rules.proofs.Tests.{both}
use Rattle.rules.proofs.Lattice.{na_public, na_refl, na_trans, na_left, na_right, level_public, level_join}
use Rattle.rules.proofs.Trees.{lo_at, hi_of, hi_at, fits_sub, fits_change, fit_first, hi_parent, last_under, fits_remove, fits_value, sub_change, exists_sub, on_exists, on_label}
use Rattle.rules.proofs.Results.{Good, good_need, good_given}

all_at : (vs : List Variable) (i : ℕ) → all_levels vs ≡ true → is_level (variable_at vs i).level ≡ true
unfolding variable_at no_variable all_levels
all_at [] i h = level_public
all_at (v ∷ vs) zero h = (both (is_level v.level) (all_levels vs) h).0
all_at (v ∷ vs) (suc i) h = all_at vs i (both (is_level v.level) (all_levels vs) h).1

all_set : (vs : List Variable) (i : ℕ) (w : Variable) → is_level w.level ≡ true → all_levels vs ≡ true → all_levels (set vs i w) ≡ true
unfolding all_levels
all_set [] i w e h = refl
all_set (v ∷ vs) zero w e h = rw e (both (is_level v.level) (all_levels vs) h).1
all_set (v ∷ vs) (suc i) w e h = let k = both (is_level v.level) (all_levels vs) h in rw k.0 (all_set vs i w e k.1)

pub record Sound (m : Memory) : Type 0 where
  pub rules : TreeRules m.tree
  pub stands : exists (current m) ≡ true
  pub covered : not_above (label (current m)).existence m.level ≡ true
  pub cursor : is_level m.level ≡ true
  pub variables : all_levels m.variables ≡ true

-- the sets that an action joins to a node or to the cursor level are levels
abbrev pub Sets : Action → Type 0
Sets (Action.insert d c l e) = (is_level c ≡ true) × (is_level l ≡ true)
Sets (Action.raise l) = is_level l ≡ true
Sets Action.skip = Unit {0}
Sets (Action.assign i e) = Unit {0}
Sets (Action.output r e) = Unit {0}
Sets Action.goRoot = Unit {0}
Sets Action.goParent = Unit {0}
Sets (Action.go d) = Unit {0}
Sets Action.goLeft = Unit {0}
Sets Action.goLast = Unit {0}
Sets (Action.remove d) = Unit {0}
Sets (Action.write e) = Unit {0}

root_public : (t : Forest) → exists t ≡ true → TreeRules t → not_above (label t).existence public ≡ true
root_public t e f = (fit_first _ _ t e f).under

module _ (m : Memory) (sound : Sound m) where
  -- the rules at a place
  pub there : (p : Place) → Fits (lo_at public p m.tree) (hi_at public p m.tree) (sub p m.tree)
  there p = fits_sub p m.tree public public sound.rules

  node_levels : (p : Place) → exists (sub p m.tree) ≡ true → Levels (label (sub p m.tree))
  node_levels p e = (fit_first _ _ (sub p m.tree) e (there p)).levels

  here_levels : Levels (label (current m))
  unfolding current
  here_levels = node_levels m.cursor sound.stands

  operand_level_law : (a : Operand) → is_level (operand_level m a) ≡ true
  unfolding operand_level
  operand_level_law (Operand.constant z) = level_public
  operand_level_law (Operand.variable i) = all_at m.variables i sound.variables
  operand_level_law Operand.value = level_join _ _ sound.cursor here_levels.content
  operand_level_law Operand.children = level_join _ _ sound.cursor here_levels.structure

  -- a guard is a level
  pub expression_level : (e : Expression) → is_level (level_of m e) ≡ true
  unfolding level_of
  expression_level (alone a) = operand_level_law a
  expression_level (Script.both f a b) = level_join _ _ (operand_level_law a) (operand_level_law b)

  -- the memory with the cursor elsewhere
  pub moved : (p : Place) (l : Level) → exists (sub p m.tree) ≡ true → not_above (label (sub p m.tree)).existence l ≡ true → is_level l ≡ true
      → Sound (with_cursor m p l)
  unfolding with_cursor current
  moved p l e h k = record { rules = sound.rules; stands = e; covered = h; cursor = k; variables = sound.variables }

  -- the memory with a tree in which the working node is still there
  changed : (g : Forest → Forest) → ((x : Forest) → exists (g x) ≡ exists x) → ((x : Forest) → (label (g x)).existence ≡ (label x).existence)
      → TreeRules (change m.cursor g m.tree) → Sound (with_tree m (change m.cursor g m.tree))
  unfolding with_tree current
  changed g h k f =
      let e = sub_change m.cursor g m.tree sound.stands in
      record {
        rules = f;
        stands = rw e (h _ ∙ sound.stands);
        covered = rw (e, k) sound.covered;
        cursor = sound.cursor;
        variables = sound.variables;
      }

  -- a change beside the working node
  beside : (d : Side) (f : Forest → Forest)
      → Fits (label (current m)).existence (hi_at public (to d m.cursor) m.tree) (f (sub (to d m.cursor) m.tree))
      → Sound (with_tree m (change (to d m.cursor) f m.tree))
  unfolding current change lo_at
  beside d f k =
      changed (on_side d f) (on_exists d f) (λ x. ap (λ l. l.existence) (on_label d f x))
      (fits_change (to d m.cursor) f m.tree public public sound.rules k)

  pub fits_beside : (d : Side) → Fits (label (current m)).existence (hi_at public (to d m.cursor) m.tree) (sub (to d m.cursor) m.tree)
  unfolding current lo_at
  fits_beside d = there (to d m.cursor)

  set_exists : (v : ℤ) (x : Forest) → exists (set_value v x) ≡ exists x
  unfolding exists set_value
  set_exists v nil = refl
  set_exists v (tree l c r) = refl

  set_existence : (v : ℤ) (x : Forest) → (label (set_value v x)).existence ≡ (label x).existence
  unfolding label set_value with_value
  set_existence v nil = refl
  set_existence v (tree l c r) = refl

  module _ (pc : Level) (known : is_level pc ≡ true) where
    position_level : is_level (position pc m) ≡ true
    unfolding position
    position_level = level_join _ _ known sound.cursor

    -- what stands behind a new node keeps the rules
    behind : (lo hi : Level) (x : Forest) → may_touch pc m x ≡ true → Fits lo hi x → Fits (position pc m) hi x
    unfolding may_touch
    behind lo hi nil h k = tt
    behind lo hi (tree l c r) h k =
        let f = k.0 in
        (record { levels = f.levels; above = h; under = f.under; content = f.content; structure = f.structure }, k.1, k.2)

    new_fits : (lo hi : Level) (b k : Level) (e : Expression) (z : ℤ) (x : Forest) → is_level b ≡ true → is_level k ≡ true → not_above lo (position pc m) ≡ true → not_above (position pc m) hi ≡ true
        → may_touch pc m x ≡ true → Fits lo hi x → Fits lo hi (Tree.insert (new_label pc m b k e z) x)
    unfolding Tree.insert new_label flow_of
    new_fits lo hi b k e z x i j a u h f = (
      record {
        levels =
            record {
              existence = position_level;
              content = level_join _ _ (level_join _ _ (expression_level e) position_level) i;
              structure = level_join _ _ position_level j;
            };
        above = a;
        under = u;
        content = na_trans _ _ _ (na_right _ _) (na_left _ _);
        structure = na_left _ _;
      },
      tt,
      behind lo hi x h f,
    )

    -- C is not below the working node's existence: a test of it would never fail
    pub position_covers : not_above (label (current m)).existence (position pc m) ≡ true
    unfolding position
    position_covers = na_trans _ _ _ sound.covered (na_right _ _)

    insert_sound : (d : Side) (places : ℕ) (b k : Level) (e : Expression) (q : Option Place) → is_level b ≡ true → is_level k ≡ true
        → up (to d m.cursor) ≡ q → Good Sound (insert_at pc m places (to d m.cursor) q b k e)
    unfolding insert_at
    insert_sound d places b k e none i j w = tt
    insert_sound d places b k e (some q) i j w =
        good_need Sound _ _ _ λ u. good_need Sound _ _ _ λ h. good_given Sound _ _ λ z. good_need Sound _ _ _ λ _.
        beside d _ (new_fits _ _ b k e z _ i j position_covers (rw (hi_parent (to d m.cursor) q m.tree public w) u) h (fits_beside d))

    remove_sound : (d : Side) → Good Sound (remove_at pc m (to d m.cursor))
    unfolding remove_at
    remove_sound d = good_need Sound _ _ _ λ _. good_need Sound _ _ _ λ _. beside d remove (fits_remove _ _ _ (fits_beside d))

    write_sound : (e : Expression) → Good Sound (write pc m e)
    unfolding write
    write_sound e =
        good_need Sound _ _ _ λ _. good_given Sound _ _ λ z.
        changed (set_value z) (set_exists _) (set_existence _)
        (fits_change m.cursor _ m.tree public public sound.rules (fits_value _ _ _ _ (there m.cursor)))

    assign_sound : (i : ℕ) (e : Expression) → Good Sound (assign pc m i (variable_at m.variables i) e)
    unfolding assign with_variables current
    assign_sound i e =
        good_need Sound _ _ _ λ _. good_given Sound _ _ λ _.
        record {
          rules = sound.rules;
          stands = sound.stands;
          covered = sound.covered;
          cursor = sound.cursor;
          variables = all_set m.variables i _ (all_at m.variables i sound.variables) sound.variables;
        }

    output_sound : (capacity : ℕ) (r : Level) (e : Expression) → Good Sound (output pc m capacity r e)
    unfolding output with_line current
    output_sound capacity r e =
        good_need Sound _ _ _ λ _. good_given Sound _ _ λ _. good_need Sound _ _ _ λ _.
        record { rules = sound.rules; stands = sound.stands; covered = sound.covered; cursor = sound.cursor; variables = sound.variables }

    -- a move that joins a level, which the existence of the new node is not above
    joining_sound : (l : Place → Level) (q : Option Place)
        → ((p : Place) → q ≡ some p → exists (sub p m.tree) ≡ true
        → (not_above (label (sub p m.tree)).existence (l p) ≡ true) × (is_level (l p) ≡ true))
        → Good Sound (go_joining pc m l q)
    unfolding go_joining move_to
    joining_sound l none k = tt
    joining_sound l (some p) k =
        good_need Sound _ _ _ λ e. good_need Sound _ _ _ λ _.
        moved p _ e (na_trans _ _ _ (k p refl e).0 (na_right _ _)) (level_join _ _ sound.cursor (k p refl e).1)

    go_sound : (q : Option Place) → Good Sound (go_to pc m q)
    unfolding go_to
    go_sound q = joining_sound _ q (λ p _ e. (na_refl _, (node_levels p e).existence))

    last_sound : Good Sound (go_to_last pc m)
    unfolding go_to_last last_of current hi_at hi_of
    last_sound =
        joining_sound _ _ λ p h e.
        (last_under _ p m.tree _ _ _ refl (there (to child m.cursor)) h, (node_levels m.cursor sound.stands).structure)

    root_sound : Good Sound (move_to pc m root pc)
    unfolding move_to sub current
    root_sound =
        let e = exists_sub m.cursor m.tree sound.stands in
        good_need Sound _ _ _ λ _. moved root pc e (na_trans _ _ _ (root_public m.tree e sound.rules) (na_public pc)) known

    raise_sound : (l : Level) → is_level l ≡ true → Good Sound (move_to pc m m.cursor (join m.level l))
    unfolding move_to current
    raise_sound l k =
        good_need Sound _ _ _ λ _.
        moved m.cursor _ sound.stands (na_trans _ _ _ sound.covered (na_left _ _)) (level_join _ _ sound.cursor k)

    pub effect_sound : (lent : Buffers) (a : Action) → Sets a → Good Sound (effect lent pc m a)
    unfolding effect
    effect_sound lent Action.skip h = sound
    effect_sound lent (Action.assign i e) h = assign_sound i e
    effect_sound lent (Action.output r e) h = output_sound _ r e
    effect_sound lent Action.goRoot h = root_sound
    effect_sound lent Action.goParent h = go_sound _
    effect_sound lent (Action.go d) h = go_sound _
    effect_sound lent Action.goLeft h = go_sound _
    effect_sound lent Action.goLast h = last_sound
    effect_sound lent (Action.insert d b k e) h = insert_sound d _ b k e _ h.0 h.1 refl
    effect_sound lent (Action.remove d) h = remove_sound d
    effect_sound lent (Action.write e) h = write_sound e
    effect_sound lent (Action.raise l) h = raise_sound l h
