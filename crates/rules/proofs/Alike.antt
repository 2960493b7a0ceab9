-- Two memories with the same view: where the reader sees the cursor it is at the same node, and an expression has the same level and,
-- where that is visible, the same value; or neither level is visible. Assumes nothing.
use mathlib.Core.Path.{◌≡◌, refl, sym, ◌∙◌, ap, subst}
use Prim.Native.Nat.{ℕ}
use mathlib.Core.Bool.{true, false}
use mathlib.Core.Option.{some-injective}
use Rattle.std.specs.Prelude.{Some}
use mathlib.Core.List.{map}
use lib.ListN.{get_or, get_or-map}
use lib.IntN.{pos}
use Rattle.rules.specs.Level.{Level, public, join, visible}
use Rattle.rules.specs.Tree.{Label, Forest, child, along, Place, to, sub, last_from, last_of, label, count, with_value, Fits}
use Rattle.rules.specs.Script.{Operand, Expression, alone, both, apply}
use Rattle.rules.specs.Job.{Variable}
use Rattle.rules.specs.Run.{Memory, no_variable, variable_at, current, operand_value, operand_level, value, level_of}
use Rattle.rules.specs.Public.{seen_variable, seen_value}
use Rattle.rules.proofs.Tests.{Test, holds, fails, test, clash}
use Rattle.rules.proofs.Lattice.{vis_down, vis_left, vis_right, hid_left, hid_right}
use Rattle.rules.proofs.Trees.{lo_at, hi_at, hi_of}
use Rattle.rules.proofs.Cut.{mask, cut_label, cut, cut_sub, count_cut, last_cut, Heads, seen, hidden, heads}
use Rattle.rules.proofs.Sound.{Sound, there}
use Rattle.rules.proofs.View.{view, seen_at, seen_cursor}

module _ (o : Level) where
  -- two levels with a value each: equal, with the same value where that is visible; or both hidden
  pub data Agrees {A : Type 0} (l₁ l₂ : Level) (z₁ z₂ : A) : Type 0 where
    same : l₁ ≡ l₂ → (visible o l₁ ≡ true → z₁ ≡ z₂) → Agrees l₁ l₂ z₁ z₂
    dark : visible o l₁ ≡ false → visible o l₂ ≡ false → Agrees l₁ l₂ z₁ z₂

  pub agree_value : {A : Type 0} {l₁ l₂ : Level} {z₁ z₂ : A} → Agrees l₁ l₂ z₁ z₂ → visible o l₁ ≡ true → z₁ ≡ z₂
  agree_value (same l z) e = z e
  agree_value (dark a b) e = clash e a

  pub agree_level : {A : Type 0} {l₁ l₂ : Level} {z₁ z₂ : A} → Agrees l₁ l₂ z₁ z₂ → visible o l₁ ≡ true → l₁ ≡ l₂
  agree_level (same l z) e = l
  agree_level (dark a b) e = clash e a

  pub agree_hidden : {A : Type 0} {l₁ l₂ : Level} {z₁ z₂ : A} → Agrees l₁ l₂ z₁ z₂ → visible o l₁ ≡ false → visible o l₂ ≡ false
  agree_hidden (same l z) e = rw l at e
  agree_hidden (dark a b) e = b

  joined : {A B C : Type 0} {k₁ k₂ l₁ l₂ : Level} {y₁ y₂ : A} {z₁ z₂ : B} (f : A → B → C) → Agrees k₁ k₂ y₁ y₂ → Agrees l₁ l₂ z₁ z₂
      → Agrees (join k₁ l₁) (join k₂ l₂) (f y₁ z₁) (f y₂ z₂)
  joined f (same a b) (same c d) = same (rw (a, c)) (λ e. rw (b (vis_left o _ _ e), d (vis_right o _ _ e)))
  joined f (dark a b) k = dark (hid_left o _ _ a) (hid_left o _ _ b)
  joined f (same a b) (dark c d) = dark (hid_right o _ _ c) (hid_right o _ _ d)

  agree_map : {A B : Type 0} {l₁ l₂ : Level} {z₁ z₂ : A} (f : A → B) → Agrees l₁ l₂ z₁ z₂ → Agrees l₁ l₂ (f z₁) (f z₂)
  agree_map f (same a b) = same a (λ e. ap f (b e))
  agree_map f (dark a b) = dark a b

  variable_agrees : (v w : Variable) → seen_variable o v ≡ seen_variable o w → Agrees v.level w.level v.value w.value
  unfolding seen_variable seen_value
  variable_agrees v w h =
      let l : v.level ≡ w.level = ap (λ x. x.level) h in
      let z = ap (λ x. x.value) h in
      same l (λ e. some-injective _ _ (rw (e, rw l at e) at z))

  content_agrees : (l k : Label) → cut_label o l ≡ cut_label o k → Agrees l.content k.content l.value k.value
  unfolding cut_label with_value mask
  content_agrees l k h =
      let c : l.content ≡ k.content = ap (λ x. x.content) h in
      let z = ap (λ x. x.value) h in
      same c (λ e. rw (e, rw c at e) at z)

  -- the levels of labels that look the same
  pub existence_eq : (l k : Label) → cut_label o l ≡ cut_label o k → l.existence ≡ k.existence
  unfolding cut_label with_value
  existence_eq l k h = ap (λ x. x.existence) h

  pub content_eq : (l k : Label) → cut_label o l ≡ cut_label o k → l.content ≡ k.content
  unfolding cut_label with_value
  content_eq l k h = ap (λ x. x.content) h

  structure_eq : (l k : Label) → cut_label o l ≡ cut_label o k → l.structure ≡ k.structure
  unfolding cut_label with_value
  structure_eq l k h = ap (λ x. x.structure) h

  module _ (m₁ m₂ : Memory) (s₁ : Sound m₁) (s₂ : Sound m₂) (v : view o m₁ ≡ view o m₂) where
    pub tree_eq : cut o m₁.tree ≡ cut o m₂.tree
    unfolding view
    tree_eq = ap (λ w. w.tree) v

    pub variables_eq : map (seen_variable o) m₁.variables ≡ map (seen_variable o) m₂.variables
    unfolding view
    variables_eq = ap (λ w. w.variables) v

    pub variable_eq : (i : ℕ) → seen_variable o (variable_at m₁.variables i) ≡ seen_variable o (variable_at m₂.variables i)
    unfolding variable_at
    variable_eq i =
        sym (get_or-map (seen_variable o) m₁.variables i no_variable)
        ∙ ap (λ vs. get_or vs i (seen_variable o no_variable)) variables_eq ∙ get_or-map (seen_variable o) m₂.variables i no_variable

    -- the cursors: seen at one place, or not seen
    pub data Cursors : Type 0 where
      seen_both : visible o m₁.level ≡ true → m₁.cursor ≡ m₂.cursor → m₁.level ≡ m₂.level → Cursors
      seen_neither : visible o m₁.level ≡ false → visible o m₂.level ≡ false → Cursors

    cursor_eq : seen_cursor o m₁.cursor m₁.level ≡ seen_cursor o m₂.cursor m₂.level
    unfolding view
    cursor_eq = ap (λ w. w.cursor) v

    pub cursors : Cursors
    unfolding seen_cursor seen_at
    cursors = pick (test (visible o m₁.level)) (test (visible o m₂.level))
      where
        pick : Test (visible o m₁.level) → Test (visible o m₂.level) → Cursors
        pick (holds e) (holds f) =
            let r = some-injective _ _ (rw (e, f) at cursor_eq) in
            seen_both e (some-injective _ _ (ap (λ c. c.place) r)) (ap (λ c. c.level) r)
        pick (holds e) (fails f) = let k = rw (e, f) at cursor_eq in let z : true ≡ false = cc in clash refl z
        pick (fails e) (holds f) = let k = rw (e, f) at cursor_eq in let z : true ≡ false = cc in clash refl z
        pick (fails e) (fails f) = seen_neither e f

    -- the same place in both trees
    pub subs : (p : Place) → cut o (sub p m₁.tree) ≡ cut o (sub p m₂.tree)
    subs p = sym (cut_sub o p m₁.tree public public s₁.rules) ∙ ap (sub p) tree_eq ∙ cut_sub o p m₂.tree public public s₂.rules

    -- the working nodes under a visible cursor
    pub record Nodes : Type 0 where
      pub place : m₁.cursor ≡ m₂.cursor
      pub labels : cut_label o (label (current m₁)) ≡ cut_label o (label (current m₂))
      pub below : cut o (along child (current m₁)) ≡ cut o (along child (current m₂))

    pub nodes : visible o m₁.level ≡ true → m₁.cursor ≡ m₂.cursor → Nodes
    unfolding current
    nodes e p = pick (heads o _ _ s₁.stands s₂.stands (rw p (subs m₂.cursor)))
      where
        pick : Heads o (current m₁) (current m₂) → Nodes
        pick (seen a b c) = record { place = p; labels = b; below = c }
        pick (hidden a b) = clash (vis_down o _ _ s₁.covered e) a

    -- what is read off the list of children, where the cut of a list that is seen whole gives the same
    list_agrees : {A : Type 0} (g : Forest → A) → ((lo hi : Level) (x : Forest) → visible o hi ≡ true → Fits lo hi x → g (cut o x) ≡ g x) → Nodes
        → Agrees (label (current m₁)).structure (label (current m₂)).structure (g (along child (current m₁))) (g (along child (current m₂)))
    unfolding current hi_at hi_of lo_at sub
    list_agrees g h n =
        let c = structure_eq _ _ n.labels in
        same c (λ e.
        sym (h _ _ _ e (there m₁ s₁ (to child m₁.cursor))) ∙ ap g n.below ∙ h _ _ _ (rw c at e) (there m₂ s₂ (to child m₂.cursor)))

    last_agrees : Nodes
        → Agrees (label (current m₁)).structure (label (current m₂)).structure (last_of m₁.cursor m₁.tree) (last_of m₂.cursor m₂.tree)
    unfolding last_of current sub
    last_agrees n =
        subst
        (λ (c : Place). Agrees (label (current m₁)).structure (label (current m₂)).structure (last_of m₁.cursor m₁.tree) (last_from (to child c) (along child (current m₂))))
        n.place (list_agrees (last_from (to child m₁.cursor)) (λ lo hi x. last_cut o lo hi _ x) n)

    -- what is read at the cursor
    at_cursor : {A : Type 0} {l₁ l₂ : Level} {z₁ z₂ : A} → (Nodes → Agrees l₁ l₂ z₁ z₂) → Agrees (join m₁.level l₁) (join m₂.level l₂) z₁ z₂
    at_cursor {A} {l₁} {l₂} {z₁} {z₂} f = pick cursors
      where
        pick : Cursors → Agrees (join m₁.level l₁) (join m₂.level l₂) z₁ z₂
        pick (seen_both e p l) = joined {y₁ = pos 0} {y₂ = pos 0} (λ y z. z) (same l (λ _. refl)) (f (nodes e p))
        pick (seen_neither e f) = dark (hid_left o _ _ e) (hid_left o _ _ f)

    operands : (a : Operand) → Agrees (operand_level m₁ a) (operand_level m₂ a) (operand_value m₁ a) (operand_value m₂ a)
    unfolding operand_value operand_level
    operands (Operand.constant z) = same refl (λ _. refl)
    operands (Operand.variable i) = variable_agrees _ _ (variable_eq i)
    operands Operand.value = at_cursor (λ n. content_agrees _ _ n.labels)
    operands Operand.children = at_cursor (list_agrees (λ x. pos (count x)) (λ lo hi x e f. ap pos (count_cut o lo hi x e f)))

    pub expressions : (e : Expression) → Agrees (level_of m₁ e) (level_of m₂ e) (value m₁ e) (value m₂ e)
    unfolding level_of value
    expressions (alone a) = agree_map Some (operands a)
    expressions (both f a b) = joined (apply f) (operands a) (operands b)

    -- where a move to the last child leads
    pub lasts :
        Agrees (join m₁.level (label (current m₁)).structure) (join m₂.level (label (current m₂)).structure) (last_of m₁.cursor m₁.tree)
        (last_of m₂.cursor m₂.tree)
    lasts = at_cursor last_agrees

    level_eq : visible o m₁.level ≡ true → m₁.cursor ≡ m₂.cursor → m₁.level ≡ m₂.level → (x : Operand) → operand_level m₁ x ≡ operand_level m₂ x
    unfolding operand_level seen_variable
    level_eq a p l (Operand.constant z) = refl
    level_eq a p l (Operand.variable i) = ap (λ w. w.level) (variable_eq i)
    level_eq a p l Operand.value = λ i. join (l i) (content_eq _ _ (nodes a p).labels i)
    level_eq a p l Operand.children = λ i. join (l i) (structure_eq _ _ (nodes a p).labels i)

    -- under a visible cursor an expression has one level, visible or not
    pub levels_eq : visible o m₁.level ≡ true → m₁.cursor ≡ m₂.cursor → m₁.level ≡ m₂.level → (e : Expression) → level_of m₁ e ≡ level_of m₂ e
    unfolding level_of
    levels_eq a p l (alone x) = level_eq a p l x
    levels_eq a p l (both f x y) = λ i. join (level_eq a p l x i) (level_eq a p l y i)
