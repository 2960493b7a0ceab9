-- The view of a reader is a store that shows what the store shows and is made of nothing else. So what is run over it is the same wherever the reader sees
-- the same, and looks to the reader as it does over the store. Assumes nothing.
use mathlib.Core.Path.{◌≡◌, refl, sym, ap, ◌∙◌}
use Prim.Native.Nat.{ℕ, suc, ◌≤◌}
use native.Mathlib.Omega.{arith}
use mathlib.Core.Bool.{true, false, ◌&&◌, cond}
use mathlib.Core.List.{List, [], ◌∷◌, map}
use lib.ListN.{length}
use lib.IntN.{ℤ}
use Rattle.rules.specs.Number as Number
use Rattle.rules.specs.Level.{Level, public, not_above, is_level, visible}
use Rattle.rules.specs.Tree.{Label, Forest, nil, tree, size, with_value, Fit, Fits, TreeRules}
use Rattle.rules.specs.Check.{Checked, accepted, refused}
use Rattle.rules.specs.Job.{Variable, all_levels}
use Rattle.rules.specs.Outcome.{Outcome, rejected}
use Rattle.rules.specs.Public.{SeenVariable, seen_variable, AgreeVariables, AgreeTrees}
use Rattle.rules.specs.History.{Store, FollowOn, store_rule, check_follow_on, follow, history, AgreeStores, IndistinguishableHistories, HistorySecrecy}
use Rattle.rules.specs.Write.{RangedTree, RangedVariables, Ranged}
use Rattle.rules.specs.Projection.{everyone, mask, cut_label, cut, mask_variable, view_variables, view_store, NothingTold, Faithful, ViewRight}
use Rattle.rules.proofs.Tests.{Test, holds, fails, test, both, clash}
use Rattle.rules.proofs.Lattice.{na_refl, na_trans, na_all, level_byte, vis_public}
use Rattle.rules.proofs.Cut.{count_cut}
use Rattle.rules.proofs.ByPlace.{unmask, masked, unmasked, cuts_equal, cut_shows}
use Rattle.rules.proofs.Noninterference.{back_right, not_run}
use Rattle.rules.proofs.Stores.{Holdable, holdable, holdable_rule, taken, turned_away}
use Rattle.rules.proofs.History.{history_secrecy}

-- what is seen of a variable, as a variable
varied : SeenVariable → Variable
varied v = record { level = v.level; value = unmask v.value }

module _ (o : Level) where
  -- the variables of the view show what the variables show, and are made of it

  seen_variable_law : (v : Variable) → seen_variable o v ≡ seen_variable o (mask_variable o v)
  unfolding seen_variable mask_variable
  seen_variable_law v = sym (λ i. record { level = v.level; value = unmasked o v.level v.value i })

  pub variables_shown : (vs : List Variable) → AgreeVariables o vs (view_variables o vs)
  unfolding AgreeVariables view_variables
  variables_shown [] = refl
  variables_shown (v ∷ vs) = λ i. seen_variable_law v i ∷ variables_shown vs i

  variable_made : (v : Variable) → varied (seen_variable o v) ≡ mask_variable o v
  unfolding varied seen_variable mask_variable
  variable_made v = λ i. record { level = v.level; value = masked o v.level v.value i }

  variables_made : (vs : List Variable) → map varied (map (seen_variable o) vs) ≡ view_variables o vs
  unfolding view_variables
  variables_made [] = refl
  variables_made (v ∷ vs) = λ i. variable_made v i ∷ variables_made vs i

  pub variables_equal : (vs ws : List Variable) → AgreeVariables o vs ws → view_variables o vs ≡ view_variables o ws
  unfolding AgreeVariables
  variables_equal vs ws h = sym (variables_made vs) ∙ ap (map varied) h ∙ variables_made ws

  -- the rule of a store

  pub variables_many : (vs : List Variable) → length (view_variables o vs) ≡ length vs
  unfolding view_variables
  variables_many [] = refl
  variables_many (v ∷ vs) = ap suc (variables_many vs)

  variables_levels : (vs : List Variable) → all_levels (view_variables o vs) ≡ all_levels vs
  unfolding view_variables mask_variable all_levels
  variables_levels [] = refl
  variables_levels (v ∷ vs) = ap (λ x. is_level v.level && x) (variables_levels vs)

  label_fit : (lo hi : Level) (l : Label) → Fit lo hi l → Fit lo hi (cut_label o l)
  unfolding cut_label with_value
  label_fit lo hi l f =
      let g = f.levels in
      record {
        levels = record { existence = g.existence; content = g.content; structure = g.structure };
        above = f.above;
        under = f.under;
        content = f.content;
        structure = f.structure;
      }

  pub cut_fits : (lo hi : Level) (t : Forest) → Fits lo hi t → Fits lo hi (cut o t)
  unfolding cut cut_label with_value
  cut_fits lo hi nil f = tt
  cut_fits lo hi (tree l c r) f = pick (test (visible o l.existence)) (cut_fits _ _ c f.1) (cut_fits _ _ r f.2)
    where
      pick : Test (visible o l.existence) → Fits l.existence l.structure (cut o c) → Fits l.existence hi (cut o r) → Fits lo hi (cut o (tree l c r))
      pick (holds e) x y = rw e (label_fit lo hi l f.0, x, y)
      pick (fails e) x y = rw e tt

  pub cut_size : (t : Forest) → size (cut o t) ≤ size t
  unfolding cut size
  cut_size nil = omega arith
  cut_size (tree l c r) = pick (test (visible o l.existence)) (cut_size c) (cut_size r)
    where
      pick : Test (visible o l.existence) → size (cut o c) ≤ size c → size (cut o r) ≤ size r → size (cut o (tree l c r)) ≤ size (tree l c r)
      pick (holds e) x y = rw e (omega arith)
      pick (fails e) x y = rw e (omega arith)

  pub view_holdable : (s : Store) → Holdable s → Holdable (view_store o s)
  unfolding view_store
  view_holdable s h =
      record {
        few = let e = variables_many s.variables in let f = h.few in omega arith;
        levels = variables_levels s.variables ∙ h.levels;
        rooted = count_cut o public public s.tree (vis_public o) h.rules ∙ h.rooted;
        small = let e = cut_size s.tree in let f = h.small in omega arith;
        rules = cut_fits public public s.tree h.rules;
      }

  mask_fits : (l : Level) (z : ℤ) → Number.Fits z → Number.Fits (mask o l z)
  unfolding mask
  mask_fits l z h = pick (test (visible o l))
    where
      pick : Test (visible o l) → Number.Fits (mask o l z)
      pick (holds e) = rw e h
      pick (fails e) = rw e (omega arith)

  variables_ranged : (vs : List Variable) → RangedVariables vs → RangedVariables (view_variables o vs)
  unfolding view_variables mask_variable
  variables_ranged [] h = tt
  variables_ranged (v ∷ vs) h = (mask_fits v.level v.value h.0, variables_ranged vs h.1)

  cut_ranged : (t : Forest) → RangedTree t → RangedTree (cut o t)
  unfolding cut cut_label with_value
  cut_ranged nil h = tt
  cut_ranged (tree l c r) h = pick (test (visible o l.existence)) (cut_ranged c h.1) (cut_ranged r h.2)
    where
      pick : Test (visible o l.existence) → RangedTree (cut o c) → RangedTree (cut o r) → RangedTree (cut o (tree l c r))
      pick (holds e) x y = rw e (mask_fits l.content l.value h.0, x, y)
      pick (fails e) x y = rw e tt

  pub view_ranged : (s : Store) → Ranged s → Ranged (view_store o s)
  unfolding view_store
  view_ranged s r = record { variables = variables_ranged s.variables r.variables; tree = cut_ranged s.tree r.tree }

  -- a view of a view

  module _ (p : Level) (within : not_above o p ≡ true) where
    hidden_more : (l : Level) → visible p l ≡ false → visible o l ≡ false
    unfolding visible
    hidden_more l e = go (test (visible o l))
      where
        go : Test (visible o l) → visible o l ≡ false
        go (holds f) = clash (na_trans l o p f within) e
        go (fails f) = f

    mask_twice : (l : Level) (z : ℤ) → mask o l (mask p l z) ≡ mask o l z
    unfolding mask
    mask_twice l z = pick (test (visible p l))
      where
        pick : Test (visible p l) → mask o l (mask p l z) ≡ mask o l z
        pick (holds e) = rw e
        pick (fails e) = rw (e, hidden_more l e)

    label_twice : (l : Label) → cut_label o (cut_label p l) ≡ cut_label o l
    unfolding cut_label with_value
    label_twice l = λ i. record { value = mask_twice l.content l.value i; existence = l.existence; content = l.content; structure = l.structure }

    cut_twice : (t : Forest) → cut o (cut p t) ≡ cut o t
    unfolding cut cut_label with_value
    cut_twice nil = refl
    cut_twice (tree l c r) = pick (test (visible p l.existence)) (cut_twice c) (cut_twice r)
      where
        pick : Test (visible p l.existence) → cut o (cut p c) ≡ cut o c → cut o (cut p r) ≡ cut o r → cut o (cut p (tree l c r)) ≡ cut o (tree l c r)
        pick (holds e) x y = rw e (λ i. cond (visible o l.existence) (tree (label_twice l i) (x i) (y i)) nil)
        pick (fails e) x y = rw (e, hidden_more l.existence e)

    variables_twice : (vs : List Variable) → view_variables o (view_variables p vs) ≡ view_variables o vs
    unfolding view_variables mask_variable
    variables_twice [] = refl
    variables_twice (v ∷ vs) = λ i. record { level = v.level; value = mask_twice v.level v.value i } ∷ variables_twice vs i

    pub view_twice : (s : Store) → view_store o (view_store p s) ≡ view_store o s
    unfolding view_store
    view_twice s = λ i. record { variables = variables_twice s.variables i; tree = cut_twice s.tree i }

  -- what is run over it

  pub view_shows : (s : Store) → TreeRules s.tree → AgreeStores o s (view_store o s)
  unfolding view_store
  view_shows s f = record { variables = variables_shown s.variables; trees = cut_shows o s.tree f }

  pub one_view : (s t : Store) → AgreeStores o s t → view_store o s ≡ view_store o t
  unfolding view_store
  one_view s t a =
      λ i.
      record { variables = variables_equal s.variables t.variables a.variables i; tree = cuts_equal o s.tree t.tree a.trees i }

  nothing_told : NothingTold o
  unfolding NothingTold
  nothing_told s t fs a = ap (λ x. history x fs) (one_view s t a)

  pub agree_sym : (s t : Store) → AgreeStores o s t → AgreeStores o t s
  unfolding AgreeVariables AgreeTrees
  agree_sym s t a = record { variables = sym a.variables; trees = λ p. sym (a.trees p) }

  -- over a store that no job could hold every script is turned away
  lost : (s : Store) (f : FollowOn) → store_rule s ≡ false → (c : Checked) → check_follow_on s f ≡ c → (k : ℕ) × ((i : ℕ) × (follow s f ≡ rejected k i))
  lost s f e (refused k i) h = (k, (i, turned_away s f h))
  lost s f e accepted h = clash (holdable_rule s (taken s f h).store) e

  faithful : Faithful o
  unfolding Faithful HistorySecrecy history
  faithful s fs gs same = pick (test (store_rule s))
    where
      none : (ws : List Outcome) (gs : List FollowOn) → store_rule s ≡ false → IndistinguishableHistories o ws (history s gs)
      none [] gs e = tt
      none (w ∷ ws) [] e = tt
      none (w ∷ ws) (g ∷ gs) e =
          let z = lost s g e (check_follow_on s g) refl in
          rw z.1.1 (back_right o z.0 z.1.0 w, λ x y a b. absurd (not_run z.0 z.1.0 y b))

      pick : Test (store_rule s) → IndistinguishableHistories o (history (view_store o s) fs) (history s gs)
      pick (holds e) = history_secrecy o (view_store o s) s fs gs (agree_sym s (view_store o s) (view_shows s (holdable s e).rules)) same
      pick (fails e) = none (history (view_store o s) fs) gs e

  pub view_right : ViewRight o
  view_right =
      record {
        shows = view_shows;
        one = one_view;
        kept = λ s e. holdable_rule (view_store o s) (view_holdable s (holdable s e));
        ranged = view_ranged;
        again = view_twice o (na_refl o);
        part = λ p s h. view_twice p h s;
        told = nothing_told;
        faithful = faithful;
      }

-- who has all parties sees all
pub sees_all : (l : Level) → is_level l ≡ true → visible everyone l ≡ true
unfolding everyone visible
sees_all l h = na_all l (level_byte l h)

mask_none : (l : Level) (z : ℤ) → is_level l ≡ true → mask everyone l z ≡ z
unfolding mask
mask_none l z h = rw (sees_all l h)

cut_none : (lo hi : Level) (t : Forest) → Fits lo hi t → cut everyone t ≡ t
unfolding cut cut_label with_value
cut_none lo hi nil f = refl
cut_none lo hi (tree l c r) f =
    let g = f.0.levels in
    rw (sees_all l.existence g.existence)
    (λ i.
    tree (record { value = mask_none l.content l.value g.content i; existence = l.existence; content = l.content; structure = l.structure })
    (cut_none l.existence l.structure c f.1 i) (cut_none l.existence hi r f.2 i))

variables_none : (vs : List Variable) → all_levels vs ≡ true → view_variables everyone vs ≡ vs
unfolding view_variables mask_variable all_levels
variables_none [] h = refl
variables_none (v ∷ vs) h =
    let g = both (is_level v.level) (all_levels vs) h in
    λ i. record { level = v.level; value = mask_none v.level v.value g.0 i } ∷ variables_none vs g.1 i

pub view_whole : (s : Store) → all_levels s.variables ≡ true → TreeRules s.tree → view_store everyone s ≡ s
unfolding view_store
view_whole s h f = λ i. record { variables = variables_none s.variables h i; tree = cut_none public public s.tree f i }
