-- What every run keeps of its store beside the rules: the number of its variables, one root, and no more than 512 nodes where no more than 512
-- places are lent. Assumes nothing.
use mathlib.Core.Path.{◌≡◌, refl, sym, ◌∙◌, ap}
use Prim.Native.Nat.{ℕ, suc, ◌+◌, ◌≤◌}
use native.Mathlib.Omega.{arith}
use mathlib.Core.Bool.{true, false}
use mathlib.Core.Option.{Option, none, some}
use mathlib.Core.List.{List}
use lib.ListN.{length, length-set}
use lib.IntN.{ℤ}
use borrow.Author.Tests.{ltb-true}
use Rattle.rules.specs.Limits.{max_nodes}
use Rattle.rules.specs.Level.{Level}
use Rattle.rules.specs.Tree as Tree
use Rattle.rules.specs.Tree.{Label, Forest, nil, tree, Side, child, sibling, Place, root, to, up, exists, count, size, along, sub, on_side, change, set_value}
use Rattle.rules.specs.Script.{Expression, Action, Command}
use Rattle.rules.specs.Run.{Memory, State, Buffers, with_variables, with_tree, with_cursor, with_line, new_label, assign, output, move_to, go_joining, go_to, go_to_last, insert_at, remove_at, write, effect, run}
use Rattle.rules.proofs.Tests.{clash}
use Rattle.rules.proofs.Results.{Good, good_need, good_given}
use Rattle.rules.proofs.Runs.{memory_keeps}

-- how many nodes a change adds
on_size : (k : ℕ) (d : Side) (f : Forest → Forest) → ((x : Forest) → size (f x) ≤ k + size x) → (x : Forest) → size (on_side d f x) ≤ k + size x
unfolding size on_side
on_size k d f h nil = omega arith
on_size k child f h (tree l c r) = let q = h c in omega arith
on_size k sibling f h (tree l c r) = let q = h r in omega arith

change_size : (k : ℕ) (p : Place) (f : Forest → Forest) (t : Forest) → ((x : Forest) → size (f x) ≤ k + size x) → size (change p f t) ≤ k + size t
unfolding change
change_size k root f t h = h t
change_size k (to d p) f t h = change_size k p (on_side d f) t (on_size k d f h)

insert_size : (l : Label) (x : Forest) → size (Tree.insert l x) ≤ 1 + size x
unfolding size Tree.insert
insert_size l x = omega arith

remove_size : (x : Forest) → size (Tree.remove x) ≤ 0 + size x
unfolding size Tree.remove
remove_size nil = omega arith
remove_size (tree l c r) = omega arith

value_size : (v : ℤ) (x : Forest) → size (set_value v x) ≤ 0 + size x
unfolding size set_value
value_size v nil = omega arith
value_size v (tree l c r) = omega arith

-- the root stays alone
on_count : (d : Side) (f : Forest → Forest) → ((x : Forest) → count (f x) ≡ count x) → (x : Forest) → count (on_side d f x) ≡ count x
unfolding count on_side
on_count d f h nil = refl
on_count child f h (tree l c r) = refl
on_count sibling f h (tree l c r) = ap suc (h r)

child_count : (f : Forest → Forest) (x : Forest) → count (on_side child f x) ≡ count x
unfolding count on_side
child_count f nil = refl
child_count f (tree l c r) = refl

change_count : (p : Place) (f : Forest → Forest) (t : Forest) → ((x : Forest) → count (f x) ≡ count x) → count (change p f t) ≡ count t
unfolding change
change_count root f t h = h t
change_count (to d p) f t h = change_count p (on_side d f) t (on_count d f h)

value_count : (v : ℤ) (x : Forest) → count (set_value v x) ≡ count x
unfolding count set_value
value_count v nil = refl
value_count v (tree l c r) = refl

no_parent_law : {X : Type 0} {q : Place} → none ≡ some q → X
no_parent_law e = let z : true ≡ false = cc in clash refl z

-- a change at a place that has a parent
under_count : (p q : Place) (f : Forest → Forest) (t : Forest) → up p ≡ some q → count (change p f t) ≡ count t
unfolding change up
under_count root q f t e = no_parent_law e
under_count (to child p) q f t e = change_count p (on_side child f) t (child_count f)
under_count (to sibling p) q f t e = under_count p q (on_side sibling f) t e

absent_along : (d : Side) (x : Forest) → exists x ≡ false → exists (along d x) ≡ false
unfolding along exists
absent_along d nil h = h
absent_along d (tree l c r) h = clash refl h

beside_root : (t : Forest) → count t ≡ 1 → exists (along sibling t) ≡ false
unfolding along exists count
beside_root nil h = refl
beside_root (tree l c nil) h = refl
beside_root (tree l c (tree k d r)) h = absurd (omega arith)

-- beside the root stands nothing
none_beside : (p : Place) (d : Side) (t : Forest) → up (to d p) ≡ none → count t ≡ 1 → exists (sub (to d p) t) ≡ false
unfolding up sub
none_beside root child t e h = no_parent_law (sym e)
none_beside root sibling t e h = beside_root t h
none_beside (to d p) child t e h = no_parent_law (sym e)
none_beside (to d p) sibling t e h = absent_along sibling _ (none_beside p d t e h)

remove_count : (d : Side) (p : Place) (t : Forest) (q : Option Place) → up (to d p) ≡ q → count t ≡ 1 → exists (sub (to d p) t) ≡ true
    → count (change (to d p) Tree.remove t) ≡ 1
remove_count d p t none e h k = clash k (none_beside p d t e h)
remove_count d p t (some q) e h k = under_count (to d p) q Tree.remove t e ∙ h

-- v variables, one root, at most 512 nodes
pub record Held (v : ℕ) (m : Memory) : Type 0 where
  pub variables : length m.variables ≡ v
  pub rooted : count m.tree ≡ 1
  pub small : size m.tree ≤ max_nodes

moved : (v : ℕ) (m : Memory) (p : Place) (l : Level) → Held v m → Held v (with_cursor m p l)
unfolding with_cursor
moved v m p l h = record { variables = h.variables; rooted = h.rooted; small = h.small }

module _ (lent : Buffers) (places : lent.places ≤ max_nodes) (v : ℕ) (pc : Level) (m : Memory) (h : Held v m) where
  go_held : (l : Place → Level) (q : Option Place) → Good (Held v) (go_joining pc m l q)
  unfolding go_joining move_to
  go_held l none = tt
  go_held l (some p) = good_need (Held v) _ _ _ λ _. good_need (Held v) _ _ _ λ _. moved v m _ _ h

  insert_held : (d : Side) (q : Option Place) (b k : Level) (e : Expression) → up (to d m.cursor) ≡ q
      → Good (Held v) (insert_at pc m lent.places (to d m.cursor) q b k e)
  unfolding insert_at with_tree
  insert_held d none b k e w = tt
  insert_held d (some q) b k e w =
      good_need (Held v) _ _ _ λ _. good_need (Held v) _ _ _ λ _. good_given (Held v) _ _ λ z. good_need (Held v) _ _ _ λ u.
      record {
        variables = h.variables;
        rooted = under_count (to d m.cursor) q _ m.tree w ∙ h.rooted;
        small =
            let a = ltb-true (size m.tree) lent.places u in let c = change_size 1 (to d m.cursor) (Tree.insert (new_label pc m b k e z)) m.tree (insert_size _) in omega (arith, a, c, places);
      }

  remove_held : (d : Side) → Good (Held v) (remove_at pc m (to d m.cursor))
  unfolding remove_at with_tree
  remove_held d =
      good_need (Held v) _ _ _ λ k. good_need (Held v) _ _ _ λ _.
      record {
        variables = h.variables;
        rooted = remove_count d m.cursor m.tree _ refl h.rooted k;
        small = let a = h.small in let c = change_size 0 (to d m.cursor) Tree.remove m.tree remove_size in omega (arith, a, c);
      }

  write_held : (e : Expression) → Good (Held v) (write pc m e)
  unfolding write with_tree
  write_held e =
      good_need (Held v) _ _ _ λ _. good_given (Held v) _ _ λ z.
      record {
        variables = h.variables;
        rooted = change_count m.cursor _ m.tree (value_count _) ∙ h.rooted;
        small = let a = h.small in let c = change_size 0 m.cursor (set_value z) m.tree (value_size z) in omega (arith, a, c);
      }

  pub effect_held : (a : Action) → Good (Held v) (effect lent pc m a)
  unfolding effect assign output move_to go_to go_to_last with_variables with_line
  effect_held Action.skip = h
  effect_held (Action.assign i e) =
      good_need (Held v) _ _ _ λ _. good_given (Held v) _ _ λ _. record { variables = length-set m.variables i _ ∙ h.variables; rooted = h.rooted; small = h.small }
  effect_held (Action.output r e) =
      good_need (Held v) _ _ _ λ _. good_given (Held v) _ _ λ _. good_need (Held v) _ _ _ λ _. record { variables = h.variables; rooted = h.rooted; small = h.small }
  effect_held Action.goRoot = good_need (Held v) _ _ _ λ _. moved v m _ _ h
  effect_held Action.goParent = go_held _ _
  effect_held (Action.go d) = go_held _ _
  effect_held Action.goLeft = go_held _ _
  effect_held Action.goLast = go_held _ _
  effect_held (Action.insert d b k e) = insert_held d _ b k e refl
  effect_held (Action.remove d) = remove_held d
  effect_held (Action.write e) = write_held e
  effect_held (Action.raise l) = good_need (Held v) _ _ _ λ _. moved v m _ _ h

pub run_held : (lent : Buffers) → lent.places ≤ max_nodes → (cs : List Command) (v n : ℕ) (s : State) → Held v s.memory
    → Held v (run lent cs n s).last.memory
run_held lent places cs v n s h = memory_keeps lent cs (Held v) (λ pc m a k. effect_held lent places v pc m k a) (moved v) n s h
