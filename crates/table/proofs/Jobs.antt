-- The node records of a job: their lists of children are those of the job's tree, and the loop of `load` links them one by one. Assumes nothing.
use mathlib.Core.Path.{◌≡◌, refl, sym, ap, ap₂, subst, ◌∙◌}
use mathlib.Core.Bool.{true, cond}
use mathlib.Core.List.{List}
use Prim.Native.Nat.{ℕ, zero, suc, ◌-◌, ◌<◌, ◌≤◌}
use native.Mathlib.Omega.{arith}
use native.Mathlib.Decide.{ℕ_discrete}
use lib.Dec.{eqb, ltb}
use borrow.Author.Tests.{eq-eqb, ne_eqb, ltb-true}
use Rattle.rules.specs.Limits.{max_nodes, no_parent}
use Rattle.rules.specs.Tree.{tree, nil}
use Rattle.rules.specs.Check.{parent, parent_rule}
use Rattle.rules.specs.Job.{label_of, children_of, tree_of}
use Rattle.table.specs.Cells.{Table}
use Rattle.table.specs.Holds.{erase}
use Rattle.table.specs.Promises.{Loaded}
use Rattle.table.specs.Steps.{Cleared, Entered}
use Rattle.table.proofs.Kids.{kids, kids_none, kids_hit, kids_miss}
use Rattle.table.proofs.Loading.{Loading, load_none, load_step, load_end}

module _ (b : List ℕ) (base : ℕ) where
  -- the parent rule holds for the first n records
  abbrev pub Rule : ℕ → Type 0
  Rule n = (i : ℕ) → i < n → parent_rule b base i ≡ true

  -- the records before x wait
  abbrev pub Linking : Table → ℕ → ℕ → Type 0
  Linking m n x = Loading (parent b base) (label_of b base) m n (n - x) x

  parent_first : {n : ℕ} → Rule n → (x : ℕ) → 1 ≤ x → x < n → parent b base x < x
  unfolding parent_rule
  parent_first rule x le lt =
      ltb-true (parent b base x) x
      (sym (ap (λ t. cond t (eqb (parent b base x) no_parent) (ltb (parent b base x) x)) (ne_eqb x 0 (λ e. omega arith))) ∙ rule x lt)

  pub linking_start : {m : Table} (n : ℕ) → Cleared m n → Linking m n n
  linking_start {m} n h =
      let e : zero ≡ n - n = omega arith in
      subst (λ k. Loading (parent b base) (label_of b base) m n k n) e (load_none (parent b base) (label_of b base) m n h)

  pub linking_step : {m m' : Table} {n : ℕ} (x : ℕ) → n ≤ max_nodes → 1 < x → x ≤ n → Rule n → Linking m n x
      → Entered n (parent b base (x - 1)) (x - 1) (label_of b base (x - 1)) m m' → Linking m' n (x - 1)
  linking_step {m} {m'} {n} x few gt le rule h e =
      let i : x ≡ suc (x - 1) = omega arith in
      let j : suc (n - x) ≡ n - (x - 1) = omega arith in
      subst (λ k. Loading (parent b base) (label_of b base) m' n k (x - 1)) j
      (load_step (parent b base) (label_of b base) (x - 1) few (omega arith) (omega arith) (parent_first rule (x - 1) (omega arith) (omega arith))
      (λ y le' lt. parent_first rule y (omega arith) (omega arith))
      (subst (λ v. Loading (parent b base) (label_of b base) m n (n - x) v) i h) e)

  -- the lists are the job's
  children_hit : (p n i : ℕ) → parent b base i ≡ p
      → children_of b base p (suc n) i ≡ tree (label_of b base i) (children_of b base i n (suc i)) (children_of b base p n (suc i))
  unfolding children_of
  children_hit p n i e = rw (eq-eqb (parent b base i) p e, children_of)

  children_miss : (p n i : ℕ) → (parent b base i ≡ p → ⊥) → children_of b base p (suc n) i ≡ children_of b base p n (suc i)
  unfolding children_of
  children_miss p n i e = rw (ne_eqb (parent b base i) p e, children_of)

  children_none : (p i : ℕ) → children_of b base p zero i ≡ nil
  unfolding children_of
  children_none p i = refl

  lists : (p n i : ℕ) → erase (kids (parent b base) (label_of b base) p n i) ≡ children_of b base p n i
  lists p zero i = rw (kids_none, children_none)
  lists p (suc n) i = go (ℕ_discrete (parent b base i) p) (lists i n (suc i)) (lists p n (suc i))
    where
      go : Dec (parent b base i ≡ p) → erase (kids (parent b base) (label_of b base) i n (suc i)) ≡ children_of b base i n (suc i)
          → erase (kids (parent b base) (label_of b base) p n (suc i)) ≡ children_of b base p n (suc i)
          → erase (kids (parent b base) (label_of b base) p (suc n) i) ≡ children_of b base p (suc n) i
      go (yes e) c r = rw (kids_hit (parent b base) (label_of b base) p n i e, children_hit p n i e) (ap₂ (tree (label_of b base i)) c r)
      go (no e) c r = rw (kids_miss (parent b base) (label_of b base) p n i e, children_miss p n i e) r

  -- all records are linked, and the root is entered
  pub loaded : {m m' : Table} {p : ℕ} (n : ℕ) → 1 ≤ n → (Rule n → Linking m n 1) → Entered n p 0 (label_of b base 0) m m' → Loaded b base n m'
  unfolding Loaded tree_of
  loaded zero some h e rule places room few = absurd (omega arith)
  loaded {m} {m'} {p} (suc k) some h e rule places room few =
      let i : suc k - 1 ≡ k = omega arith in
      rw (i, ← lists 0 k 1)
      (load_end (parent b base) (label_of b base) room few (λ x le lt. parent_first rule x le (omega arith))
      (subst (λ v. Loading (parent b base) (label_of b base) m (suc k) v 1) i (h rule)) e)
