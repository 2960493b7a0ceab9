-- What blocks remember, after each change: block j takes no notice of a later one that remembers a node, and of a change in the tree it knows where its
-- node stands then, or that it has gone. Assumes nothing.
use mathlib.Core.Path.{◌≡◌, refl, sym, subst}
use mathlib.Core.Logic.{◌⊎◌, inl, inr}
use mathlib.Core.Bool.{true}
use mathlib.Core.Option.{Option, none, some, bind, some-injective, none-ne-some}
use mathlib.Core.List.{List}
use Prim.Native.Nat.{ℕ, ◌<◌, ◌≤◌}
use native.Mathlib.Omega.{arith}
use native.Mathlib.Decide.{ℕ_discrete}
use lib.Dec.{ltb}
use lib.IntN.{ℤ}
use lib.ListN.{length}
use lib.Seq.{get_or-set_same, get_or-set_other}
use borrow.Author.Tests.{ltb-true, ltb-false}
use Rattle.rules.specs.Tree.{Label, Forest, Side, Place, to, change, insert, remove, set_value, after_insert, after_remove}
use Rattle.rules.proofs.Tests.{Test, holds, fails, test}
use Rattle.table.specs.Cells.{Table}
use Rattle.table.specs.Holds.{Holds}
use Rattle.table.specs.Promises.{Added, Removed, Valued}
use Rattle.table.specs.Since.{never, number, kept, Remembers, stands, lost, Forgets}

-- block k remembers the node at x: the number of x is at most k, and no number goes below k
module _ (since : List ℕ) (x k : ℕ) (lx : x < length since) where
  within : Test (ltb k (number since x)) → number (kept since x k) x ≤ k
  unfolding kept
  within (holds z) = rw z (omega (arith, get_or-set_same since x k 0 lx))
  within (fails z) = rw z (omega (arith, ltb-false k (number since x) z))

  -- a number below k stays as it is
  small : {y : ℕ} → number since y < k → Test (ltb k (number since x)) → Dec (y ≡ x) → number (kept since x k) y ≡ number since y
  unfolding kept
  small h (holds z) (yes e) = absurd (omega (arith, ltb-true k (number since x) z, rw e at h))
  small {y} h (holds z) (no e) = rw z (get_or-set_other since x y k 0 e)
  small h (fails z) d = rw z

  -- one above j stays above j, where j is below k
  large : {y j : ℕ} → j < k → j < number since y → Test (ltb k (number since x)) → Dec (y ≡ x) → j < number (kept since x k) y
  unfolding kept
  large {y} l h (holds z) (yes e) = rw (z, e, get_or-set_same since x k 0 lx) l
  large {y} l h (holds z) (no e) = rw (z, get_or-set_other since x y k 0 e) h
  large l h (fails z) d = rw z h

module _ {m : Table} {n used free : ℕ} {t : Forest} (since : List ℕ) (x k : ℕ) (lx : x < length since) where
  pub kept_new : {p : Place} → Holds m n used free x t p → Remembers m n used free t (kept since x k) k x (some p)
  kept_new {p} h = stands p h (within since x k lx (test _))

  pub kept_other : {j y : ℕ} {o : Option Place} → j < k → Remembers m n used free t since j y o → Remembers m n used free t (kept since x k) j y o
  kept_other {y = y} l (stands p h z) = let s : number since y < k = omega arith in stands p h (omega (arith, small since x k lx s (test _) (ℕ_discrete y x)))
  kept_other {y = y} l (lost z) = lost (large since x k lx l z (test _) (ℕ_discrete y x))

-- the tree t has become t', and a node that stood at q stands at f q, or has gone and is forgotten
pub record Relocates (f : Place → Option Place) (m : Table) (n used free : ℕ) (t : Forest) (since : List ℕ) (m' : Table) (used' free' : ℕ) (t' : Forest)
    (since' : List ℕ) : Type 0 where
  pub moved : (y : ℕ) (q r : Place) → Holds m n used free y t q → f q ≡ some r → Holds m' n used' free' y t' r
  pub same : (y : ℕ) (q r : Place) → Holds m n used free y t q → f q ≡ some r → number since' y ≡ number since y
  pub gone : (y : ℕ) (q : Place) → Holds m n used free y t q → f q ≡ none → number since' y ≡ never
  pub either : (y : ℕ) → (number since' y ≡ number since y) ⊎ (number since' y ≡ never)

module _ {f : Place → Option Place} {m m' : Table} {n used free used' free' : ℕ} {t t' : Forest} {since since' : List ℕ}
    (c : Relocates f m n used free t since m' used' free' t' since') where
  pub remembers_after : {j y : ℕ} {o : Option Place} → j < never → Remembers m n used free t since j y o
      → Remembers m' n used' free' t' since' j y (bind o f)
  unfolding bind
  remembers_after {j} {y} l (stands p h z) = go (f p) refl
    where
      go : (o : Option Place) → f p ≡ o → Remembers m' n used' free' t' since' j y o
      go (some r) e = stands r (c.moved y p r h e) (omega (arith, c.same y p r h e))
      go none e = lost (omega (arith, c.gone y p h e))
  remembers_after {j} {y} l (lost z) = lost (go (c.either y))
    where
      go : (number since' y ≡ number since y) ⊎ (number since' y ≡ never) → j < number since' y
      go (inl e) = omega arith
      go (inr e) = omega arith

-- nothing is forgotten where each node stands still
abbrev stays : (Place → Place) → Place → Option Place
stays g q = some (g q)

still : (g : Place → Place) {m m' : Table} {n used free used' free' : ℕ} {t t' : Forest} {since : List ℕ}
    → ((y : ℕ) (q : Place) → Holds m n used free y t q → Holds m' n used' free' y t' (g q))
    → Relocates (stays g) m n used free t since m' used' free' t' since
still g {m' = m'} {n} {used' = used'} {free'} {t' = t'} h =
    record {
      moved = λ y q r k e. subst (Holds m' n used' free' y t') (some-injective _ _ e) (h y q k);
      same = λ y q r k e. refl;
      gone = λ y q k e. absurd (none-ne-some _ (sym e));
      either = λ y. inl refl;
    }

module _ {d : Side} {m m' : Table} {n used free at : ℕ} {t : Forest} {p : Place} {since : List ℕ} where
  module _ {l : Label} {x free' used' : ℕ} (a : Added d l m m' n used free at x free' used' t p) where
    pub added_relocates : x < n
        → Relocates (λ q. some (after_insert (to d p) q)) m n used free t since m' used' free' (change (to d p) (insert l) t) since
    added_relocates i = still (after_insert (to d p)) (a.moved i)

    pub refused_relocates : n ≤ x → Relocates some m n used free t since m' used' free' t since
    refused_relocates i = still (λ q. q) (a.kept i)

  pub removed_relocates : {free' : ℕ} {since' : List ℕ} → Removed d m m' n used free free' at t p → Forgets true d m n used free t p since since'
      → Relocates (after_remove (to d p)) m n used free t since m' used free' (change (to d p) remove t) since'
  removed_relocates a g = record { moved = a.moved; same = g.other; gone = g.lost refl; either = g.either }

pub valued_relocates : {m m' : Table} {n used free at : ℕ} {t : Forest} {p : Place} {since : List ℕ} {v : ℤ} → Valued v m m' n used free at t p
    → Relocates some m n used free t since m' used free (change p (set_value v) t) since
valued_relocates a = still (λ q. q) a.moved
