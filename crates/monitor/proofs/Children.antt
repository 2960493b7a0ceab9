-- Each live node's count is right wherever a table holds a tree, so in every state of a run, in what a call leaves and in all that stands; in a table with
-- a wrong one stands no tree, so a script over it is turned away. Assumes nothing.
use mathlib.Core.Path.{◌≡◌, ap, subst}
use mathlib.Core.List.{List}
use Prim.Native.Nat.{ℕ}
use native.Mathlib.Omega.{arith}
use native.Mathlib.Nat.{le_refl}
use lib.IntN.{pos}
use Rattle.rules.specs.Limits.{bad_follow_on}
use Rattle.rules.specs.Level.{public}
use Rattle.rules.specs.Tree.{Forest, Place}
use Rattle.rules.specs.Run.{operand_value, current}
use Rattle.rules.specs.Outcome as Rules
use Rattle.rules.specs.Bytes.{variable_count}
use Rattle.rules.specs.History.{Store, after}
use Rattle.table.specs.Cells.{Table, cells}
use Rattle.table.specs.Promises.{Loaded}
use Rattle.lent.specs.Children.{Counts, WrongCount}
use Rattle.lent.proofs.Children.{holds_counts, stands_counts, wrong_stands}
use Rattle.table.proofs.Moves.{counted}
use Rattle.lent.proofs.Resuming.{stands_one}
use Rattle.monitor.specs.declared.entry.Outcome.{Outcome}
use Rattle.monitor.specs.Promises.{told, Lent, Leaves, places_in, Tree}
use Rattle.monitor.specs.Follow.{HoldsStore, follow_on, Follows, over, none, StandsIn}
use Rattle.monitor.specs.Children.{CountsInside, CountsKept}
use Rattle.monitor.proofs.Histories.{one_store}

pub counts_inside : CountsInside
unfolding Loaded operand_value current
counts_inside =
    record {
      load = λ b base n m right few l. holds_counts (l right n (le_refl n) few);
      on_the_way = λ h lent total e x k r c. holds_counts c.stands.memory.tree;
      answers = λ places vars x m μ s. ap pos (counted s.tree);
    }

-- for every kind of node table in which at most one tree stands
module _ {T : Type 0} (places : T → ℕ) (HoldsTree : T → ℕ → Forest → Place → Type 0) (StandsIn : T → Forest → Type 0) (spelt : T → Table)
    (one : (w : T) (t u : Forest) → StandsIn w t → StandsIn w u → t ≡ u)
    (held : (w : T) (k : ℕ) (t : Forest) (p : Place) → HoldsTree w k t p → Counts (spelt w) t)
    (stood : (w : T) (t : Forest) → StandsIn w t → Counts (spelt w) t) (unstood : (w : T) (t : Forest) → WrongCount (spelt w) → StandsIn w t → ⊥) where
  scripts : (b : List ℕ) (budget : ℕ) (x x' : Lent T) (r : Outcome) (s : Store) → Follows places HoldsTree StandsIn b budget x x' r → HoldsStore StandsIn x s
      → Counts (spelt x'.table) (after s (follow_on places b budget x)).tree
  scripts b budget x x' r s (over s' h tells h') k =
      subst (λ z. Counts (spelt x'.table) (after z (follow_on places b budget x)).tree)
      (one_store places HoldsTree StandsIn one public x s' s h k) (stood _ _ h'.tree)
  scripts b budget x x' r s (none h tells) k = absurd (h s k)

  wrong : (b : List ℕ) (budget : ℕ) (x x' : Lent T) (r : Outcome) → Follows places HoldsTree StandsIn b budget x x' r → WrongCount (spelt x.table)
      → (r ≡ told (Rules.rejected bad_follow_on 0)) × (x' ≡ x)
  wrong b budget x x' r (over s h tells h') w = absurd (unstood _ _ w h.tree)
  wrong b budget x x' r (none h tells) w = (tells.outcome, tells.leaves)

  pub counts_kept_of : CountsKept places HoldsTree StandsIn spelt
  unfolding told
  counts_kept_of =
      record {
        jobs = λ b budget x x' r e p q. held _ _ _ _ (subst (Leaves places HoldsTree (variable_count b) x x') q p.leaves).tree;
        standing = λ x s h. stood _ _ h.tree;
        scripts = scripts;
        wrong = wrong;
      }

-- over words
pub counts_kept : CountsKept places_in Tree StandsIn cells
counts_kept =
    counts_kept_of places_in Tree StandsIn cells (λ w t u h k. stands_one (omega arith) h k) (λ w k t p h. holds_counts h.holds)
    (λ w t h. stands_counts h) (λ w t c h. wrong_stands (omega arith) c h)
