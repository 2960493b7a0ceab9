-- The marks are as many as the tree has nodes: each node stands at one place, and that has a mark. Assumes nothing.
use mathlib.Core.Path.{◌≡◌, refl, sym, ap, ◌∙◌}
use mathlib.Core.Bool.{Bool, not}
use mathlib.Core.List.{List}
use Prim.Native.Nat.{ℕ, zero, suc, ◌+◌, ◌<◌, ◌≤◌}
use native.Mathlib.Numerals.{add-one}
use native.Mathlib.Omega.{arith}
use lib.Dec.{eqb}
use borrow.Author.Tests.{ne_eqb}
use lib.ListN.{length, get_or, take}
use Rattle.std.specs.List.{count_by}
use Rattle.std.proofs.lemmas.List.Sums.{count_by_more_yes, count_by_more_no}
use Rattle.rules.specs.Limits.{max_nodes}
use Rattle.rules.specs.Tree.{size}
use Rattle.table.specs.Cells.{gone}
use Rattle.table.specs.Holds.{times}
use Rattle.lent.specs.Stands.{flag, seen, Marked}
use Rattle.table.proofs.Counting.{sum_to, sum_ext, sum_bound, sum_stored}
use Rattle.writer.specs.Writes.{Counted}

flag_one : (j : ℕ) → flag j ≤ 1
flag_one zero = omega arith
flag_one (suc j) = omega arith

pub counted : (places : ℕ) (marks : List ℕ) (r : ℕ) → places ≤ max_nodes → r ≡ sum_to places (seen marks) → Counted places marks r
unfolding Marked seen
counted places marks r few e =
    record {
      few = omega (arith, sum_bound places (seen marks) (λ i. flag_one (get_or marks i 0)));
      size =
          λ m t marked h.
          e ∙ sum_ext places (λ y. times y h.placed) (seen marks) (λ i lt. sym (marked t h i lt (omega arith)))
          ∙ sum_stored m places gone gone h.placed h.stored ∙ ap size h.is_tree;
    }

abbrev pub is_mark : ℕ → Bool
is_mark x = not (eqb x 0)

-- one place more
one_more : (marks : List ℕ) (n m : ℕ) → n < length marks → get_or marks n 0 ≡ m → count_by is_mark (take n marks) ≡ sum_to n (seen marks)
    → count_by is_mark (take (n + 1) marks) ≡ sum_to (suc n) (seen marks)
unfolding seen
one_more marks n zero lt e rest = let z : flag (get_or marks n 0) ≡ 0 = ap flag e in omega (arith, count_by_more_no is_mark marks n 0 lt (ap is_mark e), rest)
one_more marks n (suc k) lt e rest = let z : flag (get_or marks n 0) ≡ 1 = ap flag e in omega (arith, count_by_more_yes is_mark marks n 0 lt (ap is_mark e ∙ ap not (ne_eqb (suc k) 0 (λ z. omega arith))), rest)

-- so many of the first places have a mark
pub tallied : (marks : List ℕ) (n : ℕ) → n ≤ length marks → count_by is_mark (take n marks) ≡ sum_to n (seen marks)
tallied marks zero le = refl
tallied marks (suc n) le =
    sym (ap (λ k. count_by is_mark (take k marks)) (add-one n)) ∙ one_more marks n _ (omega arith) refl (tallied marks n (omega arith))
