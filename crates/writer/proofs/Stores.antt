-- What stands in an area once the three parts of a job are stored there is the job of every store that is held. Assumes nothing.
use mathlib.Core.Path.{◌≡◌, refl, sym, ap, ap₂, subst, ◌∙◌}
use mathlib.Core.List.{List, ◌++◌, flat_map, append_assoc}
use Prim.Native.Nat.{ℕ, zero, suc, ◌+◌, ◌*◌, ◌<◌}
use native.Mathlib.Omega.{arith}
use lib.ListN.{length, drop, length-append}
use lib.IntN.{ℤ}
use Rattle.rules.specs.Limits.{trailer_size, variable_size, node_size, no_parent}
use Rattle.rules.specs.Number.{Fits}
use Rattle.rules.specs.Tree.{size}
use Rattle.rules.specs.Bytes.{two}
use Rattle.rules.specs.Job.{Variable, listed}
use Rattle.rules.specs.History.{Store}
use Rattle.rules.specs.Write.{trailer, listing, node_bytes, variable_bytes, written_size, written, RangedTree, RangedVariables, Ranged}
use Rattle.rules.proofs.Decode.{listed_length}
use Rattle.rules.proofs.Listing.{listing_length}
use Rattle.rules.proofs.Packed.{packed_length}
use Rattle.rules.proofs.Number.{signed_any}
use Rattle.rules.proofs.Written.{entry_size, variable_size_law}
use Rattle.table.specs.Cells.{cells, gone}
use Rattle.table.specs.Holds.{Placed, empty, node, erase, Stored}
use Rattle.lent.proofs.Resuming.{stands_one}
use Rattle.monitor.specs.Promises.{Lent, lent}
use Rattle.monitor.specs.Follow.{HoldsStore, StandsAmong}
use Rattle.writer.specs.Area.{replaced, lent_variable, VariablesPut}
use Rattle.writer.specs.Nodes.{NodesPut}
use Rattle.writer.specs.Writes.{Whole, WholePut}
use Rattle.writer.proofs.Area.{replaced_on}

-- the numbers are of 32 bits
ranged_tree : (words : List ℕ) (n u v : ℕ) (f : Placed) → Stored (cells words) n u v f → RangedTree (erase f)
unfolding cells
ranged_tree words n u v empty h = tt
ranged_tree words n u v (node x l c r) h =
    (subst Fits (ap (λ a. a.label.value) h.1) (signed_any _), ranged_tree words n x gone c h.2, ranged_tree words n u x r h.3)

ranged_variables : (f : ℕ → Variable) (n i : ℕ) → ((k : ℕ) → k < i + n → Fits (f k).value) → RangedVariables (listed f n i)
unfolding listed
ranged_variables f zero i h = tt
ranged_variables f (suc n) i h = (h i (omega arith), ranged_variables f n (suc i) (λ k lt. h k (omega arith)))

trailer_size_law : (a b c : ℕ) → length (trailer a b c) ≡ trailer_size
unfolding trailer two
trailer_size_law a b c = refl

module _ (words : List ℕ) (places nodes : ℕ) (levels : List ℕ) (values : List ℤ) (end : ℕ) (area a₁ a₂ a₃ : List ℕ)
    (w : Whole words places nodes levels values end (length area)) (vs : VariablesPut levels values area a₁)
    (ns : NodesPut (cells words) places (variable_size * length levels) a₁ a₂)
    (ts : a₃ ≡ replaced a₂ end (trailer (variable_size * length levels) end end)) where
  abbrev x : Lent (List ℕ)
  x = lent words levels values area

  module _ (s : Store) (h : HoldsStore (StandsAmong places) x s) where
    as_many : length s.variables ≡ length levels
    as_many = ap length h.variables ∙ listed_length (lent_variable levels values) (length levels) 0

    nodes_are : size s.tree ≡ nodes
    nodes_are = ap size (stands_one (omega (arith, w.tree.few)) h.tree w.tree.stands) ∙ w.tree.all

    abbrev vars : List ℕ
    vars = flat_map variable_bytes s.variables

    abbrev recs : List ℕ
    recs = flat_map node_bytes (listing no_parent 0 s.tree)

    vars_long : length vars ≡ variable_size * length levels
    vars_long = packed_length variable_bytes variable_size variable_size_law s.variables ∙ ap (λ k. variable_size * k) as_many

    recs_long : length recs ≡ node_size * nodes
    recs_long = packed_length node_bytes node_size entry_size (listing no_parent 0 s.tree) ∙ ap (λ k. node_size * k) (listing_length no_parent 0 s.tree ∙ nodes_are)

    size_is : written_size s ≡ end
    unfolding written_size
    size_is = omega (arith, as_many, nodes_are, w.last)

    abbrev tail : List ℕ
    tail = trailer (variable_size * length levels) end end

    three : a₃ ≡ replaced area 0 (vars ++ recs ++ tail)
    unfolding NodesPut
    three =
        let room = w.room in
        let last = w.last in
        let vl = vars_long in
        let nl = recs_long in
        let vn = length-append vars recs in
        ts
        ∙ ap (λ a. replaced a end tail) (ns s.tree h.tree
        ∙ ap (λ a. replaced a (variable_size * length levels) recs) (vs.bytes ∙ ap (λ l. replaced area 0 (flat_map variable_bytes l)) (sym h.variables))
        ∙ replaced_on area 0 (variable_size * length levels) vars recs (omega arith) (omega arith))
        ∙ replaced_on area 0 end (vars ++ recs) tail (omega arith) (omega arith)

    is_written : vars ++ recs ++ tail ≡ written s
    unfolding written
    is_written =
        append_assoc vars recs tail
        ∙ ap₂ (λ b e. vars ++ (recs ++ trailer (variable_size * b) e e)) (sym as_many) (sym size_is)

    pub job_put : (a₃ ≡ written s ++ drop (written_size s + trailer_size) area) × Ranged s
    unfolding replaced
    job_put = (
      three
          ∙ ap (λ b. b ++ drop (0 + length (vars ++ recs ++ tail)) area) is_written
          ∙ ap (λ k. written s ++ drop k area) {x = 0 + length (vars ++ recs ++ tail)} {y = written_size s + trailer_size}
          (let vn = length-append vars recs in
          let vt = length-append (vars ++ recs) tail in
          let tl = trailer_size_law (variable_size * length levels) end end in
          omega (arith, vars_long, recs_long, size_is, w.last)),
      record {
        variables =
            subst RangedVariables (sym h.variables) (ranged_variables (lent_variable levels values) (length levels) 0 (λ k lt. vs.fits k (omega arith)));
        tree = subst RangedTree h.tree.is_tree (ranged_tree words places gone gone h.tree.placed h.tree.stored);
      },
    )

  pub whole_put : WholePut places x a₃
  unfolding WholePut
  whole_put s h = job_put s h
