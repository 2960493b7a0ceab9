-- From a run over words to a run over records: where the script was turned away no record is filled, and where it was run each record is that of its
-- place, so the records hold the tree that the words hold. Assumes nothing.
use mathlib.Core.Path.{◌≡◌, refl, sym, ◌∙◌, ap, subst}
use mathlib.Core.List.{List}
use Prim.Native.Nat.{ℕ, ◌*◌, ◌≤◌}
use native.Mathlib.Omega.{arith}
use lib.ListN.{length}
use Rattle.rules.specs.Bytes.{variable_count}
use Rattle.rules.specs.Run.{Ending, finished, stopped, Ended}
use Rattle.rules.specs.Outcome as Rules
use Rattle.rules.specs.Outcome.{run_job}
use Rattle.lent.specs.declared.node.Node.{Node}
use Rattle.table.specs.Cells.{cell_size}
use Rattle.lent.specs.Lent.{stored}
use Rattle.lent.proofs.Copies as Copies
use Rattle.monitor.specs.declared.entry.Outcome.{Outcome}
use Rattle.monitor.specs.Promises as Words
use Rattle.monitor.specs.Promises.{told, told_by, Lent, lent, lent_by, Ran, Leaves, Promises}
use Rattle.entry.specs.Promises.{Tree, kept_of}
use Rattle.entry.proofs.Numbers.{word_count}

-- a run that has ended fills every record
ran_all : (k : Ending) (e : Ended) (n : ℕ) → kept_of (told_by k e) n ≡ n
unfolding kept_of told_by
ran_all finished e n = refl
ran_all (stopped k) e n = refl

-- a run over words, with as many places as there are records, whose answer is r; k records are to be filled
module _ (ns : List Node) (x x' : Lent (List ℕ)) (r : Outcome) (k : ℕ) (ek : k ≡ kept_of r (length ns)) where
  pub none : (j i : ℕ) → r ≡ told (Rules.rejected j i) → k ≡ 0
  unfolding told kept_of
  none j i e = ek ∙ ap (λ s. kept_of s (length ns)) e

  all : (e : Ended) → r ≡ told (Rules.ran e) → k ≡ length ns
  unfolding told
  all e q = ek ∙ ap (λ s. kept_of s (length ns)) q ∙ ran_all e.ending e (length ns)

  asked : (n : ℕ) (o : Rules.Outcome) → r ≡ told o → Leaves (λ _. length ns) Words.Tree n x x' o → (k ≤ length ns) × (cell_size * k ≤ word_count)
  asked n (Rules.rejected j i) e h = let z = none j i e in (omega arith, omega arith)
  asked n (Rules.ran a) e h = let z = all a e in (omega arith, omega (arith, h.tree.holds.few))

  -- what `store` asks for
  pub store_asks : (n : ℕ) (o : Rules.Outcome) → r ≡ told o → Leaves (λ _. length ns) Words.Tree n x x' o → length x'.table ≡ word_count
      → (k ≤ length ns) × (cell_size * k ≤ length x'.table)
  store_asks n o e h len = let a = asked n o e h in (a.0, omega (arith, a.1))

  -- the records are filled
  module _ (ns' : List Node) (filled : ns' ≡ stored x'.table k ns) where
    abbrev pub y : Lent (List Node)
    y = lent ns x.levels x.values x.board

    abbrev pub y' : Lent (List Node)
    y' = lent ns' x'.levels x'.values x'.board

    pub leaves : (n : ℕ) (o : Rules.Outcome) → r ≡ told o → Leaves (λ _. length ns) Words.Tree n x x' o → Leaves length Tree n y y' o
    leaves n (Rules.rejected j i) e h =
        let z : ns' ≡ ns = filled ∙ ap (λ m. stored x'.table m ns) (none j i e) in
        λ i. record { table = z i; levels = (h i).levels; values = (h i).values; board = (h i).board }
    leaves n (Rules.ran a) e h =
        let z : ns' ≡ stored x'.table (length ns) ns = filled ∙ ap (λ m. stored x'.table m ns) (all a e) in
        let t = h.tree in
        let long : length ns ≤ length ns = omega arith in
        record {
          board = h.board;
          variables = h.variables;
          spare_levels = h.spare_levels;
          spare_values = h.spare_values;
          tree =
              subst (λ ms. Tree ms (length ns) a.last.memory.tree a.last.memory.cursor) (sym z)
              (record { used = t.used; free = t.free; at = t.at; holds = Copies.lent x'.table ns long t.holds });
        }

    -- the run over a job
    pub promised : (b : List ℕ) (budget : ℕ) → Promises (λ _. length ns) Words.Tree b budget x x' r → Promises length Tree b budget y y' r
    unfolding lent_by
    promised b budget p = record { outcome = p.outcome; answered = p.answered; leaves = leaves (variable_count b) _ p.outcome p.leaves }
