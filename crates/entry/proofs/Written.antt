-- Writing back over lent records: the words that the first records were copied into hold what these hold. More than 512 records are only asked for a
-- tree. Assumes nothing.
use Rattle.std.specs.Prelude.{Result}
use mathlib.Core.Path.{◌≡◌, refl, sym, subst}
use mathlib.Core.Bool.{Bool}
use mathlib.Core.List.{List}
use Prim.Native.Nat.{ℕ, ◌≤◌, min}
use lib.ListN.{length}
use lib.IntN.{ℤ}
use Rattle.rules.specs.Limits.{max_nodes}
use Rattle.rules.specs.Tree.{Forest}
use Rattle.lent.specs.declared.node.Node.{Node}
use Rattle.lent.specs.Lent.{nodes_table}
use Rattle.lent.specs.Stands.{Stands}
use Rattle.lent.proofs.Resuming.{stands_same}
use Rattle.monitor.specs.Promises.{Lent, lent}
use Rattle.monitor.specs.Follow.{StandsAmong}
use Rattle.monitor.proofs.Followed.{Decides}
use Rattle.monitor.proofs.Taken.{fair}
use Rattle.writer.specs.Writes.{WritesBack, WritesOver, unstorable, crowded, known}
use Rattle.writer.proofs.Lifted.{not_storable, not_few_places, carried}
use Rattle.entry.specs.Records.{StandsIn, Loads, Surveys}
use Rattle.entry.proofs.Following.{same_cells, reach}
use Rattle.entry.proofs.Numbers.{word_count}

module _ (ns : List Node) (c : ℕ) (few : c ≡ min (length ns) max_nodes) (w w' : List ℕ) (long : length w ≡ word_count) (l : Loads ns c w w')
    {stands : Bool} {marks : List ℕ} (surveyed : Surveys ns marks stands) (levels : List ℕ) (values : List ℤ) (board : List ℕ) where
  abbrev y : Lent (List Node)
  y = lent ns levels values board

  decides : Decides StandsIn ns stands
  decides = record { sound = surveyed.decided.sound; exact = surveyed.decided.exact }

  module _ (le : length ns ≤ max_nodes) where
    into : (t : Forest) → StandsAmong (length ns) w' t → StandsIn ns t
    into t h =
        subst (λ n. Stands (nodes_table ns) n t) (sym (reach ns c few w w' long l le)) (stands_same (λ x lt. sym (same_cells ns c few w w' long l le x lt)) h)

    out_of : (t : Forest) → StandsIn ns t → StandsAmong (length ns) w' t
    out_of t h = stands_same (same_cells ns c few w w' long l le) (subst (λ n. Stands (nodes_table ns) n t) (reach ns c few w w' long l le) h)

  pub written_back : {area' : List ℕ} {r : Result ℕ ℕ} → WritesOver (length ns) stands (lent w' levels values board) area' r → WritesBack length StandsIn y area' r
  written_back (unstorable z e f) = rw (e, f) (not_storable length StandsIn y decides z)
  written_back (crowded z lt e f) = rw (e, f) (not_few_places length StandsIn y decides (λ t h. fair h) z lt)
  written_back (known le h) =
      carried (λ _. length ns) length (StandsAmong (length ns)) StandsIn w' ns levels values board refl (into le) (out_of le) h
