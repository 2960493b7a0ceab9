-- Where the checks 11 and 10 let a table pass, its tree has as many nodes as there are marks: so 14 is decided, and the job is written. Assumes nothing.
use Rattle.std.specs.Prelude.{Ok, Err}
use mathlib.Core.Path.{◌≡◌, sym, ap}
use mathlib.Core.Bool.{Bool, true}
use mathlib.Core.List.{List}
use Prim.Native.Nat.{ℕ, ◌+◌, ◌*◌, ◌<◌, ◌≤◌}
use native.Mathlib.Omega.{arith}
use lib.ListN.{length}
use Rattle.rules.specs.Limits.{max_variables, max_nodes, trailer_size, variable_size, node_size, bad_area}
use Rattle.rules.specs.Tree.{size}
use Rattle.rules.specs.History.{Store}
use Rattle.rules.specs.Write.{written_size}
use Rattle.table.specs.Cells.{cells}
use Rattle.monitor.specs.Promises.{Lent}
use Rattle.monitor.specs.Follow.{HoldsStore, StandsAmong, Storable, storable, Surveyed}
use Rattle.monitor.proofs.Followed.{Decides, many_held, held_store}
use Rattle.monitor.proofs.Taken.{fair}
use Rattle.writer.specs.Writes.{Counted, Whole, WholePut, WritesOver, known}
use Rattle.writer.proofs.Lifted.{decides, too_short, long_enough}

-- what is known of variables that are such as a job could hold
pub record Sound (stands : Bool) (levels : List ℕ) (values : ℕ) : Type 0 where
  pub stood : stands ≡ true
  pub even : length levels ≡ values
  pub few : length levels ≤ max_variables

pub sound : {stands : Bool} {levels : List ℕ} {values : ℕ} → Storable stands levels values true → Sound stands levels values
sound (storable a e few each) = record { stood = a; even = e; few = few }

module _ (places : ℕ) {stands : Bool} {marks : List ℕ} (x : Lent (List ℕ)) (few : places ≤ max_nodes) (sv : Surveyed x.table places stands marks)
    (good : Storable stands x.levels (length x.values) true) (nodes : ℕ) (count : Counted places marks nodes) where
  surveyed : Decides (StandsAmong places) x.table stands
  surveyed = decides sv.decided

  store : (s : Store) × HoldsStore (StandsAmong places) x s
  store = held_store x surveyed (λ t h. fair h) good

  all_nodes : nodes ≡ size store.0.tree
  all_nodes = count.size (cells x.table) store.0.tree (sv.marked (sound good).stood) store.1.tree

  size_is : written_size store.0 ≡ variable_size * length x.levels + node_size * nodes
  unfolding written_size
  size_is = omega (arith, all_nodes, many_held x store.0 store.1)

  -- there is no room for the job
  pub short_over : length x.board < variable_size * length x.levels + node_size * nodes + trailer_size → WritesOver places stands x x.board (Err bad_area)
  unfolding store
  short_over lt = known few (too_short (λ _. places) (StandsAmong places) x surveyed (λ t h. fair h) good few (omega (arith, size_is)))

  -- there is, and it is written
  module _ (end : ℕ) (last : end ≡ variable_size * length x.levels + node_size * nodes) (room : end + trailer_size ≤ length x.board) where
    pub whole : Whole x.table places nodes x.levels x.values end (length x.board)
    whole =
        record {
          even = (sound good).even;
          tree =
              record {
                long = sv.long;
                few = few;
                t = store.0.tree;
                stands = store.1.tree;
                all = sym all_nodes;
                room = omega arith;
              };
          last = last;
          room = room;
        }

    pub long_over : {area' : List ℕ} → WholePut places x area' → WritesOver places stands x area' (Ok (end + trailer_size))
    unfolding store WholePut
    long_over h =
        known few
        (long_enough (λ _. places) (StandsAmong places) x surveyed (λ t h. fair h) good few (ap Ok (omega (arith, size_is))) (omega (arith, size_is)) (h store.0 store.1))
