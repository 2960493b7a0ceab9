-- A follow-on script over lent records: the words that the first records were copied into hold what these hold, and back. More than 512 records are
-- only asked for a tree. Assumes nothing.
use mathlib.Core.Path.{◌≡◌, sym, ◌∙◌, ap, subst}
use mathlib.Core.Bool.{Bool}
use mathlib.Core.List.{List}
use Prim.Native.Nat.{ℕ, ◌*◌, ◌<◌, ◌≤◌, min}
use native.Mathlib.Omega.{arith}
use lib.Dec.{leb}
use lib.IntN.{ℤ}
use lib.ListN.{length, replicate, length-replicate, get_or-replicate}
use borrow.Author.Tests.{leb-true, leb-false}
use Rattle.rules.specs.Limits.{max_nodes, bad_follow_on}
use Rattle.rules.specs.Outcome as Rules
use Rattle.rules.specs.History as History
use Rattle.rules.specs.History.{Store, after}
use Rattle.rules.proofs.Tests.{Test, holds, fails, test}
use Rattle.lent.specs.declared.node.Node.{Node}
use Rattle.table.specs.Cells.{cell_size, cells, gone}
use Rattle.lent.specs.Lent.{nodes_table, stored}
use Rattle.lent.specs.Stands.{Stands, Decided, Marked}
use Rattle.lent.proofs.Copies.{length_stored, length_loaded, loaded_at}
use Rattle.lent.proofs.Resuming.{stands_same, decided_same, marked_same, holds_stands}
use Rattle.monitor.specs.declared.entry.Outcome.{Outcome}
use Rattle.monitor.specs.Promises as Words
use Rattle.monitor.specs.Promises.{told, Lent, lent, lent_by, Leaves}
use Rattle.monitor.specs.Follow.{HoldsStore, Tells, Follows, over, none, StandsAmong, Surveyed, Declined, by_store, by_script, FollowsOver}
use Rattle.monitor.proofs.Followed.{declined}
use Rattle.monitor.proofs.Taken.{fair}
use Rattle.entry.specs.Promises.{Tree, kept_of}
use Rattle.entry.specs.Records.{StandsIn, Loads, Unmarked, Surveys}
use Rattle.entry.proofs.Runs as Runs
use Rattle.entry.proofs.Numbers.{word_count}

-- no place has a mark at first
pub unmarked : Unmarked (replicate max_nodes 0)
unmarked = record { long = omega (arith, length-replicate {A = ℕ} max_nodes 0); none = λ x lt. get_or-replicate {A = ℕ} max_nodes x 0 0 lt }

-- the first c records are copied into words
pub load_asks : (ns : List Node) (c : ℕ) → c ≡ min (length ns) max_nodes → (w : List ℕ) → length w ≡ word_count → (c ≤ length ns) × (cell_size * c ≤ length w)
load_asks ns c few w long = (omega (arith, few), omega (arith, few, long))

module _ (ns : List Node) (c : ℕ) (few : c ≡ min (length ns) max_nodes) (w w' : List ℕ) (long : length w ≡ word_count) (l : Loads ns c w w') where
  same_length : length w' ≡ word_count
  same_length = ap length l.words ∙ length_loaded ns c w ∙ long

  module _ (le : length ns ≤ max_nodes) where
    all : c ≡ length ns
    all = omega (arith, few, le)

    pub same_cells : (x : ℕ) → x < length ns → cells w' x ≡ nodes_table ns x
    same_cells x lt = ap (λ v. cells v x) l.words ∙ loaded_at ns w c (omega (arith, few, long)) l.fit x (omega (arith, all, lt))

    pub reach : min (length ns) gone ≡ length ns
    reach = omega (arith, le)

    surveyed : {marks : List ℕ} {stands : Bool} → Surveys ns marks stands → Surveyed w' (length ns) stands marks
    surveyed {marks} {stands} s =
        record {
          long = omega (arith, same_length, le);
          decided = decided_same same_cells (subst (λ k. Decided (nodes_table ns) k stands) reach s.decided);
          marked = λ a. marked_same marks same_cells (subst (λ k. Marked (nodes_table ns) k marks) reach (s.marked a));
        }

  pub run_asks : {marks : List ℕ} {stands : Bool} → Surveys ns marks stands → length marks ≡ max_nodes
      → (length ns ≤ max_nodes → Surveyed w' (length ns) stands marks) × (max_nodes ≤ length marks)
  run_asks known all-marks = (λ le. surveyed le known, omega (arith, all-marks))

  -- the script over the words, with so many places, whose answer is r; k records are to be filled
  module _ {stands : Bool} {marks : List ℕ} (known : Surveys ns marks stands) (b : List ℕ) (budget : ℕ) (levels : List ℕ) (values values' : List ℤ)
      (board board' w'' : List ℕ) (r : Outcome) (k : ℕ) (ek : k ≡ kept_of r (length ns))
      (h : FollowsOver b budget (length ns) stands (lent w' levels values board) (lent w'' levels values' board') r) where
    abbrev x : Lent (List ℕ)
    x = lent w' levels values board

    abbrev x' : Lent (List ℕ)
    x' = lent w'' levels values' board'

    -- more than 512 records are not filled
    turned : Declined b budget (length ns) stands levels (length values) r → k ≡ 0
    unfolding told
    turned (by_store z e) = Runs.none ns x x' r k ek bad_follow_on 0 e
    turned (by_script j i z a e) = Runs.none ns x x' r k ek j i e

    pub store_asks : length w'' ≡ word_count → (k ≤ length ns) × (cell_size * k ≤ length w'')
    store_asks len = go (test (leb (length ns) max_nodes))
      where
        by : Follows (λ _. length ns) Words.Tree (StandsAmong (length ns)) b budget x x' r → (k ≤ length ns) × (cell_size * k ≤ length w'')
        by (over s g t a) = Runs.store_asks ns x x' r k ek (length levels) _ t.outcome t.leaves len
        by (none g t) = Runs.store_asks ns x x' r k ek (length levels) _ t.outcome t.leaves len

        go : Test (leb (length ns) max_nodes) → (k ≤ length ns) × (cell_size * k ≤ length w'')
        go (holds e) = by (h.few (leb-true (length ns) max_nodes e))
        go (fails e) = let z = turned (h.many (leb-false (length ns) max_nodes e)).0 in (omega arith, omega arith)

    -- the records are filled
    module _ (ns' : List Node) (filled : ns' ≡ stored w'' k ns) where
      abbrev y : Lent (List Node)
      y = lent ns levels values board

      abbrev y' : Lent (List Node)
      y' = lent ns' levels values' board'

      as_many : length ns' ≡ length ns
      as_many = ap length filled ∙ length_stored w'' k ns

      module _ (le : length ns ≤ max_nodes) where
        -- a store in the words is one in the records, and back
        into : (s : Store) → HoldsStore (StandsAmong (length ns)) x s → HoldsStore StandsIn y s
        into s g =
            record {
              even = g.even;
              variables = g.variables;
              tree = subst (λ n. Stands (nodes_table ns) n s.tree) (sym (reach le)) (stands_same (λ z lt. sym (same_cells le z lt)) g.tree);
            }

        out_of : (s : Store) → HoldsStore StandsIn y s → HoldsStore (StandsAmong (length ns)) x s
        out_of s g =
            record {
              even = g.even;
              variables = g.variables;
              tree = stands_same (same_cells le) (subst (λ n. Stands (nodes_table ns) n s.tree) (reach le) g.tree);
            }

        -- so is the store that the script leaves
        afterwards : (s : Store) (o : Rules.Outcome) → r ≡ told o → Leaves length Tree (length levels) y y' o
            → HoldsStore StandsIn y s → HoldsStore (StandsAmong (length ns)) x' (History.leaves s o) → HoldsStore StandsIn y' (History.leaves s o)
        unfolding History.leaves
        afterwards s (Rules.rejected j i) e z g a = subst (λ (v : Lent (List Node)). HoldsStore StandsIn v s) (sym z) g
        afterwards s (Rules.ran d) e z g a =
            let q : length ns ≡ min (length ns') gone = omega (arith, as_many, le) in
            record {
              even = a.even;
              variables = a.variables;
              tree = subst (λ n. Stands (nodes_table ns') n d.last.memory.tree) q (holds_stands z.tree.holds a.tree.rules);
            }

        tells : (o : Rules.Outcome) → Tells (λ _. length ns) Words.Tree x x' o r → Tells length Tree y y' o r
        tells o t = record { outcome = t.outcome; answered = t.answered; leaves = Runs.leaves ns x x' r k ek ns' filled (length levels) o t.outcome t.leaves }

        over_few : Follows (λ _. length ns) Words.Tree (StandsAmong (length ns)) b budget x x' r → Follows length Tree StandsIn b budget y y' r
        unfolding lent_by after
        over_few (over s g t a) = let u = tells _ t in over s (into s g) u (afterwards s _ u.outcome u.leaves (into s g) a)
        over_few (none g t) = none (λ s z. g s (out_of s z)) (tells _ t)

      -- all that is known of more records is whether a tree stands in them
      over_many : Declined b budget (length ns) stands levels (length values) r × (x' ≡ x) → Follows length Tree StandsIn b budget y y' r
      over_many (d, same) =
          let z : ns' ≡ ns = filled ∙ ap (λ m. stored w'' m ns) (turned d) in
          let back : y' ≡ y = λ i. record { table = z i; levels = levels; values = (same i).values; board = (same i).board } in
          subst (λ (v : Lent (List Node)). Follows length Tree StandsIn b budget y v r) (sym back)
          (declined length Tree StandsIn b budget y (record { sound = known.decided.sound; exact = known.decided.exact }) (λ t g. fair g) r d)

      pub followed : Follows length Tree StandsIn b budget y y' r
      followed = go (test (leb (length ns) max_nodes))
        where
          go : Test (leb (length ns) max_nodes) → Follows length Tree StandsIn b budget y y' r
          go (holds e) = let le = leb-true (length ns) max_nodes e in over_few le (h.few le)
          go (fails e) = over_many (h.many (leb-false (length ns) max_nodes e))
