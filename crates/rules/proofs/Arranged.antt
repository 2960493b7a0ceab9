-- The rearranged job holds the same variables, tree and script, passes the checks with 13 too, runs as the old one, and a job in that order is its own
-- rearrangement. Around the nodes its bytes are the old ones; the nodes' entries are the listing of the old tree. Assumes nothing.
use mathlib.Core.Path.{◌≡◌, refl, sym, ap, subst, ◌∙◌}
use Prim.Native.Nat.{ℕ, zero, suc, ◌+◌, ◌-◌, ◌*◌, ◌%◌, ◌/◌, ◌≤◌, ◌<◌}
use native.Mathlib.Omega.{arith}
use mathlib.Core.Bool.{true, false}
use mathlib.Core.List.{List, flat_map}
use lib.ListN.{length, get_or, take, drop, length-append, length-drop, get_or-append, get_or-map}
use lib.Seq.{get_or-append-add, get_or-take, get_or-drop, length-take-le, ext_get_or}
use lib.Dec.{eqb-suc-zero, ltb}
use borrow.Author.Tests.{eq-eqb, lt-ltb, ltb-true, ltb-false}
use Rattle.rules.specs.Limits.{no_parent}
use Rattle.rules.specs.Number.{signed}
use Rattle.rules.specs.Tree.{Forest, size, TreeRules}
use Rattle.rules.specs.Bytes.{byte, half, two, nodes_at, script_at, variable_count, node_count, record_count, variable_place, node_place, record_place}
use Rattle.rules.specs.Check.{accepted, parent, existence, content, structure, parent_rule, house_rule, order_rule, variable_reads, node_reads, record_reads, variable_clean, node_clean, record_clean}
use Rattle.rules.specs.Check.{unordered, ordered, check_bytes_by}
use Rattle.rules.specs.Job.{listed, label_of, children_of, tree_of, job_tree}
use Rattle.rules.specs.Arrange.{Moved, moves, moved_bytes, arranged, ArrangerRight}
use Rattle.rules.proofs.Tests.{Test, holds, fails, test, clash}
use Rattle.rules.proofs.Checks.{Sections}
use Rattle.rules.proofs.Decode.{listed_at, listed_from_zero}
use Rattle.rules.proofs.Packed.{listed_is, packed_length, field_at, half_is, full_agree}
use Rattle.rules.proofs.ReadBytes.{spare_all, spare_zero, variables_8, nodes_12}
use Rattle.rules.proofs.Accepted.{Clean, Right, House, right_by, accept_by}
use Rattle.rules.proofs.Loaded.{tree_rules, node_rules}
use Rattle.rules.proofs.SameReads.{laid, Around, same_nodes_at, same_node_count, record_reads_law, around_right, around_house, around_script, around_runs}
use Rattle.rules.specs.Write.{Entry, listing}
use Rattle.rules.proofs.Listing.{listing_length, before_root}
use Rattle.rules.proofs.Entries.{entry_of, tree_list, tree_list_law, listed_tree}
use Rattle.rules.proofs.Moved.{below_at, moves_below, entry_from, moves_listing, moves_length, tree_size}
use Rattle.rules.proofs.Stays.{self, moves_same}
use Rattle.rules.proofs.Ordered.{listing_ordered}

-- the element behind the last
abbrev pub no_move : Moved
no_move = record { from = 0; parent = 0 }

moved_size : (b : List ℕ) (base : ℕ) (m : Moved) → length (moved_bytes b base m) ≡ 12
unfolding moved_bytes two listed
moved_size b base m = refl

-- bytes that are moved as they are
pub moved_byte : (b : List ℕ) (base : ℕ) (m : Moved) (j : ℕ) → j < 10 → byte (moved_bytes b base m) (suc (suc j)) ≡ byte b (node_place base m.from + (2 + j))
unfolding moved_bytes two
moved_byte b base m j h = listed_at (λ (k : ℕ). byte b (node_place base m.from + k)) 0 10 2 j h

module _ (b : List ℕ) (r : Right b) where
  abbrev n : ℕ
  n = node_count b

  abbrev new : List ℕ
  new = arranged b

  abbrev records : List Moved
  records = moves b (nodes_at b) (node_count b)

  abbrev facts : Sections b
  facts = (laid b r).sections

  front_length : length (take (nodes_at b) b) ≡ nodes_at b
  front_length = let f = facts in length-take-le (nodes_at b) b (omega arith)

  pub records_length : length records ≡ n
  records_length = moves_length b (nodes_at b) n r.parents (laid b r).some

  pub nodes_length : length (flat_map (moved_bytes b (nodes_at b)) records) ≡ 12 * node_count b
  nodes_length = packed_length (moved_bytes b (nodes_at b)) 12 (moved_size b (nodes_at b)) records ∙ ap (λ (k : ℕ). 12 * k) records_length

  pub same_length : length new ≡ length b
  unfolding arranged
  same_length =
      let f = facts in
      let x = front_length in
      let y = nodes_length in
      let z = length-drop (script_at b) b in
      length-append (take (nodes_at b) b) _
      ∙ (let w = length-append (flat_map (moved_bytes b (nodes_at b)) records) (drop (script_at b) b) in omega arith)

  pub in_front_law : (at : ℕ) → at < nodes_at b → byte new at ≡ byte b at
  unfolding arranged
  in_front_law at h = let x = front_length in get_or-append (take (nodes_at b) b) _ 0 at (omega arith) ∙ get_or-take (nodes_at b) b at 0 h

  pub behind : (at : ℕ) → script_at b ≤ at → byte new at ≡ byte b at
  unfolding arranged
  behind at h =
      let f = facts in
      let x = front_length in
      let y = nodes_length in
      ap (λ (i : ℕ). get_or new i 0) {x = at}
      {y = length (take (nodes_at b) b) + (length (flat_map (moved_bytes b (nodes_at b)) records) + (at - script_at b))} (omega arith)
      ∙ get_or-append-add (take (nodes_at b) b) _ _ 0
      ∙ get_or-append-add (flat_map (moved_bytes b (nodes_at b)) records) _ _ 0
      ∙ get_or-drop (script_at b) b (at - script_at b) 0
      ∙ ap (λ (i : ℕ). get_or b i 0) {x = script_at b + (at - script_at b)} {y = at} (omega arith)

  pub inside : (k j at : ℕ) → k < n → j < 12 → at ≡ nodes_at b + 12 * k + j → byte new at ≡ byte (moved_bytes b (nodes_at b) (get_or records k no_move)) j
  unfolding arranged
  inside k j at h l e =
      let x = front_length in
      let y = records_length in
      field_at (moved_bytes b (nodes_at b)) 12 (moved_size b (nodes_at b)) (take (nodes_at b) b) records (drop (script_at b) b) no_move k j at (omega arith) l
      (omega arith)

  pub new_around : Around b new
  new_around = record { long = same_length; front = λ x l h. in_front_law x l; behind = λ x l h. behind x l }

  -- nodes
  abbrev old_tree : Forest
  old_tree = tree_of b (nodes_at b) (node_count b)

  from_listing : (k : ℕ) → entry_from b (nodes_at b) (get_or records k no_move) ≡ get_or (listing no_parent 0 old_tree) k (entry_from b (nodes_at b) no_move)
  from_listing k =
      sym (get_or-map (entry_from b (nodes_at b)) records k no_move)
      ∙ ap (λ (es : List Entry). get_or es k (entry_from b (nodes_at b) no_move)) (moves_listing b (nodes_at b) n)

  -- the new parents: none for the root, and an earlier record for each other
  root_parent : (get_or records 0 no_move).parent ≡ 65535
  unfolding moves
  root_parent = refl

  new_parent_law : (k : ℕ) → suc k < n → (get_or records (suc k) no_move).parent < suc k
  unfolding entry_from tree_of size
  new_parent_law k h =
      let f = laid b r in
      let s = tree_size b (nodes_at b) n r.parents (laid b r).some in
      let z = before_root no_parent (label_of b (nodes_at b) 0) (children_of b (nodes_at b) 0 (n - 1) 1) (entry_from b (nodes_at b) no_move) k (omega arith) in
      let e : (get_or records (suc k) no_move).parent ≡ (get_or (listing no_parent 0 old_tree) (suc k) (entry_from b (nodes_at b) no_move)).parent =
      ap (λ (x : Entry). x.parent) (from_listing (suc k))
      in omega arith

  small_parent : (k : ℕ) → k < n → (get_or records k no_move).parent < 65536
  small_parent zero h = let z = root_parent in omega arith
  small_parent (suc k) h = let f = laid b r in let z = new_parent_law k h in omega arith

  module _ (k : ℕ) (h : k < n) where
    parent_is : parent new (nodes_at b) k ≡ (get_or records k no_move).parent
    unfolding parent moved_bytes two
    parent_is =
        half_is new (node_place (nodes_at b) k) (get_or records k no_move).parent (small_parent k h) (inside k 0 _ h (omega arith) (omega arith))
        (inside k 1 _ h (omega arith) (omega arith))

    label_byte : (j : ℕ) → j < 10 → byte new (node_place (nodes_at b) k + (2 + j)) ≡ byte b (node_place (nodes_at b) (get_or records k no_move).from + (2 + j))
    label_byte j l = inside k (suc (suc j)) _ h (omega arith) (omega arith) ∙ moved_byte b (nodes_at b) (get_or records k no_move) j l

    value_byte : (j : ℕ) → j < 4 → byte new (node_place (nodes_at b) k + 8 + j) ≡ byte b (node_place (nodes_at b) (get_or records k no_move).from + 8 + j)
    value_byte j l =
        ap (byte new) {x = node_place (nodes_at b) k + 8 + j} {y = node_place (nodes_at b) k + (2 + (6 + j))} (omega arith)
        ∙ label_byte (6 + j) (omega arith)
        ∙ ap (byte b) {x = node_place (nodes_at b) (get_or records k no_move).from + (2 + (6 + j))} {y = node_place (nodes_at b) (get_or records k no_move).from + 8 + j}
        (omega arith)

    first_value_byte : byte new (node_place (nodes_at b) k + 8) ≡ byte b (node_place (nodes_at b) (get_or records k no_move).from + 8)
    first_value_byte = label_byte 6 (omega arith)

    entry_is : entry_of new (nodes_at b) k ≡ entry_from b (nodes_at b) (get_or records k no_move)
    unfolding entry_of entry_from label_of existence content structure
    entry_is =
        let e = label_byte 0 (omega arith) in
        let c = label_byte 1 (omega arith) in
        let s = label_byte 2 (omega arith) in
        let v = full_agree new b (node_place (nodes_at b) k + 8) (node_place (nodes_at b) (get_or records k no_move).from + 8) first_value_byte
        (value_byte 1 (omega arith)) (value_byte 2 (omega arith)) (value_byte 3 (omega arith))
        in
        λ i. record {
          parent = parent_is i;
          label = record { value = signed (v i); existence = e i; content = c i; structure = s i };
        }

  new_entries : listed (entry_of new (nodes_at b)) n 0 ≡ listing no_parent 0 old_tree
  new_entries =
      listed_is (entry_of new (nodes_at b)) (entry_from b (nodes_at b) no_move) n (listing no_parent 0 old_tree)
      (listing_length no_parent 0 old_tree ∙ tree_size b (nodes_at b) n r.parents (laid b r).some) (λ k l. entry_is k l ∙ from_listing k)

  new_tree : tree_of new (nodes_at b) n ≡ old_tree
  unfolding tree_of
  new_tree =
      tree_list_law new (nodes_at b) n (laid b r).some ∙ ap tree_list new_entries
      ∙ listed_tree no_parent (label_of b (nodes_at b) 0) (children_of b (nodes_at b) 0 (n - 1) 1)

  -- "the same tree comes out"
  pub same_tree : job_tree new ≡ job_tree b
  unfolding job_tree
  same_tree = rw (same_nodes_at b new r new_around, same_node_count b new r new_around) new_tree

  -- the checks
  new_parents : (k : ℕ) → k < n → parent_rule new (nodes_at b) k ≡ true
  unfolding parent_rule
  new_parents zero h = eq-eqb (parent new (nodes_at b) 0) 65535 (parent_is 0 h ∙ root_parent)
  new_parents (suc k) h =
      let z = parent_is (suc k) h in
      let y = new_parent_law k h in
      rw (eqb-suc-zero k) (lt-ltb (parent new (nodes_at b) (suc k)) (suc k) (omega arith))

  new_right : Right new
  new_right =
      let f = laid b r in
      around_right b new r new_around new_parents
      (node_rules new (nodes_at b) n f.few new_parents f.some
      (subst TreeRules (sym new_tree) (tree_rules b (nodes_at b) n f.few r.parents r.nodes f.some)))

  new_house : House b → House new
  unfolding house_rule existence content structure
  new_house g =
      around_house b new r new_around g λ i h.
      let y = records_length in
      let w : (get_or records i no_move).from < n = below_at n records no_move (moves_below b (nodes_at b) n (laid b r).some) i (omega arith) in
      rw (label_byte i h 0 (omega arith), label_byte i h 1 (omega arith), label_byte i h 2 (omega arith)) (g.nodes _ w)

  new_order : (i : ℕ) → i < n → order_rule new (nodes_at b) i ≡ true
  unfolding tree_of
  new_order =
      listing_ordered new (nodes_at b) n new_parents (label_of b (nodes_at b) 0) (children_of b (nodes_at b) 0 (n - 1) 1)
      (tree_size b (nodes_at b) n r.parents (laid b r).some) new_entries

  -- spare bytes stay what they are
  parent_read : (get_or node_reads 0 true ≡ true) × (get_or node_reads 1 true ≡ true)
  unfolding node_reads
  parent_read = (refl, refl)

  clean_nodes : ((i : ℕ) → i < n → node_clean b (nodes_at b) i ≡ true) → (i : ℕ) → i < n → node_clean new (nodes_at b) i ≡ true
  unfolding node_clean
  clean_nodes g i h = spare_all node_reads new (node_place (nodes_at b) i) by
    where
      from : ℕ
      from = (get_or records i no_move).from

      by : (j : ℕ) → j < length node_reads → get_or node_reads j true ≡ false → byte new (node_place (nodes_at b) i + j) ≡ 0
      by zero l e = clash {b = get_or node_reads 0 true} parent_read.0 e
      by (suc zero) l e = clash {b = get_or node_reads 1 true} parent_read.1 e
      by (suc (suc j)) l e =
          let z = nodes_12 in
          let y = records_length in
          let w : from < n = below_at n records no_move (moves_below b (nodes_at b) n (laid b r).some) i (omega arith) in
          ap (byte new) {x = node_place (nodes_at b) i + suc (suc j)} {y = node_place (nodes_at b) i + (2 + j)} (omega arith)
          ∙ label_byte i h j (omega arith)
          ∙ ap (byte b) {x = node_place (nodes_at b) from + (2 + j)} {y = node_place (nodes_at b) from + suc (suc j)} (omega arith)
          ∙ spare_zero node_reads b (node_place (nodes_at b) from) (g from w) (suc (suc j)) l e

  new_clean : Clean false b (variable_count b) (nodes_at b) (node_count b) (script_at b) (record_count b)
      → Clean false new (variable_count b) (nodes_at b) (node_count b) (script_at b) (record_count b)
  unfolding variable_clean record_clean
  new_clean g =
      record {
        variables =
            λ i h. spare_all variable_reads new (variable_place i)
            (λ j l e. let f = facts in let z = variables_8 in in_front_law _ (omega arith) ∙ spare_zero variable_reads b (variable_place i) (g.variables i h) j l e);
        nodes = clean_nodes g.nodes;
        records =
            λ i h. rw (record_reads_law b new r new_around i h)
            (spare_all (record_reads b (record_place (script_at b) i) false) new (record_place (script_at b) i)
            (λ j l e. behind _ (omega arith) ∙ spare_zero (record_reads b (record_place (script_at b) i) false) b (record_place (script_at b) i) (g.records i h) j l e));
      }

  -- a job in the new order, where bytes are bytes
  module _ (small : (at : ℕ) → byte b at < 256) (orders : (i : ℕ) → i < n → order_rule b (nodes_at b) i ≡ true) where
    own_record : (k : ℕ) → k < n → get_or records k no_move ≡ self b (nodes_at b) k
    own_record k h =
        ap (λ (ms : List Moved). get_or ms k no_move) (moves_same b (nodes_at b) n r.parents orders (laid b r).some)
        ∙ listed_from_zero (self b (nodes_at b)) no_move n k h

    own_byte : (k j : ℕ) → j < 12 → byte (moved_bytes b (nodes_at b) (self b (nodes_at b) k)) j ≡ byte b (node_place (nodes_at b) k + j)
    unfolding moved_bytes self two parent half
    own_byte k zero h =
        let x = small (node_place (nodes_at b) k) in
        let y = small (node_place (nodes_at b) k + 1) in
        let z : node_place (nodes_at b) k + 0 ≡ node_place (nodes_at b) k = omega arith in rw z (omega arith)
    own_byte k (suc zero) h =
        let x = small (node_place (nodes_at b) k) in
        let y = small (node_place (nodes_at b) k + 1) in omega arith
    own_byte k (suc (suc j)) h =
        moved_byte b (nodes_at b) (self b (nodes_at b) k) j (omega arith)
        ∙ ap (byte b) {x = node_place (nodes_at b) k + (2 + j)} {y = node_place (nodes_at b) k + suc (suc j)} (omega arith)

    own_node : (k j : ℕ) → k < n → j < 12 → byte new (node_place (nodes_at b) k + j) ≡ byte b (node_place (nodes_at b) k + j)
    own_node k j h l =
        inside k j _ h l refl ∙ ap (λ (m : Moved). byte (moved_bytes b (nodes_at b) m) j) (own_record k h) ∙ own_byte k j l

    own : (at : ℕ) → byte new at ≡ byte b at
    own at = by (test (ltb at (nodes_at b))) (test (ltb at (script_at b)))
      where
        by : Test (ltb at (nodes_at b)) → Test (ltb at (script_at b)) → byte new at ≡ byte b at
        by (holds t) w = in_front_law at (ltb-true _ _ t)
        by (fails t) (fails w) = behind at (ltb-false _ _ w)
        by (fails t) (holds w) =
            let f = facts in
            let x = ltb-false at (nodes_at b) t in
            let y = ltb-true at (script_at b) w in
            let z : node_place (nodes_at b) ((at - nodes_at b) / 12) + (at - nodes_at b) % 12 ≡ at = omega arith in
            subst (λ (i : ℕ). byte new i ≡ byte b i) z (own_node ((at - nodes_at b) / 12) ((at - nodes_at b) % 12) (omega arith) (omega arith))

    same_bytes : new ≡ b
    same_bytes = ext_get_or 0 new b same_length (λ i l. own i)

pub arranged_taken : (b : List ℕ) → check_bytes_by unordered b ≡ accepted → check_bytes_by ordered (arranged b) ≡ accepted
unfolding unordered ordered
arranged_taken b e =
    let s = right_by unordered b e in
    let r = s.right in
    let a = new_around b r in
    accept_by ordered (arranged b)
    (record {
      right = new_right b r;
      house = λ q. new_house b r (s.house refl);
      order = λ q. rw (same_nodes_at b (arranged b) r a, same_node_count b (arranged b) r a) (new_order b r);
      script = around_script b (arranged b) r a unordered ordered refl s.script (λ q. new_clean b r (s.script.clean refl));
    })

pub arranger_right : ArrangerRight
unfolding unordered ordered
arranger_right =
    record {
      arranges =
          λ b e.
          let r = (right_by unordered b e).right in
          record {
            taken = arranged_taken b e;
            tree = same_tree b r;
            runs = around_runs b (arranged b) r (new_around b r) unordered ordered refl refl e (arranged_taken b e) (same_tree b r);
            long = same_length b r;
            front = in_front_law b r;
            behind = behind b r;
          };
      stays = λ b small e. let s = right_by ordered b e in same_bytes b s.right small (s.order refl);
    }
