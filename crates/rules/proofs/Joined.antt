-- The job of a store and a script section is accepted and holds that store and that script: its records lie where the trailer says, its entries are the
-- listing of the tree, and its script is the section, moved. Assumes nothing.
use mathlib.Core.Path.{◌≡◌, refl, sym, ap, subst, ◌∙◌}
use Prim.Native.Nat.{ℕ, zero, suc, ◌+◌, ◌-◌, ◌*◌, ◌%◌, ◌/◌, ◌≤◌, ◌<◌}
use native.Mathlib.Omega.{arith}
use mathlib.Core.Bool.{Bool, true, false}
use mathlib.Core.List.{List, [], ◌∷◌, ◌++◌, flat_map}
use lib.ListN.{length, get_or, length-append, get_or-append}
use lib.Seq.{get_or-append-add, ext_get_or}
use lib.IntN.{ℤ, pos}
use lib.Dec.{leb, eqb, eqb-suc-zero}
use borrow.Author.Tests.{eq-eqb, eqb-true, le-leb, leb-true, lt-ltb}
use Rattle.rules.specs.Limits.{no_parent}
use Rattle.rules.specs.Level.{is_level}
use Rattle.rules.specs.Number as Number
use Rattle.rules.specs.Number.{bits, signed}
use Rattle.rules.specs.Tree.{Label, Forest, nil, tree, size, count, no_label, TreeRules}
use Rattle.rules.specs.Bytes.{byte, full, two, variables_at, nodes_at, script_at, trailer_at, variable_count, node_count, record_count, variable_place, node_place}
use Rattle.rules.specs.Check.{length_rule, whole, offset_rule, count_rule, variable_rule, parent, existence, content, structure, parent_rule, variable_reads, node_reads, spare_rule, variable_clean, node_clean, today}
use Rattle.rules.specs.Job.{Variable, all_levels, listed, variable_of, variables, label_of, job_tree, script, script_of, script_by}
use Rattle.rules.specs.History.{Store, section_count, section_script, section_rule, store_rule}
use Rattle.rules.specs.Write.{four, variable, node, trailer, Entry, listing, node_bytes, variable_bytes, written_size, script_section, job_of, RangedVariables, Ranged, Joins}
use Rattle.rules.proofs.Tests.{both, joined, clash}
use Rattle.rules.proofs.Number.{bits_below, signed_bits}
use Rattle.rules.proofs.Decode.{listed_from_zero}
use Rattle.rules.proofs.Packed.{listed_is, packed_length, field_at, half_is, full_is}
use Rattle.rules.proofs.ReadBytes.{spare_all, spare_zero, variables_8, nodes_12}
use Rattle.rules.proofs.Listing.{listing_length, all_at, Valued, valued_listing, before_root}
use Rattle.rules.proofs.Entries.{entry_of, tree_list, tree_list_law, listed_tree}
use Rattle.rules.proofs.Loaded.{node_rules}
use Rattle.rules.proofs.Accepted.{Right, RightBy, ScriptRight, accept_by}
use Rattle.rules.proofs.Sections.{section_byte, section_size, script_moved, right_moved}
use Rattle.rules.proofs.Ordered.{listing_ordered}
use Rattle.rules.proofs.Stores.{Holdable, holdable}

-- the entry and the variable behind the last
abbrev no_entry : Entry
no_entry = record { parent = 0; label = no_label }

abbrev no_variable : Variable
no_variable = record { level = 0; value = pos 0 }

pub variable_size_law : (v : Variable) → length (variable_bytes v) ≡ 8
unfolding variable_bytes variable four two
variable_size_law v = refl

pub entry_size : (e : Entry) → length (node_bytes e) ≡ 12
unfolding node_bytes node four two
entry_size e = refl

-- what a written number reads as
value_is : (b : List ℕ) (at : ℕ) (z : ℤ) → Number.Fits z → byte b at ≡ bits z % 256 → byte b (at + 1) ≡ bits z / 256 % 256
    → byte b (at + 2) ≡ bits z / 65536 % 256 → byte b (at + 3) ≡ bits z / 65536 / 256 % 256 → signed (full b at) ≡ z
value_is b at z h e f g k = ap signed (full_is b at (bits z) (bits_below z) e f g k) ∙ signed_bits (record { sfits = h })

-- records of nodes that stand somewhere in a job, each with a parent and a value that fit
module _
    (front : List ℕ) (es : List Entry) (rest : List ℕ) (base : ℕ) (placed : base ≡ length front)
    (parents : (k : ℕ) → k < length es → (get_or es k no_entry).parent < 65536)
    (values : (k : ℕ) → k < length es → Number.Fits (get_or es k no_entry).label.value)
  where
    abbrev bytes : List ℕ
    bytes = front ++ (flat_map node_bytes es ++ rest)

    module _ (k : ℕ) (h : k < length es) where
      this : Entry
      this = get_or es k no_entry

      at_byte : (j at : ℕ) → j < 12 → at ≡ base + 12 * k + j → byte bytes at ≡ byte (node_bytes this) j
      unfolding this
      at_byte j at l e = field_at node_bytes 12 entry_size front es rest no_entry k j at h l (omega arith)

      entry_is : entry_of bytes base k ≡ this
      unfolding this entry_of parent label_of existence content structure node_bytes node two four
      entry_is =
          let p = half_is bytes (node_place base k) this.parent (parents k h) (at_byte 0 _ (omega arith) (omega arith)) (at_byte 1 _ (omega arith) (omega arith)) in
          let e = at_byte 2 (node_place base k + 2) (omega arith) (omega arith) in
          let c = at_byte 3 (node_place base k + 3) (omega arith) (omega arith) in
          let s = at_byte 4 (node_place base k + 4) (omega arith) (omega arith) in
          let v = value_is bytes (node_place base k + 8) this.label.value (values k h) (at_byte 8 _ (omega arith) (omega arith))
          (at_byte 9 _ (omega arith) (omega arith)) (at_byte 10 _ (omega arith) (omega arith)) (at_byte 11 _ (omega arith) (omega arith))
          in
          λ i. record { parent = p i; label = record { value = v i; existence = e i; content = c i; structure = s i } }

    pub entries_are : listed (entry_of bytes base) (length es) 0 ≡ es
    unfolding this
    entries_are = listed_is (entry_of bytes base) no_entry (length es) es refl entry_is

module _
    (vs : List Variable) (l : Label) (c : Forest) (section : List ℕ) (n : ℕ) (sized : length section ≡ 16 * n) (many : n ≤ 1024)
    (h : Holdable (record { variables = vs; tree = tree l c nil })) (r : Ranged (record { variables = vs; tree = tree l c nil }))
    (checked : ScriptRight today section (length vs) 0 0 0 0 n)
  where
    abbrev whole_tree : Forest
    whole_tree = tree l c nil

    abbrev store : Store
    store = record { variables = vs; tree = tree l c nil }

    abbrev job : List ℕ
    job = job_of store section

    abbrev entries : List Entry
    entries = listing no_parent 0 whole_tree

    abbrev end : List ℕ
    end = trailer (8 * length vs) (written_size store) (written_size store + length section)

    nodes_length : length (flat_map node_bytes entries) ≡ 12 * size whole_tree
    nodes_length = packed_length node_bytes 12 entry_size entries ∙ ap (λ (n : ℕ). 12 * n) (listing_length no_parent 0 whole_tree)

    variables_length : length (flat_map variable_bytes vs) ≡ 8 * length vs
    variables_length = packed_length variable_bytes 8 variable_size_law vs

    pub job_length : length job ≡ written_size store + length section + 8
    unfolding job_of written_size trailer two
    job_length =
        let n = nodes_length in
        let v = variables_length in
        length-append (flat_map variable_bytes vs) _
        ∙ (let z = length-append (flat_map node_bytes entries) (section ++ end) in let y = length-append section end in omega arith)

    -- the trailer's bytes
    behind : (j at : ℕ) → at ≡ written_size store + j → byte job at ≡ byte (section ++ end) j
    unfolding job_of written_size
    behind j at e =
        let m = nodes_length in
        let v = variables_length in
        ap (λ (i : ℕ). get_or job i 0) {x = at} {y = length (flat_map variable_bytes vs) + (length (flat_map node_bytes entries) + j)} (omega arith)
        ∙ get_or-append-add (flat_map variable_bytes vs) _ _ 0
        ∙ get_or-append-add (flat_map node_bytes entries) (section ++ end) j 0

    at_end_law : (j at : ℕ) → at ≡ written_size store + length section + j → byte job at ≡ byte end j
    at_end_law j at e = behind (length section + j) at (omega arith) ∙ get_or-append-add section end j 0

    small : written_size store ≤ 6656
    unfolding written_size
    small = let a = h.few in let d = h.small in omega arith

    variables_at_law : variables_at job ≡ 0
    unfolding variables_at trailer two
    variables_at_law = let z = job_length in half_is job _ 0 (omega arith) (at_end_law 0 _ (omega arith)) (at_end_law 1 _ (omega arith))

    nodes_at_law : nodes_at job ≡ 8 * length vs
    unfolding nodes_at trailer two
    nodes_at_law = let z = job_length in let a = h.few in half_is job _ (8 * length vs) (omega arith) (at_end_law 2 _ (omega arith)) (at_end_law 3 _ (omega arith))

    script_at_law : script_at job ≡ written_size store
    unfolding script_at trailer two
    script_at_law = let z = job_length in half_is job _ (written_size store) (omega (arith, small)) (at_end_law 4 _ (omega arith)) (at_end_law 5 _ (omega arith))

    -- the script's bytes
    at_section : (j : ℕ) → j < 16 * n → byte job (script_at job + j) ≡ byte section (0 + j)
    at_section j a =
        behind j _ (let z = script_at_law in omega arith) ∙ get_or-append section end 0 j (omega arith) ∙ ap (byte section) {x = j} {y = 0 + j} (omega arith)

    trailer_at_law : trailer_at job ≡ written_size store + length section
    unfolding trailer_at trailer two
    trailer_at_law = let z = job_length in half_is job _ (written_size store + length section) (omega (arith, small)) (at_end_law 6 _ (omega arith)) (at_end_law 7 _ (omega arith))

    pub variable_count_law : variable_count job ≡ length vs
    unfolding variable_count
    variable_count_law = let z = nodes_at_law in omega arith

    pub node_count_law : node_count job ≡ size whole_tree
    unfolding node_count written_size
    node_count_law = let z = nodes_at_law in let y = script_at_law in omega arith

    record_count_law : record_count job ≡ n
    unfolding record_count
    record_count_law = let z = trailer_at_law in let y = script_at_law in omega arith

    -- the variables
    level_good : (ws : List Variable) → all_levels ws ≡ true → (k : ℕ) → k < length ws → is_level (get_or ws k no_variable).level ≡ true
    unfolding all_levels
    level_good [] g k e = absurd (omega arith)
    level_good (w ∷ ws) g zero e = (both (is_level w.level) (all_levels ws) g).0
    level_good (w ∷ ws) g (suc k) e = level_good ws (both (is_level w.level) (all_levels ws) g).1 k (omega arith)

    value_good : (ws : List Variable) → RangedVariables ws → (k : ℕ) → k < length ws → Number.Fits (get_or ws k no_variable).value
    value_good [] g k e = absurd (omega arith)
    value_good (w ∷ ws) g zero e = g.0
    value_good (w ∷ ws) g (suc k) e = value_good ws g.1 k (omega arith)

    at_variable : (k j at : ℕ) → k < length vs → j < 8 → at ≡ 8 * k + j → byte job at ≡ byte (variable_bytes (get_or vs k no_variable)) j
    unfolding job_of
    at_variable k j at a d e = field_at variable_bytes 8 variable_size_law [] vs _ no_variable k j at a d (omega arith)

    variable_is : (k : ℕ) → k < length vs → variable_of job (variable_place k) ≡ get_or vs k no_variable
    unfolding variable_of variable_bytes variable four two
    variable_is k a =
        let level = at_variable k 0 (variable_place k) a (omega arith) (omega arith) in
        let value = value_is job (variable_place k + 4) (get_or vs k no_variable).value (value_good vs r.variables k a)
        (at_variable k 4 _ a (omega arith) (omega arith)) (at_variable k 5 _ a (omega arith) (omega arith)) (at_variable k 6 _ a (omega arith) (omega arith))
        (at_variable k 7 _ a (omega arith) (omega arith))
        in
        λ i. record { level = level i; value = value i }

    pub same_variables : variables job ≡ vs
    unfolding variables
    same_variables =
        ap (λ (n : ℕ). listed (λ (i : ℕ). variable_of job (variable_place i)) n 0) variable_count_law
        ∙ listed_is (λ (i : ℕ). variable_of job (variable_place i)) no_variable (length vs) vs refl variable_is

    -- the nodes
    entry_parent : (k : ℕ) → k < length entries → (get_or entries k no_entry).parent < 65536
    unfolding listing size
    entry_parent zero a = omega arith
    entry_parent (suc k) a =
        let z = listing_length no_parent 0 whole_tree in
        let m = h.small in
        let f = before_root no_parent l c no_entry k (omega arith) in omega arith

    entry_value : (k : ℕ) → k < length entries → Number.Fits (get_or entries k no_entry).label.value
    entry_value k a = all_at Valued 0 entries no_entry (valued_listing no_parent 0 whole_tree r.tree) k a

    entries_job : listed (entry_of job (nodes_at job)) (node_count job) 0 ≡ entries
    unfolding job_of
    entries_job =
        ap (λ (n : ℕ). listed (entry_of job (nodes_at job)) n 0) (node_count_law ∙ sym (listing_length no_parent 0 whole_tree))
        ∙ entries_are (flat_map variable_bytes vs) entries (section ++ end) (nodes_at job) (nodes_at_law ∙ sym variables_length) entry_parent entry_value

    pub same_tree : job_tree job ≡ whole_tree
    unfolding job_tree size
    same_tree =
        tree_list_law job (nodes_at job) (node_count job) (let z = node_count_law in omega arith)
        ∙ ap tree_list entries_job ∙ listed_tree no_parent l c

    pub same_section : script_section job ≡ section
    same_section =
        let q = job_length in
        let a = script_at_law in
        let b = trailer_at_law in
        let m = section_size job (omega arith) in
        ext_get_or 0 (script_section job) section (omega arith)
        (λ i l. section_byte job i (omega arith) ∙ at_section i (omega arith) ∙ ap (byte section) {x = 0 + i} {y = i} (omega arith))

    pub same_script : script job ≡ script_of section 0 n
    unfolding script_by
    same_script = ap (λ (m : ℕ). script_of job (script_at job) m) record_count_law ∙ script_moved job section (script_at job) 0 n at_section

    -- the checks
    entry_at : (k : ℕ) → k < node_count job → entry_of job (nodes_at job) k ≡ get_or entries k no_entry
    entry_at k a = sym (listed_from_zero (entry_of job (nodes_at job)) no_entry (node_count job) k a) ∙ ap (λ (es : List Entry). get_or es k no_entry) entries_job

    parent_at : (k : ℕ) → k < node_count job → parent job (nodes_at job) k ≡ (get_or entries k no_entry).parent
    unfolding entry_of
    parent_at k a = ap (λ (e : Entry). e.parent) (entry_at k a)

    parents_right : (k : ℕ) → k < node_count job → parent_rule job (nodes_at job) k ≡ true
    unfolding parent_rule listing size
    parents_right zero a = eq-eqb _ 65535 (parent_at 0 a)
    parents_right (suc k) a =
        let z = parent_at (suc k) a in
        let n = node_count_law in
        let f = before_root no_parent l c no_entry k (omega arith) in
        rw (eqb-suc-zero k) (lt-ltb (parent job (nodes_at job) (suc k)) (suc k) (omega arith))

    whole_right : (s from to : ℕ) → from ≤ to → (to - from) % s ≡ 0 → whole s from to ≡ true
    unfolding whole
    whole_right s from to a e = joined (le-leb _ _ a) (eq-eqb _ 0 e)

    some_node : 1 ≤ node_count job
    unfolding size
    some_node = let z = node_count_law in omega arith

    few_nodes : node_count job ≤ 512
    few_nodes = let z = node_count_law in let m = h.small in omega arith

    -- 12
    variable_clean_law : (v : Variable) → spare_rule variable_reads (variable_bytes v) 0 ≡ true
    unfolding spare_rule variable_reads variable_bytes variable four two
    variable_clean_law v = refl

    entry_clean : (e : Entry) → spare_rule node_reads (node_bytes e) 0 ≡ true
    unfolding spare_rule node_reads node_bytes node four two
    entry_clean e = refl

    own_byte : (rs : List Bool) (c : List ℕ) → spare_rule rs c 0 ≡ true → (j : ℕ) → j < length rs → get_or rs j true ≡ false → byte c j ≡ 0
    own_byte rs c h j l e = ap (byte c) {x = j} {y = 0 + j} (omega arith) ∙ spare_zero rs c 0 h j l e

    variables_clean : (i : ℕ) → i < length vs → variable_clean job i ≡ true
    unfolding variable_clean
    variables_clean i a =
        spare_all variable_reads job (variable_place i)
        (λ j d e. let y = variables_8 in at_variable i j _ (omega arith) (omega arith) refl
        ∙ own_byte variable_reads (variable_bytes (get_or vs i no_variable)) (variable_clean_law (get_or vs i no_variable)) j d e)

    nodes_clean : (i : ℕ) → i < size whole_tree → node_clean job (nodes_at job) i ≡ true
    unfolding job_of node_clean
    nodes_clean i a =
        let s = nodes_at_law in
        let z = variables_length in
        spare_all node_reads job (node_place (nodes_at job) i)
        (λ j d e. let y = nodes_12 in
        let x = listing_length no_parent 0 whole_tree in
        field_at node_bytes 12 entry_size (flat_map variable_bytes vs) entries (section ++ end) no_entry i j _ (omega arith) (omega arith) (omega arith)
        ∙ own_byte node_reads (node_bytes (get_or entries i no_entry)) (entry_clean (get_or entries i no_entry)) j d e)

    -- 7, 12 and 8 of the script
    job_script : ScriptRight today job (length vs) (length vs) (nodes_at job) (size whole_tree) (script_at job) n
    job_script =
        right_moved job section (script_at job) 0 n at_section today (length vs) 0 0 0 (length vs) (nodes_at job) (size whole_tree) checked (λ q. variables_clean)
        (λ q. nodes_clean)

    job_right : Right job
    unfolding length_rule offset_rule count_rule variable_rule written_size job_tree variable_bytes variable
    job_right =
        let m = job_length in
        let w = small in
        let v = variables_at_law in
        let s = nodes_at_law in
        let q = script_at_law in
        let t = trailer_at_law in
        let i = variable_count_law in
        let j = node_count_law in
        let k = record_count_law in
        let f = h.few in
        record {
          lengths = joined (le-leb 8 (length job) (omega arith)) (le-leb (length job) 23048 (omega arith));
          offsets =
              joined (joined (joined (joined (eq-eqb (variables_at job) 0 v) (eq-eqb (trailer_at job) (length job - 8) (omega arith)))
              (whole_right 8 0 (nodes_at job) (omega arith) (omega arith))) (whole_right 12 (nodes_at job) (script_at job) (omega arith) (omega arith)))
              (whole_right 16 (script_at job) (trailer_at job) (omega arith) (omega arith));
          counts =
              joined (joined (joined (le-leb (variable_count job) 64 (omega arith)) (le-leb 1 (node_count job) some_node)) (le-leb (node_count job) 512 few_nodes))
              (le-leb (record_count job) 1024 (omega arith));
          variables =
              λ x a. ap is_level (at_variable x 0 (variable_place x) (omega arith) (omega arith) (omega arith))
              ∙ level_good vs h.levels x (omega arith);
          parents = parents_right;
          nodes = node_rules job (nodes_at job) (node_count job) few_nodes parents_right some_node (subst TreeRules (sym same_tree) h.rules);
          records = rw (i, k) job_script.records;
          blocks = rw k job_script.blocks;
        }

    job_by : RightBy today job
    unfolding today
    job_by =
        record {
          right = job_right;
          house = λ q. clash {b = today.sets} refl q;
          order = λ q. listing_ordered job (nodes_at job) (node_count job) parents_right l c (sym node_count_law) entries_job;
          script = rw (variable_count_law, node_count_law, record_count_law) job_script;
        }

-- a store by its variables and its tree, which is one node with what hangs below it
joins : (vs : List Variable) (t : Forest) (section : List ℕ) → section_rule section ≡ true → Holdable (record { variables = vs; tree = t })
    → Ranged (record { variables = vs; tree = t }) → ScriptRight today section (length vs) 0 0 0 0 (section_count section)
    → Joins (record { variables = vs; tree = t }) section
unfolding count section_rule section_count section_script
joins vs nil section w h r q = absurd (let z = h.rooted in omega arith)
joins vs (tree l c nil) section w h r q =
    let x = both (eqb (length section % 16) 0) (leb (length section / 16) 1024) w in
    let y = eqb-true (length section % 16) 0 x.0 in
    let z = leb-true (length section / 16) 1024 x.1 in
    let e : length section ≡ 16 * (length section / 16) = omega arith in
    record {
      taken = accept_by today _ (job_by vs l c section (length section / 16) e z h r q);
      variables = same_variables vs l c section (length section / 16) e z h r q;
      tree = same_tree vs l c section (length section / 16) e z h r q;
      script = same_script vs l c section (length section / 16) e z h r q;
      section = same_section vs l c section (length section / 16) e z h r q;
      variable_count_law = variable_count_law vs l c section (length section / 16) e z h r q;
      node_count_law = node_count_law vs l c section (length section / 16) e z h r q;
      long = job_length vs l c section (length section / 16) e z h r q;
    }
joins vs (tree l c (tree l' c' x)) section w h r q = absurd (let z = h.rooted in omega arith)

pub joins_right : (s : Store) (c : List ℕ) → section_rule c ≡ true → store_rule s ≡ true → Ranged s
    → ScriptRight today c (length s.variables) 0 0 0 0 (section_count c) → Joins s c
joins_right s c w e r q = joins s.variables s.tree c w (holdable s e) r q
