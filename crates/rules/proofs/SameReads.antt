-- A job is what its read bytes say: bytes of the same length that agree with an accepted job's where it reads them have the same sections, variables,
-- tree and script, read the same bytes, and keep the rules that every edition has. What needs no node of it is proved of bytes that agree around the nodes.
-- Assumes nothing.
use mathlib.Core.Path.{◌≡◌, refl, sym, ap, ap₂, ◌∙◌}
use Prim.Native.Nat.{ℕ, suc, ◌+◌, ◌-◌, ◌*◌, ◌%◌, ◌/◌, ◌≤◌, ◌<◌}
use native.Mathlib.Omega.{arith}
use mathlib.Core.Bool.{Bool, true, false}
use mathlib.Core.List.{List}
use lib.ListN.{length, get_or}
use lib.Dec.{ltb}
use borrow.Author.Tests.{lt-ltb, le-ltb, ltb-true, ltb-false}
use Rattle.rules.specs.Number.{signed}
use Rattle.rules.specs.Tree.{Label}
use Rattle.rules.specs.Bytes.{byte, half, variables_at, nodes_at, script_at, trailer_at, variable_count, node_count, record_count, variable_place, node_place, record_place}
use Rattle.rules.specs.Check.{accepted, refused, offset_rule, variable_rule, parent, existence, content, structure, parent_rule, node_rule, house_rule, record_rule, code, variable_reads, node_reads, record_reads}
use Rattle.rules.specs.Check.{Edition, check_bytes_by}
use Rattle.rules.specs.Blocks.{block_rule}
use Rattle.rules.specs.Job.{listed, variable_of, variables, label_of, job_tree, command_by, script_by, script_from}
use Rattle.rules.specs.Run.{Buffers, run, start}
use Rattle.rules.specs.Outcome.{buffer_rule, check_job_by, rejected, ran, begin, run_job_by}
use Rattle.rules.specs.Clean.{spot_in, spot_of, reads_at, is_read}
use Rattle.rules.proofs.Tests.{Test, holds, fails, test}
use Rattle.rules.proofs.SameNumbers.{rule_agree}
use Rattle.rules.proofs.Checks.{Sections, sections, counts, long_enough}
use Rattle.rules.proofs.Packed.{listed_agree, half_agree, full_agree}
use Rattle.rules.proofs.ReadBytes.{command_same, same_command, same_rule, same_reads}
use Rattle.rules.proofs.Accepted.{Clean, Right, House, JobScript}
use Rattle.rules.proofs.SameNodes.{tree_same, parent_rule_law, node_rule_law}

-- where the sections of an accepted job lie
pub record Laid (b : List ℕ) : Type 0 where
  pub sections : Sections b
  pub long : 8 ≤ length b
  pub some : 1 ≤ node_count b
  pub few : node_count b ≤ 512

module _ (b : List ℕ) (r : Right b) where
  pub laid : Laid b
  laid =
      let c = counts _ _ _ r.counts in
      record { sections = sections b r.offsets; long = long_enough (length b) r.lengths; some = c.some; few = c.nodes }

  -- which bytes are read, section by section
  pub read_variable : (i j x : ℕ) → i < variable_count b → j < 8 → x ≡ 8 * i + j → is_read b x ≡ get_or variable_reads j true
  unfolding is_read reads_at spot_of spot_in
  read_variable i j x h l e =
      let s = laid.sections in
      rw (lt-ltb x (nodes_at b) (omega arith)) (ap (λ (k : ℕ). get_or variable_reads k true) {x = (x - 0) % 8} {y = j} (omega arith))

  pub read_node : (i j x : ℕ) → i < node_count b → j < 12 → x ≡ nodes_at b + 12 * i + j → is_read b x ≡ get_or node_reads j true
  unfolding is_read reads_at spot_of spot_in
  read_node i j x h l e =
      let s = laid.sections in
      rw (le-ltb x (nodes_at b) (omega arith), lt-ltb x (script_at b) (omega arith))
      (ap (λ (k : ℕ). get_or node_reads k true) {x = (x - nodes_at b) % 12} {y = j} (omega arith))

  pub read_record : (i j x : ℕ) → i < record_count b → j < 16 → x ≡ record_place (script_at b) i + j
      → is_read b x ≡ get_or (record_reads b (record_place (script_at b) i) false) j true
  unfolding is_read reads_at spot_of spot_in
  read_record i j x h l e =
      let s = laid.sections in
      rw (le-ltb x (nodes_at b) (omega arith), le-ltb x (script_at b) (omega arith), lt-ltb x (trailer_at b) (omega arith))
      (ap₂ (λ (m k : ℕ). get_or (record_reads b (record_place (script_at b) m) false) k true) {x = (x - script_at b) / 16} {y = i} {u = (x - script_at b) % 16} {v = j}
      (omega arith) (omega arith))

  pub read_trailer : (x : ℕ) → trailer_at b ≤ x → is_read b x ≡ true
  unfolding is_read reads_at spot_of spot_in
  read_trailer x h =
      let s = laid.sections in
      rw (le-ltb x (nodes_at b) (omega arith), le-ltb x (script_at b) (omega arith), le-ltb x (trailer_at b) h)

  -- the section in which a place lies
  pub data Lies (x : ℕ) : Type 0 where
    in_variable : (i j : ℕ) → i < variable_count b → j < 8 → x ≡ 8 * i + j → Lies x
    in_node : (i j : ℕ) → i < node_count b → j < 12 → x ≡ nodes_at b + 12 * i + j → Lies x
    in_record : (i j : ℕ) → i < record_count b → j < 16 → x ≡ record_place (script_at b) i + j → Lies x
    in_trailer : trailer_at b ≤ x → Lies x

  pub lies : (x : ℕ) → Lies x
  lies x = by (test (ltb x (nodes_at b))) (test (ltb x (script_at b))) (test (ltb x (trailer_at b)))
    where
      by : Test (ltb x (nodes_at b)) → Test (ltb x (script_at b)) → Test (ltb x (trailer_at b)) → Lies x
      by (holds t) u v = let s = laid.sections in let z = ltb-true x (nodes_at b) t in in_variable (x / 8) (x % 8) (omega arith) (omega arith) (omega arith)
      by (fails t) (holds u) v =
          let s = laid.sections in
          let z = ltb-false x (nodes_at b) t in
          let w = ltb-true x (script_at b) u in
          in_node ((x - nodes_at b) / 12) ((x - nodes_at b) % 12) (omega arith) (omega arith) (omega arith)
      by (fails t) (fails u) (holds v) =
          let s = laid.sections in
          let z = ltb-false x (script_at b) u in
          let w = ltb-true x (trailer_at b) v in
          in_record ((x - script_at b) / 16) ((x - script_at b) % 16) (omega arith) (omega arith) (omega arith)
      by (fails t) (fails u) (fails v) = in_trailer (ltb-false x (trailer_at b) v)

-- bytes that agree with a job's around the nodes, where it reads them
pub record Around (b c : List ℕ) : Type 0 where
  pub long : length c ≡ length b
  pub front : (x : ℕ) → x < nodes_at b → is_read b x ≡ true → byte c x ≡ byte b x
  pub behind : (x : ℕ) → script_at b ≤ x → is_read b x ≡ true → byte c x ≡ byte b x

module _ (b c : List ℕ) (r : Right b) (same : Around b c) where
  -- the trailer
  at_end_law : (k : ℕ) → half c (length c - 8 + k) ≡ half b (length b - 8 + k)
  at_end_law k =
      let s = (laid b r).sections in
      rw same.long
      (half_agree c b (length b - 8 + k) (length b - 8 + k) (same.behind _ (omega arith) (read_trailer b r _ (omega arith)))
      (same.behind _ (omega arith) (read_trailer b r _ (omega arith))))

  same_start : variables_at c ≡ variables_at b
  unfolding variables_at
  same_start = ap (half c) {x = length c - 8} {y = length c - 8 + 0} (omega arith) ∙ at_end_law 0 ∙ ap (half b) {x = length b - 8 + 0} {y = length b - 8} (omega arith)

  pub same_nodes_at : nodes_at c ≡ nodes_at b
  unfolding nodes_at
  same_nodes_at = at_end_law 2

  pub same_script_at : script_at c ≡ script_at b
  unfolding script_at
  same_script_at = at_end_law 4

  pub same_trailer_at : trailer_at c ≡ trailer_at b
  unfolding trailer_at
  same_trailer_at = at_end_law 6

  pub same_variable_count : variable_count c ≡ variable_count b
  unfolding variable_count
  same_variable_count = rw same_nodes_at

  pub same_node_count : node_count c ≡ node_count b
  unfolding node_count
  same_node_count = rw (same_nodes_at, same_script_at)

  pub same_record_count : record_count c ≡ record_count b
  unfolding record_count
  same_record_count = rw (same_script_at, same_trailer_at)

  -- variables
  of_variable : (i j x : ℕ) → i < variable_count b → j < 8 → x ≡ 8 * i + j → get_or variable_reads j true ≡ true → byte c x ≡ byte b x
  of_variable i j x h l e t = let s = (laid b r).sections in same.front x (omega arith) (read_variable b r i j x h l e ∙ t)

  level_same : (i : ℕ) → i < variable_count b → byte c (variable_place i) ≡ byte b (variable_place i)
  unfolding variable_reads
  level_same i h = of_variable i 0 _ h (omega arith) (omega arith) refl

  variable_same : (i : ℕ) → i < variable_count b → variable_of c (variable_place i) ≡ variable_of b (variable_place i)
  unfolding variable_of variable_reads
  variable_same i h =
      rw (
        level_same i h,
        full_agree c b (variable_place i + 4) (variable_place i + 4) (of_variable i 4 _ h (omega arith) (omega arith) refl) (of_variable i 5 _ h (omega arith) (omega arith) refl)
            (of_variable i 6 _ h (omega arith) (omega arith) refl) (of_variable i 7 _ h (omega arith) (omega arith) refl),
      )

  pub same_variables : variables c ≡ variables b
  unfolding variables
  same_variables =
      ap (λ (k : ℕ). listed (λ (i : ℕ). variable_of c (variable_place i)) k 0) same_variable_count
      ∙ listed_agree _ _ (variable_of b 0) (variable_count b) variable_same

  -- script
  of_record : (i : ℕ) → i < record_count b → (j x : ℕ) → j < 16 → x ≡ record_place (script_at b) i + j
      → get_or (record_reads b (record_place (script_at b) i) false) j true ≡ true → byte c x ≡ byte b x
  of_record i h j x l e t = same.behind x (omega arith) (read_record b r i j x h l e ∙ t)

  -- the script, where records hold no sets
  pub same_script : script_by false c ≡ script_by false b
  unfolding script_by script_from
  same_script =
      ap₂ (λ (s k : ℕ). listed (λ (i : ℕ). command_by false c (record_place s i)) k 0) same_script_at same_record_count
      ∙ listed_agree _ _ (command_by false b 0) (record_count b) (λ i l. same_command false b c (record_place (script_at b) i) (of_record i l))

  pub code_same : (i : ℕ) → i < record_count b → code c (script_at b) i ≡ code b (script_at b) i
  unfolding code
  code_same i h = command_same false b c (record_place (script_at b) i) (of_record i h)

  -- the rules of the script
  new_records : (i : ℕ) → i < record_count b → record_rule c (variable_count b) (record_place (script_at b) i) ≡ true
  new_records i l = same_rule false b c (record_place (script_at b) i) (of_record i l) (variable_count b) ∙ r.records i l

  new_blocks : (i : ℕ) → i < suc (record_count b) → block_rule (code c (script_at b)) (record_count b) i ≡ true
  new_blocks i l = rule_agree (code c (script_at b)) (code b (script_at b)) (record_count b) code_same i (omega arith) ∙ r.blocks i l

  -- those that every edition has, where the nodes keep theirs
  pub around_right : ((i : ℕ) → i < node_count b → parent_rule c (nodes_at b) i ≡ true) → ((i : ℕ) → i < node_count b → node_rule c (nodes_at b) i ≡ true) → Right c
  unfolding offset_rule variable_rule
  around_right parents nodes =
      record {
        lengths = rw same.long r.lengths;
        offsets = rw (same_start, same_trailer_at, same_nodes_at, same_script_at, same.long) r.offsets;
        counts = rw (same_variable_count, same_node_count, same_record_count) r.counts;
        variables = rw same_variable_count (λ i l. rw (level_same i l) (r.variables i l));
        parents = rw (same_nodes_at, same_node_count) parents;
        nodes = rw (same_nodes_at, same_node_count) nodes;
        records = rw (same_record_count, same_variable_count, same_script_at) new_records;
        blocks = rw (same_record_count, same_script_at) new_blocks;
      }

  pub around_house : House b → ((i : ℕ) → i < node_count b → house_rule c (nodes_at b) i ≡ true) → House c
  around_house h nodes =
      record {
        variables = rw same_variable_count (λ i l. rw (level_same i l) (h.variables i l));
        nodes = rw (same_nodes_at, same_node_count) nodes;
      }

  -- from one edition to another with the same commands
  pub around_script : (old new : Edition) → new.commands ≡ old.commands → JobScript old b
      → (new.spare ≡ true → Clean new.sets c (variable_count b) (nodes_at b) (node_count b) (script_at b) (record_count b)) → JobScript new c
  unfolding code
  around_script old new k s clean =
      rw (same_variable_count, same_nodes_at, same_node_count, same_script_at, same_record_count)
      (record { known = λ i h. rw (code_same i h, k) (s.known i h); records = new_records; clean = clean; blocks = new_blocks })

  -- where both are accepted, hold no sets and hold the same tree, they run the same
  module _ (old new : Edition) (p : old.sets ≡ false) (q : new.sets ≡ false) (x : check_bytes_by old b ≡ accepted) (y : check_bytes_by new c ≡ accepted) (t : job_tree c ≡ job_tree b) (budget : ℕ) (lent : Buffers) where
    checks_same : check_job_by new c budget lent ≡ check_job_by old b budget lent
    unfolding check_job_by buffer_rule
    checks_same = rw (x, y, same_variable_count, same_node_count)

    scripts_same : script_by new.sets c ≡ script_by old.sets b
    scripts_same = rw (p, q) same_script

    pub around_runs : run_job_by new c budget lent ≡ run_job_by old b budget lent
    unfolding run_job_by begin
    around_runs =
        λ i. elim (checks_same i) [ refused k j ↦ rejected k j | accepted ↦ ran (run lent (scripts_same i) budget (start (same_variables i) (t i))) ]

  -- what is read
  pub record_reads_law : (i : ℕ) → i < record_count b → record_reads c (record_place (script_at b) i) false ≡ record_reads b (record_place (script_at b) i) false
  record_reads_law i h = same_reads false b c (record_place (script_at b) i) (of_record i h)

-- bytes that agree with a job's wherever it reads them
pub record Agreed (b c : List ℕ) : Type 0 where
  pub long : length c ≡ length b
  pub bytes : (x : ℕ) → is_read b x ≡ true → byte c x ≡ byte b x

pub around : {b c : List ℕ} → Agreed b c → Around b c
around a = record { long = a.long; front = λ x l h. a.bytes x h; behind = λ x l h. a.bytes x h }

module _ (b c : List ℕ) (r : Right b) (same : Agreed b c) where
  -- nodes
  of_node : (i j x : ℕ) → i < node_count b → j < 12 → x ≡ nodes_at b + 12 * i + j → get_or node_reads j true ≡ true → byte c x ≡ byte b x
  of_node i j x h l e t = same.bytes x (read_node b r i j x h l e ∙ t)

  parent_same : (k : ℕ) → k < node_count b → parent c (nodes_at b) k ≡ parent b (nodes_at b) k
  unfolding parent node_reads
  parent_same k h =
      half_agree c b (node_place (nodes_at b) k) (node_place (nodes_at b) k) (of_node k 0 _ h (omega arith) (omega arith) refl) (of_node k 1 _ h (omega arith) (omega arith) refl)

  label_same : (k : ℕ) → k < node_count b → label_of c (nodes_at b) k ≡ label_of b (nodes_at b) k
  unfolding label_of existence content structure node_reads
  label_same k h =
      let e = of_node k 2 (node_place (nodes_at b) k + 2) h (omega arith) (omega arith) refl in
      let f = of_node k 3 (node_place (nodes_at b) k + 3) h (omega arith) (omega arith) refl in
      let s = of_node k 4 (node_place (nodes_at b) k + 4) h (omega arith) (omega arith) refl in
      let v = full_agree c b (node_place (nodes_at b) k + 8) (node_place (nodes_at b) k + 8) (of_node k 8 _ h (omega arith) (omega arith) refl) (of_node k 9 _ h (omega arith) (omega arith) refl)
      (of_node k 10 _ h (omega arith) (omega arith) refl) (of_node k 11 _ h (omega arith) (omega arith) refl)
      in
      λ i. record { value = signed (v i); existence = e i; content = f i; structure = s i }

  pub same_tree : job_tree c ≡ job_tree b
  unfolding job_tree
  same_tree = rw (same_nodes_at b c r (around same), same_node_count b c r (around same)) (tree_same b c (nodes_at b) (node_count b) parent_same label_same (laid b r).some)

  pub same_right : Right c
  same_right =
      around_right b c r (around same) (λ i l. parent_rule_law b c (nodes_at b) (node_count b) parent_same label_same i l ∙ r.parents i l)
      (λ i l. node_rule_law b c (nodes_at b) (node_count b) parent_same label_same i l (r.parents i l) ∙ r.nodes i l)

  pub same_house : House b → House c
  unfolding house_rule label_of
  same_house h =
      around_house b c r (around same) h
      (λ i l.
      let e = label_same i l in
      rw (ap (λ (k : Label). k.existence) e, ap (λ (k : Label). k.content) e, ap (λ (k : Label). k.structure) e) (h.nodes i l))

  -- what is read
  pub same_read : (x : ℕ) → is_read c x ≡ is_read b x
  same_read x = by (lies b r x)
    where
      by : Lies b r x → is_read c x ≡ is_read b x
      by (in_variable i j h l e) =
          let z = same_variable_count b c r (around same) in read_variable c same_right i j x (omega arith) l e ∙ sym (read_variable b r i j x h l e)
      by (in_node i j h l e) =
          let z = same_node_count b c r (around same) in let y = same_nodes_at b c r (around same) in read_node c same_right i j x (omega arith) l (omega arith) ∙ sym (read_node b r i j x h l e)
      by (in_record i j h l e) =
          let z = same_record_count b c r (around same) in
          let y = same_script_at b c r (around same) in
          read_record c same_right i j x (omega arith) l (omega arith)
          ∙ ap (λ (m : ℕ). get_or (record_reads c (record_place m i) false) j true) y
          ∙ ap (λ (rs : List Bool). get_or rs j true) (record_reads_law b c r (around same) i h)
          ∙ sym (read_record b r i j x h l e)
      by (in_trailer h) = let z = same_trailer_at b c r (around same) in read_trailer c same_right x (omega arith) ∙ sym (read_trailer b r x h)
