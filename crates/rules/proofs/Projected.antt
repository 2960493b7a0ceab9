-- The view of an accepted job is the job of its store's view and of its own script section. So it is accepted, and a run of it is the same wherever the
-- reader sees the same. Assumes nothing.
use mathlib.Core.Path.{◌≡◌, sym, ap, ap₂, subst, ◌∙◌}
use Prim.Native.Nat.{ℕ, zero, suc, ◌+◌, ◌-◌, ◌*◌, ◌%◌, ◌/◌, ◌≤◌, ◌<◌}
use native.Mathlib.Omega.{arith}
use mathlib.Core.Bool.{true, ◌&&◌}
use mathlib.Core.List.{List, ◌∷◌}
use lib.ListN.{length}
use lib.Dec.{leb, eqb}
use borrow.Author.Tests.{eq-eqb, le-leb, leb-true}
use Rattle.rules.specs.Limits.{max_nodes, bad_budget, bad_buffers}
use Rattle.rules.specs.Level.{Level, not_above}
use Rattle.rules.specs.Tree.{size}
use Rattle.rules.specs.Bytes.{byte, full, nodes_at, script_at, variable_count, node_count, record_count, node_place}
use Rattle.rules.specs.Check.{accepted, refused, require, today, parent, check_bytes}
use Rattle.rules.specs.Job.{listed, variable_of, variables, label_of, children_of, tree_of, job_tree, script, script_by}
use Rattle.rules.specs.Run.{Buffers, run, start}
use Rattle.rules.specs.Outcome.{budget_rule, and_then, buffer_rule, check_job_by, check_job, rejected, ran, begin, run_job_by, run_job}
use Rattle.rules.specs.Public.{Alike}
use Rattle.rules.specs.History.{Store, section_count, section_script, section_rule, leaves, history, job_store, after_job, AgreeStores, JobHistorySecrecy}
use Rattle.rules.specs.Write.{RangedTree, RangedVariables, Ranged, written_size, script_section, job_of, Joins}
use Rattle.rules.specs.Projection.{view_store, project, NothingToldOfJob, FaithfulToJob, Projects, JobViewRight, ProjectionRight}
use Rattle.rules.proofs.Tests.{Test, holds, fails, test, both, joined}
use Rattle.rules.proofs.Lattice.{na_refl}
use Rattle.rules.proofs.Number.{signed_any}
use Rattle.rules.proofs.Checks.{Sections, sections, counts, passed_one, long_enough}
use Rattle.rules.proofs.Decode.{variables_length}
use Rattle.rules.proofs.Accepted.{ScriptRight, right, right_by}
use Rattle.rules.proofs.Sections.{section_byte, section_size, script_moved, right_moved}
use Rattle.rules.proofs.Noninterference.{accepted_rest}
use Rattle.rules.proofs.Size.{tree_size}
use Rattle.rules.proofs.Stores.{holdable_rule, job_store_law}
use Rattle.rules.proofs.History.{job_history_secrecy}
use Rattle.rules.proofs.Joined.{joins_right}
use Rattle.rules.proofs.Sifted.{one_pass}
use Rattle.rules.proofs.Unsifted.{project_whole}
use Rattle.rules.proofs.Projection.{cut_size, variables_many, view_holdable, view_ranged, view_twice, view_shows, one_view, agree_sym, view_right, view_whole}

-- the numbers of a job are 32 bits wide, whatever its bytes

variables_ranged : (b : List ℕ) (n i : ℕ) → RangedVariables (listed (λ k. variable_of b (8 * k)) n i)
unfolding listed variable_of
variables_ranged b zero i = tt
variables_ranged b (suc n) i = (signed_any (full b (8 * i + 4)), variables_ranged b n (suc i))

children_ranged : (b : List ℕ) (base p n i : ℕ) → RangedTree (children_of b base p n i)
unfolding children_of label_of
children_ranged b base p zero i = tt
children_ranged b base p (suc n) i = pick (test (eqb (parent b base i) p)) (children_ranged b base i n (suc i)) (children_ranged b base p n (suc i))
  where
    pick : Test (eqb (parent b base i) p) → RangedTree (children_of b base i n (suc i)) → RangedTree (children_of b base p n (suc i))
        → RangedTree (children_of b base p (suc n) i)
    pick (holds e) x y = rw (e, children_of) (signed_any (full b (node_place base i + 8)), x, y)
    pick (fails e) x y = rw (e, children_of) y

job_ranged : (b : List ℕ) → Ranged (job_store b)
unfolding job_store variables job_tree tree_of label_of
job_ranged b =
    record {
      variables = variables_ranged b (variable_count b) 0;
      tree = (signed_any (full b (node_place (nodes_at b) 0 + 8)), children_ranged b (nodes_at b) 0 (node_count b - 1) 1, tt);
    }

-- the script section of an accepted job is a bare section that passes

record Lifted (b : List ℕ) : Type 0 where
  sized : length (script_section b) ≡ 16 * record_count b
  counted : section_count (script_section b) ≡ record_count b
  whole : section_rule (script_section b) ≡ true
  checked : ScriptRight today (script_section b) (variable_count b) 0 0 0 0 (record_count b)
  says : section_script (script_section b) ≡ script b

lifted : (b : List ℕ) → check_bytes b ≡ accepted → Lifted b
unfolding section_count section_rule section_script script_by
lifted b e =
    let r = right_by today b e in
    let s = sections b r.right.offsets in
    let n = counts _ _ _ r.right.counts in
    let z = long_enough (length b) r.right.lengths in
    let w = section_size b (omega arith) in
    let k : length (script_section b) / 16 ≡ record_count b = omega arith in
    let q = n.records in
    record {
      sized = omega arith;
      counted = k;
      whole = joined (eq-eqb (length (script_section b) % 16) 0 (omega arith)) (le-leb (length (script_section b) / 16) 1024 (omega arith));
      checked =
          right_moved (script_section b) b 0 (script_at b) (record_count b) (same s) today (variable_count b) (variable_count b) (nodes_at b) (node_count b) 0 0 0 r.script
          (λ q i a. absurd (omega arith)) (λ q i a. absurd (omega arith));
      says = rw k (script_moved (script_section b) b 0 (script_at b) (record_count b) (same s));
    }
  where
    same : Sections b → (j : ℕ) → j < 16 * record_count b → byte (script_section b) (0 + j) ≡ byte b (script_at b + j)
    same s j a = ap (byte (script_section b)) {x = 0 + j} {y = j} (omega arith) ∙ section_byte b j (omega arith)

-- accepted jobs that hold the same run the same
module _ (a b : List ℕ) (ha : check_bytes a ≡ accepted) (hb : check_bytes b ≡ accepted) (store : job_store a ≡ job_store b) (says : script a ≡ script b)
    (variable_count_law : variable_count a ≡ variable_count b) (node_count_law : node_count a ≡ node_count b) (budget : ℕ) (lent : Buffers) where
  checks_same : check_job_by today a budget lent ≡ check_job_by today b budget lent
  unfolding check_job_by buffer_rule
  checks_same = rw (ha, hb, variable_count_law, node_count_law)

  runs_same : run_job a budget lent ≡ run_job b budget lent
  unfolding run_job run_job_by begin job_store today
  runs_same =
      λ i.
      elim (checks_same i) [
        | refused k j ↦ rejected k j
        | accepted ↦ ran (run lent (says i) budget (start (store i).variables (store i).tree))
      ]

  after_same : after_job a budget lent ≡ after_job b budget lent
  unfolding after_job
  after_same = ap₂ leaves store runs_same

module _ (o : Level) where
  module _ (b : List ℕ) (e : check_bytes b ≡ accepted) where
    seen_store : Store
    seen_store = view_store o (job_store b)

    pub joins : Joins (view_store o (job_store b)) (script_section b)
    unfolding view_store job_store
    joins =
        let l = lifted b e in
        joins_right (view_store o (job_store b)) (script_section b) l.whole (holdable_rule _ (view_holdable o (job_store b) (job_store_law b e)))
        (view_ranged o (job_store b) (job_ranged b)) (rw (variables_many o (variables b), variables_length b, l.counted) l.checked)

    pub same_store : job_store (project o b) ≡ view_store o (job_store b)
    unfolding project job_store view_store
    same_store = λ i. record { variables = joins.variables i; tree = joins.tree i }

    pub same_script : script (project o b) ≡ script b
    unfolding project
    same_script = joins.script ∙ (lifted b e).says

    -- it has as many variables as the job, and no more nodes
    as_many : variable_count (project o b) ≡ variable_count b
    unfolding project view_store job_store
    as_many = joins.variable_count_law ∙ variables_many o (variables b) ∙ variables_length b

    no_more : node_count (project o b) ≤ node_count b
    unfolding project view_store job_store job_tree
    no_more =
        let z = joins.node_count_law in
        let y = cut_size o (job_tree b) in
        let n = counts _ _ _ (right b e).counts in
        let w = tree_size b (nodes_at b) (node_count b) n.some in omega arith

    project_long : length (project o b) ≤ length b
    unfolding project written_size view_store job_store job_tree
    project_long =
        let l = lifted b e in
        let r = right b e in
        let s = sections b r.offsets in
        let n = counts _ _ _ r.counts in
        let k = long_enough (length b) r.lengths in
        let j = joins.long in
        let v = variables_many o (variables b) in
        let u = variables_length b in
        let y = cut_size o (job_tree b) in
        let w = tree_size b (nodes_at b) (node_count b) n.some in
        let z = l.sized in omega arith

    buffers_held : (lent : Buffers) → buffer_rule b lent ≡ true → buffer_rule (project o b) lent ≡ true
    unfolding buffer_rule
    buffers_held lent x =
        let room = leb 1 lent.places && leb lent.places max_nodes in
        let y1 = both (room && leb (node_count b) lent.places) (leb (variable_count b) lent.variables) x in
        let y2 = both room (leb (node_count b) lent.places) y1.0 in
        let p = leb-true (node_count b) lent.places y2.1 in
        let v = leb-true (variable_count b) lent.variables y1.1 in
        let m = no_more in
        let k = as_many in
        joined (joined y2.0 (le-leb (node_count (project o b)) lent.places (omega arith))) (le-leb (variable_count (project o b)) lent.variables (omega arith))

    pub project_taken : check_bytes (project o b) ≡ accepted
    unfolding project
    project_taken = joins.taken

    project_held : (n : ℕ) (lent : Buffers) → check_job b n lent ≡ accepted → check_job (project o b) n lent ≡ accepted
    unfolding check_job check_job_by and_then require
    project_held n lent q =
        let rest = require bad_buffers (buffer_rule b lent) accepted in
        let x1 = passed_one bad_budget (budget_rule n) rest (accepted_rest (check_bytes b) (require bad_budget (budget_rule n) rest) q) in
        let x2 = passed_one bad_buffers (buffer_rule b lent) accepted x1.1 in
        rw (project_taken, x1.0, buffers_held lent x2.0)

    pub project_alike : Alike o b (project o b)
    unfolding job_store
    project_alike =
        record {
          script = sym same_script;
          parts = subst (AgreeStores o (job_store b)) (sym same_store) (view_shows o (job_store b) (job_store_law b e).rules);
        }

    projects : Projects o b
    unfolding project
    projects =
        record {
          taken = project_taken;
          store = same_store;
          script = same_script;
          section = joins.section;
          alike = project_alike;
          long = project_long;
          held = project_held;
        }

  one_job : (a b : List ℕ) → AgreeStores o (job_store a) (job_store b) → script_section a ≡ script_section b → project o a ≡ project o b
  unfolding project
  one_job a b h s = ap₂ job_of (one_view o (job_store a) (job_store b) h) s

  told_job : NothingToldOfJob o
  unfolding NothingToldOfJob project job_store
  told_job a b n lent fs ha hb alike =
      let same = store_same in
      ap₂ ◌∷◌ (runs_same (project o a) (project o b) (project_taken a ha) (project_taken b hb) same says variable_many node_many n lent)
      (ap (λ s. history s fs) (after_same (project o a) (project o b) (project_taken a ha) (project_taken b hb) same says variable_many node_many n lent))
    where
      views : view_store o (job_store a) ≡ view_store o (job_store b)
      views = one_view o (job_store a) (job_store b) alike.parts

      store_same : job_store (project o a) ≡ job_store (project o b)
      store_same = same_store a ha ∙ views ∙ sym (same_store b hb)

      says : script (project o a) ≡ script (project o b)
      says = same_script a ha ∙ alike.script ∙ sym (same_script b hb)

      variable_many : variable_count (project o a) ≡ variable_count (project o b)
      variable_many = (joins a ha).variable_count_law ∙ ap (λ (s : Store). length s.variables) views ∙ sym (joins b hb).variable_count_law

      node_many : node_count (project o a) ≡ node_count (project o b)
      node_many = (joins a ha).node_count_law ∙ ap (λ (s : Store). size s.tree) views ∙ sym (joins b hb).node_count_law

  faithful_job : FaithfulToJob o
  unfolding FaithfulToJob JobHistorySecrecy job_store
  faithful_job b n m lent lent' fs gs e same =
      let w = project_alike b e in
      job_history_secrecy o (project o b) b n m lent lent' fs gs (project_taken b e) e
      (record { script = sym w.script; parts = agree_sym o (job_store b) (job_store (project o b)) w.parts }) same

project_part : (o p : Level) (b : List ℕ) → not_above o p ≡ true → check_bytes b ≡ accepted → project o (project p b) ≡ project o b
unfolding project
project_part o p b h e = ap₂ (λ (s : Store) (c : List ℕ). job_of (view_store o s) c) (same_store p b e) (joins p b e).section ∙ ap (λ (s : Store). job_of s (script_section b)) (view_twice o p h (job_store b))

pub job_view_right : (o : Level) → JobViewRight o
job_view_right o =
    record {
      projects = projects o;
      one = one_job o;
      pass = one_pass o;
      again = λ b e. project_part o o b (na_refl o) e;
      part = λ p b h e. project_part o p b h e;
      told = told_job o;
      faithful = faithful_job o;
    }

pub projection_right : ProjectionRight
projection_right = record { reader = view_right; job = job_view_right; whole = view_whole; whole_job = project_whole }
