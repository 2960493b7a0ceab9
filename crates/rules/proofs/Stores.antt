-- The rule of a store, as facts: what it asks, that a job and every script after it keep it, and what is known of a script that is taken. Assumes nothing.
use mathlib.Core.Path.{◌≡◌, refl}
use Prim.Native.Nat.{ℕ, ◌≤◌}
use native.Mathlib.Omega.{arith}
use mathlib.Core.Bool.{true}
use mathlib.Core.List.{List, [], ◌∷◌}
use lib.ListN.{length}
use lib.Dec.{leb, eqb}
use borrow.Author.Tests.{leb-true, le-leb, eqb-true, eq-eqb}
use Rattle.rules.specs.Limits.{max_variables, max_nodes, bad_budget, bad_buffers, bad_follow_on}
use Rattle.rules.specs.Level.{Level, public, not_above, is_level}
use Rattle.rules.specs.Bytes.{nodes_at, node_count, variable_count}
use Rattle.rules.specs.Tree.{Label, Forest, nil, tree, exists, count, size, Fit, Fits, TreeRules, fits_node, fits}
use Rattle.rules.specs.Check.{Checked, accepted, refused, today, check_bytes}
use Rattle.rules.specs.Job.{job_tree, tree_of, all_levels, script}
use Rattle.rules.specs.Run.{Memory, State, Buffers, run, start}
use Rattle.rules.specs.Outcome.{budget_rule, buffer_rule, check_job_by, check_job, rejected, ran, answer, begin}
use Rattle.rules.specs.Public.{Finishes}
use Rattle.rules.specs.History.{Store, FollowOn, section_count, section_script, section_rule, store_rule, check_follow_on, follow, leaves, after, after_all, job_store, after_job, StoreKept}
use Rattle.rules.proofs.Tests.{both}
use Rattle.rules.proofs.Sound.{Sound}
use Rattle.rules.proofs.Checks.{counts, passed_one, Refuses, refuses_with, refuses_one, Numbered, script_numbered}
use Rattle.rules.proofs.Decode.{variables_length}
use Rattle.rules.proofs.Accepted.{right, ScriptRight, script_right}
use Rattle.rules.proofs.Control.{Closed}
use Rattle.rules.proofs.Starts.{closed_section, Kept, start_valid}
use Rattle.rules.proofs.Noninterference.{loads, accepted_rest, turned_back_law, runs}
use Rattle.rules.proofs.Invariants.{run_valid, reached_valid}
use Rattle.rules.proofs.Endings.{Among, finishes_among}
use Rattle.rules.proofs.Size.{tree_size}
use Rattle.rules.proofs.Preserved.{Held, run_held}

-- the tree rules, as a test and as facts
node_facts : (lo hi : Level) (l : Label) → fits_node lo hi l ≡ true → Fit lo hi l
unfolding fits_node
node_facts lo hi l e =
    let x6 = both _ (not_above l.existence l.structure) e in
    let x5 = both _ (not_above l.existence l.content) x6.0 in
    let x4 = both _ (not_above l.existence hi) x5.0 in
    let x3 = both _ (not_above lo l.existence) x4.0 in
    let x2 = both _ (is_level l.structure) x3.0 in
    let x1 = both (is_level l.existence) (is_level l.content) x2.0 in
    record {
      levels = record { existence = x1.0; content = x1.1; structure = x2.1 };
      above = x3.1;
      under = x4.1;
      content = x5.1;
      structure = x6.1;
    }

node_test : (lo hi : Level) (l : Label) → Fit lo hi l → fits_node lo hi l ≡ true
unfolding fits_node
node_test lo hi l f =
    rw (f.levels.existence, f.levels.content, f.levels.structure, f.above, f.under, f.content, f.structure)

pub fits_facts : (lo hi : Level) (t : Forest) → fits lo hi t ≡ true → Fits lo hi t
unfolding fits
fits_facts lo hi nil e = tt
fits_facts lo hi (tree l c r) e =
    let x2 = both _ (fits l.existence hi r) e in
    let x1 = both (fits_node lo hi l) (fits l.existence l.structure c) x2.0 in
    (node_facts lo hi l x1.0, fits_facts l.existence l.structure c x1.1, fits_facts l.existence hi r x2.1)

pub fits_test : (lo hi : Level) (t : Forest) → Fits lo hi t → fits lo hi t ≡ true
unfolding fits
fits_test lo hi nil h = refl
fits_test lo hi (tree l c r) h = rw (node_test lo hi l h.0, fits_test _ _ c h.1, fits_test _ _ r h.2)

-- what an accepted job could hold
pub record Holdable (s : Store) : Type 0 where
  pub few : length s.variables ≤ max_variables
  pub levels : all_levels s.variables ≡ true
  pub rooted : count s.tree ≡ 1
  pub small : size s.tree ≤ max_nodes
  pub rules : TreeRules s.tree

pub holdable : (s : Store) → store_rule s ≡ true → Holdable s
unfolding store_rule
holdable s e =
    let x4 = both _ (fits public public s.tree) e in
    let x3 = both _ (leb (size s.tree) max_nodes) x4.0 in
    let x2 = both _ (eqb (count s.tree) 1) x3.0 in
    let x1 = both (leb (length s.variables) max_variables) (all_levels s.variables) x2.0 in
    record {
      few = leb-true _ _ x1.0;
      levels = x1.1;
      rooted = eqb-true _ _ x2.1;
      small = leb-true _ _ x3.1;
      rules = fits_facts public public s.tree x4.1;
    }

pub holdable_rule : (s : Store) → Holdable s → store_rule s ≡ true
unfolding store_rule
holdable_rule s h =
    rw (le-leb _ _ h.few, h.levels, eq-eqb _ _ h.rooted, le-leb _ _ h.small, fits_test public public s.tree h.rules)

one_exists : (t : Forest) → count t ≡ 1 → exists t ≡ true
unfolding count exists
one_exists nil h = absurd (omega arith)
one_exists (tree l c r) h = refl

module _ (s : Store) (h : Holdable s) where
  pub holdable_kept : Kept s.variables s.tree
  holdable_kept = record { variables = h.levels; root = one_exists s.tree h.rooted; tree = h.rules }

  pub start_held : Held (length s.variables) (start s.variables s.tree).memory
  unfolding start
  start_held = record { variables = refl; rooted = h.rooted; small = h.small }

-- what a run leaves of it
leaves_holdable : (v : ℕ) → v ≤ max_variables → (m : Memory) → Sound m → Held v m → Holdable (record { variables = m.variables; tree = m.tree })
leaves_holdable v few m sound k =
    record {
      few = let e = k.variables in omega arith;
      levels = sound.variables;
      rooted = k.rooted;
      small = k.small;
      rules = sound.rules;
    }

-- what is known of a script that is taken
pub record Taken (s : Store) (f : FollowOn) : Type 0 where
  pub store : Holdable s
  pub whole : section_rule f.section ≡ true
  pub checked : ScriptRight today f.section (length s.variables) 0 0 0 0 (section_count f.section)
  pub spend : budget_rule f.budget ≡ true
  pub script : Closed (section_script f.section)
  pub places : f.lent.places ≤ max_nodes

pub taken : (s : Store) (f : FollowOn) → check_follow_on s f ≡ accepted → Taken s f
unfolding check_follow_on section_script
taken s f e =
    let x1 = passed_one bad_follow_on _ _ e in
    let x2 = script_right today f.section (length s.variables) 0 0 0 0 (section_count f.section) _ x1.1 in
    let x4 = passed_one bad_budget _ _ x2.1 in
    let x5 = passed_one bad_buffers _ _ x4.1 in
    record {
      store = holdable s (both (section_rule f.section) (store_rule s) x1.0).1;
      whole = (both (section_rule f.section) (store_rule s) x1.0).0;
      checked = x2.0;
      spend = x4.0;
      script = closed_section f.section (length s.variables) 0 (section_count f.section) x2.0.records x2.0.blocks;
      places = leb-true _ _ x5.0;
    }

module _ (s : Store) (f : FollowOn) where
  pub followed : check_follow_on s f ≡ accepted
      → follow s f ≡ ran (run f.lent (section_script f.section) f.budget (start s.variables s.tree))
  unfolding follow
  followed e = rw (e, follow)

  pub turned_away : {k i : ℕ} → check_follow_on s f ≡ refused k i → follow s f ≡ rejected k i
  unfolding follow
  turned_away e = rw (e, follow)

  after_holdable : Holdable s → Holdable (after s f)
  unfolding after leaves
  after_holdable h = pick (check_follow_on s f) refl
    where
      pick : (c : Checked) → check_follow_on s f ≡ c → Holdable (leaves s (follow s f))
      pick (refused k i) e = rw (turned_away e) h
      pick accepted e =
          let w = taken s f e in
          rw (followed e)
          (leaves_holdable _ h.few _
          (run_valid f.lent (section_script f.section) w.script f.budget _ (start_valid _ _ (holdable_kept s h) _)).memory
          (run_held f.lent w.places (section_script f.section) _ f.budget _ (start_held s h)))

pub all_holdable : (fs : List FollowOn) (s : Store) → Holdable s → Holdable (after_all s fs)
unfolding after_all
all_holdable [] s h = h
all_holdable (f ∷ fs) s h = all_holdable fs (after s f) (after_holdable s f h)

-- a job
pub job_store_law : (b : List ℕ) → check_bytes b ≡ accepted → Holdable (job_store b)
unfolding job_store job_tree tree_of count
job_store_law b e =
    let l = loads b e in
    let n = counts _ _ _ (right b e).counts in
    record {
      few = let q = variables_length b in let c = n.variables in omega (arith, q, c);
      levels = l.kept.variables;
      rooted = refl;
      small = let q = tree_size b (nodes_at b) (node_count b) n.some in let c = n.nodes in omega (arith, q, c);
      rules = l.kept.tree;
    }

places_few : (b : List ℕ) (n : ℕ) (lent : Buffers) → check_job b n lent ≡ accepted → lent.places ≤ max_nodes
unfolding check_job check_job_by buffer_rule
places_few b n lent e =
    let x1 = passed_one bad_budget _ _ (accepted_rest _ _ e) in
    let x2 = passed_one bad_buffers _ _ x1.1 in
    let y1 = both _ (leb (variable_count b) lent.variables) x2.0 in
    let y2 = both _ (leb (node_count b) lent.places) y1.0 in
    leb-true _ _ (both (leb 1 lent.places) (leb lent.places max_nodes) y2.0).1

pub job_holdable : (b : List ℕ) (n : ℕ) (lent : Buffers) → check_bytes b ≡ accepted → Holdable (after_job b n lent)
unfolding after_job leaves job_store begin
job_holdable b n lent k = pick (check_job b n lent) refl
  where
    pick : (c : Checked) → check_job b n lent ≡ c → Holdable (after_job b n lent)
    pick (refused j i) e = rw (turned_back_law b n lent e) (job_store_law b k)
    pick accepted e =
        let h = job_store_law b k in
        rw (runs b n lent e)
        (leaves_holdable _ h.few _ (reached_valid lent b k n).memory
        (run_held lent (places_few b n lent e) (script b) _ n (begin b) (start_held (job_store b) h)))

pub store_kept : StoreKept
store_kept =
    record {
      job = λ b n lent e. holdable_rule _ (job_holdable b n lent e);
      scripts = λ s fs e. holdable_rule _ (all_holdable fs s (holdable s e));
    }

-- how a follow-on script can end
follow_numbered : (s : Store) (f : FollowOn) → Refuses Numbered (check_follow_on s f)
unfolding check_follow_on
follow_numbered s f =
    refuses_one Numbered _ (omega arith, omega arith) _ _
    (script_numbered today f.section _ 0 0 0 0 _ _
    (refuses_one Numbered _ (omega arith, omega arith) _ _ (refuses_one Numbered _ (omega arith, omega arith) _ _ tt)))

module _ (s : Store) (f : FollowOn) where
  follow_among : Among (follow s f)
  follow_among = pick (check_follow_on s f) refl
    where
      pick : (c : Checked) → check_follow_on s f ≡ c → Among (follow s f)
      pick (refused k i) e = rw (turned_away s f e) (refuses_with Numbered _ k i e (follow_numbered s f))
      pick accepted e = rw (followed s f e) tt

  pub follow_finishes : (answer (follow s f)).ending ≡ 0 → (g : State) × Finishes (follow s f) g
  follow_finishes = finishes_among (follow s f) follow_among
