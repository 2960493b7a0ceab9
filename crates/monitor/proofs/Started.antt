-- An accepted job, from loading to its outcome: the loaded slices stand for the state that the rules begin with, so what the run leaves in them is what
-- the rules' run leaves. Assumes nothing.
use mathlib.Core.Path.{◌≡◌, sym, ◌∙◌, ap, subst}
use mathlib.Core.List.{List}
use Prim.Native.Nat.{ℕ, ◌+◌, ◌<◌}
use native.Mathlib.Omega.{arith}
use native.Mathlib.Decide.{ℕ_discrete}
use lib.IntN.{ℤ, pos}
use lib.ListN.{length, get_or, set}
use lib.Seq.{get_or-set_same, get_or-set_other}
use Rattle.rules.specs.Bytes.{variable_place, nodes_at, variable_count, node_count, record_count}
use Rattle.rules.specs.Check as Check
use Rattle.rules.specs.Check.{check_bytes}
use Rattle.rules.specs.Tree.{root}
use Rattle.rules.specs.Job.{variable_of, variables, job_tree, script, script_by}
use Rattle.rules.specs.Run.{Buffers, no_variable, variable_at, run}
use Rattle.rules.specs.Outcome as Rules
use Rattle.rules.specs.Outcome.{begin}
use Rattle.rules.proofs.Accepted.{Right, right, blocks_right}
use Rattle.rules.proofs.Checks.{sections, counts}
use Rattle.rules.proofs.Decode.{listed_length, listed_from_zero}
use Rattle.rules.proofs.Noninterference.{loads, begin_valid}
use Rattle.fields.specs.declared.sections.Layout.{Layout}
use Rattle.fields.specs.Layout.{layout_of}
use Rattle.table.specs.Cells.{cells, gone}
use Rattle.table.specs.Holds.{Holds}
use Rattle.table.specs.Promises.{Behind, Loadable, Loaded}
use Rattle.actions.specs.Board.{capacity, written}
use Rattle.actions.specs.Shows.{Slices}
use Rattle.interpreter.specs.declared.step.Frame.{Frame}
use Rattle.monitor.specs.declared.entry.Outcome.{Outcome}
use Rattle.interpreter.specs.Steps.{held, Script, Lent}
use Rattle.monitor.specs.Promises.{told, Tree, Ran}
use Rattle.monitor.specs.Starting.{frame_of, Loading, VariablesLoaded, Room, JobLoaded, Begun, as_lent, Left}
use Rattle.monitor.specs.FromRoot.{Rooted, FromRoot}

-- one variable more
module _ (b : List ℕ) (i : ℕ) (levels₀ levels : List ℕ) (values₀ values : List ℤ) (l : ℕ) (v : ℤ) (h : VariablesLoaded b i levels₀ levels values₀ values)
    (a : i < length levels) (c : i < length values) (le : l ≡ (variable_of b (variable_place i)).level) (ve : v ≡ (variable_of b (variable_place i)).value)
  where
    pub loaded_more : VariablesLoaded b (i + 1) levels₀ (set levels i l) values₀ (set values i v)
    loaded_more =
        record {
          level = λ k q. level_at_law k q (ℕ_discrete k i);
          value = λ k q. value_at k q (ℕ_discrete k i);
          spare_levels = λ k q. get_or-set_other levels i k l 0 (λ e. omega arith) ∙ h.spare_levels k (omega arith);
          spare_values = λ k q. get_or-set_other values i k v (pos 0) (λ e. omega arith) ∙ h.spare_values k (omega arith);
        }
      where
        level_at_law : (k : ℕ) → k < i + 1 → Dec (k ≡ i) → get_or (set levels i l) k 0 ≡ (variable_of b (variable_place k)).level
        level_at_law k q (yes e) = rw e (get_or-set_same levels i l 0 a ∙ le)
        level_at_law k q (no e) = get_or-set_other levels i k l 0 e ∙ h.level k (omega arith)

        value_at : (k : ℕ) → k < i + 1 → Dec (k ≡ i) → get_or (set values i v) k (pos 0) ≡ (variable_of b (variable_place k)).value
        value_at k q (yes e) = rw e (get_or-set_same values i v (pos 0) c ∙ ve)
        value_at k q (no e) = get_or-set_other values i k v (pos 0) e ∙ h.value k (omega arith)

-- the variables and the tree of an accepted job
module _ (b : List ℕ) (ok : check_bytes b ≡ Check.accepted) (words words' levels levels' : List ℕ) (values values' : List ℤ)
    (vl : VariablesLoaded b (variable_count b) levels levels' values values') (tl : Loaded b (nodes_at b) (node_count b) (cells words'))
    (bl : Behind (node_count b) (cells words) (cells words')) where
  pub loaded : JobLoaded b words words' levels levels' values values'
  unfolding variables variable_at layout_of job_tree Loaded
  loaded =
      record {
        variables =
            record {
              many = listed_length _ (variable_count b) 0;
              level = λ i q. ap (λ w. w.level) (listed_from_zero (λ (k : ℕ). variable_of b (variable_place k)) no_variable (variable_count b) i q) ∙ sym (vl.level i q);
              value = λ i q. ap (λ w. w.value) (listed_from_zero (λ (k : ℕ). variable_of b (variable_place k)) no_variable (variable_count b) i q) ∙ sym (vl.value i q);
            };
        spare_levels = vl.spare_levels;
        spare_values = vl.spare_values;
        tree = λ places n m. tl (right b ok).parents places n m;
        behind = bl;
      }

module _ (b plan : List ℕ) (budget : ℕ) (x : Slices) (places : ℕ) (ok : check_bytes b ≡ Check.accepted) (g : Begun b (layout_of b) plan budget x places) where
  r : Right b
  r = right b ok

  scripted : record_count b < length plan → Script (held b plan (frame_of (layout_of b) places))
  unfolding layout_of script_by
  scripted long =
      let s = sections b r.offsets in
      record {
        inside = omega (arith, s.records);
        few = (counts _ _ _ r.counts).records;
        fields = r.records;
        blocks = blocks_right b r;
        long = long;
        plan = g.planned;
      }

  pub rooted : (x₁ : Slices) → length x₁.words ≡ length x.words → length x₁.levels ≡ length x.levels → length x₁.values ≡ length x.values
      → Rooted (held b plan (frame_of (layout_of b) places)) x₁ budget
  unfolding layout_of
  rooted x₁ e e₁ e₂ =
      let n = counts _ _ _ r.counts in
      record {
        short = n.records;
        script = scripted;
        spend = g.spend;
        words = omega (arith, g.words, e);
        some = omega (arith, g.nodes, n.some);
        few = g.few;
        levelled = omega (arith, g.levelled, e₁);
        valued = omega (arith, g.valued, e₂);
      }

  -- the slices after loading, and after the run
  module _ (x₁ x₂ : Slices) (ld : JobLoaded b x.words x₁.words x.levels x₁.levels x.values x₁.values) (board : x₁.board ≡ x.board)
      (o : Outcome) (run_of : FromRoot (held b plan (frame_of (layout_of b) places)) (node_count b) gone budget x₁ x₂ o) where
    loaded_tree : Holds (cells x₁.words) places (node_count b) gone 0 (job_tree b) root
    unfolding layout_of
    loaded_tree = ld.tree places g.nodes g.few

    module _ (given : Buffers) (gp : given.places ≡ places) (gb : given.lines ≡ capacity x.board) where
      lent_so : Lent (held b plan (frame_of (layout_of b) places)) x₁ given
      lent_so = record { places = gp; board = gb ∙ ap capacity (sym board) }

      outcome : o ≡ told (Rules.ran (run given (script b) budget (begin b)))
      unfolding layout_of script_by begin
      outcome = run_of.outcome given (variables b) (job_tree b) lent_so (begin_valid b (loads b ok)) ld.variables loaded_tree

      leaves : Ran Tree (variable_count b) places (as_lent x) (as_lent x₂) (run given (script b) budget (begin b))
      unfolding layout_of script_by begin
      leaves =
          let k = run_of.leaves given (variables b) (job_tree b) lent_so (begin_valid b (loads b ok)) ld.variables loaded_tree in
          record {
            board = k.board ∙ ap (written _) board;
            variables = k.variables;
            spare_levels = λ j q. k.spare_levels j q ∙ ld.spare_levels j q;
            spare_values = λ j q. k.spare_values j q ∙ ld.spare_values j q;
            tree = k.tree;
          }

    pub left : Left b budget places x x₂ o
    unfolding layout_of
    left =
        record {
          outcome = λ given gp gb. outcome given gp gb;
          behind = record { same = λ y h. run_of.behind.same y h ∙ ld.behind.same y (omega (arith, g.nodes, h)) };
          leaves = λ given gp gb. leaves given gp gb;
        }

-- the same for a layout that is the job's: what loading asks for, and what it leaves
module _ (b : List ℕ) (l : Layout) (words levels : List ℕ) (values : List ℤ) (g : Room b l words levels values) where
  here : Room b (layout_of b) words levels values
  here = subst (λ (k : Layout). Room b k words levels values) g.layout g

  pub loading : Loading b levels values l.variables
  unfolding layout_of
  loading =
      let s = sections b (right b g.accepted).offsets in
      rw g.layout (record { inside = omega (arith, s.variables, s.nodes, s.records); levelled = here.levelled; valued = here.valued })

  pub loadable : Loadable b words l.tree l.nodes
  unfolding layout_of
  loadable =
      let s = sections b (right b g.accepted).offsets in
      let n = counts _ _ _ (right b g.accepted).counts in
      rw g.layout (record { whole = omega (arith, s.nodes, s.records); long = omega (arith, here.tabled); some = n.some; few = n.nodes })

  pub loaded_by : (words' levels' : List ℕ) (values' : List ℤ) → VariablesLoaded b l.variables levels levels' values values'
      → Loaded b l.tree l.nodes (cells words') → Behind l.nodes (cells words) (cells words') → JobLoaded b words words' levels levels' values values'
  unfolding layout_of
  loaded_by words' levels' values' = rw g.layout (loaded b g.accepted words words' levels levels' values values')

-- what a run that begins so asks for, and what it leaves
module _ (b plan : List ℕ) (budget : ℕ) (x : Slices) (places : ℕ) (l : Layout) (g : Begun b l plan budget x places) where
  begun : Begun b (layout_of b) plan budget x places
  begun = subst (λ (k : Layout). Begun b k plan budget x places) g.layout g

  pub roomy : Room b l x.words x.levels x.values
  roomy = record { accepted = g.accepted; layout = g.layout; tabled = omega (arith, g.words, g.nodes); levelled = g.levelled; valued = g.valued }

  module _ (f : Frame) (framed : f ≡ frame_of l places) where
    pub rooted_at : (x₁ : Slices) → length x₁.words ≡ length x.words → length x₁.levels ≡ length x.levels → length x₁.values ≡ length x.values
        → Rooted (held b plan f) x₁ budget
    rooted_at = rw (framed, g.layout) (rooted b plan budget x places g.accepted begun)

    pub left_of_law : (x₁ x₂ : Slices) → JobLoaded b x.words x₁.words x.levels x₁.levels x.values x₁.values → x₁.board ≡ x.board → (o : Outcome)
        → FromRoot (held b plan f) l.nodes gone budget x₁ x₂ o → Left b budget places x x₂ o
    unfolding layout_of
    left_of_law = rw (framed, g.layout) (left b plan budget x places g.accepted begun)
