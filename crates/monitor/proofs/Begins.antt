-- How a run has ended, told as an outcome and as what it leaves. A run from the root: the slices stand for the state that the rules start with, so what
-- the run leaves in them is what the rules' run leaves. Assumes nothing.
use mathlib.Core.Path.{◌≡◌, refl, sym, ap, subst, ◌∙◌}
use mathlib.Core.List.{List, []}
use Prim.Native.Nat.{ℕ, ◌-◌, ◌<◌, ◌≤◌}
use native.Mathlib.Nat.{zero-add}
use native.Mathlib.Omega.{arith}
use lib.ListN.{length, get_or}
use borrow.Author.Tests.{eq-eqb, ne_eqb}
use Rattle.rules.specs.Level.{public}
use Rattle.rules.specs.Tree.{Forest, root}
use Rattle.rules.specs.Job.{Variable}
use Rattle.rules.specs.Run.{Buffers, Ending, finished, stopped, Ended, start, run}
use Rattle.rules.specs.Outcome as Rules
use Rattle.rules.proofs.Control.{Valid}
use Rattle.table.specs.Cells.{cells}
use Rattle.table.specs.Holds.{Holds}
use Rattle.table.specs.Since.{number}
use Rattle.actions.specs.declared.control.Running.{Running}
use Rattle.actions.specs.declared.control.Stepped.{Stepped}
use Rattle.actions.specs.Shows.{Slices, Variables}
use Rattle.actions.specs.Marks.{count_at, marks_size, Marked, nothing}
use Rattle.actions.specs.Stands.{Stands}
use Rattle.actions.specs.Acts.{Kept}
use Rattle.actions.proofs.Board.{no_lines, lines_many, as_written}
use Rattle.actions.proofs.Stepping.{stop_below}
use Rattle.interpreter.specs.Steps as Steps
use Rattle.interpreter.specs.Steps.{Held, script_in, Startable, Lent, Runs, code_of}
use Rattle.monitor.specs.Promises.{told, told_by, Tree, Ran}
use Rattle.monitor.specs.Starting.{outcome_of, as_lent}
use Rattle.monitor.specs.FromRoot.{root_of, AtRoot, Rooted, FromRoot}

-- a run that has ended, `total` steps counted with those that are left
module _ {h : Held} {x' : Slices} {k' : List ℕ} {a : Stepped} {total : ℕ} {e : Ended} (ran : Steps.Ran h x' k' a total e) where
  line_count : length e.last.memory.lines ≡ a.running.memory.lines
  line_count = lines_many ran.last.memory.lines

  step_count : e.last.steps ≡ total - a.running.left
  step_count = omega (arith, ran.steps)

  told_by_law : (k : Ending) → e.ending ≡ k → a.stop ≡ code_of k → outcome_of total a ≡ told (Rules.ran e)
  unfolding told told_by outcome_of code_of
  told_by_law finished w z = rw (w, line_count, step_count, eq-eqb _ 255 z)
  told_by_law (stopped k) w z = rw (w, line_count, step_count, ran.last.at, ne_eqb _ 255 (λ y. stop_below k (sym z ∙ y)), z)

  pub answered : outcome_of total a ≡ told (Rules.ran e)
  answered = told_by_law e.ending refl ran.ending

  -- what it leaves in slices that were lent as x
  pub leaves : {x : Slices} → Kept h.places h.vars x x' 0 a.running.memory.lines
      → ((j : ℕ) → h.vars ≤ j → get_or x'.levels j 0 ≡ get_or x.levels j 0) → Ran Tree h.vars h.places (as_lent x) (as_lent x') e
  leaves {x} kept levels =
      let m = ran.last.memory in
      record {
        board = as_written _ x.board _ x'.board m.lines line_count kept.board;
        variables = m.variables;
        spare_levels = levels;
        spare_values = kept.values;
        tree = record { used = a.running.memory.used; free = a.running.memory.free; at = a.running.memory.cursor; holds = m.tree };
      }

-- the largest plan is long enough for every script
pub plan_long : {h : Held} {x : Slices} {budget : ℕ} → Rooted h x budget → length h.plan ≡ 1025 → h.records < length h.plan
plan_long p e = omega (arith, p.short, e)

-- the record that a run starts from, over slices and marks that are long enough
module _ {x : Slices} {k : List ℕ} {used free budget : ℕ} {r : Running} (at : AtRoot used free budget r) where
  pub startable : {h : Held} → marks_size ≤ length k → h.records < length h.plan → Rooted h x budget → Startable h x k r
  startable {h} marks long p =
      subst (Startable h x k) (sym at.is)
      (record {
        script = p.script long;
        safe =
            record {
              long = p.words;
              few = p.few;
              levelled = p.levelled;
              valued = p.valued;
              cursor = p.some;
              room = omega arith;
              within = omega arith;
              marks = marks;
            };
      })

  pub stands : {places vars : ℕ} → number k count_at ≡ 0 → (vs : List Variable) (t : Forest) → Variables x.levels x.values vars vs
      → Holds (cells x.words) places used free 0 t root → Stands places vars x k r (start vs t)
  unfolding start public
  stands {places} {vars} empty vs t shown holds =
      subst (λ y. Stands places vars x k y (start vs t)) (sym at.is)
      (record {
        memory = record { tree = holds; level = refl; variables = shown; lines = no_lines };
        guards = at.blockless;
        marks = subst (λ (n : ℕ). Marked (cells x.words) places used free t k n []) (sym empty) nothing;
        at = refl;
      })

  -- no more steps are left at its end than there were
  pub within : {h : Held} {x' : Slices} {k' : List ℕ} {a : Stepped} → Runs h x x' k k' r a → a.running.left ≤ budget
  within rs = let e = ap (λ y. y.left) at.is in omega (arith, rs.early, e)

module _ (h : Held) (x x' : Slices) (k k' : List ℕ) (empty : number k count_at ≡ 0) (used free budget : ℕ) (r : Running) (at : AtRoot used free budget r)
    (levels : x'.levels ≡ x.levels) (a : Stepped) (rs : Runs h x x' k k' r a) where
  from_start : Runs h x x' k k' (root_of used free budget r.guards) a
  from_start = subst (λ y. Runs h x x' k k' y a) at.is rs

  module _ (given : Buffers) (vs : List Variable) (t : Forest) (lent : Lent h x given) (valid : Valid (script_in h) (start vs t))
      (vars : Variables x.levels x.values h.vars vs) (holds : Holds (cells x.words) h.places used free 0 t root) where
    ran : Steps.Ran h x' k' a budget (run given (script_in h) budget (start vs t))
    unfolding start
    ran =
        subst (λ n. Steps.Ran h x' k' a n (run given (script_in h) budget (start vs t))) (zero-add budget)
        (from_start.runs given (start vs t) lent valid (stands (record { is = refl; blockless = at.blockless }) empty vs t vars holds))

  pub from_root : FromRoot h used free budget x x' (outcome_of budget a)
  from_root =
      record {
        behind = rs.kept.cells;
        outcome = λ given vs t lent valid vars holds. answered (ran given vs t lent valid vars holds);
        leaves = λ given vs t lent valid vars holds.
            leaves (ran given vs t lent valid vars holds) from_start.kept (λ j q. ap (λ (l : List ℕ). get_or l j 0) levels);
      }
