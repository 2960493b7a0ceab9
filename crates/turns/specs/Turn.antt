-- What a run's beginning and one turn of it promise, over its own slices: an unended run of the rules that they show. Assumes nothing.
use Rattle.std.specs.Prelude.{◌≡◌, ℕ, ◌+◌, ◌<◌, ◌≤◌, true, false, List, length, get_or, ℤ}
use Rattle.rules.specs.Limits.{max_budget}
use Rattle.rules.specs.Job as Job
use Rattle.rules.specs.Outcome as Rules
use Rattle.rules.specs.Rounds.{Newcomer, Active, fresh, turn_of, unended, later}
use Rattle.rules.proofs.Control.{Valid}
use Rattle.fields.specs.declared.sections.Layout.{Layout}
use Rattle.actions.specs.declared.control.Running.{Running}
use Rattle.actions.specs.Board.{capacity}
use Rattle.actions.specs.Shows.{Slices, slices}
use Rattle.actions.specs.Stands.{Stands}
use Rattle.actions.specs.Acts.{Kept}
use Rattle.interpreter.specs.Steps.{Held, held, script_in, Lent, Startable}
use Rattle.monitor.specs.Promises.{told, Tree, Ran}
use Rattle.monitor.specs.Starting.{frame_of, Begun, as_lent}
use Rattle.turns.specs.declared.turn.Turned.{Turned}
use Rattle.turns.specs.declared.turn.Turned.TheVariants.{GoesOn, Ends}

-- the running record with another number of steps left
abbrev pub with_left : Running → ℕ → Running
with_left r n = record { memory = r.memory; guards = r.guards; at = r.at; left = n }

-- the slices x and the marks k, which were lent as x₀, and the running record r show the unended run q, which came with a budget
pub record Shown (h : Held) (total : ℕ) (x₀ x : Slices) (k : List ℕ) (r : Running) (q : Active) : Type 0 where
  pub script : script_in h ≡ Job.script q.newcomer.job
  pub budget : q.newcomer.budget ≡ total
  pub lent : Lent h x q.newcomer.lent
  pub startable : Startable h x k r
  pub valid : Valid (script_in h) q.state
  pub stands : Stands h.places h.vars x k r q.state
  pub left : r.left ≡ q.left
  pub counted : q.state.steps + q.left ≡ total
  pub spend : total ≤ max_budget
  pub kept : Kept h.places h.vars x₀ x 0 r.memory.lines
  pub levels : (j : ℕ) → h.vars ≤ j → get_or x.levels j 0 ≡ get_or x₀.levels j 0

-- what is loaded and cleared shows a newcomer's run before its first turn, for every plan of its script and every table and board that it was let in with
pub record Freshens (b : List ℕ) (l : Layout) (budget : ℕ) (words words' levels levels' : List ℕ) (values values' : List ℤ) (marks' : List ℕ) (r : Running) :
    Type 0 where
  pub shows : (plan board : List ℕ) (places : ℕ) (g : Newcomer) → Begun b l plan budget (slices words levels values board) places → l.records < length plan
      → g.job ≡ b → g.budget ≡ budget → g.lent.places ≡ places → g.lent.lines ≡ capacity board
      → Shown (held b plan (frame_of l places)) budget (slices words levels values board) (slices words' levels' values' board) marks' r (fresh g)

-- what comes of a turn of q: the run later is shown, or the answer is that of the rules' turn, and so is all that stands in what was lent
abbrev pub Takes : (h : Held) (budget : ℕ) (x₀ x' : Slices) (k' : List ℕ) (q : Active) → Turned → Type 0
Takes h budget x₀ x' k' q (GoesOn r) = (unended q ≡ true) × Shown h budget x₀ x' k' r (later q)
Takes h budget x₀ x' k' q (Ends w) =
    (unended q ≡ false) × (w ≡ told (Rules.ran (turn_of q))) × Ran Tree h.vars h.places (as_lent x₀) (as_lent x') (turn_of q)

-- one turn of every unended run that is shown
pub record TakesTurn (h : Held) (budget : ℕ) (x x' : Slices) (k k' : List ℕ) (r : Running) (a : Turned) : Type 0 where
  pub takes : (x₀ : Slices) (q : Active) → Shown h budget x₀ x k r q → Takes h budget x₀ x' k' q a
