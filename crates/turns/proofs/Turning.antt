-- One run that takes turns: loaded, it shows the rules' run before its first turn; and the run with a turn's steps is the rules' turn. Assumes nothing.
use mathlib.Core.Path.{◌≡◌, refl, sym, ◌∙◌, ap, subst}
use mathlib.Core.Bool.{Bool, true, false, ◌&&◌}
use mathlib.Core.List.{List}
use Prim.Native.Nat.{ℕ, ◌+◌, ◌-◌, ◌/◌, ◌≤◌, min}
use native.Mathlib.Nat.{zero-add}
use native.Mathlib.Omega.{arith}
use lib.Dec.{eqb, ltb}
use lib.IntN.{ℤ}
use lib.ListN.{length, get_or, set, length-set}
use lib.Seq.{get_or-set_same}
use borrow.Author.Tests.{ltb-true}
use Rattle.rules.specs.Limits.{turn_steps}
use Rattle.rules.specs.Bytes.{variable_count}
use Rattle.rules.specs.Job as Job
use Rattle.rules.specs.Job.{script_by, variables, job_tree}
use Rattle.rules.specs.Run.{State, spent, stop_number, Ending, finished, stopped, start, run}
use Rattle.rules.specs.Outcome as Rules
use Rattle.rules.specs.Outcome.{begin, ending_number}
use Rattle.rules.specs.Rounds.{Active, fresh, turn_of, unended, later}
use Rattle.rules.proofs.Control.{Valid}
use Rattle.rules.proofs.Tests.{both}
use Rattle.rules.proofs.Invariants.{run_valid}
use Rattle.rules.proofs.Noninterference.{loads, begin_valid}
use Rattle.rules.proofs.Rounds.{turn_used}
use Rattle.fields.specs.declared.sections.Layout.{Layout}
use Rattle.fields.specs.Layout.{layout_of}
use Rattle.table.specs.Cells.{gone}
use Rattle.table.specs.Since.{number}
use Rattle.actions.specs.declared.control.Running.{Running}
use Rattle.actions.specs.declared.control.Stepped.{Stepped}
use Rattle.actions.specs.Marks.{count_at, marks_size}
use Rattle.actions.specs.Shows.{Slices, slices}
use Rattle.actions.specs.Stands.{Stands}
use Rattle.actions.specs.Acts.{Kept}
use Rattle.interpreter.specs.Steps.{Held, script_in, Safe, Startable, code_of, Ran, Runs}
use Rattle.monitor.specs.FromRoot.{AtRoot}
use Rattle.monitor.specs.declared.entry.Outcome.{Outcome}
use Rattle.monitor.specs.Promises as Monitor
use Rattle.monitor.specs.Promises.{told, Tree}
use Rattle.monitor.specs.Starting.{outcome_of, JobLoaded, as_lent}
use Rattle.interpreter.proofs.Looped.{kept_trans, closed}
use Rattle.monitor.proofs.Begins.{answered, leaves, startable, stands}
use Rattle.monitor.proofs.Started.{rooted_at}
use Rattle.turns.specs.declared.turn.Turned.TheVariants.{GoesOn, Ends}
use Rattle.turns.specs.Turn.{with_left, Shown, Freshens, TakesTurn}

-- a job that was loaded
module _ (b words words' levels levels' : List ℕ) (values values' : List ℤ) (marks marks' : List ℕ) (budget : ℕ) (r : Running)
    (ld : JobLoaded b words words' levels levels' values values') (ew : length words' ≡ length words) (el : length levels' ≡ length levels)
    (ev : length values' ≡ length values) (cleared : marks' ≡ set marks count_at 0) (room : marks_size ≤ length marks) where
  empty : number marks' count_at ≡ 0
  empty = ap (λ (k : List ℕ). number k count_at) cleared ∙ get_or-set_same marks count_at 0 0 (omega (arith, room))

  long : marks_size ≤ length marks'
  long = let e : length marks' ≡ length marks = ap length cleared ∙ length-set marks count_at 0 in omega (arith, e, room)

  fresh_here : AtRoot (layout_of b).nodes gone budget r → Freshens b (layout_of b) budget words words' levels levels' values values' marks' r
  unfolding layout_of script_by fresh begin start
  fresh_here at =
      record {
        shows = λ plan board places g bg more jb bb pl li.
            record {
              script = ap Job.script (sym jb);
              budget = bb;
              lent = record { places = pl; board = li };
              startable = startable at long more (rooted_at _ _ _ _ _ _ bg _ refl (slices words' levels' values' board) ew el ev);
              valid = subst (λ j. Valid (Job.script b) (begin j)) (sym jb) (begin_valid b (loads b bg.accepted));
              stands = subst (λ j. Stands places (variable_count b) (slices words' levels' values' board) marks' r (begin j)) (sym jb)
                  (stands at empty (variables b) (job_tree b) ld.variables (ld.tree places bg.nodes bg.few));
              left = ap (λ y. y.left) at.is ∙ sym bb;
              counted = zero-add g.budget ∙ bb;
              spend = bg.spend;
              kept =
                  record {
                    grown = omega arith;
                    cells = record { same = λ y h. ld.behind.same y (omega (arith, bg.nodes, h)) };
                    values = ld.spare_values;
                    board = refl;
                  };
              levels = ld.spare_levels;
            };
      }

  pub freshens : (l : Layout) → l ≡ layout_of b → AtRoot l.nodes gone budget r → Freshens b l budget words words' levels levels' values values' marks' r
  freshens l e = rw e fresh_here

-- 25 is the budget's end and no other
same_number : (x : Ending) → eqb (code_of x) 25 ≡ eqb (ending_number x) (stop_number spent)
unfolding code_of ending_number stop_number
same_number finished = refl
same_number (stopped k) = refl

-- where the test holds, more steps are left than a turn has
pub more_left : (spends : Bool) (left : ℕ) → (spends && ltb turn_steps left) ≡ true → turn_steps ≤ left
more_left spends left t = let w = ltb-true turn_steps left (both spends (ltb turn_steps left) t).1 in omega (arith, w)

-- other steps left change nothing that is asked of a running record
safe_with : {h : Held} {x : Slices} {k : List ℕ} {r : Running} (n : ℕ) → Safe h x k r → Safe h x k (with_left r n)
safe_with n f =
    record { long = f.long; few = f.few; levelled = f.levelled; valued = f.valued; cursor = f.cursor; room = f.room; within = f.within; marks = f.marks }

stands_with : {places vars : ℕ} {x : Slices} {k : List ℕ} {r : Running} {s : State} (n : ℕ) → Stands places vars x k r s → Stands places vars x k (with_left r n) s
stands_with n s = record { memory = s.memory; guards = s.guards; marks = s.marks; at = s.at }

pub startable_with : (h : Held) (x : Slices) (k : List ℕ) (r next : Running) (n : ℕ) → next ≡ with_left r n → Startable h x k r → Startable h x k next
startable_with h x k r next n e p = subst (Startable h x k) (sym e) (record { script = p.script; safe = safe_with n p.safe })

-- the run with the steps of a turn
module _ (h : Held) (x x' : Slices) (k k' : List ℕ) (r next : Running) (budget steps : ℕ) (few : steps ≡ min turn_steps r.left) (from : next ≡ with_left r steps)
    (a : Stepped) (rs : Runs h x x' k k' next a) (board : length x'.board ≡ length x.board) (levels : x'.levels ≡ x.levels) where
  here : Runs h x x' k k' (with_left r steps) a
  here = subst (λ y. Runs h x x' k k' y a) from rs

  -- of a run q that is shown
  module _ (x₀ : Slices) (q : Active) (sh : Shown h budget x₀ x k r q) where
    same_run : run q.newcomer.lent (script_in h) steps q.state ≡ turn_of q
    unfolding turn_of
    same_run =
        ap (λ n. run q.newcomer.lent (script_in h) n q.state) (few ∙ ap (min turn_steps) sh.left)
        ∙ ap (λ cs. run q.newcomer.lent cs (min turn_steps q.left) q.state) sh.script

    ran : Ran h x' k' a (q.state.steps + steps) (turn_of q)
    ran =
        subst (Ran h x' k' a (q.state.steps + steps)) same_run
        (here.runs q.newcomer.lent q.state sh.lent sh.valid (stands_with steps sh.stands))

    kept_so : Kept h.places h.vars x₀ x' 0 a.running.memory.lines
    kept_so = kept_trans sh.kept here.kept

    levels_so : (j : ℕ) → h.vars ≤ j → get_or x'.levels j 0 ≡ get_or x₀.levels j 0
    levels_so j p = ap (λ (l : List ℕ). get_or l j 0) levels ∙ sh.levels j p

    test_so : unended q ≡ (eqb a.stop 25 && ltb turn_steps r.left)
    unfolding unended
    test_so =
        ap (λ t. t && ltb turn_steps q.left) (sym (ap (λ n. eqb n 25) ran.ending ∙ same_number (turn_of q).ending))
        ∙ ap (λ n. eqb a.stop 25 && ltb turn_steps n) (sym sh.left)

    -- it goes on
    module _ (t : (eqb a.stop 25 && ltb turn_steps r.left) ≡ true) where
      counted_so : (turn_of q).last.steps + (q.left - turn_steps) ≡ budget
      unfolding unended turn_of
      counted_so =
          let w = more_left (eqb a.stop 25) r.left t in
          let m = (turn_used q.newcomer.lent (Job.script q.newcomer.job) turn_steps q.left q.state (test_so ∙ t)).steps in
          omega (arith, m, sh.counted, sh.left, w)

      shows_later : Shown h budget x₀ x' k' (with_left a.running (r.left - turn_steps)) (later q)
      unfolding later
      shows_later =
          record {
            script = sh.script;
            budget = sh.budget;
            lent = record { places = sh.lent.places; board = sh.lent.board ∙ ap (λ (n : ℕ). n / 5) (sym board) };
            startable = record { script = sh.startable.script; safe = safe_with _ here.safe };
            valid = subst (λ e. Valid (script_in h) e.last) same_run
                (run_valid q.newcomer.lent (script_in h) (closed h sh.startable.script) steps q.state sh.valid);
            stands = stands_with _ ran.last;
            left = ap (λ n. n - turn_steps) sh.left;
            counted = counted_so;
            spend = sh.spend;
            kept = kept_so;
            levels = levels_so;
          }

    -- or has ended
    told_so : outcome_of (budget - (r.left - steps)) a ≡ told (Rules.ran (turn_of q))
    told_so =
        let n : budget - (r.left - steps) ≡ q.state.steps + steps = omega (arith, few, sh.counted, sh.left) in
        ap (λ k. outcome_of k a) n ∙ answered ran

    leaves_so : Monitor.Ran Tree h.vars h.places (as_lent x₀) (as_lent x') (turn_of q)
    leaves_so = leaves ran kept_so levels_so

  pub goes : (eqb a.stop 25 && ltb turn_steps r.left) ≡ true → (y : Running) → y ≡ with_left a.running (r.left - turn_steps)
      → TakesTurn h budget x x' k k' r (GoesOn y)
  goes t y e =
      record { takes = λ x₀ q sh. (test_so x₀ q sh ∙ t, subst (λ z. Shown h budget x₀ x' k' z (later q)) (sym e) (shows_later x₀ q sh t)) }

  pub ends : (eqb a.stop 25 && ltb turn_steps r.left) ≡ false → (w : Outcome) → w ≡ outcome_of (budget - (r.left - steps)) a
      → TakesTurn h budget x x' k k' r (Ends w)
  ends t w e = record { takes = λ x₀ q sh. (test_so x₀ q sh ∙ t, e ∙ told_so x₀ q sh, leaves_so x₀ q sh) }
