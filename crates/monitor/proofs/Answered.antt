-- The run over a job's bytes, by how far the checks let it come: turned back by 1 to 8, by 9, by 10, or run. Assumes nothing.
use Rattle.std.specs.Prelude.{Result, Ok, Err}
use mathlib.Core.Path.{◌≡◌, refl, sym, ◌∙◌, ap, subst}
use mathlib.Core.Bool.{Bool, true, false}
use mathlib.Core.List.{List}
use Prim.Native.Nat.{ℕ, ◌*◌, ◌≤◌, min}
use native.Mathlib.Omega.{arith}
use lib.Dec.{leb}
use lib.ListN.{length}
use borrow.Author.Tests.{leb-true, le-leb}
use Rattle.rules.specs.Limits.{max_nodes, max_variables, max_budget, bad_budget, bad_buffers}
use Rattle.rules.specs.Tree.{Forest, Place}
use Rattle.rules.specs.Bytes.{node_count, variable_count, script_at, record_count}
use Rattle.rules.specs.Check as Check
use Rattle.rules.specs.Check.{require, check_bytes, code}
use Rattle.rules.specs.Job.{script, script_by}
use Rattle.rules.specs.Run.{Buffers, Ending, finished, stopped, Ended, run}
use Rattle.rules.specs.Outcome as Rules
use Rattle.rules.specs.Outcome.{ending_number, ending_index, run_job, board_lines, check_job_by, check_job, and_then, budget_rule, buffer_rule, begin}
use Rattle.rules.proofs.Tests.{both, Test, holds, fails, test}
use Rattle.rules.proofs.Checks.{passed_one}
use Rattle.rules.proofs.Noninterference as Rejected
use Rattle.rules.proofs.Noninterference.{accepted_rest, bytes_accepted, runs}
use Rattle.rules.proofs.Accepted.{right}
use Rattle.fields.specs.declared.sections.Layout.{Layout}
use Rattle.job.specs.declared.checks.Refusal.{Refusal}
use Rattle.fields.specs.Layout.{layout_of}
use Rattle.job.specs.Plan.{Whole}
use Rattle.job.specs.Answer.{answer}
use Rattle.job.proofs.Answers.{is_accepted, is_refused, script_plan}
use Rattle.table.specs.Cells.{cell_size}
use Rattle.monitor.specs.declared.entry.Outcome.{Outcome}
use Rattle.monitor.specs.declared.entry.Outcome.TheVariants as Monitor
use Rattle.actions.specs.Board.{capacity, spell, written}
use Rattle.actions.specs.Shows.{Slices}
use Rattle.monitor.specs.Promises.{answer_of, places_for, told, told_by, Lent, lent_by, Ran, Tree, Leaves, Promises, largest, PromisesLines}
use Rattle.monitor.specs.Starting.{buffer_test, AdmitsJob, Begun, as_lent, Left}

-- an outcome that says what the rules' outcome is has its answer
answered_by : (k : Ending) (e : Ended) → e.ending ≡ k → answer_of (told_by k e) ≡ Rules.answer (Rules.ran e)
unfolding answer_of Rules.answer told_by ending_number ending_index
answered_by finished e w = rw w
answered_by (stopped k) e w = rw w

pub answers : (o : Rules.Outcome) → answer_of (told o) ≡ Rules.answer o
unfolding answer_of Rules.answer told
answers (Rules.rejected k i) = refl
answers (Rules.ran e) = answered_by e.ending e refl

abbrev refusal : ℕ → ℕ → Refusal
refusal k i = record { number = k; index = i }

-- the checks 1 to 10, one link after another; a script that 7 and 8 accept has its plan
module _ (b : List ℕ) (budget places room : ℕ) (p p' : List ℕ) (plan : check_bytes b ≡ Check.accepted → Whole (code b (script_at b)) (record_count b) p p') where
  -- the checks 9 and 10
  abbrev limits : Buffers → Check.Checked
  limits given = require bad_budget (budget_rule budget) (require bad_buffers (buffer_rule b given) Check.accepted)

  pub by_bytes : (k i : ℕ) → check_bytes b ≡ Check.refused k i → AdmitsJob b budget places room p p' (Err (refusal k i))
  unfolding check_job check_job_by and_then answer
  by_bytes k i e =
      record { answered = λ given gp gv. sym (ap (λ (c : Check.Checked). answer (layout_of b) (and_then c (limits given))) e); whole = plan }

  module _ (l : Layout) (ok : check_bytes b ≡ Check.accepted) (layout : l ≡ layout_of b) where
    abbrev pub fits : Bool → Type 0
    fits t = buffer_test l.nodes l.variables places room ≡ t

    rest : (t u : Bool) → budget_rule budget ≡ t → buffer_test l.nodes l.variables places room ≡ u → (given : Buffers)
        → given.places ≡ places → given.variables ≡ room → check_job b budget given ≡ require bad_budget t (require bad_buffers u Check.accepted)
    unfolding check_job check_job_by and_then buffer_rule buffer_test layout_of
    rest t u x y given gp gv =
        let z = subst (λ (k : Layout). buffer_test k.nodes k.variables places room ≡ u) layout y in
        rw (ok, x, gp, gv) (ap (λ (w : Bool). require bad_budget t (require bad_buffers w Check.accepted)) z)

    admits : (t u : Bool) → budget_rule budget ≡ t → buffer_test l.nodes l.variables places room ≡ u
        → AdmitsJob b budget places room p p' (answer l (require bad_budget t (require bad_buffers u Check.accepted)))
    admits t u x y = record { answered = λ given gp gv. rw layout (sym (ap (answer (layout_of b)) (rest t u x y given gp gv))); whole = plan }

    pub by_budget : budget_rule budget ≡ false → AdmitsJob b budget places room p p' (Err (refusal bad_budget 0))
    unfolding require answer
    by_budget x = admits false _ x refl

    pub by_buffers : budget_rule budget ≡ true → fits false → AdmitsJob b budget places room p p' (Err (refusal bad_buffers 0))
    unfolding require answer
    by_buffers x y = admits true false x y

    pub all_passed : budget_rule budget ≡ true → fits true → AdmitsJob b budget places room p p' (Ok l)
    unfolding require answer
    all_passed x y = admits true true x y

-- what the rule of the buffers says
record Enough (n v places room : ℕ) : Type 0 where
  few : places ≤ max_nodes
  nodes : n ≤ places
  variables : v ≤ room

enough : (nodes variables places room : ℕ) → buffer_test nodes variables places room ≡ true → Enough nodes variables places room
unfolding buffer_test
enough nodes variables places room e =
    let w₃ = both _ (leb variables room) e in
    let w₂ = both _ (leb nodes places) w₃.0 in
    let w₁ = both (leb 1 places) (leb places max_nodes) w₂.0 in
    record { few = leb-true _ _ w₁.1; nodes = leb-true _ _ w₂.1; variables = leb-true _ _ w₃.1 }

-- what comes of it, with slices that have such room
module _ (b : List ℕ) (budget places room : ℕ) (p p' : List ℕ) (x : Slices) (least : room ≡ min (length x.levels) (length x.values)) where
  -- what the rules are given
  abbrev given : Buffers
  given = lent_by (λ _. places) (as_lent x)

  checked : (r : Result Layout Refusal) → AdmitsJob b budget places room p p' r → answer (layout_of b) (check_job b budget given) ≡ r
  unfolding lent_by
  checked r a = sym (a.answered given refl (sym least))

  pub turned_back_law : (f : Refusal) → AdmitsJob b budget places room p p' (Err f)
      → Promises (λ _. places) Tree b budget (as_lent x) (as_lent x) (Monitor.Refused f.number f.index)
  unfolding Rules.answer answer_of told
  turned_back_law f a =
      let o = Rejected.turned_back_law b budget given (is_refused _ f _ (checked (Err f) a)) in
      record { outcome = sym (ap told o); answered = sym (ap Rules.answer o); leaves = subst (Leaves (λ _. places) Tree (variable_count b) (as_lent x) (as_lent x)) (sym o) refl }

  module _ (l : Layout) (a : AdmitsJob b budget places room p p' (Ok l)) where
    accepts : (check_job b budget given ≡ Check.accepted) × (l ≡ layout_of b)
    accepts = is_accepted _ l _ (checked (Ok l) a)

    bytes : check_bytes b ≡ Check.accepted
    bytes = bytes_accepted b budget given accepts.0

    passed : (budget_rule budget ≡ true) × (buffer_rule b given ≡ true)
    unfolding check_job check_job_by
    passed =
        let w = passed_one bad_budget _ _ (accepted_rest (check_bytes b) _ accepts.0) in
        (w.0, (passed_one bad_buffers _ _ w.1).0)

    within : budget ≤ max_budget
    unfolding budget_rule
    within = leb-true _ _ (both (leb 1 budget) (leb budget max_budget) passed.0).1

    large : Enough (node_count b) (variable_count b) places room
    unfolding buffer_rule buffer_test lent_by
    large = enough _ _ _ _ (rw least passed.1)

    pub begun : cell_size * min places max_nodes ≤ length x.words → Begun b l p' budget x places
    unfolding script_by layout_of
    begun room_for =
        let r = right b bytes in
        let w = script_plan b p p' r (a.whole bytes) in
        rw accepts.1
        (record {
          accepted = bytes;
          layout = refl;
          planned = record { each = w.each; last = w.last };
          spend = within;
          words = omega (arith, large.few, room_for);
          few = large.few;
          nodes = large.nodes;
          levelled = omega (arith, large.variables, least);
          valued = omega (arith, large.variables, least);
        })

    pub is_run : (x' : Slices) (r : Outcome) → Left b budget places x x' r → Promises (λ _. places) Tree b budget (as_lent x) (as_lent x') r
    unfolding lent_by
    is_run x' r h =
        let o = runs b budget given accepts.0 in
        record {
          outcome = h.outcome given refl refl ∙ sym (ap told o);
          answered = ap answer_of (h.outcome given refl refl) ∙ answers (Rules.ran (run given (script b) budget (begin b))) ∙ sym (ap Rules.answer o);
          leaves = subst (Leaves (λ _. places) Tree (variable_count b) (as_lent x) (as_lent x')) (sym o) (h.leaves given refl refl);
        }

-- the area after each outcome
area_after : (places : List ℕ → ℕ) (n : ℕ) (x x' : Lent (List ℕ)) (o : Rules.Outcome) → Leaves places Tree n x x' o → x'.board ≡ written (board_lines o) x.board
unfolding board_lines written spell
area_after places n x x' (Rules.rejected k i) h = ap (λ y. y.board) h
area_after places n x x' (Rules.ran e) h = h.board

-- with the largest buffers a caller sees the area alone
module _ (b : List ℕ) (budget : ℕ) (p p' : List ℕ) where
  pub lines_back : (area : List ℕ) (f : Refusal) → AdmitsJob b budget max_nodes max_variables p p' (Err f)
      → PromisesLines b budget area area (Monitor.Refused f.number f.index)
  unfolding largest told board_lines written spell
  lines_back area f a =
      let o = Rejected.turned_back_law b budget (largest area) (is_refused _ f _ (sym (a.answered (largest area) refl refl))) in
      record { outcome = sym (ap told o); lines = sym (ap (λ (w : Rules.Outcome). written (board_lines w) area) o) }

  module _ (x : Slices) (words : length x.words ≡ cell_size * max_nodes) (levels : length x.levels ≡ max_variables) (values : length x.values ≡ max_variables)
      (l : Layout) (a : AdmitsJob b budget max_nodes max_variables p p' (Ok l)) where
    least : max_variables ≡ min (length x.levels) (length x.values)
    least = omega (arith, levels, values)

    pub begun_largest : Begun b l p' budget x max_nodes
    begun_largest = begun b budget max_nodes max_variables p p' x least l a (omega (arith, words))

    pub lines_run : (x' : Slices) (r : Outcome) → Left b budget max_nodes x x' r → PromisesLines b budget x.board x'.board r
    unfolding lent_by largest
    lines_run x' r h =
        let q = is_run b budget max_nodes max_variables p p' x least l a x' r h in
        let same : lent_by (λ _. max_nodes) (as_lent x) ≡ largest x.board = λ i. record { places = max_nodes; variables = sym least i; lines = capacity x.board } in
        record {
          outcome = q.outcome ∙ ap (λ g. told (run_job b budget g)) same;
          lines = area_after (λ _. max_nodes) (variable_count b) (as_lent x) (as_lent x') (run_job b budget (lent_by (λ _. max_nodes) (as_lent x))) q.leaves ∙ ap (λ g. written (board_lines (run_job b budget g)) x.board) same;
        }

-- the places that are asked for have their words
pub room_for : (n k held : ℕ) → held ≡ places_for n k → cell_size * min held max_nodes ≤ k
unfolding places_for
room_for n k held e = pick (test (leb (cell_size * min n max_nodes) k))
  where
    pick : Test (leb (cell_size * min n max_nodes) k) → cell_size * min held max_nodes ≤ k
    pick (holds t) = let i : held ≡ n = e ∙ rw t in rw i (leb-true _ _ t)
    pick (fails t) = let i : held ≡ 0 = e ∙ rw t in omega (arith, i)

-- words that are enough for all places asked for
pub all_places : (n k : ℕ) → cell_size * min n max_nodes ≤ k → places_for n k ≡ n
unfolding places_for
all_places n k h = rw (le-leb (cell_size * min n max_nodes) k h)

-- the promise rests on how many places the table lent has, and on nothing else of how places are counted
module _ {T : Type 0} (HoldsTree : T → ℕ → Forest → Place → Type 0) (places counted : T → ℕ) (b : List ℕ) (budget : ℕ) (x x' : Lent T) (r : Outcome)
    (e : places x.table ≡ counted x.table) where
  same : lent_by places x ≡ lent_by counted x
  unfolding lent_by
  same = λ i. record { places = e i; variables = min (length x.levels) (length x.values); lines = capacity x.board }

  leaves : (o : Rules.Outcome) → Leaves places HoldsTree (variable_count b) x x' o → Leaves counted HoldsTree (variable_count b) x x' o
  leaves (Rules.rejected k i) h = h
  leaves (Rules.ran a) h = subst (λ k. Ran HoldsTree (variable_count b) k x x' a) e h

  pub recount : Promises places HoldsTree b budget x x' r → Promises counted HoldsTree b budget x x' r
  recount h =
      record {
        outcome = h.outcome ∙ ap (λ l. told (run_job b budget l)) same;
        answered = h.answered ∙ ap (λ l. Rules.answer (run_job b budget l)) same;
        leaves = subst (λ l. Leaves counted HoldsTree (variable_count b) x x' (run_job b budget l)) same (leaves (run_job b budget (lent_by places x)) h.leaves);
      }

-- so it is one for as many places as are asked for
pub counted_so : (n : ℕ) {b : List ℕ} {budget : ℕ} {x x' : Slices} {r : Outcome} (held : ℕ) → held ≡ places_for n (length x.words)
    → Promises (λ _. held) Tree b budget (as_lent x) (as_lent x') r → Promises (λ w. places_for n (length w)) Tree b budget (as_lent x) (as_lent x') r
counted_so n {b} {budget} {x} {x'} {r} held e p = recount Tree (λ _. held) (λ w. places_for n (length w)) b budget (as_lent x) (as_lent x') r e p
