-- Demand 3, from job bytes to ending: an accepted job starts in a valid state, two jobs that are alike start as twins, and twins stay
-- indistinguishable. A job that 9 or 10 turns back has no lines. Assumes nothing.
use mathlib.Core.Path.{◌≡◌, refl, sym, subst}
use mathlib.Core.Logic.{inl, inr}
use Prim.Native.Nat.{ℕ}
use native.Mathlib.Omega.{arith}
use mathlib.Core.Bool.{true, false}
use mathlib.Core.List.{List}
use Rattle.rules.specs.Level.{Level}
use Rattle.rules.specs.Tree.{exists}
use Rattle.rules.specs.Bytes.{variable_place, nodes_at, script_at, variable_count, node_count, record_count}
use Rattle.rules.specs.Check.{Checked, accepted, refused, today, check_bytes, variable_rule}
use Rattle.rules.specs.Job.{variables, variable_of, tree_of, job_tree, script, script_by}
use Rattle.rules.specs.Run.{State, Buffers, run}
use Rattle.rules.specs.Outcome.{and_then, check_job_by, check_job, Outcome, rejected, ran, run_job_by, run_job, begin, board_lines}
use Rattle.rules.specs.Public.{Alike, seen_lines, Finishes, Indistinguishable, Noninterference, Demand3}
use Rattle.rules.proofs.Tests.{clash}
use Rattle.rules.proofs.Loaded.{tree_rules, all_levels_law}
use Rattle.rules.proofs.Accepted.{right}
use Rattle.rules.proofs.Checks.{counts}
use Rattle.rules.proofs.Control.{Closed, Valid}
use Rattle.rules.proofs.Secrecy.{indistinguishable}
use Rattle.rules.proofs.Starts.{closed_section, Kept, start_valid, start_twins}

-- what an accepted job holds
pub record Loads (b : List ℕ) : Type 0 where
  pub kept : Kept (variables b) (job_tree b)
  pub script : Closed (script b)

pub loads : (b : List ℕ) → check_bytes b ≡ accepted → Loads b
unfolding job_tree tree_of exists variables variable_of variable_rule script_by
loads b e =
    let r = right b e in
    let n = counts _ _ _ r.counts in
    record {
      kept =
          record {
            variables = all_levels_law (λ i. variable_of b (variable_place i)) (variable_count b) 0 (λ k a c. r.variables k (omega arith));
            root = refl;
            tree = tree_rules b (nodes_at b) (node_count b) n.nodes r.parents r.nodes n.some;
          };
      script = closed_section b (variable_count b) (script_at b) (record_count b) r.records r.blocks;
    }

-- an accepted job starts in a valid state
pub begin_valid : (b : List ℕ) → Loads b → Valid (script b) (begin b)
unfolding begin
begin_valid b l = start_valid (variables b) (job_tree b) l.kept (script b)

-- what acceptance says of the run
accepted_bytes : (c d : Checked) → and_then c d ≡ accepted → c ≡ accepted
unfolding and_then
accepted_bytes accepted d e = refl
accepted_bytes (refused k i) d e = e

pub accepted_rest : (c d : Checked) → and_then c d ≡ accepted → d ≡ accepted
unfolding and_then
accepted_rest accepted d e = e
accepted_rest (refused k i) d e = let z : true ≡ false = cc in clash refl z

pub bytes_accepted : (b : List ℕ) (n : ℕ) (lent : Buffers) → check_job b n lent ≡ accepted → check_bytes b ≡ accepted
unfolding check_job check_job_by
bytes_accepted b n lent e = accepted_bytes _ _ e

pub turned_back_law : (b : List ℕ) (n : ℕ) (lent : Buffers) {k i : ℕ} → check_job b n lent ≡ refused k i → run_job b n lent ≡ rejected k i
unfolding run_job check_job run_job_by
turned_back_law b n lent e = rw (e, run_job_by)

pub runs : (b : List ℕ) (n : ℕ) (lent : Buffers) → check_job b n lent ≡ accepted → run_job b n lent ≡ ran (run lent (script b) n (begin b))
unfolding run_job check_job run_job_by today
runs b n lent e = rw (e, run_job_by)

-- a job that is turned back has no lines, and does not finish
pub not_run : (k i : ℕ) (s : State) → Finishes (rejected k i) s → ⊥
not_run k i s e = let z : true ≡ false = cc in clash refl z

module _ (o : Level) where
  pub back_left : (k i : ℕ) (w : Outcome) → Indistinguishable o (rejected k i) w
  unfolding board_lines seen_lines
  back_left k i w = record { lines = inl (seen_lines o (board_lines w), refl); finish = λ s t a b. absurd (not_run k i s a) }

  pub back_right : (k i : ℕ) (w : Outcome) → Indistinguishable o w (rejected k i)
  unfolding board_lines seen_lines
  back_right k i w = record { lines = inr (seen_lines o (board_lines w), refl); finish = λ s t a b. absurd (not_run k i t b) }

  module _ (a b : List ℕ) (n m : ℕ) (lent lent' : Buffers) (ha : check_bytes a ≡ accepted) (hb : check_bytes b ≡ accepted) (alike : Alike o a b) where
    -- both are run
    both_run : Indistinguishable o (ran (run lent (script a) n (begin a))) (ran (run lent' (script b) m (begin b)))
    unfolding begin
    both_run =
        let la = loads a ha in
        let lb = loads b hb in
        subst (λ cs. Indistinguishable o (ran (run lent (script a) n (begin a))) (ran (run lent' cs m (begin b)))) alike.script
        (indistinguishable o lent lent' (script a) la.script n m (begin a) (begin b) (begin_valid a la)
        (subst (λ cs. Valid cs (begin b)) (sym alike.script) (begin_valid b lb)) (start_twins o _ _ _ _ la.kept lb.kept alike.parts))

    told : Indistinguishable o (run_job a n lent) (run_job b m lent')
    unfolding run_job
    told = pick (check_job a n lent) (check_job b m lent') refl refl
      where
        pick : (c d : Checked) → check_job a n lent ≡ c → check_job b m lent' ≡ d → Indistinguishable o (run_job a n lent) (run_job b m lent')
        pick (refused k i) d p q = rw (turned_back_law a n lent p) (back_left k i _)
        pick accepted (refused k i) p q = rw (turned_back_law b m lent' q) (back_right k i _)
        pick accepted accepted p q = rw (runs a n lent p, runs b m lent' q) both_run

-- demand 3 for a reader
pub noninterference : (o : Level) → Noninterference o
unfolding Noninterference
noninterference o = told o

-- and for every reader
pub demand3 : Demand3
unfolding Demand3
demand3 = noninterference
