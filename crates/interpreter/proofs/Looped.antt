-- A run is its steps: so far it has come to a state from which what is left of the budget gives the same ending. By the four laws of `run`.
-- Assumes nothing.
use mathlib.Core.Path.{◌≡◌, refl, sym, ◌∙◌, ap, subst}
use mathlib.Core.Bool.{Bool, true, false, cond}
use mathlib.Core.List.{List}
use Prim.Native.Nat.{ℕ, suc, ◌+◌, ◌-◌, ◌*◌, ◌/◌, ◌<◌, ◌≤◌}
use native.Mathlib.Omega.{arith}
use lib.ListN.{length, drop}
use lib.Seq.{drop-drop}
use lib.Dec.{ltb, eqb}
use borrow.Author.Tests.{lt-ltb, le-ltb, eq-eqb, eqb-true, ltb-true, ltb-false}
use Rattle.rules.specs.Job.{script_from}
use Rattle.rules.proofs.Starts.{section_sets}
use Rattle.rules.specs.Run.{State, Buffers, Result, next, stop, stop_number, step, run}
use Rattle.rules.proofs.Tests.{Test, holds, fails, test}
use Rattle.rules.proofs.Runs.{run_spent, run_over, run_next, run_stop}
use Rattle.rules.proofs.Results.{good_next}
use Rattle.rules.proofs.Steps.{next_counts}
use Rattle.rules.proofs.Control.{Closed, Valid, step_valid}
use Rattle.rules.proofs.Decode.{listed_length}
use Rattle.actions.specs.declared.control.Running.{Running}
use Rattle.actions.specs.declared.control.Stepped.{Stepped}
use Rattle.actions.specs.Shows.{Slices}
use Rattle.actions.specs.Acts.{Does, Kept}
use Rattle.actions.specs.Stands.{Stands, ended, stepped}
use Rattle.interpreter.specs.Steps.{Held, script_in, Script, Safe, Lent, Steps, Carries, over_at, code_of, Ran, Runs, Comes, Reached, Startable, Turns}
use Rattle.actions.proofs.Doing.{kept_refl, stop_number_law}

pub kept_trans : {places vars : ℕ} {x y z : Slices} {k m n : ℕ} → Kept places vars x y k m → Kept places vars y z m n → Kept places vars x z k n
kept_trans {x = x} {y = y} {k = k} {m = m} {n = n} a b =
    record {
      grown = omega (arith, a.grown, b.grown);
      cells = record { same = λ y h. b.cells.same y h ∙ a.cells.same y h };
      values = λ j h. b.values j h ∙ a.values j h;
      board = b.board ∙ further;
    }
  where
    -- behind 5 * n is behind 5 * m
    further : drop (5 * n) y.board ≡ drop (5 * n) x.board
    further =
        let e : 5 * n ≡ 5 * m + 5 * (n - m) = omega (arith, b.grown) in
        rw (e, ← drop-drop (5 * (n - m)) (5 * m) y.board, ← drop-drop (5 * (n - m)) (5 * m) x.board, a.board)

module _ (h : Held) (sc : Script h) where
  pub closed : Closed (script_in h)
  unfolding script_from
  closed = record { blocks = rw (listed_length _ h.records 0) sc.blocks; sets = section_sets h.bytes h.base h.records }

  more : (lent : Buffers) (s : State) (i : ℕ) → s.at ≡ i → i < h.records → ltb s.at (length (script_in h)) ≡ true
  unfolding script_from
  more lent s i e l = rw (e, listed_length _ h.records 0) (lt-ltb i h.records l)

  over : (lent : Buffers) (s : State) (i : ℕ) → s.at ≡ i → h.records ≤ i → ltb s.at (length (script_in h)) ≡ false
  unfolding script_from
  over lent s i e l = rw (e, listed_length _ h.records 0) (le-ltb i h.records l)

  -- nothing was done yet
  pub starts : {x : Slices} {ks : List ℕ} {r : Running} → Safe h x ks r → Reached h x ks r x ks r
  starts sf =
      record {
        safe = sf;
        early = omega arith;
        kept = kept_refl;
        board = refl;
        comes = λ lent s l v st. record { s = s; valid = v; stands = st; steps = refl; rest = refl };
      }

  -- the script is over
  finishes : (x : Slices) (ks : List ℕ) (r : Running) → Safe h x ks r → h.records ≤ r.at → Runs h x x ks ks r (stepped ended r)
  unfolding code_of
  finishes x ks r sf o =
      record {
        safe = sf;
        early = omega arith;
        kept = kept_refl;
        runs = λ lent s l v st.
            rw (run_over lent (script_in h) r.left s (over lent s r.at st.at o)) (record { ending = refl; last = st; steps = refl });
      }

  -- the budget is used up
  spends : (x : Slices) (ks : List ℕ) (r : Running) → Safe h x ks r → r.left ≡ 0 → r.at < h.records → Runs h x x ks ks r (stepped 25 r)
  unfolding code_of stop_number
  spends x ks r sf z o =
      record {
        safe = sf;
        early = omega arith;
        kept = kept_refl;
        runs = λ lent s l v st.
            subst (Ran h x ks (stepped 25 r) (s.steps + r.left))
            (sym (ap (λ (k : ℕ). run lent (script_in h) k s) z ∙ run_spent lent (script_in h) s (more lent s r.at st.at o)))
            (record { ending = refl; last = st; steps = refl });
      }

  -- all steps are made, and the script may be over too
  stands_still : (x : Slices) (ks : List ℕ) (r : Running) → Safe h x ks r → r.left ≡ 0 → Runs h x x ks ks r (stepped (over_at r.at h.records) r)
  unfolding over_at
  stands_still x ks r sf z = pick (test (ltb r.at h.records))
    where
      pick : Test (ltb r.at h.records) → Runs h x x ks ks r (stepped (over_at r.at h.records) r)
      pick (holds e) = rw e (spends x ks r sf z (ltb-true r.at h.records e))
      pick (fails e) = rw e (finishes x ks r sf (ltb-false r.at h.records e))

  over_stops : (r : Running) → over_at r.at h.records ≡ 0 → ⊥
  unfolding over_at
  over_stops r = pick (ltb r.at h.records)
    where
      pick : (b : Bool) → cond b 25 ended ≡ 0 → ⊥
      pick true e = omega arith
      pick false e = omega arith

  module _ {x x' : Slices} {ks ks' : List ℕ} {r : Running} {a : Stepped} (inside : r.at < h.records) (some : 0 < r.left) (t : Steps h x x' ks ks' r a) where
    module _ (lent : Buffers) (s : State) (l : Lent h x lent) (v : Valid (script_in h) s) (st : Stands h.places h.vars x ks r s) where
      here : ltb s.at (length (script_in h)) ≡ true
      here = more lent s r.at st.at inside

      -- the run with a step left
      one_left : run lent (script_in h) r.left s ≡ run lent (script_in h) (suc (r.left - 1)) s
      one_left = ap (λ (k : ℕ). run lent (script_in h) k s) {x = r.left} {y = suc (r.left - 1)} (omega (arith, some))

      -- one step on
      comes : a.stop ≡ 0 → Comes h lent (s.steps + r.left) (run lent (script_in h) r.left s) x' ks' a.running
      comes z = pick (step lent (script_in h) s) refl (t.steps lent s l v st)
        where
          pick : (k : Result State) → step lent (script_in h) s ≡ k → Does (Stands h.places h.vars x' ks' a.running) a.stop s k
              → Comes h lent (s.steps + r.left) (run lent (script_in h) r.left s) x' ks' a.running
          pick (next s') w k =
              let one = next_counts lent (script_in h) s s' w in
              record {
                s = s';
                valid = good_next (Valid (script_in h)) _ s' w (step_valid lent (script_in h) closed s v here);
                stands = k.does.1;
                steps = omega (arith, one, t.counted z, some);
                rest = one_left ∙ run_next lent (script_in h) (r.left - 1) s s' here w ∙ ap (λ (n : ℕ). run lent (script_in h) n s') (sym (t.counted z));
              }
          pick (stop j) w k = absurd (stop_number_law j (sym k.does.0 ∙ z))

      -- a stop
      halts : (a.stop ≡ 0 → ⊥) → Ran h x' ks' a (s.steps + r.left) (run lent (script_in h) r.left s)
      unfolding code_of
      halts z = pick (step lent (script_in h) s) refl (t.steps lent s l v st)
        where
          pick : (k : Result State) → step lent (script_in h) s ≡ k → Does (Stands h.places h.vars x' ks' a.running) a.stop s k
              → Ran h x' ks' a (s.steps + r.left) (run lent (script_in h) r.left s)
          pick (next s') w k = absurd (z k.does.0)
          pick (stop j) w k =
              subst (Ran h x' ks' a (s.steps + r.left)) (sym (one_left ∙ run_stop lent (script_in h) (r.left - 1) s j here w))
              (record { ending = k.does.0; last = k.does.1; steps = ap (λ (n : ℕ). s.steps + n) (t.uncounted z) })

    -- a turn that was a step
    step_turn : Turns h x x' ks ks' r a
    step_turn =
        record {
          goes = λ z.
              record {
                safe = t.safe;
                early = omega (arith, t.counted z);
                kept = t.kept;
                board = t.board;
                comes = λ lent s l v st. comes lent s l v st z;
              };
          later = λ z. omega (arith, t.counted z, some);
          ends = λ z. record { safe = t.safe; early = omega (arith, t.uncounted z); kept = t.kept; runs = λ lent s l v st. halts lent s l v st z };
        }

  -- a turn that has ended the run
  ended_turn : {x x' : Slices} {ks ks' : List ℕ} {r : Running} {a : Stepped} → (a.stop ≡ 0 → ⊥) → Runs h x x' ks ks' r a → Turns h x x' ks ks' r a
  ended_turn n d = record { goes = λ z. absurd (n z); later = λ z. absurd (n z); ends = λ _. d }

  -- a turn with no step left
  pub still_turn : {x : Slices} {ks : List ℕ} {r : Running} {a : Stepped} → Safe h x ks r → a ≡ stepped (over_at r.at h.records) r → r.left ≡ 0 → Turns h x x ks ks r a
  still_turn {x} {ks} {r} sf e o = subst (Turns h x x ks ks r) (sym e) (ended_turn (over_stops r) (stands_still x ks r sf o))

  -- a turn that carried out what came next
  pub carried_turn : {x x' : Slices} {ks ks' : List ℕ} {r : Running} {a : Stepped} → Safe h x ks r → 0 < r.left → Carries h x x' ks ks' r a → Turns h x x' ks ks' r a
  carried_turn {x} {x'} {ks} {ks'} {r} {a} sf some c = pick (test (ltb r.at h.records))
    where
      pick : Test (ltb r.at h.records) → Turns h x x' ks ks' r a
      pick (holds e) = let i = ltb-true r.at h.records e in step_turn i some (c.steps i)
      pick (fails e) =
          let o = ltb-false r.at h.records e in
          subst (λ z. Turns h x z ks ks' r a) (sym (c.ends o).0)
          (subst (λ z. Turns h x x ks z r a) (sym (c.ends o).1)
          (subst (Turns h x x ks ks r) (sym (c.ends o).2) (ended_turn (λ z. omega (arith, z)) (finishes x ks r sf o))))

-- what was reached from there was reached from the start
module _ {h : Held} {x₀ x : Slices} {k₀ ks : List ℕ} {r₀ r : Running} (d : Reached h x₀ k₀ r₀ x ks r) where
  lent_now : (lent : Buffers) → Lent h x₀ lent → Lent h x lent
  lent_now lent l = record { places = l.places; board = l.board ∙ ap (λ (n : ℕ). n / 5) (sym d.board) }

  pub further : {x' : Slices} {ks' : List ℕ} {r' : Running} → Reached h x ks r x' ks' r' → Reached h x₀ k₀ r₀ x' ks' r'
  further {x'} {ks'} {r'} t =
      record {
        safe = t.safe;
        early = omega (arith, d.early, t.early);
        kept = kept_trans d.kept t.kept;
        board = t.board ∙ d.board;
        comes = λ lent s l v st.
            let c = d.comes lent s l v st in
            let k = t.comes lent c.s (lent_now lent l) c.valid c.stands in
            record { s = k.s; valid = k.valid; stands = k.stands; steps = k.steps ∙ c.steps; rest = c.rest ∙ k.rest };
      }

  pub at_last : {x' : Slices} {ks' : List ℕ} {a : Stepped} → Runs h x x' ks ks' r a → Runs h x₀ x' k₀ ks' r₀ a
  at_last {x'} {ks'} {a} t =
      record {
        safe = t.safe;
        early = omega (arith, d.early, t.early);
        kept = kept_trans d.kept t.kept;
        runs = λ lent s l v st.
            let c = d.comes lent s l v st in
            let k = t.runs lent c.s (lent_now lent l) c.valid c.stands in
            subst (Ran h x' ks' a (s.steps + r₀.left)) (sym c.rest) (record { ending = k.ending; last = k.last; steps = k.steps ∙ c.steps });
      }

-- a run on its way from x₀, k₀ and r₀: it has come to x, k and r, or has ended there
pub record Going (h : Held) (x₀ : Slices) (k₀ : List ℕ) (r₀ : Running) (x : Slices) (k : List ℕ) (r : Running) (ending : ℕ) : Type 0 where
  pub script : Script h
  pub reached : ending ≡ 0 → Reached h x₀ k₀ r₀ x k r
  pub over : (ending ≡ 0 → ⊥) → Runs h x₀ x k₀ k r₀ (stepped ending r)

-- at its start
pub outset : {h : Held} {x : Slices} {k : List ℕ} {r : Running} → Startable h x k r → Going h x k r x k r 0
outset {h} p = record { script = p.script; reached = λ _. starts h p.script p.safe; over = λ n. absurd (n refl) }

module _ {h : Held} {x₀ x : Slices} {k₀ k : List ℕ} {r₀ r : Running} {ending : ℕ} (w : Going h x₀ k₀ r₀ x k r ending) (z : ending ≡ 0) where
  -- what a step asks for
  pub startable : Startable h x k r
  startable = record { script = w.script; safe = (w.reached z).safe }

  -- after one step more
  pub stride : {x' : Slices} {k' : List ℕ} {r' : Running} {c : ℕ} → Turns h x x' k k' r (stepped c r') → Going h x₀ k₀ r₀ x' k' r' c
  stride t = record { script = w.script; reached = λ y. further (w.reached z) (t.goes y); over = λ n. at_last (w.reached z) (t.ends n) }

-- what is left of it, which falls with each step
pub rest : ℕ → ℕ → ℕ
rest ending left = cond (eqb ending 0) (suc left) 0

pub falls : (e l e' l' : ℕ) → e ≡ 0 → (e' ≡ 0 → l' < l) → rest e' l' < rest e l
unfolding rest
falls e l e' l' z f = rw (eq-eqb e 0 z) (pick (test (eqb e' 0)))
  where
    pick : Test (eqb e' 0) → rest e' l' < suc l
    pick (holds h) = rw h (omega (arith, f (eqb-true e' 0 h)))
    pick (fails h) = rw h (omega arith)
