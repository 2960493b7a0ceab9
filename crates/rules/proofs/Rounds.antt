-- R-13: the steps of a turn that are used up can be taken up again, so each run that takes turns ends as it does alone; the front of the queue comes round
-- in at most seven turns, and each turn uses up a part of a budget, so each run ends. Assumes nothing.
use mathlib.Core.Path.{◌≡◌, refl, sym, ◌∙◌, ap, subst}
use Prim.Native.Nat.{ℕ, zero, suc, ◌+◌, ◌-◌, ◌*◌, ◌≤◌, ◌<◌, min}
use native.Mathlib.Omega.{arith}
use mathlib.Core.Bool.{Bool, true, false, ◌&&◌}
use mathlib.Core.Option.{Option, some}
use mathlib.Core.List.{List, [], ◌∷◌, ◌++◌, append_assoc, append-nil}
use lib.ListN.{length, length-append, get_or}
use lib.Dec.{leb, eqb, ltb}
use borrow.Author.Tests.{leb-true, ltb-true, ltb-false, lt-ltb, le-ltb}
use Rattle.rules.specs.Limits.{max_budget, bad_budget, no_place, max_runs, turn_steps}
use Rattle.rules.specs.Level.{Level}
use Rattle.rules.specs.Script.{Command}
use Rattle.rules.specs.Check.{Checked, accepted, refused}
use Rattle.rules.specs.Job.{script}
use Rattle.rules.specs.Run.{State, Buffers, flow, absent, tableFull, boardFull, spent, overflow, stop_number, Ending, finished, stopped, Ended, run}
use Rattle.rules.specs.Outcome.{budget_rule, check_job_by, check_job, rejected, ran, begin, ending_number}
use Rattle.rules.specs.Public.{Alike, Indistinguishable, Noninterference}
use Rattle.rules.specs.Rounds.{Newcomer, Active, Event, arrives, turn, Reply, joins, answers, goes_on, idle, After, alone, fresh, admit, arrive, turn_of, unended, later, take_turn, happen, queue_after, replies, reply_at, turns, turn_takes, steps_in, Admission, AsAlone, EndsInTurn, InFront, Waits, Fair, Answered, AllEnd, named, times, joiner, ender, NoneLost, RoundsSecrecy}
use Rattle.rules.proofs.Tests.{Test, holds, fails, test, clash, both}
use Rattle.rules.proofs.Checks.{passed_one}
use Rattle.rules.proofs.Runs.{halted, Longer, same, further, longer}
use Rattle.rules.proofs.Steps.{run_within, Used, used}
use Rattle.rules.proofs.Noninterference.{accepted_rest, bytes_accepted, turned_back_law, runs, back_left, back_right, noninterference}

-- an ending by its number
ending_spent : (x : Ending) → eqb (ending_number x) (stop_number spent) ≡ true → x ≡ stopped spent
unfolding ending_number stop_number
ending_spent finished e = clash e refl
ending_spent (stopped flow) e = clash e refl
ending_spent (stopped absent) e = clash e refl
ending_spent (stopped tableFull) e = clash e refl
ending_spent (stopped boardFull) e = clash e refl
ending_spent (stopped spent) e = refl
ending_spent (stopped overflow) e = clash e refl

spent_ending : (x : Ending) → x ≡ stopped spent → eqb (ending_number x) (stop_number spent) ≡ true
unfolding ending_number stop_number
spent_ending x e = rw e

-- one turn, of at most k steps, of a run with n steps left
module _ (lent : Buffers) (cs : List Command) (k n : ℕ) (s : State) where
  abbrev came : Ended
  came = run lent cs (min k n) s

  abbrev goes_on_law : Bool
  goes_on_law = eqb (ending_number came.ending) (stop_number spent) && ltb k n

  pub turn_used : goes_on_law ≡ true → Used lent cs k s came.last
  turn_used e =
      let b = both (eqb (ending_number came.ending) (stop_number spent)) (ltb k n) e in
      let l = ltb-true k n b.1 in
      let m : min k n ≡ k = omega arith in
      let z = ending_spent came.ending b.0 in
      let h : came ≡ halted spent came.last = λ i. record { ending = z i; last = came.last } in
      used lent cs k s came.last (sym (ap (λ x. run lent cs x s) m) ∙ h)

  turn_goes : goes_on_law ≡ true → run lent cs (n - k) came.last ≡ run lent cs n s
  turn_goes e =
      let l = ltb-true k n (both (eqb (ending_number came.ending) (stop_number spent)) (ltb k n) e).1 in
      let m : k + (n - k) ≡ n = omega arith in
      sym ((turn_used e).resumes (n - k)) ∙ ap (λ x. run lent cs x s) m

  turn_ends : goes_on_law ≡ false → run lent cs n s ≡ came
  turn_ends e = pick (test (ltb k n))
    where
      by : k + (n - k) ≡ n → min k n ≡ k → ltb k n ≡ true → Longer lent cs k (n - k) s → run lent cs n s ≡ came
      by p m l (same q) = ap (λ x. run lent cs x s) (sym p) ∙ q ∙ ap (λ x. run lent cs x s) (sym m)
      by p m l (further t h q) =
          let z : came.ending ≡ stopped spent = ap (λ x. (run lent cs x s).ending) m ∙ ap (λ x. x.ending) h in
          let w : goes_on_law ≡ true = rw (spent_ending came.ending z, l) in
          clash w e

      pick : Test (ltb k n) → run lent cs n s ≡ came
      pick (holds l) = let j = ltb-true k n l in by (omega arith) (omega arith) l (longer lent cs k (n - k) s)
      pick (fails l) = let j = ltb-false k n l in let m : n ≡ min k n = omega arith in ap (λ x. run lent cs x s) m

-- what becomes of a newcomer alone, and its checks
module _ (g : Newcomer) where
  abbrev checks : Checked
  checks = check_job g.job g.budget g.lent

  alone_back : (k i : ℕ) → alone g ≡ rejected k i → checks ≡ refused k i
  unfolding alone
  alone_back k i h = pick checks refl
    where
      pick : (c : Checked) → checks ≡ c → checks ≡ refused k i
      pick accepted q = let w = sym h ∙ runs g.job g.budget g.lent q in let z : true ≡ false = cc in clash refl z
      pick (refused j m) q =
          let w : rejected k i ≡ rejected j m = sym h ∙ turned_back_law g.job g.budget g.lent q in
          let x : k ≡ j = cc in
          let y : i ≡ m = cc in
          rw (x, y) q

  pub alone_taken : (e : Ended) → alone g ≡ ran e → checks ≡ accepted
  unfolding alone
  alone_taken e h = pick checks refl
    where
      pick : (c : Checked) → checks ≡ c → checks ≡ accepted
      pick accepted q = q
      pick (refused k i) q = let w = sym (turned_back_law g.job g.budget g.lent q) ∙ h in let z : true ≡ false = cc in clash refl z

  pub budget_right : checks ≡ accepted → budget_rule g.budget ≡ true
  unfolding check_job check_job_by
  budget_right e = (passed_one bad_budget _ _ (accepted_rest _ _ e)).0

  budget_bound : checks ≡ accepted → g.budget ≤ max_budget
  unfolding budget_rule
  budget_bound e = leb-true g.budget max_budget (both (leb 1 g.budget) (leb g.budget max_budget) (budget_right e)).1

-- who is taken in

no_place_law : (q : List Active) (g : Newcomer) → max_runs ≤ length q
    → happen q (arrives g) ≡ record { queue = q; reply = answers g (rejected no_place 0) }
unfolding happen arrive
no_place_law q g h = rw (le-ltb _ _ h)

place_for : (q : List Active) (g : Newcomer) (c : Checked) → length q < max_runs → checks g ≡ c → happen q (arrives g) ≡ admit q g c
unfolding happen arrive
place_for q g c h e = rw (lt-ltb _ _ h, e)

pub admission : Admission
unfolding admit
admission =
    record {
      full = no_place_law;
      turned_back = λ q g k i h e. place_for q g (refused k i) h (alone_back g k i e);
      taken = λ q g e h a. place_for q g accepted h (alone_taken g e a);
    }

-- a turn that does not end its run

unended_more : (r : Active) → unended r ≡ true → turn_steps < r.left
unfolding unended
unended_more r e = ltb-true turn_steps r.left (both (eqb (ending_number (turn_of r).ending) (stop_number spent)) (ltb turn_steps r.left) e).1

goes_back : (r : Active) (others : List Active) → unended r ≡ true → (happen (r ∷ others) turn).queue ≡ others ++ (later r ∷ [])
unfolding happen take_turn
goes_back r others u = rw u

-- a run that takes turns is under way to what it comes to alone
record Underway (r : Active) : Type 0 where
  taken : checks r.newcomer ≡ accepted
  rest : run r.newcomer.lent (script r.newcomer.job) r.left r.state
      ≡ run r.newcomer.lent (script r.newcomer.job) r.newcomer.budget (begin r.newcomer.job)
  bound : r.left ≤ max_budget

abbrev AllUnderway : List Active → Type 0
AllUnderway [] = Unit {0}
AllUnderway (r ∷ q) = Underway r × AllUnderway q

all_last : (q : List Active) (r : Active) → AllUnderway q → Underway r → AllUnderway (q ++ (r ∷ []))
all_last [] r h k = (k, tt)
all_last (x ∷ q) r h k = (h.0, all_last q r h.1 k)

fresh_underway : (g : Newcomer) → checks g ≡ accepted → Underway (fresh g)
unfolding fresh
fresh_underway g e = record { taken = e; rest = refl; bound = budget_bound g e }

module _ (r : Active) where
  ends_alone : unended r ≡ false → Underway r → alone r.newcomer ≡ ran (turn_of r)
  unfolding unended turn_of alone
  ends_alone e u =
      runs _ _ _ u.taken ∙ ap ran (sym u.rest ∙ turn_ends r.newcomer.lent (script r.newcomer.job) turn_steps r.left r.state e)

  later_underway : unended r ≡ true → Underway r → Underway (later r)
  unfolding unended later turn_of
  later_underway e u =
      record {
        taken = u.taken;
        rest = turn_goes r.newcomer.lent (script r.newcomer.job) turn_steps r.left r.state e ∙ u.rest;
        bound = let b = u.bound in omega arith;
      }

-- where a reply ends a run, it is as the run is alone
abbrev Told : Reply → Type 0
Told (joins g) = Unit {0}
Told (answers g (rejected k i)) = Unit {0}
Told (answers g (ran e)) = alone g ≡ ran e
Told (goes_on g) = Unit {0}
Told idle = Unit {0}

record Right (a : After) : Type 0 where
  underway : AllUnderway a.queue
  told : Told a.reply

admit_right : (q : List Active) (g : Newcomer) (c : Checked) → checks g ≡ c → AllUnderway q → Right (admit q g c)
unfolding admit
admit_right q g accepted e h = record { underway = all_last q (fresh g) h (fresh_underway g e); told = tt }
admit_right q g (refused k i) e h = record { underway = h; told = tt }

arrive_right : (q : List Active) (g : Newcomer) → AllUnderway q → Test (ltb (length q) max_runs) → Right (arrive q g)
unfolding arrive
arrive_right q g h (holds e) = rw e (admit_right q g _ refl h)
arrive_right q g h (fails e) = rw e (record { underway = h; told = tt })

turn_right : (r : Active) (q : List Active) → AllUnderway (r ∷ q) → Test (unended r) → Right (take_turn r q)
unfolding take_turn
turn_right r q h (holds e) = rw e (record { underway = all_last q (later r) h.1 (later_underway r e h.0); told = tt })
turn_right r q h (fails e) = rw e (record { underway = h.1; told = ends_alone r e h.0 })

happen_right : (q : List Active) (x : Event) → AllUnderway q → Right (happen q x)
unfolding happen
happen_right q (arrives g) h = arrive_right q g h (test _)
happen_right [] turn h = record { underway = tt; told = tt }
happen_right (r ∷ q) turn h = turn_right r q h (test _)

told_at : (xs : List Event) (q : List Active) (i : ℕ) → AllUnderway q → Told (get_or (replies q xs) i idle)
unfolding replies
told_at [] q i h = tt
told_at (x ∷ xs) q zero h = (happen_right q x h).told
told_at (x ∷ xs) q (suc i) h = told_at xs (happen q x).queue i (happen_right q x h).underway

pub as_alone : AsAlone
unfolding AsAlone reply_at
as_alone xs i g e p = subst Told p (told_at xs [] i tt)

-- the queue

-- what stands in the queue moves up, and something may stand behind it
record Moves (q : List Active) (a : After) : Type 0 where
  more : List Active
  queue : a.queue ≡ q ++ more

admit_moves : (q : List Active) (g : Newcomer) (c : Checked) → Moves q (admit q g c)
unfolding admit
admit_moves q g accepted = record { more = fresh g ∷ []; queue = refl }
admit_moves q g (refused k i) = record { more = []; queue = sym (append-nil q) }

arrive_moves : (q : List Active) (g : Newcomer) → Test (ltb (length q) max_runs) → Moves q (arrive q g)
unfolding arrive
arrive_moves q g (holds e) = rw e (admit_moves q g _)
arrive_moves q g (fails e) = rw e (record { more = []; queue = sym (append-nil q) })

turn_moves : (r : Active) (q : List Active) → Test (unended r) → Moves q (take_turn r q)
unfolding take_turn
turn_moves r q (holds e) = rw e (record { more = later r ∷ []; queue = refl })
turn_moves r q (fails e) = rw e (record { more = []; queue = sym (append-nil q) })

admit_few : (q : List Active) (g : Newcomer) (c : Checked) → length q < max_runs → length (admit q g c).queue ≤ max_runs
unfolding admit
admit_few q g accepted h = let l = length-append q (fresh g ∷ []) in omega arith
admit_few q g (refused k i) h = omega arith

arrive_few : (q : List Active) (g : Newcomer) → length q ≤ max_runs → Test (ltb (length q) max_runs) → length (arrive q g).queue ≤ max_runs
unfolding arrive
arrive_few q g h (holds e) = rw e (admit_few q g _ (ltb-true _ _ e))
arrive_few q g h (fails e) = rw e h

turn_few : (r : Active) (q : List Active) → length (r ∷ q) ≤ max_runs → Test (unended r) → length (take_turn r q).queue ≤ max_runs
unfolding take_turn
turn_few r q h (holds e) = rw e (let l = length-append q (later r ∷ []) in omega arith)
turn_few r q h (fails e) = rw e (omega arith)

happen_few : (q : List Active) (x : Event) → length q ≤ max_runs → length (happen q x).queue ≤ max_runs
unfolding happen
happen_few q (arrives g) h = arrive_few q g h (test _)
happen_few [] turn h = h
happen_few (r ∷ q) turn h = turn_few r q h (test _)

all_few : (xs : List Event) (q : List Active) → length q ≤ max_runs → length (queue_after q xs) ≤ max_runs
unfolding queue_after
all_few [] q h = h
all_few (x ∷ xs) q h = all_few xs (happen q x).queue (happen_few q x h)

comes_round : (ys : List Event) (others behind : List Active) (r : Active) → turns ys ≡ length others
    → InFront r (queue_after (others ++ (r ∷ behind)) ys)
unfolding queue_after turns InFront happen
comes_round [] [] behind r e = (behind, refl)
comes_round [] (a ∷ others) behind r e = absurd (omega arith)
comes_round (arrives g ∷ ys) others behind r e =
    let w = arrive_moves (others ++ (r ∷ behind)) g (test _) in
    rw (w.queue, append_assoc others (r ∷ behind) w.more) (comes_round ys others (behind ++ w.more) r e)
comes_round (turn ∷ ys) [] behind r e = absurd (omega arith)
comes_round (turn ∷ ys) (a ∷ others) behind r e =
    let w = turn_moves a (others ++ (r ∷ behind)) (test _) in
    rw (w.queue, append_assoc others (r ∷ behind) w.more) (comes_round ys others (behind ++ w.more) r (omega arith))

turn_short : (q : List Active) → turn_takes q ≤ turn_steps
unfolding turn_takes turn_of
turn_short [] = omega arith
turn_short (r ∷ q) =
    let w = run_within r.newcomer.lent (script r.newcomer.job) (min turn_steps r.left) r.state in let a = w.most in omega (arith, a)

short : (ys : List Event) (q : List Active) → steps_in q ys ≤ turn_steps * turns ys
unfolding steps_in turns
short [] q = omega arith
short (arrives g ∷ ys) q = short ys (happen q (arrives g)).queue
short (turn ∷ ys) q = let a = turn_short q in let b = short ys (happen q turn).queue in omega (arith, a, b)

-- a run behind others in a queue of at most eight
waits_in : (ys : List Event) (others behind : List Active) (r : Active) → length (others ++ (r ∷ behind)) ≤ max_runs → turns ys ≡ length others
    → Waits (others ++ (r ∷ behind)) ys others r
waits_in ys others behind r h e =
    let l = length-append others (r ∷ behind) in
    let p = short ys (others ++ (r ∷ behind)) in
    let few : length others ≤ 7 = omega (arith, l, h) in
    record { few = few; in_front = comes_round ys others behind r e; steps = omega (arith, p, few, e) }

at_most_eight : (xs : List Event) (q : List Active) → queue_after [] xs ≡ q → length q ≤ max_runs
at_most_eight xs q e = subst (λ (x : List Active). length x ≤ max_runs) e (all_few xs [] (omega arith))

before_first : (xs ys : List Event) (others behind : List Active) (r : Active) → queue_after [] xs ≡ others ++ (r ∷ behind) → turns ys ≡ length others
    → Waits (queue_after [] xs) ys others r
before_first xs ys others behind r q e =
    subst (λ (x : List Active). Waits x ys others r) (sym q) (waits_in ys others behind r (at_most_eight xs _ q) e)

between_turns : (xs ys : List Event) (r : Active) (others : List Active) → queue_after [] xs ≡ r ∷ others → unended r ≡ true → turns ys ≡ length others
    → Waits (happen (queue_after [] xs) turn).queue ys others (later r)
between_turns xs ys r others q u e =
    let h = at_most_eight xs (r ∷ others) q in
    let l = length-append others (later r ∷ []) in
    let p : (happen (queue_after [] xs) turn).queue ≡ others ++ (later r ∷ []) = ap (λ x. (happen x turn).queue) q ∙ goes_back r others u in
    subst (λ (x : List Active). Waits x ys others (later r)) (sym p) (waits_in ys others [] (later r) (omega (arith, h, l)) e)

pub fair : Fair
fair = record { few = λ xs. all_few xs [] (omega arith); first = before_first; between = between_turns }

-- in which turn a run ends

ends_here : (r : Active) (q : List Active) → (unended r ≡ true → ⊥) → Test (unended r)
    → (happen (r ∷ q) turn).reply ≡ answers r.newcomer (ran (turn_of r))
unfolding happen take_turn
ends_here r q n (holds u) = absurd (n u)
ends_here r q n (fails u) = rw u

at_end_law : (r : Active) → length (script r.newcomer.job) ≤ (turn_of r).last.at → unended r ≡ true → ⊥
unfolding unended turn_of
at_end_law r h u =
    let w = turn_used r.newcomer.lent (script r.newcomer.job) turn_steps r.left r.state u in
    clash w.unfinished (le-ltb _ _ h)

steps_taken : (r : Active) → unended r ≡ true → (turn_of r).last.steps ≡ r.state.steps + turn_steps
unfolding unended turn_of
steps_taken r e = (turn_used r.newcomer.lent (script r.newcomer.job) turn_steps r.left r.state e).steps

whole_turn : (r : Active) (q : List Active) → (happen (r ∷ q) turn).reply ≡ goes_on r.newcomer → Test (unended r) → turn_takes (r ∷ q) ≡ turn_steps
unfolding happen take_turn turn_takes
whole_turn r q h (fails u) = let w = rw u at h in let z : true ≡ false = cc in clash refl z
whole_turn r q h (holds u) = let w = steps_taken r u in omega (arith, w)

pub ends_in_turn : EndsInTurn
ends_in_turn =
    record {
      at_script_end = λ r q h. ends_here r q (at_end_law r h) (test _);
      at_budget = λ r q h. ends_here r q (λ u. let l = unended_more r u in omega arith) (test _);
      whole = λ r q h. whole_turn r q h (test _);
    }

-- each run ends

all_underway : (xs : List Event) (q : List Active) → AllUnderway q → AllUnderway (queue_after q xs)
unfolding queue_after
all_underway [] q h = h
all_underway (x ∷ xs) q h = all_underway xs (happen q x).queue (happen_right q x h).underway

among : (others behind : List Active) (r : Active) → AllUnderway (others ++ (r ∷ behind)) → Underway r
among [] behind r h = h.0
among (a ∷ others) behind r h = among others behind r h.1

answered_later : (g : Newcomer) (w : Reply) (ws : List Reply) → Answered g ws → Answered g (w ∷ ws)
unfolding Answered
answered_later g w ws h = (suc h.0, h.1, h.2)

moved_on : (g : Newcomer) (q : List Active) (x : Event) (p : List Active) (ys : List Event) → (happen q x).queue ≡ p → Answered g (replies p ys)
    → Answered g (replies q (x ∷ ys))
unfolding replies
moved_on g q x p ys e h = answered_later g _ _ (subst (λ z. Answered g (replies z ys)) (sym e) h)

few_after : (q : List Active) (x : Event) (p : List Active) → (happen q x).queue ≡ p → length q ≤ max_runs → length p ≤ max_runs
few_after q x p e h = subst (λ (z : List Active). length z ≤ max_runs) e (happen_few q x h)

-- its own turn: the last, or one of several
own_turn : (ys : List Event) (k : ℕ) (behind : List Active) (r : Active) → length (r ∷ behind) ≤ max_runs → r.left ≤ turn_steps * suc k
    → 8 * k < suc (turns ys)
    → ((k' : ℕ) → length (behind ++ (later r ∷ [])) ≤ max_runs → (later r).left ≤ turn_steps * suc k' → length behind + 8 * k' < turns ys
    → Answered r.newcomer (replies (behind ++ (later r ∷ [])) ys))
    → Test (unended r) → Answered r.newcomer (replies (r ∷ behind) (turn ∷ ys))
unfolding happen take_turn later replies Answered
own_turn ys k behind r f b h next (fails u) = (0, turn_of r, rw u)
own_turn ys zero behind r f b h next (holds u) = let l = unended_more r u in absurd (omega arith)
own_turn ys (suc k) behind r f b h next (holds u) =
    let e = goes_back r behind u in
    moved_on r.newcomer (r ∷ behind) turn _ ys e (next k (few_after (r ∷ behind) turn _ e f) (omega arith) (omega arith))

-- with k turns of its own after the next, and seven others before each
ends_within : (ys : List Event) (k : ℕ) (others behind : List Active) (r : Active) → length (others ++ (r ∷ behind)) ≤ max_runs
    → r.left ≤ turn_steps * suc k → length others + 8 * k < turns ys → Answered r.newcomer (replies (others ++ (r ∷ behind)) ys)
unfolding turns later happen
ends_within [] k others behind r f b h = absurd (omega arith)
ends_within (arrives g ∷ ys) k others behind r f b h =
    let w = arrive_moves (others ++ (r ∷ behind)) g (test _) in
    let e = w.queue ∙ append_assoc others (r ∷ behind) w.more in
    moved_on r.newcomer (others ++ (r ∷ behind)) (arrives g) _ ys e
    (ends_within ys k others (behind ++ w.more) r (few_after (others ++ (r ∷ behind)) (arrives g) _ e f) b h)
ends_within (turn ∷ ys) k (a ∷ others) behind r f b h =
    let w = turn_moves a (others ++ (r ∷ behind)) (test _) in
    let e = w.queue ∙ append_assoc others (r ∷ behind) w.more in
    moved_on r.newcomer (a ∷ (others ++ (r ∷ behind))) turn _ ys e
    (ends_within ys k others (behind ++ w.more) r (few_after (a ∷ (others ++ (r ∷ behind))) turn _ e f) b (omega arith))
ends_within (turn ∷ ys) k [] behind r f b h =
    own_turn ys k behind r f b (omega arith) (λ k' f' b' h'. ends_within ys k' behind [] (later r) f' b' h') (test _)

pub all_end : AllEnd
unfolding AllEnd
all_end xs ys others behind r q h =
    let f = at_most_eight xs (others ++ (r ∷ behind)) q in
    let u = among others behind r (subst AllUnderway q (all_underway xs [] tt)) in
    let b = u.bound in
    let l = length-append others (r ∷ behind) in
    subst (λ x. Answered r.newcomer (replies x ys)) (sym q)
    (ends_within ys 199 others behind r f (omega (arith, b)) (omega (arith, f, l, h)))

-- nobody is lost

times_append : {A : Type 0} (f : A → Option Newcomer) (a : ℕ) (xs ys : List A) → times f a (xs ++ ys) ≡ times f a xs + times f a ys
unfolding times
times_append f a [] ys = omega arith
times_append f a (x ∷ xs) ys = let r = times_append f a xs ys in omega (arith, r)

-- the unended runs of a name
abbrev there : ℕ → List Active → ℕ
there a q = times (λ (r : Active). some r.newcomer) a q

-- an event keeps the balance
record Balanced (a : ℕ) (q : List Active) (w : After) : Type 0 where
  even : there a q + times joiner a (w.reply ∷ []) ≡ times ender a (w.reply ∷ []) + there a w.queue

admit_balanced : (a : ℕ) (q : List Active) (g : Newcomer) (c : Checked) → Balanced a q (admit q g c)
unfolding admit times named joiner ender fresh
admit_balanced a q g accepted = record { even = let l = times_append (λ (r : Active). some r.newcomer) a q (fresh g ∷ []) in omega (arith, l) }
admit_balanced a q g (refused k i) = record { even = omega arith }

arrive_balanced : (a : ℕ) (q : List Active) (g : Newcomer) → Test (ltb (length q) max_runs) → Balanced a q (arrive q g)
unfolding arrive times named joiner ender
arrive_balanced a q g (holds e) = rw e (admit_balanced a q g _)
arrive_balanced a q g (fails e) = rw e (record { even = omega arith })

turn_balanced : (a : ℕ) (r : Active) (q : List Active) → Test (unended r) → Balanced a (r ∷ q) (take_turn r q)
unfolding take_turn times named joiner ender later
turn_balanced a r q (holds e) = rw e (record { even = let l = times_append (λ (x : Active). some x.newcomer) a q (later r ∷ []) in omega (arith, l) })
turn_balanced a r q (fails e) = rw e (record { even = omega arith })

happen_balanced : (a : ℕ) (q : List Active) (x : Event) → Balanced a q (happen q x)
unfolding happen times named joiner ender
happen_balanced a q (arrives g) = arrive_balanced a q g (test _)
happen_balanced a [] turn = record { even = refl }
happen_balanced a (r ∷ q) turn = turn_balanced a r q (test _)

balance : (a : ℕ) (xs : List Event) (q : List Active)
    → there a q + times joiner a (replies q xs) ≡ times ender a (replies q xs) + there a (queue_after q xs)
unfolding replies queue_after times
balance a [] q = omega arith
balance a (x ∷ xs) q =
    let w = happen q x in
    let h = (happen_balanced a q x).even in
    let r = balance a xs (happen q x).queue in
    let j = times_append joiner a (w.reply ∷ []) (replies w.queue xs) in
    let e = times_append ender a (w.reply ∷ []) (replies w.queue xs) in
    omega (arith, h, r, j, e)

pub none_lost : NoneLost
unfolding NoneLost times
none_lost xs a = let h = balance a xs [] in omega (arith, h)

-- secrecy

module _ (o : Level) where
  both_ended : (g h : Newcomer) (e f : Ended) → alone g ≡ ran e → alone h ≡ ran f → Alike o g.job h.job → Indistinguishable o (ran e) (ran f)
  unfolding alone Noninterference
  both_ended g h e f a b s =
      rw (sym a, sym b)
      (noninterference o g.job h.job g.budget h.budget g.lent h.lent
      (bytes_accepted g.job g.budget g.lent (alone_taken g e a)) (bytes_accepted h.job h.budget h.lent (alone_taken h f b)) s)

  pub rounds_secrecy : RoundsSecrecy o
  unfolding RoundsSecrecy AsAlone
  rounds_secrecy xs ys i j g h (rejected k m) x p q s = back_left o k m x
  rounds_secrecy xs ys i j g h (ran e) (rejected k m) p q s = back_right o k m (ran e)
  rounds_secrecy xs ys i j g h (ran e) (ran f) p q s = both_ended g h e f (as_alone xs i g e p) (as_alone ys j h f q) s
