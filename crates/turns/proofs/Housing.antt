-- Newcomers and turns over eight places: the front's place shows its run after the turn, the other places show what they did, since nothing of theirs was
-- written, and the order of places changes as the rules' queue does. Assumes nothing.
use mathlib.Core.Path.{◌≡◌, refl, sym, ◌∙◌, ap, ap₂, subst}
use Prim.Native.Nat.{ℕ, suc, ◌+◌, ◌-◌, ◌*◌, ◌/◌, ◌<◌, ◌≤◌}
use native.Mathlib.Nat.{le_refl}
use native.Mathlib.Omega.{arith}
use mathlib.Core.Bool.{true, false}
use mathlib.Core.List.{List, [], ◌∷◌, ◌++◌}
use lib.ListN.{length, get_or, set, take, replicate, length-set, length-replicate, get_or-replicate}
use lib.Dec.{eqb, ltb, leb}
use lib.Seq.{get_or-set_same, get_or-set_other}
use lib.IntN.{ℤ}
use borrow.Author.Tests.{lt-ltb, le-ltb, eqb-true, eqb-false, leb-true}
use Rattle.rules.specs.Limits.{max_bytes, max_variables, trailer_size}
use Rattle.rules.specs.Limits.{no_place, max_runs, turn_steps}
use Rattle.rules.specs.Bytes.{record_count}
use Rattle.rules.specs.Check as Check
use Rattle.rules.specs.Check.{check_bytes, length_rule}
use Rattle.rules.specs.Run.{Buffers, Ending, finished, stopped, Ended}
use Rattle.rules.specs.Outcome as Rules
use Rattle.rules.specs.Outcome.{check_job}
use Rattle.rules.specs.Rounds as Rounds
use Rattle.rules.specs.Rounds.{Newcomer, Active, arrives, turn, happen, fresh, admit, arrive, turn_of, unended, later, take_turn, turn_takes}
use Rattle.rules.proofs.Tests.{Test, holds, fails, test, clash, both}
use Rattle.rules.proofs.Checks.{counts}
use Rattle.rules.proofs.Accepted.{right}
use Rattle.rules.proofs.Noninterference.{bytes_accepted}
use Rattle.rules.proofs.Rounds.{ends_in_turn}
use Rattle.fields.specs.declared.sections.Layout.{Layout}
use Rattle.std.specs.Prelude.{Ok, Err}
use Rattle.job.specs.declared.checks.Refusal.{Refusal}
use Rattle.fields.specs.Layout.{layout_of}
use Rattle.job.proofs.Answers.{is_accepted, is_refused}
use Rattle.actions.specs.declared.control.Running.{Running}
use Rattle.actions.specs.Marks.{marks_size}
use Rattle.actions.specs.Shows.{slices}
use Rattle.interpreter.specs.declared.step.Frame.{Frame}
use Rattle.monitor.specs.declared.entry.Outcome.{Outcome}
use Rattle.monitor.specs.declared.entry.Outcome.TheVariants.{Refused}
use Rattle.monitor.specs.Promises.{told, told_by, Tree, Ran}
use Rattle.monitor.specs.Starting.{AdmitsJob, Begun, as_lent}
use Rattle.monitor.specs.Starting.{frame_of, Room}
use Rattle.monitor.proofs.Answered.{begun}
use Rattle.places.specs.declared.queue.Queue.{Queue}
use Rattle.turns.specs.declared.pool.Place.{Place}
use Rattle.turns.specs.declared.pool.Pool.{Pool}
use Rattle.turns.specs.declared.pool.After.{After}
use Rattle.turns.specs.declared.pool.Reply.TheVariants.{Idle, Joins, Answers, GoesOn}
use Rattle.turns.specs.declared.turn.Turned.TheVariants as Turned
use Rattle.places.specs.Pieces.{plan_size, piece, Beside, Filled}
use Rattle.places.specs.Queue.{Whole, ordered, front, first_free, at_back, taken_off, moved_back}
use Rattle.turns.specs.Turn.{Shown, Freshens, TakesTurn}
use Rattle.turns.specs.Pool.{table_size, area_size, Parts, parts, Long, Elsewhere, held_at, slices_at, marks_at, Sized, Ready, Has, InOrder, blank, place_at, Houses, Housed, with_running, steps_of, told_reply, Joined, Passed, Left, comer, Arrives, Ended as Leaves, TakesTurns, Open, Shows}
use Rattle.places.proofs.Orders.{ordered_length, ordered_front, rest_apart, free_apart, ordered_within, rest_within, moved_cons}
use Rattle.places.proofs.Cuts.{piece_length, beside_same}

-- places in order

many : (At : ℕ → Active → Type 0) (is : List ℕ) (q : List Active) → InOrder At is q → length is ≡ length q
many At [] [] s = refl
many At [] (x ∷ q) s = absurd s
many At (i ∷ is) [] s = absurd s
many At (i ∷ is) (x ∷ q) s = ap suc (many At is q s.1)

each : (At Bt : ℕ → Active → Type 0) (is : List ℕ) (q : List Active)
    → ((k : ℕ) (x : Active) → k < length is → At (get_or is k 0) x → Bt (get_or is k 0) x) → InOrder At is q → InOrder Bt is q
each At Bt [] [] f s = tt
each At Bt [] (x ∷ q) f s = absurd s
each At Bt (i ∷ is) [] f s = absurd s
each At Bt (i ∷ is) (x ∷ q) f s = (f 0 x (omega arith) s.0, each At Bt is q (λ k y h. f (suc k) y (omega (arith, h))) s.1)

one_more_law : (At : ℕ → Active → Type 0) (is : List ℕ) (q : List Active) (i : ℕ) (x : Active) → InOrder At is q → At i x
    → InOrder At (is ++ (i ∷ [])) (q ++ (x ∷ []))
one_more_law At [] [] i x s h = (h, tt)
one_more_law At [] (y ∷ q) i x s h = absurd s
one_more_law At (j ∷ is) [] i x s h = absurd s
one_more_law At (j ∷ is) (y ∷ q) i x s h = (s.0, one_more_law At is q i x s.1 h)

-- a place of which nothing was written

stays : (i j : ℕ) (s s' : Parts) (r : Place) (x : Active) → Elsewhere i s s' → (j ≡ i → ⊥) → Sized r → Has s j r x → Has s' j r x
stays i j s s' r x e n z h =
    let c = z.lines in
    record {
      name = h.name;
      before = h.before;
      shown =
          rw (e.jobs.others j r.bytes n z.bytes, e.plans.others j plan_size n (le_refl _), e.words.others j table_size n (le_refl _), e.levels.others j max_variables n (le_refl _), e.values.others j max_variables n (le_refl _), e.lines.others j (5 * r.capacity) n (omega (arith, c)), e.marks.others j marks_size n (le_refl _))
          h.shown;
    }

-- records that are set

same_place : (xs ys : List Place) (i : ℕ) (r : Place) → ys ≡ set xs i r → i < length xs → get_or ys i blank ≡ r
same_place xs ys i r e l = ap (λ (zs : List Place). get_or zs i blank) e ∙ get_or-set_same xs i r blank l

other_place : (xs ys : List Place) (i j : ℕ) (r : Place) → ys ≡ set xs i r → (j ≡ i → ⊥) → get_or ys j blank ≡ get_or xs j blank
other_place xs ys i j r e n = ap (λ (zs : List Place). get_or zs j blank) e ∙ get_or-set_other xs i j r blank n

all_sized : (p : Pool) (ys : List Place) (i : ℕ) (r : Place) → ys ≡ set p.places i r → length p.places ≡ max_runs
    → ((j : ℕ) → j < max_runs → Sized (place_at p j)) → Sized r → (j : ℕ) → j < max_runs → Sized (get_or ys j blank)
all_sized p ys i r e l h z j b = pick (test (eqb j i))
  where
    pick : Test (eqb j i) → Sized (get_or ys j blank)
    pick (holds t) =
        let q = eqb-true j i t in
        subst Sized (sym (ap (λ k. get_or ys k blank) q ∙ same_place p.places ys i r e (omega (arith, q, b, l)))) z
    pick (fails t) = subst Sized (sym (other_place p.places ys i j r e (eqb-false j i t))) (h j b)

long_after : (i : ℕ) (s s' : Parts) → Elsewhere i s s' → Long s → Long s'
long_after i s s' e l =
    record {
      jobs = e.jobs.long ∙ l.jobs;
      plans = e.plans.long ∙ l.plans;
      levels = e.levels.long ∙ l.levels;
      words = e.words.long ∙ l.words;
      values = e.values.long ∙ l.values;
      marks = e.marks.long ∙ l.marks;
    }

-- nothing was written
pub nowhere : (i : ℕ) (s : Parts) → Elsewhere i s s
nowhere i s =
    record {
      jobs = beside_same _ _ _;
      plans = beside_same _ _ _;
      levels = beside_same _ _ _;
      words = beside_same _ _ _;
      values = beside_same _ _ _;
      lines = beside_same _ _ _;
      marks = beside_same _ _ _;
    }

-- the rules' replies, as they are told, and their queues

idle_said : Idle ≡ told_reply (turn_takes []) (happen [] turn).reply
unfolding happen told_reply
idle_said = refl

idle_queue : [] ≡ (happen [] turn).queue
unfolding happen
idle_queue = refl

module _ (x : Active) (q : List Active) where
  on_reply : unended x ≡ true → (happen (x ∷ q) turn).reply ≡ Rounds.goes_on x.newcomer
  unfolding happen take_turn
  on_reply u = rw u

  on_said : unended x ≡ true → GoesOn x.newcomer.name turn_steps ≡ told_reply (turn_takes (x ∷ q)) (happen (x ∷ q) turn).reply
  unfolding told_reply
  on_said u = sym (ap₂ told_reply (ends_in_turn.whole x q (on_reply u)) (on_reply u))

  on_queue : unended x ≡ true → q ++ (later x ∷ []) ≡ (happen (x ∷ q) turn).queue
  unfolding happen take_turn
  on_queue u = rw u

  out_said : unended x ≡ false
      → Answers x.newcomer.name (turn_takes (x ∷ q)) (told (Rules.ran (turn_of x))) ≡ told_reply (turn_takes (x ∷ q)) (happen (x ∷ q) turn).reply
  unfolding happen take_turn told_reply
  out_said u = rw u

  out_queue : unended x ≡ false → q ≡ (happen (x ∷ q) turn).queue
  unfolding happen take_turn
  out_queue u = rw u

later_name : (x : Active) → (later x).newcomer.name ≡ x.newcomer.name
unfolding later
later_name x = refl

steps_by : (k : Ending) (e : Ended) → steps_of (told_by k e) ≡ e.last.steps
unfolding steps_of told_by
steps_by finished e = refl
steps_by (stopped k) e = refl

steps_told : (e : Ended) → steps_of (told (Rules.ran e)) ≡ e.last.steps
unfolding told
steps_told e = steps_by e.ending e

out_took : (x : Active) (q : List Active) (budget left : ℕ) → left ≡ x.left → x.state.steps + x.left ≡ budget
    → steps_of (told (Rules.ran (turn_of x))) - (budget - left) ≡ turn_takes (x ∷ q)
unfolding turn_takes
out_took x q budget left e c = let s = steps_told (turn_of x) in omega (arith, s, e, c)

module _ (q : List Active) (g : Newcomer) where
  full_said : ltb (length q) max_runs ≡ false → Answers g.name 0 (Refused no_place 0) ≡ told_reply 0 (happen q (arrives g)).reply
  unfolding happen arrive told_reply told
  full_said e = rw e

  full_queue : ltb (length q) max_runs ≡ false → q ≡ (happen q (arrives g)).queue
  unfolding happen arrive
  full_queue e = rw e

  back_said : (k i : ℕ) → ltb (length q) max_runs ≡ true → check_job g.job g.budget g.lent ≡ Check.refused k i
      → Answers g.name 0 (Refused k i) ≡ told_reply 0 (happen q (arrives g)).reply
  unfolding happen arrive admit told_reply told
  back_said k i e f = rw (e, f)

  back_queue : (k i : ℕ) → ltb (length q) max_runs ≡ true → check_job g.job g.budget g.lent ≡ Check.refused k i → q ≡ (happen q (arrives g)).queue
  unfolding happen arrive admit
  back_queue k i e f = rw (e, f)

  join_said : ltb (length q) max_runs ≡ true → check_job g.job g.budget g.lent ≡ Check.accepted → Joins ≡ told_reply 0 (happen q (arrives g)).reply
  unfolding happen arrive admit told_reply
  join_said e f = rw (e, f)

  join_queue : ltb (length q) max_runs ≡ true → check_job g.job g.budget g.lent ≡ Check.accepted → q ++ (fresh g ∷ []) ≡ (happen q (arrives g)).queue
  unfolding happen arrive admit
  join_queue e f = rw (e, f)

fresh_name : (g : Newcomer) → (fresh g).newcomer.name ≡ g.name
unfolding fresh
fresh_name g = refl

-- turns

first_is : (x y : Active) (q o : List Active) → ◌≡◌ {A = List Active} (x ∷ q) (y ∷ o) → x ≡ y
first_is x y q o e = cc

-- the run in front
record InFront (p : Pool) (s : Parts) (q : List Active) : Type 0 where
  first : Active
  rest : List Active
  is : q ≡ first ∷ rest
  has : Has s (front p.queue) (place_at p (front p.queue)) first
  behind : InOrder (λ i x. Has s i (place_at p i) x) (taken_off (ordered p.queue)) rest

in_front_law : (p : Pool) (s : Parts) (q : List Active) → Houses p s q → 0 < p.queue.count → InFront p s q
in_front_law p s q h z = pick q (subst (λ (is : List ℕ). InOrder (λ i x. Has s i (place_at p i) x) is q) (ordered_front p.queue h.whole z) h.runs)
  where
    pick : (y : List Active) → InOrder (λ i x. Has s i (place_at p i) x) (front p.queue ∷ taken_off (ordered p.queue)) y → InFront p s y
    pick [] o = absurd o
    pick (x ∷ y) o = record { first = x; rest = y; is = refl; has = o.0; behind = o.1 }

pub ready : (p : Pool) (s : Parts) (i : ℕ) (r : Place) → Housed p s → 0 < p.queue.count → i ≡ front p.queue → r ≡ place_at p i → Ready s i r
ready p s i r h z e f =
    let w = in_front_law p s h.0 h.1 z in
    let k = w.has.shown in
    let l = k.left in
    let c = k.counted in
    subst (λ (y : Place). Ready s i y) (sym f) (subst (λ j. Ready s j (place_at p j)) (sym e)
    (record { startable = k.startable; left = omega (arith, l, c); spend = k.spend }))

-- no run
pub idle_turn : (p : Pool) (s : Parts) → p.queue.count ≡ 0 → TakesTurns p s s (record { pool = p; reply = Idle })
idle_turn p s z =
    record {
      reply = λ q h. none q h (nobody q h);
      queue = λ q h. still q h (nobody q h);
      ended = λ x q h u. let l = nobody (x ∷ q) h in absurd (omega (arith, l));
      elsewhere = nowhere _ s;
    }
  where
    nobody : (q : List Active) → Houses p s q → length q ≡ 0
    nobody q h = sym (many (λ i x. Has s i (place_at p i) x) (ordered p.queue) q h.runs) ∙ ordered_length p.queue h.whole ∙ z

    none : (q : List Active) → Houses p s q → length q ≡ 0 → Idle ≡ told_reply (turn_takes q) (happen q turn).reply
    none [] h l = idle_said
    none (x ∷ q) h l = absurd (omega (arith, l))

    still : (q : List Active) → Houses p s q → length q ≡ 0 → Houses p s (happen q turn).queue
    still [] h l = subst (Houses p s) idle_queue h
    still (x ∷ q) h l = absurd (omega (arith, l))

-- a turn of the run in front, at place i with the record r
module _ (p : Pool) (jobs plans levels words words' : List ℕ) (values values' : List ℤ) (lines lines' marks marks' : List ℕ) (i : ℕ) (r : Place) (a : After)
    (z : 0 < p.queue.count) (at : i ≡ front p.queue) (is : r ≡ place_at p i) (small : i < max_runs) where
  abbrev s : Parts
  s = parts jobs plans levels words values lines marks

  abbrev s' : Parts
  s' = parts jobs plans levels words' values' lines' marks'

  here : (q : List Active) (w : InFront p s q) → Has s i r w.first
  here q w = subst (λ (y : Place). Has s i y w.first) (sym is) (subst (λ j. Has s j (place_at p j) w.first) (sym at) w.has)

  sized_here : (q : List Active) → Houses p s q → Sized r
  sized_here q h = subst Sized (sym is) (h.sized i small)

  -- the runs behind it stay, with any records that are the same for their places
  others : (q : List Active) (h : Houses p s q) (w : InFront p s q) → Elsewhere i s s' → (ys : List Place)
      → ((j : ℕ) → (j ≡ i → ⊥) → get_or ys j blank ≡ place_at p j)
      → InOrder (λ j x. Has s' j (get_or ys j blank) x) (taken_off (ordered p.queue)) w.rest
  others q h w e ys same =
      each (λ j x. Has s j (place_at p j) x) (λ j x. Has s' j (get_or ys j blank) x) (taken_off (ordered p.queue)) w.rest (λ k x l o.
      let n : get_or (taken_off (ordered p.queue)) k 0 ≡ i → ⊥ = λ m. rest_apart p.queue h.whole k l (m ∙ at) in
      subst (λ (y : Place). Has s' (get_or (taken_off (ordered p.queue)) k 0) y x) (sym (same _ n))
      (stays i _ s s' _ x e n (h.sized _ (rest_within p.queue h.whole k l)) o)) w.behind

  module _ (n : Running) (t : TakesTurn (held_at s i r) r.budget (slices_at s i r) (slices_at s' i r) (marks_at s i) (marks_at s' i) r.running (Turned.GoesOn n))
      (e : Elsewhere i s s') (d : Passed p i (with_running r n) a) where
    goes : (q : List Active) (w : InFront p s q)
        → (unended w.first ≡ true) × Shown (held_at s i r) r.budget (here q w).before (slices_at s' i r) (marks_at s' i) n (later w.first)
    goes q w = t.takes (here q w).before w.first (here q w).shown

    on_houses : (q : List Active) (h : Houses p s q) (w : InFront p s q) → Houses a.pool s' (w.rest ++ (later w.first ∷ []))
    on_houses q h w =
        let ends = d.order ∙ ap moved_back (ordered_front p.queue h.whole z) ∙ moved_cons _ _ ∙ ap (λ j. taken_off (ordered p.queue) ++ (j ∷ [])) (sym at) in
        let k = sized_here q h in
        let o = here q w in
        let last : Has s' i (with_running r n) (later w.first) = record { name = later_name w.first ∙ o.name; before = o.before; shown = (goes q w).1 } in
        record {
          whole = d.whole;
          eight = ap (λ (ys : List Place). length ys) d.places ∙ length-set p.places i _ ∙ h.eight;
          sized = all_sized p a.pool.places i (with_running r n) d.places h.eight h.sized (record { bytes = k.bytes; lines = k.lines; vars = k.vars });
          long = long_after i s s' e h.long;
          lines = e.lines.long ∙ h.lines;
          runs =
              subst (λ (is : List ℕ). InOrder (λ j x. Has s' j (place_at a.pool j) x) is (w.rest ++ (later w.first ∷ []))) (sym ends)
              (one_more_law (λ j x. Has s' j (place_at a.pool j) x) (taken_off (ordered p.queue)) w.rest i (later w.first)
              (others q h w e a.pool.places (λ j m. other_place p.places a.pool.places i j _ d.places m))
              (subst (λ (y : Place). Has s' i y (later w.first)) (sym (same_place p.places a.pool.places i _ d.places (let b = h.eight in omega (arith, small, b)))) last));
        }

    pub on_turn : TakesTurns p s s' a
    on_turn =
        record {
          reply = λ q h.
              let w = in_front_law p s q h z in
              d.reply ∙ ap (λ m. GoesOn m turn_steps) (sym (here q w).name) ∙ on_said w.first w.rest (goes q w).0
              ∙ ap (λ y. told_reply (turn_takes y) (happen y turn).reply) (sym w.is);
          queue = λ q h.
              let w = in_front_law p s q h z in
              subst (λ y. Houses a.pool s' (happen y turn).queue) (sym w.is)
              (subst (Houses a.pool s') (on_queue w.first w.rest (goes q w).0) (on_houses q h w));
          ended = λ x q h u.
              let w = in_front_law p s (x ∷ q) h z in
              let m : x ≡ w.first = first_is x w.first q w.rest w.is in
              clash (ap unended m ∙ (goes (x ∷ q) w).0) u;
          elsewhere = subst (λ j. Elsewhere j s s') at e;
        }

  module _ (o : Outcome) (t : TakesTurn (held_at s i r) r.budget (slices_at s i r) (slices_at s' i r) (marks_at s i) (marks_at s' i) r.running (Turned.Ends o))
      (e : Elsewhere i s s') (d : Left p r o a) where
    outs : (q : List Active) (w : InFront p s q)
        → (unended w.first ≡ false) × (o ≡ told (Rules.ran (turn_of w.first)))
        × Ran Tree r.frame.vars r.frame.places (as_lent (here q w).before) (as_lent (slices_at s' i r)) (turn_of w.first)
    outs q w = t.takes (here q w).before w.first (here q w).shown

    same_record : (j : ℕ) → place_at a.pool j ≡ place_at p j
    same_record j = ap (λ (ys : List Place). get_or ys j blank) d.places

    out_houses : (q : List Active) (h : Houses p s q) (w : InFront p s q) → Houses a.pool s' w.rest
    out_houses q h w =
        record {
          whole = d.whole;
          eight = ap (λ (ys : List Place). length ys) d.places ∙ h.eight;
          sized = λ j l. subst Sized (sym (same_record j)) (h.sized j l);
          long = long_after i s s' e h.long;
          lines = e.lines.long ∙ h.lines;
          runs =
              subst (λ (is : List ℕ). InOrder (λ j x. Has s' j (place_at a.pool j) x) is w.rest) (sym d.order)
              (others q h w e a.pool.places (λ j m. same_record j));
        }

    answered : (q : List Active) (w : InFront p s q)
        → Answers r.name (steps_of o - (r.budget - r.running.left)) o
        ≡ Answers w.first.newcomer.name (turn_takes (w.first ∷ w.rest)) (told (Rules.ran (turn_of w.first)))
    answered q w =
        let b = here q w in
        let f = (outs q w).1 in
        let k = ap (λ v. steps_of v - (r.budget - r.running.left)) f ∙ out_took w.first w.rest r.budget r.running.left b.shown.left b.shown.counted in
        ap (λ m. Answers m (steps_of o - (r.budget - r.running.left)) o) (sym b.name) ∙ ap (λ v. Answers w.first.newcomer.name v o) k
        ∙ ap (λ v. Answers w.first.newcomer.name (turn_takes (w.first ∷ w.rest)) v) f

    leaves : (q : List Active) (w : InFront p s q) → Leaves a.pool s' w.first
    leaves q w =
        let b = d.free ∙ sym at in
        let f = ap (place_at a.pool) b ∙ same_record i ∙ sym is in
        record {
          free = d.few;
          before = (here q w).before;
          ran = rw (f, b) (outs q w).2;
        }

    pub out_turn : TakesTurns p s s' a
    out_turn =
        record {
          reply = λ q h.
              let w = in_front_law p s q h z in
              d.reply ∙ answered q w ∙ out_said w.first w.rest (outs q w).0 ∙ ap (λ y. told_reply (turn_takes y) (happen y turn).reply) (sym w.is);
          queue = λ q h.
              let w = in_front_law p s q h z in
              subst (λ y. Houses a.pool s' (happen y turn).queue) (sym w.is)
              (subst (Houses a.pool s') (out_queue w.first w.rest (outs q w).0) (out_houses q h w));
          ended = λ x q h u.
              let w = in_front_law p s (x ∷ q) h z in
              subst (Leaves a.pool s') (sym (first_is x w.first q w.rest w.is)) (leaves (x ∷ q) w);
          elsewhere = subst (λ j. Elsewhere j s s') at e;
        }

-- newcomers

as_many : (p : Pool) (s : Parts) (q : List Active) → Houses p s q → length q ≡ p.queue.count
as_many p s q h = sym (many (λ i x. Has s i (place_at p i) x) (ordered p.queue) q h.runs) ∙ ordered_length p.queue h.whole

module _ (p : Pool) (s : Parts) (g : Newcomer) where
  pub full_arrive : p.queue.count ≡ max_runs → Arrives p s s g (record { pool = p; reply = Answers g.name 0 (Refused no_place 0) })
  full_arrive e =
      record {
        reply = λ q h. full_said q g (none q h);
        queue = λ q h. subst (Houses p s) (full_queue q g (none q h)) h;
        elsewhere = nowhere _ s;
        unread = λ n. refl;
      }
    where
      none : (q : List Active) → Houses p s q → ltb (length q) max_runs ≡ false
      none q h = let m = as_many p s q h in le-ltb (length q) max_runs (omega (arith, m, e))

  room : p.queue.count < max_runs → (q : List Active) → Houses p s q → ltb (length q) max_runs ≡ true
  room c q h = let m = as_many p s q h in lt-ltb (length q) max_runs (omega (arith, m, c))

  pub back_arrive : (w : Refusal) (plan plan' : List ℕ) → p.queue.count < max_runs → g.lent.variables ≡ max_variables
      → AdmitsJob g.job g.budget g.lent.places max_variables plan plan' (Err w)
      → Arrives p s s g (record { pool = p; reply = Answers g.name 0 (Refused w.number w.index) })
  back_arrive w plan plan' c v d =
      let f = is_refused _ w _ (sym (d.answered g.lent refl v)) in
      record {
        reply = λ q h. back_said q g w.number w.index (room c q h) f;
        queue = λ q h. subst (Houses p s) (back_queue q g w.number w.index (room c q h) f) h;
        elsewhere = nowhere _ s;
        unread = λ n. refl;
      }

-- a job that is accepted, with the parts of place i
module _ (b : List ℕ) (budget places : ℕ) (plan plan' : List ℕ) (l : Layout) (adm : AdmitsJob b budget places max_variables plan plan' (Ok l)) where
  abbrev asked : Buffers
  asked = record { places = places; variables = max_variables; lines = 0 }

  bytes_fine : check_bytes b ≡ Check.accepted
  bytes_fine = bytes_accepted b budget asked (is_accepted _ l _ (sym (adm.answered asked refl refl))).0

  pub job_short : length b ≤ max_bytes
  unfolding length_rule
  job_short = leb-true _ _ (both (leb trailer_size (length b)) (leb (length b) max_bytes) (right b bytes_fine).lengths).1

  module _ (i : ℕ) (levels words : List ℕ) (values : List ℤ) (small : i < max_runs) (long-levels : length levels ≡ max_variables * max_runs)
      (long_words : length words ≡ table_size * max_runs) (long_values : length values ≡ max_variables * max_runs) where
    abbrev ws : List ℕ
    ws = piece table_size i table_size words

    abbrev ls : List ℕ
    ls = piece max_variables i max_variables levels

    abbrev vs : List ℤ
    vs = piece max_variables i max_variables values

    level_room : length ls ≡ max_variables
    level_room = piece_length max_variables i max_variables levels small (le_refl _) long-levels

    value_room : length vs ≡ max_variables
    value_room = piece_length max_variables i max_variables values small (le_refl _) long_values

    word_room : length ws ≡ table_size
    word_room = piece_length table_size i table_size words small (le_refl _) long_words

    begins : (board : List ℕ) → Begun b l plan' budget (slices ws ls vs board) places
    begins board =
        let x = level_room in
        let y = value_room in
        let w = word_room in
        begun b budget places max_variables plan plan' (slices ws ls vs board) (omega (arith, x, y)) l adm (omega (arith, w))

    pub has_room : Room b l ws ls vs
    has_room =
        let g = begins [] in
        let f = g.few in
        let m = g.nodes in
        let w = g.words in
        record { accepted = g.accepted; layout = g.layout; tabled = omega (arith, f, m, w); levelled = g.levelled; valued = g.valued }

    planned : length plan' ≡ plan_size → l.records < length plan'
    unfolding layout_of
    planned full =
        let g = begins [] in
        let k = (counts _ _ _ (right b g.accepted).counts).records in
        let e : l.records ≡ record_count b = ap (λ (y : Layout). y.records) g.layout in
        omega (arith, k, e, full)

    variables_few : l.variables ≤ max_variables
    variables_few = let x = level_room in let v = (begins []).levelled in omega (arith, x, v)

-- the same of the slices, whatever the lines are
pub long_any : (jobs plans levels words : List ℕ) (values : List ℤ) (lines other marks : List ℕ) → Long (parts jobs plans levels words values lines marks)
    → Long (parts jobs plans levels words values other marks)
long_any jobs plans levels words values lines other marks l =
    record { jobs = l.jobs; plans = l.plans; levels = l.levels; words = l.words; values = l.values; marks = l.marks }

-- a newcomer that is taken in, at place i
module _ (p : Pool) (name budget places capacity : ℕ) (b plan plan' : List ℕ) (l : Layout) (jobs jobs' plans plans' levels levels' words words' : List ℕ)
    (values values' : List ℤ) (lines marks marks' : List ℕ) (i : ℕ) (n : Running) (a : After) (whole : Whole p.queue) (c : p.queue.count < max_runs)
    (eight : length p.places ≡ max_runs) (at : i ≡ first_free p.queue) (small : i < max_runs) (few : capacity ≤ 65535)
    (adm : AdmitsJob b budget places max_variables plan plan' (Ok l)) (full : length plan' ≡ plan_size)
    (long : Long (parts jobs plans levels words values lines marks)) where
  abbrev t : Parts
  t = parts jobs plans levels words values lines marks

  abbrev t' : Parts
  t' = parts jobs' plans' levels' words' values' lines marks'

  abbrev g : Newcomer
  g = comer name b budget places capacity

  abbrev r : Place
  r = record { name = name; bytes = length b; capacity = capacity; budget = budget; frame = frame_of l places; running = n }

  accepts : check_job b budget g.lent ≡ Check.accepted
  accepts = (is_accepted _ l _ (sym (adm.answered g.lent refl refl))).0

  module _ (fj : Filled max_bytes i b jobs jobs') (fp : Filled plan_size i plan' plans plans')
      (fr : Freshens b l budget (piece table_size i table_size words) (piece table_size i table_size words') (piece max_variables i max_variables levels)
      (piece max_variables i max_variables levels') (piece max_variables i max_variables values) (piece max_variables i max_variables values')
      (piece marks_size i marks_size marks') n)
      (bw : Beside table_size i words words') (bl : Beside max_variables i levels levels') (bv : Beside max_variables i values values')
      (bm : Beside marks_size i marks marks') (f : Frame) (framed : f ≡ frame_of l places)
      (joined : Joined p i (record { name = name; bytes = length b; capacity = capacity; budget = budget; frame = f; running = n }) a) where
    d : Joined p i r a
    d =
        subst (λ (y : Frame). Joined p i (record { name = name; bytes = length b; capacity = capacity; budget = budget; frame = y; running = n }) a) framed joined

    beyond : Elsewhere i t t'
    beyond =
        record { jobs = fj.beside; plans = fp.beside; levels = bl; words = bw; values = bv; lines = beside_same _ _ _; marks = bm }

    board_room : (q : List Active) → Houses p t q → capacity ≡ length (piece area_size i (5 * capacity) lines) / 5
    board_room q h =
        let x = piece_length area_size i (5 * capacity) lines small (omega (arith, few)) h.lines in
        omega (arith, x)

    plan_there : piece plan_size i plan_size plans' ≡ plan'
    plan_there = ap (λ k. piece plan_size i k plans') (sym full) ∙ fp.starts

    newest : (q : List Active) → Houses p t q → Has t' i r (fresh g)
    newest q h =
        record {
          name = fresh_name g;
          before = slices_at t i r;
          shown =
              rw (fj.starts, plan_there)
              (fr.shows plan' (piece area_size i (5 * capacity) lines) places g
              (begins b budget places plan plan' l adm i levels words values small long.levels long.words long.values (piece area_size i (5 * capacity) lines))
              (planned b budget places plan plan' l adm i levels words values small long.levels long.words long.values full) refl refl refl (board_room q h));
        }

    joins : (q : List Active) → Houses p t q → Houses a.pool t' (q ++ (fresh g ∷ []))
    unfolding at_back
    joins q h =
        record {
          whole = d.whole;
          eight = ap (λ (ys : List Place). length ys) d.places ∙ length-set p.places i _ ∙ eight;
          sized = all_sized p a.pool.places i r d.places eight h.sized (record {
            bytes = job_short b budget places plan plan' l adm;
            lines = few;
            vars = variables_few b budget places plan plan' l adm i levels words values small long.levels long.words long.values;
          });
          long = long_after i t t' beyond long;
          lines = h.lines;
          runs =
              subst (λ (is : List ℕ). InOrder (λ j x. Has t' j (place_at a.pool j) x) is (q ++ (fresh g ∷ [])))
              (sym (d.order ∙ ap (λ j. ordered p.queue ++ (j ∷ [])) (sym at)))
              (one_more_law (λ j x. Has t' j (place_at a.pool j) x) (ordered p.queue) q i (fresh g)
              (each (λ j x. Has t j (place_at p j) x) (λ j x. Has t' j (place_at a.pool j) x) (ordered p.queue) q (λ k x m o.
              let ne : get_or (ordered p.queue) k 0 ≡ i → ⊥ = λ e. free_apart p.queue whole c k m (e ∙ at) in
              subst (λ (y : Place). Has t' (get_or (ordered p.queue) k 0) y x) (sym (other_place p.places a.pool.places i _ r d.places ne))
              (stays i _ t t' _ x beyond ne (h.sized _ (ordered_within p.queue whole k m)) o)) h.runs)
              (subst (λ (y : Place). Has t' i y (fresh g)) (sym (same_place p.places a.pool.places i r d.places (omega (arith, small, eight)))) (newest q h)));
        }

    pub join_arrive : Arrives p t t' g a
    join_arrive =
        record {
          reply = λ q h. d.reply ∙ join_said q g (room p t g c q h) accepts;
          queue = λ q h. subst (Houses a.pool t') (join_queue q g (room p t g c q h) accepts) (joins q h);
          elsewhere = subst (λ j. Elsewhere j t t') at beyond;
          unread = λ k. absurd (k d.reply);
        }

-- what a caller goes on with

pub open_for : (p : Pool) (jobs plans levels words : List ℕ) (values : List ℤ) (lines other marks : List ℕ)
    → Housed p (parts jobs plans levels words values lines marks) → Open p (parts jobs plans levels words values other marks)
open_for p jobs plans levels words values lines other marks h =
    let l = h.1.long in
    record {
      whole = h.1.whole;
      eight = h.1.eight;
      long = record { jobs = l.jobs; plans = l.plans; levels = l.levels; words = l.words; values = l.values; marks = l.marks };
    }

pub arrived : (p : Pool) (s s' : Parts) (g : Newcomer) (a : After) → Housed p s → Arrives p s s' g a → Housed a.pool s'
arrived p s s' g a h t = ((happen h.0 (arrives g)).queue, t.queue h.0 h.1)

module _ (p : Pool) (s s' : Parts) (a : After) (h : Housed p s) (t : TakesTurns p s s' a) where
  pub turned : Housed a.pool s'
  turned = ((happen h.0 turn).queue, t.queue h.0 h.1)

  free_after : (q : List Active) → Houses p s q → (name took : ℕ) (o : Outcome) → a.reply ≡ Answers name took o → a.pool.queue.count < max_runs
  free_after [] k name took o e = let w = sym e ∙ t.reply [] k ∙ sym idle_said in let z : true ≡ false = cc in clash refl z
  free_after (x ∷ q) k name took o e = pick (test (unended x))
    where
      pick : Test (unended x) → a.pool.queue.count < max_runs
      pick (holds u) = let w = sym e ∙ t.reply (x ∷ q) k ∙ sym (on_said x q u) in let z : true ≡ false = cc in clash refl z
      pick (fails u) = (t.ended x q k u).free

  pub shows_turn : Shows a.pool a.reply
  shows_turn =
      let k = turned.1 in
      record { whole = k.whole; eight = k.eight; sized = k.sized; free = free_after h.0 h.1 }

-- before any newcomer
pub nobody_yet : (q : Queue) (r : Place) → Whole q → q.count ≡ 0 → Sized r → (s : Parts) → Long s → length s.lines ≡ area_size * max_runs
    → Houses (record { queue = q; places = replicate max_runs r }) s []
unfolding ordered
nobody_yet q r w e z s l b =
    record {
      whole = w;
      eight = length-replicate max_runs r;
      sized = λ i h. subst Sized (sym (get_or-replicate max_runs i r blank h)) z;
      long = l;
      lines = b;
      runs = subst (λ n. InOrder (λ i x. Has s i (get_or (replicate max_runs r) i blank) x) (take n q.order) []) (sym e) tt;
    }
