-- What a newcomer and a turn promise over eight places: equations with the rules' `happen`, for every queue that the places show. Assumes nothing.
use Rattle.std.specs.Prelude.{◌≡◌, ℕ, ◌-◌, ◌*◌, ◌<◌, ◌≤◌, false, List, [], ◌∷◌, length, get_or, set, ℤ}
use Rattle.rules.specs.Limits.{max_bytes, max_variables, max_budget}
use Rattle.rules.specs.Limits.{max_runs, turn_steps}
use Rattle.rules.specs.Rounds as Rounds
use Rattle.rules.specs.Rounds.{Newcomer, Active, arrives, turn, happen, turn_takes, unended, turn_of}
use Rattle.actions.specs.declared.control.Running.{Running}
use Rattle.actions.specs.Marks.{marks_size}
use Rattle.actions.specs.Shows.{Slices, slices}
use Rattle.monitor.specs.declared.entry.Outcome.{Outcome}
use Rattle.monitor.specs.declared.entry.Outcome.TheVariants.{Refused, Finished, Stopped}
use Rattle.interpreter.specs.Steps.{Held, held, Startable}
use Rattle.monitor.specs.Promises.{told, Tree, Ran}
use Rattle.monitor.specs.Starting.{as_lent}
use Rattle.turns.specs.declared.pool.Place.{Place}
use Rattle.turns.specs.declared.pool.Pool.{Pool}
use Rattle.turns.specs.declared.pool.After.{After}
use Rattle.turns.specs.declared.pool.Reply.{Reply}
use Rattle.turns.specs.declared.pool.Reply.TheVariants.{Idle, Joins, Answers, GoesOn}
use Rattle.places.specs.Pieces.{plan_size, piece, Beside}
use Rattle.places.specs.Queue.{Whole, ordered, front, first_free, at_back, taken_off, moved_back}
use Rattle.turns.specs.Turn.{Shown}

-- the words of the largest table, and the bytes of 65,535 lines
abbrev pub table_size : ℕ
table_size = 5120

abbrev pub area_size : ℕ
area_size = 327675

-- the slices of eight parts
pub record Parts : Type 0 where
  pub jobs : List ℕ
  pub plans : List ℕ
  pub levels : List ℕ
  pub words : List ℕ
  pub values : List ℤ
  pub lines : List ℕ
  pub marks : List ℕ

abbrev pub parts : List ℕ → List ℕ → List ℕ → List ℕ → List ℤ → List ℕ → List ℕ → Parts
parts j p l w v b m = record { jobs = j; plans = p; levels = l; words = w; values = v; lines = b; marks = m }

-- they have room for eight, the lines' apart
pub record Long (s : Parts) : Type 0 where
  pub jobs : length s.jobs ≡ max_bytes * max_runs
  pub plans : length s.plans ≡ plan_size * max_runs
  pub levels : length s.levels ≡ max_variables * max_runs
  pub words : length s.words ≡ table_size * max_runs
  pub values : length s.values ≡ max_variables * max_runs
  pub marks : length s.marks ≡ marks_size * max_runs

-- but for the parts of place i, they are the same
pub record Elsewhere (i : ℕ) (s s' : Parts) : Type 0 where
  pub jobs : Beside max_bytes i s.jobs s'.jobs
  pub plans : Beside plan_size i s.plans s'.plans
  pub levels : Beside max_variables i s.levels s'.levels
  pub words : Beside table_size i s.words s'.words
  pub values : Beside max_variables i s.values s'.values
  pub lines : Beside area_size i s.lines s'.lines
  pub marks : Beside marks_size i s.marks s'.marks

-- what stands in the parts of place i, by the record r of its run: what is read only, what is written, and the marks
abbrev pub held_at : Parts → ℕ → Place → Held
held_at s i r = held (piece max_bytes i r.bytes s.jobs) (piece plan_size i plan_size s.plans) r.frame

abbrev pub slices_at : Parts → ℕ → Place → Slices
slices_at s i r =
    slices (piece table_size i table_size s.words) (piece max_variables i max_variables s.levels) (piece max_variables i max_variables s.values)
    (piece area_size i (5 * r.capacity) s.lines)

abbrev pub marks_at : Parts → ℕ → List ℕ
marks_at s i = piece marks_size i marks_size s.marks

-- a record whose run lies within the parts of a place
pub record Sized (r : Place) : Type 0 where
  pub bytes : r.bytes ≤ max_bytes
  pub lines : r.capacity ≤ 65535
  pub vars : r.frame.vars ≤ max_variables

-- the run of the record r can have a turn at place i
pub record Ready (s : Parts) (i : ℕ) (r : Place) : Type 0 where
  pub startable : Startable (held_at s i r) (slices_at s i r) (marks_at s i) r.running
  pub left : r.running.left ≤ r.budget
  pub spend : r.budget ≤ max_budget

-- place i shows with the record r the unended run x; its slices were lent as `before`
pub record Has (s : Parts) (i : ℕ) (r : Place) (x : Active) : Type 0 where
  pub name : x.newcomer.name ≡ r.name
  pub before : Slices
  pub shown : Shown (held_at s i r) r.budget before (slices_at s i r) (marks_at s i) r.running x

-- the places of a list show the runs of a queue, one each
abbrev pub InOrder : (ℕ → Active → Type 0) → List ℕ → List Active → Type 0
InOrder At [] [] = Unit {0}
InOrder At [] (x ∷ q) = ⊥
InOrder At (i ∷ is) [] = ⊥
InOrder At (i ∷ is) (x ∷ q) = At i x × InOrder At is q

-- no run
abbrev pub blank : Place
blank =
    record {
      name = 0;
      bytes = 0;
      capacity = 0;
      budget = 0;
      frame = record { script = 0; records = 0; vars = 0; places = 0 };
      running = record { memory = record { cursor = 0; level = 0; lines = 0; free = 0; used = 0 }; guards = record { low = 0; high = 0 }; at = 0; left = 0 };
    }

-- the record of a place
abbrev pub place_at : Pool → ℕ → Place
place_at p i = get_or p.places i blank

-- the pool and the slices show the queue of the rules
pub record Houses (p : Pool) (s : Parts) (q : List Active) : Type 0 where
  pub whole : Whole p.queue
  pub eight : length p.places ≡ max_runs
  pub sized : (i : ℕ) → i < max_runs → Sized (place_at p i)
  pub long : Long s
  pub lines : length s.lines ≡ area_size * max_runs
  pub runs : InOrder (λ i x. Has s i (place_at p i) x) (ordered p.queue) q

-- they show some queue
abbrev pub Housed : Pool → Parts → Type 0
Housed p s = (q : List Active) × Houses p s q

-- a newcomer can come
pub record Open (p : Pool) (s : Parts) : Type 0 where
  pub whole : Whole p.queue
  pub eight : length p.places ≡ max_runs
  pub long : Long s

-- the record of a run that stands elsewhere
abbrev pub with_running : Place → Running → Place
with_running r n = record { name = r.name; bytes = r.bytes; capacity = r.capacity; budget = r.budget; frame = r.frame; running = n }

-- the steps of an outcome
unfoldable pub steps_of : Outcome → ℕ
steps_of (Refused k i) = 0
steps_of (Finished s n) = s
steps_of (Stopped k i s n) = s

-- the reply that says what the rules' reply is, with the steps that a turn took
unfoldable pub told_reply : ℕ → Rounds.Reply → Reply
told_reply took (Rounds.joins g) = Joins
told_reply took (Rounds.answers g w) = Answers g.name took (told w)
told_reply took (Rounds.goes_on g) = GoesOn g.name took
told_reply took Rounds.idle = Idle

-- nothing changes, and a newcomer is turned back
abbrev pub refused : Pool → ℕ → ℕ → ℕ → After
refused p name k i = record { pool = p; reply = Answers name 0 (Refused k i) }

-- place i takes the run of the record r, which joins
pub record Joined (p : Pool) (i : ℕ) (r : Place) (a : After) : Type 0 where
  pub whole : Whole a.pool.queue
  pub order : ordered a.pool.queue ≡ at_back p.queue
  pub places : a.pool.places ≡ set p.places i r
  pub reply : a.reply ≡ Joins

-- the front, at place i, goes to the back with the record r
pub record Passed (p : Pool) (i : ℕ) (r : Place) (a : After) : Type 0 where
  pub whole : Whole a.pool.queue
  pub order : ordered a.pool.queue ≡ moved_back (ordered p.queue)
  pub places : a.pool.places ≡ set p.places i r
  pub reply : a.reply ≡ GoesOn r.name turn_steps

-- the front, with the record r, leaves with an outcome
pub record Left (p : Pool) (r : Place) (o : Outcome) (a : After) : Type 0 where
  pub whole : Whole a.pool.queue
  pub order : ordered a.pool.queue ≡ taken_off (ordered p.queue)
  pub free : first_free a.pool.queue ≡ front p.queue
  pub few : a.pool.queue.count < max_runs
  pub places : a.pool.places ≡ p.places
  pub reply : a.reply ≡ Answers r.name (steps_of o - (r.budget - r.running.left)) o

-- what a newcomer with a job, a budget, places and lines is to the rules
abbrev pub comer : ℕ → List ℕ → ℕ → ℕ → ℕ → Newcomer
comer name job budget places lines =
    record { name = name; job = job; budget = budget; lent = record { places = places; variables = max_variables; lines = lines } }

-- a newcomer: the reply and the queue are the rules'; only the parts of the first free place are written, and only where it joins
pub record Arrives (p : Pool) (s s' : Parts) (g : Newcomer) (a : After) : Type 0 where
  pub reply : (q : List Active) → Houses p s q → a.reply ≡ told_reply 0 (happen q (arrives g)).reply
  pub queue : (q : List Active) → Houses p s q → Houses a.pool s' (happen q (arrives g)).queue
  pub elsewhere : Elsewhere (first_free p.queue) s s'
  pub unread : (a.reply ≡ Joins → ⊥) → s' ≡ s

-- what the run x, which has ended in its turn, leaves in the parts of its place, which is the first free one then
pub record Ended (p : Pool) (s : Parts) (x : Active) : Type 0 where
  pub free : p.queue.count < max_runs
  pub before : Slices
  pub ran : Ran Tree (place_at p (first_free p.queue)).frame.vars (place_at p (first_free p.queue)).frame.places (as_lent before)
      (as_lent (slices_at s (first_free p.queue) (place_at p (first_free p.queue)))) (turn_of x)

-- a turn: the reply and the queue are the rules', and so is what a run that has ended leaves; only the parts of the front's place are written
pub record TakesTurns (p : Pool) (s s' : Parts) (a : After) : Type 0 where
  pub reply : (q : List Active) → Houses p s q → a.reply ≡ told_reply (turn_takes q) (happen q turn).reply
  pub queue : (q : List Active) → Houses p s q → Houses a.pool s' (happen q turn).queue
  pub ended : (x : Active) (q : List Active) → Houses p s (x ∷ q) → unended x ≡ false → Ended a.pool s' x
  pub elsewhere : Elsewhere (front p.queue) s s'

-- an answer can be looked up: a place is free, and what stands in it lies within its parts
pub record Shows (p : Pool) (w : Reply) : Type 0 where
  pub whole : Whole p.queue
  pub eight : length p.places ≡ max_runs
  pub sized : (i : ℕ) → i < max_runs → Sized (place_at p i)
  pub free : (name took : ℕ) (o : Outcome) → w ≡ Answers name took o → p.queue.count < max_runs
