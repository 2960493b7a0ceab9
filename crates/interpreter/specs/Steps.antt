-- What a step and a run promise. Assumes nothing.
use Rattle.std.specs.Prelude.{◌≡◌, true, cond, ℕ, suc, ◌+◌, ◌-◌, ◌*◌, ◌<◌, ◌≤◌, List, length, get_or, ltb}
use Rattle.rules.specs.Limits.{max_nodes, max_records}
use Rattle.rules.specs.Bytes.{record_place}
use Rattle.rules.specs.Blocks.{block_rule, goes_to}
use Rattle.rules.specs.Check.{record_rule}
use Rattle.rules.specs.Job.{script_of}
use Rattle.rules.specs.Script.{Command, number_at}
use Rattle.rules.specs.Run.{State, Buffers, stop_number, step, Ending, finished, stopped, Ended, run}
use Rattle.rules.proofs.Control.{Valid}
use Rattle.table.specs.Cells.{cell_size}
use Rattle.fields.specs.declared.records.Fields.{Fields}
use Rattle.fields.specs.Fields.{fields_of}
use Rattle.job.specs.Plan.{entry, plan_code, end_mark}
use Rattle.actions.specs.declared.control.Running.{Running}
use Rattle.actions.specs.declared.control.Stepped.{Stepped}
use Rattle.interpreter.specs.declared.step.Frame.{Frame}
use Rattle.actions.specs.Board.{capacity}
use Rattle.actions.specs.Shows.{Slices}
use Rattle.actions.specs.Marks.{marks_size}
use Rattle.actions.specs.Stands.{Stands, ended, stepped}
use Rattle.actions.specs.Acts.{Does, Kept}

-- what a run reads only: a job's bytes, where the script starts in them and how many records it has, its plan, and how many variables and places
-- there are
pub record Held : Type 0 where
  pub bytes : List ℕ
  pub base : ℕ
  pub records : ℕ
  pub plan : List ℕ
  pub vars : ℕ
  pub places : ℕ

-- the same by a job's bytes, the plan and a frame
abbrev pub held : List ℕ → List ℕ → Frame → Held
held b p f = record { bytes = b; base = f.script; records = f.records; plan = p; vars = f.vars; places = f.places }

-- the script that it holds
abbrev pub script_in : Held → List Command
script_in h = script_of h.bytes h.base h.records

-- the fields of record i
abbrev pub fields_at : Held → ℕ → Fields
fields_at h i = fields_of h.bytes (record_place h.base i)

-- the plan of a script: for each record what stands for its command and where it goes if not to the next, and the end mark behind the last
pub record Planned (bytes : List ℕ) (base n : ℕ) (plan : List ℕ) : Type 0 where
  pub each : (k : ℕ) → k < n → get_or plan k 0 ≡ entry (plan_code (number_at (script_of bytes base n)) k) (goes_to (number_at (script_of bytes base n)) n k)
  pub last : get_or plan n 0 ≡ end_mark

-- a script that has passed the checks 7 and 8, with its plan
pub record Script (h : Held) : Type 0 where
  pub inside : record_place h.base h.records ≤ length h.bytes
  pub few : h.records ≤ max_records
  pub fields : (i : ℕ) → i < h.records → record_rule h.bytes h.vars (record_place h.base i) ≡ true
  pub blocks : (i : ℕ) → i < suc h.records → block_rule (number_at (script_in h)) h.records i ≡ true
  pub long : h.records < length h.plan
  pub plan : Planned h.bytes h.base h.records h.plan

-- a running record that a step can go on from, over the slices x and the marks k
pub record Safe (h : Held) (x : Slices) (k : List ℕ) (r : Running) : Type 0 where
  pub long : cell_size * h.places ≤ length x.words
  pub few : h.places ≤ max_nodes
  pub levelled : h.vars ≤ length x.levels
  pub valued : h.vars ≤ length x.values
  pub cursor : r.memory.cursor < h.places
  pub room : 5 * r.memory.lines ≤ length x.board
  pub within : r.at ≤ h.records
  pub marks : marks_size ≤ length k

-- the caller's buffers as the rules count them
pub record Lent (h : Held) (x : Slices) (lent : Buffers) : Type 0 where
  pub places : lent.places ≡ h.places
  pub board : lent.lines ≡ capacity x.board

-- one step, from the slices x, the marks k and the record r to x', k' and the answer a, is the rules' step of every state that they stand for
pub record Steps (h : Held) (x x' : Slices) (k k' : List ℕ) (r : Running) (a : Stepped) : Type 0 where
  pub safe : Safe h x' k' a.running
  pub kept : Kept h.places h.vars x x' r.memory.lines a.running.memory.lines
  pub counted : a.stop ≡ 0 → a.running.left ≡ r.left - 1
  pub uncounted : (a.stop ≡ 0 → ⊥) → a.running.left ≡ r.left
  pub board : length x'.board ≡ length x.board
  pub steps : (lent : Buffers) (s : State) → Lent h x lent → Valid (script_in h) s → Stands h.places h.vars x k r s
      → Does (Stands h.places h.vars x' k' a.running) a.stop s (step lent (script_in h) s)

-- what comes of the record that is next: a step, or behind the last the script's end
pub record Carries (h : Held) (x x' : Slices) (k k' : List ℕ) (r : Running) (a : Stepped) : Type 0 where
  pub steps : r.at < h.records → Steps h x x' k k' r a
  pub ends : h.records ≤ r.at → (x' ≡ x) × (k' ≡ k) × (a ≡ stepped ended r)

-- how a run ends at a record, of n, that has made all its steps
unfoldable pub over_at : ℕ → ℕ → ℕ
over_at at n = cond (ltb at n) 25 ended

-- the number that a step hands back for an ending
unfoldable pub code_of : Ending → ℕ
code_of finished = ended
code_of (stopped k) = stop_number k

-- how a run has ended, in the rules' words: the steps that it has made, with those that are left, are `total`
pub record Ran (h : Held) (x' : Slices) (k' : List ℕ) (a : Stepped) (total : ℕ) (e : Ended) : Type 0 where
  pub ending : a.stop ≡ code_of e.ending
  pub last : Stands h.places h.vars x' k' a.running e.last
  pub steps : e.last.steps + a.running.left ≡ total

-- a whole run, with the steps that are left as its budget; it can be gone on with from where it stands
pub record Runs (h : Held) (x x' : Slices) (k k' : List ℕ) (r : Running) (a : Stepped) : Type 0 where
  pub safe : Safe h x' k' a.running
  pub early : a.running.left ≤ r.left
  pub kept : Kept h.places h.vars x x' r.memory.lines a.running.memory.lines
  pub runs : (lent : Buffers) (s : State) → Lent h x lent → Valid (script_in h) s → Stands h.places h.vars x k r s
      → Ran h x' k' a (s.steps + r.left) (run lent (script_in h) r.left s)

-- a state that x, k and r stand for, from which the rest of the run goes on
pub record Comes (h : Held) (lent : Buffers) (total : ℕ) (e : Ended) (x : Slices) (k : List ℕ) (r : Running) : Type 0 where
  pub s : State
  pub valid : Valid (script_in h) s
  pub stands : Stands h.places h.vars x k r s
  pub steps : s.steps + r.left ≡ total
  pub rest : e ≡ run lent (script_in h) r.left s

-- how far a run has come that began with x₀, k₀ and r₀
pub record Reached (h : Held) (x₀ : Slices) (k₀ : List ℕ) (r₀ : Running) (x : Slices) (k : List ℕ) (r : Running) : Type 0 where
  pub safe : Safe h x k r
  pub early : r.left ≤ r₀.left
  pub kept : Kept h.places h.vars x₀ x r₀.memory.lines r.memory.lines
  pub board : length x.board ≡ length x₀.board
  pub comes : (lent : Buffers) (s : State) → Lent h x₀ lent → Valid (script_in h) s → Stands h.places h.vars x₀ k₀ r₀ s
      → Comes h lent (s.steps + r₀.left) (run lent (script_in h) r₀.left s) x k r

-- a running record from which a script can go on, over the slices x and the marks k
pub record Startable (h : Held) (x : Slices) (k : List ℕ) (r : Running) : Type 0 where
  pub script : Script h
  pub safe : Safe h x k r

-- one step of a run: it goes on with one step less, or has ended
pub record Turns (h : Held) (x x' : Slices) (k k' : List ℕ) (r : Running) (a : Stepped) : Type 0 where
  pub goes : a.stop ≡ 0 → Reached h x k r x' k' a.running
  pub later : a.stop ≡ 0 → a.running.left < r.left
  pub ends : (a.stop ≡ 0 → ⊥) → Runs h x x' k k' r a
