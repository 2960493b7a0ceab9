-- R-4: what the cleaner makes of a job: its bytes with those that nobody reads set to zero, and the report of what was changed. Assumes nothing.
use Rattle.std.specs.Prelude.{◌≡◌, ◌⊎◌, ℕ, zero, suc, ◌-◌, ◌/◌, ◌%◌, ◌<◌, Bool, true, false, ◌||◌, not, cond, length, get_or, ltb, eqb}
use mathlib.Core.List.{List, [], ◌∷◌, Memᴰ}
use Rattle.rules.specs.Limits.{trailer_size, variable_size, node_size, record_size}
use Rattle.rules.specs.Bytes.{byte, nodes_at, script_at, trailer_at, record_place}
use Rattle.rules.specs.Check.{accepted, refused, variable_reads, node_reads, record_reads, first, clean, check_bytes_by}
use Rattle.rules.specs.Job.{listed}
use Rattle.rules.specs.Run.{Buffers}
use Rattle.rules.specs.Outcome.{run_job_by}

-- where a byte stands: "section, record, byte"; "section 0 for variables, 1 nodes, 2 script", and 3 is the trailer
pub record Spot : Type 0 where
  pub section : ℕ
  pub index : ℕ
  pub byte : ℕ

-- the spot of the byte at a place, in a section of records of a size from base on
unfoldable pub spot_in : ℕ → ℕ → ℕ → ℕ → Spot
spot_in section base size at = record { section = section; index = (at - base) / size; byte = (at - base) % size }

-- the spot of the byte at a place
unfoldable pub spot_of : List ℕ → ℕ → Spot
spot_of b at =
    cond (ltb at (nodes_at b)) (spot_in 0 0 variable_size at)
    (cond (ltb at (script_at b)) (spot_in 1 (nodes_at b) node_size at)
    (cond (ltb at (trailer_at b)) (spot_in 2 (script_at b) record_size at) (spot_in 3 (trailer_at b) trailer_size at)))

-- which bytes of the record at a spot are read, by the rules that the cleaner keeps; those of the trailer are
unfoldable pub reads_at : List ℕ → Spot → List Bool
reads_at b s = get_or (variable_reads ∷ node_reads ∷ record_reads b (record_place (script_at b) s.index) false ∷ []) s.section []

-- the byte at a place is read
unfoldable pub is_read : List ℕ → ℕ → Bool
is_read b at = get_or (reads_at b (spot_of b at)) (spot_of b at).byte true

-- "sets those bytes to zero"
unfoldable pub clean_byte : List ℕ → ℕ → ℕ
clean_byte b at = cond (is_read b at) (byte b at) 0

-- the cleaned bytes of a job
unfoldable pub cleaned : List ℕ → List ℕ
cleaned b = listed (clean_byte b) (length b) 0

-- "each change as section, record, byte and old number"
pub record Change : Type 0 where
  pub spot : Spot
  pub old : ℕ

-- the change of the byte at a place
unfoldable pub change_at : List ℕ → ℕ → Change
change_at b at = record { spot = spot_of b at; old = byte b at }

-- the byte at a place is to be changed: it is spare and not zero
unfoldable pub is_dirty : List ℕ → ℕ → Bool
is_dirty b at = not (is_read b at || eqb (byte b at) 0)

-- the changes among the n bytes from a place on
unfoldable pub changes : List ℕ → ℕ → ℕ → List Change
changes b zero at = []
changes b (suc n) at = cond (is_dirty b at) (change_at b at ∷ changes b n (suc at)) (changes b n (suc at))

-- the report of a job
unfoldable pub report : List ℕ → List Change
report b = changes b (length b) 0

-- the bytes that the cleaner leaves: "A job that the old rules turn back .. is not cleaned"
unfoldable pub left_clean : List ℕ → List ℕ
left_clean b = elim (check_bytes_by first b) [ accepted ↦ cleaned b | refused k i ↦ b ]

-- one spot stands before another
unfoldable pub Before : Spot → Spot → Type 0
Before s t =
    (s.section < t.section)
    ⊎ (s.section ≡ t.section) × ((s.index < t.index) ⊎ (s.index ≡ t.index) × (s.byte < t.byte))

-- "in rising order": each change stands before all that follow it
abbrev pub Rising : List Change → Type 0
Rising [] = Unit {0}
Rising (c ∷ cs) = ((d : Change) → Memᴰ d cs → Before c.spot d.spot) × Rising cs

-- of a job that the old rules accept: the new ones accept the cleaned job, it "runs exactly as the old one did", whatever budget and buffers, and the report has
-- all that changed, nothing else, in rising order
pub record Cleans (b : List ℕ) : Type 0 where
  pub taken : check_bytes_by clean (cleaned b) ≡ accepted
  pub runs : (budget : ℕ) (lent : Buffers) → run_job_by clean (cleaned b) budget lent ≡ run_job_by first b budget lent
  pub every : (at : ℕ) → (byte (cleaned b) at ≡ byte b at → ⊥) → Memᴰ (change_at b at) (report b)
  pub only : (c : Change) → Memᴰ c (report b) → (at : ℕ) × ((c ≡ change_at b at) × ((byte b at ≡ 0 → ⊥) × (byte (cleaned b) at ≡ 0)))
  pub rising : Rising (report b)

-- "A job already clean comes out the same with an empty report."
pub record StaysClean (b : List ℕ) : Type 0 where
  pub bytes : cleaned b ≡ b
  pub report : report b ≡ []

-- what the cleaner is for
pub record CleanerRight : Type 0 where
  pub cleans : (b : List ℕ) → check_bytes_by first b ≡ accepted → Cleans b
  pub stays : (b : List ℕ) → check_bytes_by clean b ≡ accepted → StaysClean b
