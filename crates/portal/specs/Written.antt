-- What a call of portal_write hands back, what it leaves in the area, and what two of them keep from a reader, in what C sees: the number, and the bytes of
-- the area. Assumes nothing.
use Rattle.std.specs.Prelude.{◌≡◌, List, ℕ, ◌<◌, ◌≤◌, length, take, drop, Result, Ok, Err}
use Rattle.rules.specs.Limits.{bad_follow_on, bad_area}
use Rattle.rules.specs.Level.{Level}
use Rattle.rules.specs.Public.{Alike}
use Rattle.rules.specs.History.{Store}
use Rattle.rules.specs.Write.{write_answer}
use Rattle.monitor.specs.Promises.{places_in, Tree}
use Rattle.monitor.specs.Follow.{HoldsStore, StandsIn}
use Rattle.monitor.specs.Histories.{AgreeLent}
use Rattle.writer.specs.Writes.{WritesBack}
use Rattle.writer.specs.Secrecy.{JobOf}
use Rattle.portal.specs.Standing.{Words}

-- an answer as one number: the job's length, or the number
abbrev pub number_in : Result ℕ ℕ → ℕ
number_in (Ok n) = n
number_in (Err k) = k

-- portal_write hands back the answer of one that keeps the promise of writing back, over a table of words; the area stands where a run has its lines
pub record WrittenBack (x : Words) (area' : List ℕ) (n : ℕ) : Type 0 where
  pub answer : Result ℕ ℕ
  pub promise : WritesBack places_in StandsIn x area' answer
  pub number : n ≡ number_in answer

-- the job that a call wrote: as many bytes of the area as its number says
abbrev pub job_in : ℕ → List ℕ → List ℕ
job_in n area = take n area

-- "The answer is the job's length, or the number.": that of the rules for the store that is lent, and 11 where none is
unfoldable pub PortalWriteAnswer : Type 0
PortalWriteAnswer =
    (x : Words) (a : List ℕ) (n : ℕ) → WrittenBack x a n
    → ((s : Store) → HoldsStore StandsIn x s → n ≡ write_answer s (places_in x.table) (length x.board))
    × (((s : Store) → HoldsStore StandsIn x s → ⊥) → n ≡ bad_follow_on)

-- a call of portal_write that keeps the contract and hands back a length: so many bytes of the area are the job of the store that is lent
unfoldable pub PortalWritesJob : Type 0
PortalWritesJob = (x : Words) (a : List ℕ) (n : ℕ) → WrittenBack x a n → bad_area < n → (s : Store) → HoldsStore StandsIn x s → JobOf s (job_in n a)

-- "all three leave the area untouched"; "Bytes of the area beyond the job are untouched."
unfoldable pub PortalAreaKept : Type 0
PortalAreaKept = (x : Words) (a : List ℕ) (n : ℕ) → WrittenBack x a n → (n ≤ bad_area → a ≡ x.board) × (bad_area < n → drop n a ≡ drop n x.board)

-- "Two states with the same variables and the same tree give the same bytes, however their places are filled."
unfoldable pub PortalSameJobs : Type 0
PortalSameJobs =
    (x y : Words) (a b : List ℕ) (n m : ℕ) → WrittenBack x a n → WrittenBack y b m → bad_area < n → bad_area < m
    → (s : Store) → HoldsStore StandsIn x s → HoldsStore StandsIn y s → job_in n a ≡ job_in m b

-- two calls of portal_write that keep the contract, over what agrees for o, and that hand back a length: o sees the same in both jobs
unfoldable pub SecretPortalWrites : Level → Type 0
SecretPortalWrites o =
    (x y : Words) (a b : List ℕ) (n m : ℕ) → WrittenBack x a n → WrittenBack y b m → bad_area < n → bad_area < m → AgreeLent places_in Tree StandsIn o x y
    → Alike o (job_in n a) (job_in m b)
