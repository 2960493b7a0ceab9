-- What calls have written: the job of the store that was lent, so the same job for the same store, and for every reader jobs that are alike where what was
-- lent agrees. From the rules' laws of what is written. Assumes nothing.
use Rattle.std.specs.Prelude.{Ok, Err}
use mathlib.Core.Path.{◌≡◌, refl, sym, ap, subst, ◌∙◌}
use mathlib.Core.Bool.{true}
use mathlib.Core.List.{List}
use Prim.Native.Nat.{ℕ, ◌+◌}
use native.Mathlib.Omega.{arith}
use lib.ListN.{length, take, drop}
use lib.Seq.{take_at, drop_at}
use Rattle.rules.specs.Limits.{trailer_size}
use Rattle.rules.specs.Level.{Level, public}
use Rattle.rules.specs.Tree.{Forest, Place}
use Rattle.rules.specs.History.{Store, store_rule}
use Rattle.rules.specs.Check.{Checked, accepted, refused}
use Rattle.rules.specs.Write.{written, written_size, Ranged}
use Rattle.rules.proofs.Written.{write_refused, write_accepted, writer_right, ruled}
use Rattle.lent.proofs.Resuming.{stands_one}
use Rattle.monitor.specs.Promises.{Lent, places_in, Tree}
use Rattle.monitor.specs.Follow.{HoldsStore, StandsIn}
use Rattle.monitor.specs.Histories.{AgreeLent}
use Rattle.monitor.proofs.Histories.{one_store}
use Rattle.writer.specs.Writes.{answer, WritesBack, over, none}
use Rattle.writer.specs.Secrecy.{WritesJob, AreaKept, SameJobs, SecretWrites}

-- the bytes that a call wrote
record Wrote (s : Store) (b : List ℕ) : Type 0 where
  pub bytes : b ≡ written s
  pub good : store_rule s ≡ true
  pub fits : Ranged s

-- what an answer says of the checks
pub is_length : (s : Store) (c : Checked) (n : ℕ) → answer s c ≡ Ok n → (c ≡ accepted) × (n ≡ written_size s + trailer_size)
unfolding answer
is_length s accepted n e = (refl, cc)
is_length s (refused k i) n e = let z : ◌≡◌ {A = ℕ} 0 1 = cc in absurd (omega arith)

pub is_number : (s : Store) (c : Checked) (k : ℕ) → answer s c ≡ Err k → (i : ℕ) × (c ≡ refused k i)
unfolding answer
is_number s accepted k e = let z : ◌≡◌ {A = ℕ} 0 1 = cc in absurd (omega arith)
is_number s (refused m i) k e = (i, cc)

-- for every kind of node table in which at most one tree stands
module _ {T : Type 0} (places : T → ℕ) (HoldsTree : T → ℕ → Forest → Place → Type 0) (Standing : T → Forest → Type 0)
    (one : (table : T) (t u : Forest) → Standing table t → Standing table u → t ≡ u) where
  wrote : (x : Lent T) (a : List ℕ) (n : ℕ) → WritesBack places Standing x a (Ok n) → (s : Store) × HoldsStore Standing x s × Wrote s (take n a)
  wrote x a n (over s h e f g) =
      let (c, all) = is_length s _ n (sym e) in
      let w = write_accepted s (places x.table) x.board c in
      let good = ruled s (places x.table) (length x.board) c in
      let long = (writer_right.writes s good (g c)).long in
      (s, h, record { bytes = ap (take n) (f ∙ w.1) ∙ take_at (written s) _ n (long ∙ sym all); good = good; fits = g c })
  wrote x a n (none g e f) = let z : ◌≡◌ {A = ℕ} 0 1 = cc in absurd (omega arith)

  -- of the store that is held, whichever way it was told
  wrote_of : (x : Lent T) (a : List ℕ) (n : ℕ) → WritesBack places Standing x a (Ok n) → (s : Store) → HoldsStore Standing x s → Wrote s (take n a)
  wrote_of x a n p s h =
      let w = wrote x a n p in
      subst (λ (v : Store). Wrote v (take n a)) (one_store places HoldsTree Standing one public x w.0 s w.1 h) w.2

  pub writes_job_of : WritesJob places HoldsTree Standing
  unfolding WritesJob
  writes_job_of x a n p s h =
      let w = wrote_of x a n p s h in
      let j = writer_right.writes s w.good w.fits in
      rw w.bytes (record { taken = j.taken; variables = j.variables; tree = j.tree; script = j.script })

  pub area_kept_of : AreaKept places HoldsTree Standing
  unfolding AreaKept
  area_kept_of x a n = (away, beyond)
    where
      away : WritesBack places Standing x a (Err n) → a ≡ x.board
      away (over s h e f g) = f ∙ (write_refused s (places x.table) x.board n _ (is_number s _ n (sym e)).1).1
      away (none g e f) = f

      beyond : WritesBack places Standing x a (Ok n) → drop n a ≡ drop n x.board
      beyond (over s h e f g) =
          let (c, all) = is_length s _ n (sym e) in
          let w = write_accepted s (places x.table) x.board c in
          let long = (writer_right.writes s (ruled s (places x.table) (length x.board) c) (g c)).long in
          ap (drop n) (f ∙ w.1) ∙ drop_at (written s) _ n (long ∙ sym all) ∙ ap (λ k. drop k x.board) (sym all)
      beyond (none g e f) = let z : ◌≡◌ {A = ℕ} 0 1 = cc in absurd (omega arith)

  pub same_jobs_of : SameJobs places HoldsTree Standing
  unfolding SameJobs
  same_jobs_of x y a b n m p q s h k = (wrote_of x a n p s h).bytes ∙ sym (wrote_of y b m q s k).bytes

  pub secret_writes_of : (o : Level) → SecretWrites places HoldsTree Standing o
  unfolding SecretWrites AgreeLent
  secret_writes_of o x y a b n m p q agree =
      let u = wrote x a n p in
      let v = wrote y b m q in
      rw (u.2.bytes, v.2.bytes) (writer_right.alike o u.0 v.0 u.2.good u.2.fits v.2.good v.2.fits (agree u.0 v.0 u.1 v.1))

-- over words
one_tree : (table : List ℕ) (t u : Forest) → StandsIn table t → StandsIn table u → t ≡ u
one_tree table t u h k = stands_one (omega arith) h k

pub writes_job : WritesJob places_in Tree StandsIn
writes_job = writes_job_of places_in Tree StandsIn one_tree

pub area_kept : AreaKept places_in Tree StandsIn
area_kept = area_kept_of places_in Tree StandsIn one_tree

pub same_jobs : SameJobs places_in Tree StandsIn
same_jobs = same_jobs_of places_in Tree StandsIn one_tree

pub secret_writes : (o : Level) → SecretWrites places_in Tree StandsIn o
secret_writes = secret_writes_of places_in Tree StandsIn one_tree
