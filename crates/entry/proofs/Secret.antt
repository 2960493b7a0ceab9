-- Demand 3 of the run over lent node records, the secrecy rule for histories of calls over them, and what a larger budget changes: what every promise of a run
-- gives, since in records there is at most one tree. Assumes nothing.
use native.Mathlib.Omega.{arith}
use lib.ListN.{length}
use Rattle.rules.specs.Level.{Level}
use Rattle.lent.proofs.Resuming.{stands_one, held_one}
use Rattle.table.proofs.Unique.{one_tree}
use Rattle.monitor.specs.Histories.{SecretHistories, SecretJobHistories}
use Rattle.monitor.specs.Secrecy.{SecretCalls}
use Rattle.monitor.specs.Budgets.{BudgetCalls, BudgetHistories}
use Rattle.monitor.proofs.Histories.{secret_histories_of}
use Rattle.monitor.proofs.JobHistories.{secret_job_histories_of}
use Rattle.monitor.proofs.Secret.{secret_of}
use Rattle.monitor.proofs.Budgets.{budget_calls_of, budget_histories_of}
use Rattle.writer.specs.Secrecy.{WritesJob, AreaKept, SameJobs, SecretWrites}
use Rattle.writer.proofs.Secret.{writes_job_of, area_kept_of, same_jobs_of, secret_writes_of}
use Rattle.entry.specs.Promises.{Tree}
use Rattle.entry.specs.Records.{StandsIn}

pub secret_calls : (o : Level) → SecretCalls length Tree o
secret_calls o = secret_of length Tree (λ w k m t u p q h g. one_tree h.holds g.holds) o

pub secret_histories : (o : Level) → SecretHistories length Tree StandsIn o
secret_histories o = secret_histories_of length Tree StandsIn (λ w t u h k. stands_one (omega arith) h k) o

pub secret_job_histories : (o : Level) → SecretJobHistories length Tree StandsIn o
secret_job_histories o =
    secret_job_histories_of length Tree StandsIn (λ w k m t u p q h g. one_tree h.holds g.holds) (λ w t u h k. stands_one (omega arith) h k)
    (λ w k t u p h s. held_one (omega arith) h.holds s) o

-- R-14
pub budget_calls : BudgetCalls length Tree
budget_calls = budget_calls_of length Tree (λ w k m t u p q h g. one_tree h.holds g.holds)

pub budget_histories : BudgetHistories length Tree StandsIn
budget_histories = budget_histories_of length Tree StandsIn (λ w t u h k. stands_one (omega arith) h k)

-- what a call of `write_job` has written, and what two of them show
pub writes_job : WritesJob length Tree StandsIn
writes_job = writes_job_of length Tree StandsIn (λ w t u h k. stands_one (omega arith) h k)

pub area_kept : AreaKept length Tree StandsIn
area_kept = area_kept_of length Tree StandsIn (λ w t u h k. stands_one (omega arith) h k)

pub same_jobs : SameJobs length Tree StandsIn
same_jobs = same_jobs_of length Tree StandsIn (λ w t u h k. stands_one (omega arith) h k)

pub secret_writes : (o : Level) → SecretWrites length Tree StandsIn o
secret_writes = secret_writes_of length Tree StandsIn (λ w t u h k. stands_one (omega arith) h k)
