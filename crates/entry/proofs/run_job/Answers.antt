-- There are words for as many places as there are records; those that the run fills are copied out. Assumes nothing.
use Rattle.std.proofs.Common.{length, arith, ◌∙◌}
use lib.ListN.{length-replicate}
use Prim.Native.Nat.{ℕ}
use Rattle.monitor.specs.Promises as Words
use Rattle.monitor.specs.Promises.{lent, places_for}
use Rattle.monitor.proofs.Answered.{recount, all_places}
use Rattle.entry.proofs.Runs.{store_asks, promised}
use Rattle.entry.proofs.Numbers.{word_count}
use Rattle.entry.proofs.run_job.Goals as goal

pub store-requires : goal.store-requires
store-requires c =
    let n = length c.args.table.now in
    let ran = recount Words.Tree (λ w. places_for n (length w)) (λ _. n) c.args.job.now c.args.budget _ _ c.run_places-outcome.result (all_places n word_count (omega arith)) c.run_places-outcome.ensures.0 in
    store_asks c.args.table.now (lent _ _ _ _) (lent _ _ _ _) c.run_places-outcome.result c.kept-filled.result c.kept-filled.ensures _ _ ran.outcome ran.leaves
    (c.run_places-outcome.auto.words ∙ length-replicate {A = ℕ} word_count 0)

pub returns : goal.returns
returns c =
    let n = length c.args.table.now in
    let ran = recount Words.Tree (λ w. places_for n (length w)) (λ _. n) c.args.job.now c.args.budget _ _ c.run_places-outcome.result (all_places n word_count (omega arith)) c.run_places-outcome.ensures.0 in
    promised c.args.table.now (lent _ _ _ _) (lent _ _ _ _) c.run_places-outcome.result c.kept-filled.result c.kept-filled.ensures c.store.new.table c.store.ensures _ _ ran
