-- The records are asked for a tree and copied into words, the script is run over these, and those that it fills are copied out. Assumes nothing.
use Rattle.std.proofs.Common.{◌∙◌, ℕ, replicate}
use lib.ListN.{length-replicate}
use Rattle.rules.specs.Limits.{max_nodes}
use Rattle.entry.proofs.Following.{unmarked, run_asks, store_asks, followed}
use Rattle.entry.proofs.Numbers.{word_count}
use Rattle.entry.proofs.follow_job.Goals as goal

pub held-stands-requires : goal.held-stands-requires
held-stands-requires c = unmarked

pub follow_places-outcome-requires : goal.follow_places-outcome-requires
follow_places-outcome-requires c =
    run_asks c.args.table.now c.min.result c.min.ensures (replicate word_count 0) c.load.new.words (length-replicate {A = ℕ} word_count 0) c.load.ensures
    c.held-stands.ensures (c.held-stands.auto.marks ∙ length-replicate {A = ℕ} max_nodes 0)

pub store-requires : goal.store-requires
store-requires c =
    store_asks c.args.table.now c.min.result c.min.ensures (replicate word_count 0) c.load.new.words (length-replicate {A = ℕ} word_count 0) c.load.ensures
    c.held-stands.ensures c.args.section.now c.args.budget c.args.levels.now _ _ _ _ _ c.follow_places-outcome.result c.kept-filled.result c.kept-filled.ensures
    c.follow_places-outcome.ensures (c.follow_places-outcome.auto.words ∙ (c.load.auto.words ∙ length-replicate {A = ℕ} word_count 0))

pub returns : goal.returns
returns c =
    followed c.args.table.now c.min.result c.min.ensures (replicate word_count 0) c.load.new.words (length-replicate {A = ℕ} word_count 0) c.load.ensures
    c.held-stands.ensures c.args.section.now c.args.budget c.args.levels.now _ _ _ _ _ c.follow_places-outcome.result c.kept-filled.result c.kept-filled.ensures
    c.follow_places-outcome.ensures c.store.new.table c.store.ensures
