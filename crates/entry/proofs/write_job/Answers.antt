-- The records are asked for a tree and copied into words, and what these hold is written. Assumes nothing.
use Rattle.std.proofs.Common.{◌∙◌, ℕ, replicate}
use lib.ListN.{length-replicate}
use Rattle.rules.specs.Limits.{max_nodes}
use Rattle.entry.proofs.Following.{unmarked, run_asks}
use Rattle.entry.proofs.Written.{written_back}
use Rattle.entry.proofs.Numbers.{word_count}
use Rattle.entry.proofs.write_job.Goals as goal

pub held-stands-requires : goal.held-stands-requires
held-stands-requires c = unmarked

pub write_places-requires : goal.write_places-requires
write_places-requires c =
    run_asks c.args.table.now c.min.result c.min.ensures (replicate word_count 0) c.load.new.words (length-replicate {A = ℕ} word_count 0) c.load.ensures
    c.held-stands.ensures (c.held-stands.auto.marks ∙ length-replicate {A = ℕ} max_nodes 0)

pub returns : goal.returns
returns c =
    written_back c.args.table.now c.min.result c.min.ensures (replicate word_count 0) c.load.new.words (length-replicate {A = ℕ} word_count 0) c.load.ensures
    c.held-stands.ensures c.args.levels.now _ c.args.area.now c.write_places.ensures
