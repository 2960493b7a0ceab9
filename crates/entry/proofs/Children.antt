-- Over lent node records, too, each live node's record has the number of its children: after every call, and in all that stands. Assumes nothing.
use native.Mathlib.Omega.{arith}
use lib.ListN.{length}
use Rattle.lent.specs.Lent.{nodes_table}
use Rattle.lent.proofs.Children.{holds_counts, stands_counts, wrong_stands}
use Rattle.lent.proofs.Resuming.{stands_one}
use Rattle.monitor.specs.Children.{CountsKept}
use Rattle.monitor.proofs.Children.{counts_kept_of}
use Rattle.entry.specs.Promises.{Tree}
use Rattle.entry.specs.Records.{StandsIn}

pub counts_kept : CountsKept length Tree StandsIn nodes_table
counts_kept =
    counts_kept_of length Tree StandsIn nodes_table (λ w t u h k. stands_one (omega arith) h k) (λ w k t p h. holds_counts h.holds)
    (λ w t h. stands_counts h) (λ w t c h. wrong_stands (omega arith) c h)
