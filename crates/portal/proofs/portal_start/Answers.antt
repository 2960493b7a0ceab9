-- The outcome keeps the promise of `run_words`, and its number is handed back. Assumes nothing.
use Rattle.monitor.specs.Promises.{lent}
use Rattle.portal.proofs.Handed.{few_started}
use Rattle.portal.proofs.portal_start.Goals as goal

pub number-requires : goal.number-requires
number-requires c = few_started {x = lent _ _ _ _} {x' = lent _ _ _ _} c.run_words.ensures.0

pub returns : goal.returns
returns c = let p = c.run_words.ensures in
    record { outcome = _; promise = p.0; number = c.number.ensures; behind = p.1 }
