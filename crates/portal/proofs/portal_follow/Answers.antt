-- The outcome keeps the promise of `follow_words`, and its number is handed back. Assumes nothing.
use Rattle.monitor.specs.Promises.{lent}
use Rattle.portal.proofs.Handed.{few_followed}
use Rattle.portal.proofs.portal_follow.Goals as goal

pub number-requires : goal.number-requires
number-requires c = few_followed {x = lent _ _ _ _} {x' = lent _ _ _ _} c.follow_words.ensures.0

pub returns : goal.returns
returns c = let p = c.follow_words.ensures in
    record { outcome = _; promise = p.0; number = c.number.ensures; behind = p.1 }
