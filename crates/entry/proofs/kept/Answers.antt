-- `kept` meets its contract: in each arm the definition computes. Assumes nothing.
use Rattle.std.proofs.Common.{ap, sym, inl, inr, rules}
use Rattle.entry.specs.Promises.{kept_of}
use Rattle.entry.proofs.kept.Goals as goal

pub returns-in-Refused : goal.returns-in-Refused
unfolding kept_of
returns-in-Refused c = search rules

pub returns-in-Finished : goal.returns-in-Finished
unfolding kept_of
returns-in-Finished c =
    elim c.in-Finished.is [
      | inl w ↦ sym (ap (λ o. kept_of o c.args.n) w.2)
      | inr w ↦ sym (ap (λ o. kept_of o c.args.n) w.4)
    ]
