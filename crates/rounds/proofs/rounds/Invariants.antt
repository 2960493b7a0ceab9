use Rattle.turns.specs.Pool.{parts, Housed}
use Rattle.rounds.proofs.rounds.Given as goal

abbrev pub invariant-loop-k : goal.invariant-loop-k
invariant-loop-k l = Housed l.p (parts l.jobs l.plans l.levels l.words l.values l.lines l.marks)
