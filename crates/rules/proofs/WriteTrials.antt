-- Writing back by computation: a store whose nodes were scattered comes out as a job without a script, and each way to be turned away. Assumes nothing.
use mathlib.Core.Path.{◌≡◌, refl}
use Prim.Native.Nat.{ℕ}
use mathlib.Core.List.{List, [], ◌∷◌}
use lib.IntN.{pos, negsuc}
use Rattle.rules.specs.Limits.{no_parent}
use Rattle.rules.specs.Job.{variables, job_tree}
use Rattle.rules.specs.Tree.{nil}
use Rattle.rules.specs.History.{Store}
use Rattle.rules.specs.Write.{node, written, write_answer, left_written}
use Rattle.rules.specs.Trials.{job, pair}
use Rattle.rules.proofs.Computed.{computed}
use Rattle.rules.proofs.ArrangeTrials.{with_nodes, scattering, scattered}

-- what the scattered job holds
pub held : Store
held = record { variables = variables scattered; tree = job_tree scattered }

-- its nodes in their order, and no script
pub alone : List ℕ
alone =
    job (pair (pos 5))
    (node no_parent 0 0 1 (pos 10) ∷ node 0 0 0 0 (pos 1) ∷ node 1 0 0 0 (pos 3) ∷ node 0 1 1 1 (negsuc 0) ∷ node 3 1 1 1 (pos 4) ∷ []) []

pub held_written : written held ≡ alone
unfolding computed with_nodes scattering scattered held alone
held_written = refl

-- "The answer is the job's length, or the number.": 11 before 10, 10 before 14
pub answers : List ℕ
answers =
    write_answer held 512 84
    ∷ write_answer held 512 83
    ∷ write_answer held 513 83
    ∷ write_answer (record { variables = []; tree = nil }) 513 83
    ∷ []

pub answers_are : answers ≡ 84 ∷ 14 ∷ 10 ∷ 11 ∷ []
unfolding computed with_nodes scattering scattered held answers
answers_are = refl

-- an area that is too short stays
pub too_short : left_written held 512 (1 ∷ 2 ∷ []) ≡ 1 ∷ 2 ∷ []
unfolding computed with_nodes scattering scattered held
too_short = refl
