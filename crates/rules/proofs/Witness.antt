-- The secrecy theorem is about something: two jobs with other house values, one with a house node that the other lacks, meet all that it
-- asks, both finish, and the board has two lines; and two jobs of three parties, whose boards differ and look the same to the first party and to a reader of the first and
-- the third. By computation; the trees agree as their cuts are equal. Assumes nothing.
use mathlib.Core.Path.{◌≡◌, refl}
use Prim.Native.Nat.{ℕ}
use mathlib.Core.List.{List, [], ◌∷◌, map}
use lib.IntN.{ℤ, pos}
use Rattle.rules.specs.Limits.{no_parent}
use Rattle.rules.specs.Level.{public, secret}
use Rattle.rules.specs.Check.{accepted}
use Rattle.rules.specs.Job.{job_tree}
use Rattle.rules.specs.Outcome.{check_job, run_job, answer, board_lines}
use Rattle.rules.specs.Public.{Alike, seen_lines}
use Rattle.rules.specs.Write.{variable, node}
use Rattle.rules.specs.Trials.{job, pair, one, both, bare, v, number, value, with_places}
use Rattle.rules.proofs.Computed.{computed}
use Rattle.rules.proofs.Cut
use Rattle.rules.proofs.Seen.{line}
use Rattle.rules.proofs.ByPlace.{places_agree}
use Rattle.rules.proofs.Noninterference.{loads, bytes_accepted}

-- print value; if v1, v1 := 7, end; first child; print value
unfoldable pub script : List (List ℕ)
script = one 6 0 value ∷ one 2 0 (v 1) ∷ one 1 1 (number (pos 7)) ∷ bare 5 ∷ bare 9 ∷ one 6 0 value ∷ []

-- v1 is 5, and there is a house node
unfoldable pub left : List ℕ
left =
    job (pair (pos 5))
    (node no_parent public public secret (pos 10) ∷ node 0 public public public (pos 3) ∷ node 0 secret secret secret (pos 99) ∷ []) script

-- v1 is 0, and there is none
unfoldable pub right : List ℕ
right = job (pair (pos 0)) (node no_parent public public secret (pos 10) ∷ node 0 public public public (pos 3) ∷ []) script

pub left_accepted : check_job left 100 (with_places 512) ≡ accepted
unfolding computed Cut.mask Cut.cut_label Cut.cut script left right
left_accepted = refl

pub right_accepted : check_job right 50 (with_places 2) ≡ accepted
unfolding computed Cut.mask Cut.cut_label Cut.cut script left right
right_accepted = refl

pub alike : Alike public left right
unfolding computed Cut.mask Cut.cut_label Cut.cut script left right
alike =
    record {
      script = refl;
      parts =
          record {
            variables = refl;
            trees =
                places_agree public (job_tree left) (job_tree right)
                (loads left (bytes_accepted left 100 (with_places 512) left_accepted)).kept.tree
                (loads right (bytes_accepted right 50 (with_places 2) right_accepted)).kept.tree refl;
          };
    }

-- both finish, after different numbers of steps, with the lines 10 and 3
pub both_finish :
    (answer (run_job left 100 (with_places 512)) ≡ record { ending = 0; index = 0; steps = 6; lines = 2 })
    × (answer (run_job right 50 (with_places 2)) ≡ record { ending = 0; index = 0; steps = 5; lines = 2 })
unfolding computed Cut.mask Cut.cut_label Cut.cut script left right
both_finish = (refl, refl)

pub same_lines :
    (board_lines (run_job left 100 (with_places 512)) ≡ line (pos 10) public ∷ line (pos 3) public ∷ [])
    × (board_lines (run_job right 50 (with_places 2)) ≡ line (pos 10) public ∷ line (pos 3) public ∷ [])
unfolding computed Cut.mask Cut.cut_label Cut.cut script left right
same_lines = (refl, refl)

-- three parties, 1, 2 and 4, of whom the second has 7 or 8, and a node: print v1 for the first; if v2 is 7, print v2 for the second, end; print v3 for the first and the
-- third; print v1 for all three
unfoldable pub three : ℤ → List (List ℕ) → List ℕ
three h below =
    job (variable 1 (pos 5) ∷ variable 2 h ∷ variable 4 (pos 9) ∷ []) (node no_parent public public 2 (pos 10) ∷ below)
    (one 6 1 (v 0) ∷ both 2 0 3 (v 1) (number (pos 7)) ∷ one 6 2 (v 1) ∷ bare 5 ∷ one 6 5 (v 2) ∷ one 6 7 (v 0) ∷ [])

unfoldable pub one_way : List ℕ
one_way = three (pos 7) (node 0 2 2 2 (pos 1) ∷ [])

unfoldable pub other_way : List ℕ
other_way = three (pos 8) []

pub three_accepted : (check_job one_way 100 (with_places 2) ≡ accepted) × (check_job other_way 100 (with_places 1) ≡ accepted)
unfolding computed three one_way other_way
three_accepted = (refl, refl)

-- alike to every reader who does not see the second party: to the first, and to one who sees the first and the third
pub three_alike : Alike 1 one_way other_way × Alike 5 one_way other_way
unfolding computed Cut.mask Cut.cut_label Cut.cut three one_way other_way
three_alike =
    let x = (loads one_way (bytes_accepted one_way 100 (with_places 2) three_accepted.0)).kept.tree in
    let y = (loads other_way (bytes_accepted other_way 100 (with_places 1) three_accepted.1)).kept.tree in (
      record { script = refl; parts = record { variables = refl; trees = places_agree 1 (job_tree one_way) (job_tree other_way) x y refl } },
      record { script = refl; parts = record { variables = refl; trees = places_agree 5 (job_tree one_way) (job_tree other_way) x y refl } },
    )

-- the whole boards
pub three_boards :
    (board_lines (run_job one_way 100 (with_places 2)) ≡ line (pos 5) 1 ∷ line (pos 7) 2 ∷ line (pos 9) 5 ∷ line (pos 5) 7 ∷ [])
    × (board_lines (run_job other_way 100 (with_places 1)) ≡ line (pos 5) 1 ∷ line (pos 9) 5 ∷ line (pos 5) 7 ∷ [])
unfolding computed three one_way other_way
three_boards = (refl, refl)

-- what each reader sees of the first: the parties one by one, the first and the third, all three, and nobody
pub three_seen :
    map (λ (o : ℕ). map (λ l. l.number) (seen_lines o (board_lines (run_job one_way 100 (with_places 2))))) (1 ∷ 2 ∷ 4 ∷ 5 ∷ 7 ∷ 0 ∷ [])
    ≡ (pos 5 ∷ []) ∷ (pos 7 ∷ []) ∷ [] ∷ (pos 5 ∷ pos 9 ∷ []) ∷ (pos 5 ∷ pos 7 ∷ pos 9 ∷ pos 5 ∷ []) ∷ [] ∷ []
unfolding computed three one_way other_way
three_seen = refl

-- those who do not see the second party see the same of both
pub three_same :
    (seen_lines 1 (board_lines (run_job one_way 100 (with_places 2))) ≡ seen_lines 1 (board_lines (run_job other_way 100 (with_places 1))))
    × (seen_lines 5 (board_lines (run_job one_way 100 (with_places 2))) ≡ seen_lines 5 (board_lines (run_job other_way 100 (with_places 1))))
unfolding computed three one_way other_way
three_same = (refl, refl)
