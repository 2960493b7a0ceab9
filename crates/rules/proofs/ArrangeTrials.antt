-- The rearranger and check 13 by computation: a job whose nodes are scattered, and where 13 stands among 5 and 6. Assumes nothing.
use mathlib.Core.Path.{◌≡◌, refl}
use Prim.Native.Nat.{ℕ}
use mathlib.Core.List.{List, [], ◌∷◌, ◌++◌, map}
use lib.ListN.{set}
use lib.IntN.{pos, negsuc}
use Rattle.rules.specs.Limits.{no_parent}
use Rattle.rules.specs.Bytes.{nodes_at, node_count}
use Rattle.rules.specs.Check.{accepted, refused, unordered, check_bytes_by, check_bytes}
use Rattle.rules.specs.Arrange.{moves, arranged, left_arranged}
use Rattle.rules.specs.Write.{node}
use Rattle.rules.specs.Trials.{job, bare, one, number, pair}
use Rattle.rules.proofs.Computed.{computed}

-- a job over some nodes: root, print 4
unfoldable pub with_nodes : List (List ℕ) → List ℕ
with_nodes ns = job (pair (pos 5)) ns (bare 7 ∷ one 6 0 (number (pos 4)) ∷ [])

-- a root with two children, and a child of each listed behind both
unfoldable pub scattering : List (List ℕ)
scattering =
    node no_parent 0 0 1 (pos 10) ∷ node 0 0 0 0 (pos 1) ∷ node 0 1 1 1 (negsuc 0) ∷ node 1 0 0 0 (pos 3) ∷ node 2 1 1 1 (pos 4) ∷ []

unfoldable pub scattered : List ℕ
scattered = with_nodes scattering

-- the same with each child behind its parent; the second of these is record 3 now
pub straight : List ℕ
straight =
    with_nodes
    (node no_parent 0 0 1 (pos 10) ∷ node 0 0 0 0 (pos 1) ∷ node 1 0 0 0 (pos 3) ∷ node 0 1 1 1 (negsuc 0) ∷ node 3 1 1 1 (pos 4) ∷ [])

-- 13: record 3's parent is 1, which is neither record 2 nor above it
pub scattered_refused : (check_bytes_by unordered scattered ≡ accepted) × (check_bytes scattered ≡ refused 13 3)
unfolding computed with_nodes scattering scattered
scattered_refused = (refl, refl)

pub scattered_order : map (λ m. m.from) (moves scattered (nodes_at scattered) (node_count scattered)) ≡ 0 ∷ 1 ∷ 3 ∷ 2 ∷ 4 ∷ []
unfolding computed with_nodes scattering scattered
scattered_order = refl

pub scattered_arranged : arranged scattered ≡ straight
unfolding computed with_nodes scattering scattered straight
scattered_arranged = refl

pub straight_stays : (check_bytes straight ≡ accepted) × (left_arranged straight ≡ straight)
unfolding computed with_nodes straight
straight_stays = (refl, refl)

-- "checked after 5 and before 6": a 5 at record 5 comes before that 13, and a 6 at record 0 behind it
pub between : (check_bytes (with_nodes (scattering ++ (node 5 0 0 0 (pos 0) ∷ []))) ≡ refused 5 5) × (check_bytes (set scattered 18 2) ≡ refused 13 3)
unfolding computed with_nodes scattering scattered
between = (refl, refl)

-- "a job turned back so far .. is left unchanged"
pub refused_stays : left_arranged (set scattered 18 2) ≡ set scattered 18 2
unfolding computed with_nodes scattering scattered
refused_stays = refl
