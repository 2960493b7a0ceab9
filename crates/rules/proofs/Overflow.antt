-- The ends of the range, and where 27 stands among the stops, by computation: the ending, the index and the steps of short scripts over the trials' job.
-- Assumes nothing.
use mathlib.Core.Path.{◌≡◌, refl}
use mathlib.Core.List.{List, [], ◌∷◌, map}
use Prim.Native.Nat.{ℕ}
use lib.IntN.{pos, negsuc}
use Rattle.rules.specs.Run.{Buffers}
use Rattle.rules.specs.Outcome.{answer, run_job}
use Rattle.rules.specs.Trials.{number, v, both, bare, usual}
use Rattle.rules.proofs.Computed.{computed}

-- what a script comes to, with h = 7
abbrev pub comes : Buffers → List (List ℕ) → List ℕ
comes lent cs = let a = answer (run_job (usual (pos 7) cs) 100 lent) in a.ending ∷ a.index ∷ a.steps ∷ []

abbrev pub ample : Buffers
ample = record { places = 512; variables = 64; lines = 256 }

-- two places, which hold the two nodes, and no line
abbrev pub full : Buffers
full = record { places = 2; variables = 64; lines = 0 }

-- a command with a target, and 2147483647 + 1 or -2147483648 - 1
abbrev pub above : ℕ → ℕ → List ℕ
above c t = both c t 1 (number (pos 2147483647)) (number (pos 1))

abbrev pub below : ℕ → ℕ → List ℕ
below c t = both c t 2 (number (negsuc 2147483647)) (number (pos 1))

-- the last that fit, and the first that do not
pub ends_hold :
    map (comes ample)
    ((both 6 0 1 (number (pos 2147483646)) (number (pos 1)) ∷ both 6 0 1 (number (negsuc 2147483646)) (number (negsuc 0)) ∷ [])
    ∷ (both 6 0 2 (number (negsuc 0)) (number (pos 2147483647)) ∷ both 6 0 2 (number (negsuc 0)) (number (negsuc 2147483647)) ∷ [])
    ∷ (above 6 0 ∷ [])
    ∷ (below 6 0 ∷ [])
    ∷ (both 6 0 2 (number (negsuc 2147483647)) (number (pos 2147483647)) ∷ [])
    ∷ [])
    ≡ (0 ∷ 0 ∷ 2 ∷ []) ∷ (0 ∷ 0 ∷ 2 ∷ []) ∷ (27 ∷ 0 ∷ 0 ∷ []) ∷ (27 ∷ 0 ∷ 0 ∷ []) ∷ (27 ∷ 0 ∷ 0 ∷ []) ∷ []
unfolding computed
ends_hold = refl

-- every command that reads an expression: 1, 15, 11, 12, 2 and 4; 6 is above
pub commands_hold :
    map (comes ample)
    ((above 1 0 ∷ [])
    ∷ (below 15 0 ∷ [])
    ∷ (above 11 0 ∷ [])
    ∷ (bare 9 ∷ below 12 0 ∷ [])
    ∷ (above 2 0 ∷ bare 5 ∷ [])
    ∷ (below 4 0 ∷ bare 5 ∷ [])
    ∷ [])
    ≡ (27 ∷ 0 ∷ 0 ∷ []) ∷ (27 ∷ 0 ∷ 0 ∷ []) ∷ (27 ∷ 0 ∷ 0 ∷ []) ∷ (27 ∷ 1 ∷ 1 ∷ []) ∷ (27 ∷ 0 ∷ 0 ∷ []) ∷ (27 ∷ 0 ∷ 0 ∷ []) ∷ []
unfolding computed
commands_hold = refl

-- "22, 21, 27, then 23 or 24"
pub order_holds :
    map (comes full)
    ((above 12 0 ∷ [])
    ∷ (both 1 0 1 (number (pos 2147483647)) (v 1) ∷ [])
    ∷ (both 6 0 1 (number (pos 2147483647)) (v 1) ∷ [])
    ∷ (both 15 0 1 (number (pos 2147483647)) (v 1) ∷ [])
    ∷ (bare 16 ∷ above 11 0 ∷ [])
    ∷ (above 11 0 ∷ [])
    ∷ (bare 9 ∷ above 12 0 ∷ [])
    ∷ (above 6 0 ∷ [])
    ∷ [])
    ≡ (22 ∷ 0 ∷ 0 ∷ [])
    ∷ (21 ∷ 0 ∷ 0 ∷ [])
    ∷ (21 ∷ 0 ∷ 0 ∷ [])
    ∷ (21 ∷ 0 ∷ 0 ∷ [])
    ∷ (21 ∷ 1 ∷ 1 ∷ [])
    ∷ (27 ∷ 0 ∷ 0 ∷ [])
    ∷ (27 ∷ 1 ∷ 1 ∷ [])
    ∷ (27 ∷ 0 ∷ 0 ∷ [])
    ∷ []
unfolding computed
order_holds = refl
