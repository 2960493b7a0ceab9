-- The cleaner and check 12 by computation: a job with notes in its spare bytes, each byte that a record leaves unread, and the order of 7, 12 and 8.
-- Assumes nothing.
use mathlib.Core.Path.{◌≡◌, refl}
use Prim.Native.Nat.{ℕ}
use mathlib.Core.Bool.{Bool, true, false}
use mathlib.Core.List.{List, [], ◌∷◌, map}
use lib.ListN.{set}
use lib.IntN.{pos}
use Rattle.rules.specs.Check.{accepted, refused, field_reads, record_reads, first, check_bytes_by, check_bytes}
use Rattle.rules.specs.Clean.{Change, cleaned, report, left_clean}
use Rattle.rules.specs.Trials.{usual, one, both, bare, number, v, value, children}
use Rattle.rules.proofs.Computed.{computed}

-- root, print 4
pub tidy : List ℕ
tidy = usual (pos 5) (bare 7 ∷ one 6 0 (number (pos 4)) ∷ [])

-- notes in byte 2 of variable 1, byte 5 of node 0, the target of command 7, and the right kind and the right number's last byte of operator 0
pub noted : List ℕ
noted = set (set (set (set (set tidy 10 9) 21 7) 41 2) 60 3) 71 1

pub change : ℕ → ℕ → ℕ → ℕ → Change
change s i j old = record { spot = record { section = s; index = i; byte = j }; old = old }

-- "`1 0 5 7` for node 0 whose byte 5 was 7"
pub noted_report : report noted ≡ change 0 1 2 9 ∷ change 1 0 5 7 ∷ change 2 0 1 2 ∷ change 2 1 4 3 ∷ change 2 1 15 1 ∷ []
unfolding computed tidy noted change
noted_report = refl

pub noted_cleaned : (cleaned noted ≡ tidy) × (report tidy ≡ [])
unfolding computed tidy noted
noted_cleaned = (refl, refl)

-- the old rules accept the noted job; the new ones refuse it with the first record in file order, variables, nodes, script
pub noted_refused :
    (check_bytes_by first noted ≡ accepted)
    × (map check_bytes (noted ∷ set noted 10 0 ∷ set (set noted 10 0) 21 0 ∷ set (set (set noted 10 0) 21 0) 41 0 ∷ tidy ∷ [])
    ≡ refused 12 1 ∷ refused 12 0 ∷ refused 12 0 ∷ refused 12 1 ∷ accepted ∷ [])
unfolding computed tidy noted
noted_refused = (refl, refl)

-- a spare byte in record 0 with command 20 in record 1; a spare byte in record 1 behind a lone end; the lone end alone
pub order_holds :
    map check_bytes (set (set tidy 41 2) 56 20 ∷ set (set tidy 40 5) 60 3 ∷ set tidy 40 5 ∷ []) ≡ refused 7 1 ∷ refused 12 1 ∷ refused 8 0 ∷ []
unfolding computed tidy
order_holds = refl

-- an if that comes back, with its end and a note in it: 12 to the rules of today, and 7 to the cleaner, which leaves it as it is
pub later_command :
    let b = set (usual (pos 5) (one 17 0 (v 1) ∷ bare 5 ∷ [])) 57 2 in
    (check_bytes b ≡ refused 12 1) × (check_bytes (set b 57 0) ≡ accepted) × (check_bytes_by first b ≡ refused 7 0) × (left_clean b ≡ b)
unfolding computed
later_command = (refl, refl, refl, refl)

-- what records read: target, expression, right side, the bytes 5 and 6, left number, right number. Root; v0 := v1; new first child of value, mark 3; print 1 plus children;
-- write the mean of value and v0; cover; left sibling; last child; command 200
unfoldable pub readers : List (List ℕ)
readers =
    bare 7 ∷ one 1 0 (v 1) ∷ one 11 3 value ∷ both 6 0 1 (number (pos 1)) children ∷ both 15 0 5 value (v 0) ∷ bare 16 ∷ bare 18 ∷ bare 19 ∷ bare 200 ∷ []

unfoldable pub nothing : List Bool
nothing = field_reads false false false false false false false

pub reads_hold :
    map (λ (r : List ℕ). record_reads r 0 true) readers
    ≡ nothing ∷ field_reads true true false false false true false ∷ field_reads true true false true true false false
    ∷ field_reads true true true false false true false ∷ field_reads false true true false false false true
    ∷ field_reads false false false true false false false ∷ nothing ∷ nothing ∷ nothing ∷ []
unfolding computed readers nothing
reads_hold = refl

-- and to the cleaner, which knows no sets
pub reads_held :
    map (λ (r : List ℕ). record_reads r 0 false) readers
    ≡ nothing ∷ field_reads true true false false false true false ∷ field_reads true true false false false false false
    ∷ field_reads false true true false false true false ∷ field_reads false true true false false false true ∷ nothing ∷ nothing ∷ nothing ∷ nothing ∷ []
unfolding computed readers nothing
reads_held = refl
