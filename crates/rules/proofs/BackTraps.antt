-- Six ways to leak more: of an if that comes back, of left sibling and of last child. By computation. Assumes nothing.
use mathlib.Core.Path.{◌≡◌, refl}
use mathlib.Core.List.{List, [], ◌∷◌, ◌++◌, map}
use lib.IntN.{pos}
use Rattle.rules.specs.Limits.{no_parent}
use Rattle.rules.specs.Level.{public, secret}
use Rattle.rules.specs.Write.{node}
use Rattle.rules.specs.Trials.{job, pair, one, bare, v, number, value, guarded, returning, beside_new}
use Rattle.rules.proofs.Computed.{computed}
use Rattle.rules.proofs.Pairs.{seen, done, blocked, Trap, play, by_value, tell}

pub back_traps : List Trap
back_traps =
    -- an if that comes back, without its guard: v0 := 1 in it, then print v0
    by_value (returning (v 1) (one 1 0 (number (pos 1)) ∷ []) ++ (one 6 0 (v 0) ∷ [])) (blocked 1) (done (pos 0 ∷ []))
    -- its end without the place: first child in it, then print value
    ∷ by_value (returning (v 1) (bare 9 ∷ []) ++ (one 6 0 value ∷ [])) (done (pos 10 ∷ [])) (done (pos 10 ∷ []))
    -- its end without the level: cover, if v1, first child, end, come back at once, print value
    ∷ by_value (bare 16 ∷ (guarded 9 ++ (returning (number (pos 0)) [] ++ (one 6 0 value ∷ [])))) (blocked 6) (blocked 6)
    -- left sibling under a house guard, from the last of two children
    ∷ by_value (beside_new (bare 10 ∷ (guarded 18 ++ tell (pos 5)))) (blocked 4) (done (pos 1 ∷ []))
    -- last child under a house guard
    ∷ by_value (guarded 19 ++ tell (pos 10)) (blocked 1) (done (pos 1 ∷ []))
    -- last child, where a house child stands last in the first job only
    ∷ (let cs = bare 19 ∷ tell (pos 3) in
    let nodes = node no_parent public public secret (pos 10) ∷ node 0 public public public (pos 3) ∷ [] in
    record {
      came = play (job (pair (pos 0)) (nodes ++ (node 0 secret secret secret (pos 4) ∷ [])) cs) ∷ play (job (pair (pos 0)) nodes cs) ∷ [];
      due = done (pos 0 ∷ []) ∷ blocked 2 ∷ [];
    })
    ∷ []

pub back_traps_hold : map (λ t. map seen t.came) back_traps ≡ map (λ t. t.due) back_traps
unfolding computed seen done blocked play by_value tell back_traps
back_traps_hold = refl
