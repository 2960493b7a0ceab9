-- Twelve ways to leak, each as two jobs that differ in what the house owns, with what the rules give. By computation. Where a rule is loosened,
-- both runs of its pair finish and their boards differ. Then a pair that counts under cover and finishes. Assumes nothing.
use mathlib.Core.Path.{◌≡◌, refl}
use Prim.Native.Nat.{ℕ}
use mathlib.Core.List.{List, [], ◌∷◌, ◌++◌, map}
use lib.IntN.{pos}
use Rattle.rules.specs.Limits.{no_parent}
use Rattle.rules.specs.Level.{public, secret}
use Rattle.rules.specs.Write.{node}
use Rattle.rules.specs.Trials.{job, pair, one, both, bare, v, number, value, children, guarded}
use Rattle.rules.proofs.Computed.{computed}
use Rattle.rules.proofs.Pairs.{seen, done, blocked, Trap, play, by_value, over_hidden, tell, covered}

-- v0 := children, print v0
tell_children : List (List ℕ)
tell_children = one 1 0 children ∷ one 6 0 (v 0) ∷ []

pub traps : List Trap
traps =
    -- a move under a house guard: the run that skips it stays public
    by_value (guarded 9 ++ tell (pos 10)) (blocked 1) (done (pos 1 ∷ []))
    -- children, with a house child in the first job only: if children, else, v0 := 1, end, print v0
    ∷ (let cs = one 2 0 children ∷ bare 3 ∷ one 1 0 (number (pos 1)) ∷ bare 5 ∷ one 6 0 (v 0) ∷ [] in
    let root = node no_parent public public secret (pos 10) in
    record {
      came = play (job (pair (pos 0)) (root ∷ node 0 secret secret secret (pos 3) ∷ []) cs) ∷ play (job (pair (pos 0)) (root ∷ []) cs) ∷ [];
      due = done (pos 0 ∷ []) ∷ blocked 2 ∷ [];
    })
    -- root under a house guard: cover, first child, if v1, root, end
    ∷ by_value (bare 16 ∷ bare 9 ∷ (guarded 7 ++ tell (pos 10))) (blocked 6) (done (pos 0 ∷ []))
    -- the guard at else: if v1, else, v0 := 1, end, print v0
    ∷ by_value (one 2 0 (v 1) ∷ bare 3 ∷ one 1 0 (number (pos 1)) ∷ bare 5 ∷ one 6 0 (v 0) ∷ []) (done (pos 0 ∷ [])) (blocked 2)
    -- a line under a house guard: if v1, print 5, end, print 6
    ∷ by_value (one 2 0 (v 1) ∷ one 6 0 (number (pos 5)) ∷ bare 5 ∷ one 6 0 (number (pos 6)) ∷ []) (blocked 1) (done (pos 6 ∷ []))
    -- a new child where children are counted in public: cover, if v1, new first child, end, root
    ∷ record {
      came =
          (let cs = bare 16 ∷ one 2 0 (v 1) ∷ one 11 0 (number (pos 7)) ∷ bare 5 ∷ bare 7 ∷ tell_children in
          let root = node no_parent public public public (pos 10) ∷ [] in
          play (job (pair (pos 1)) root cs) ∷ play (job (pair (pos 0)) root cs) ∷ []);
      due = blocked 2 ∷ done (pos 0 ∷ []) ∷ [];
    }
    -- a new child in front of a public one: the same, then first child
    ∷ over_hidden (node 0 public public public (pos 3) ∷ [])
    (bare 16 ∷ one 2 0 (v 1) ∷ one 11 0 (number (pos 7)) ∷ bare 5 ∷ bare 7 ∷ bare 9 ∷ tell (pos 3)) (blocked 2) (done (pos 1 ∷ []))
    -- an assignment under a house guard: if v1, v0 := 1, end, print v0
    ∷ by_value (one 2 0 (v 1) ∷ one 1 0 (number (pos 1)) ∷ bare 5 ∷ one 6 0 (v 0) ∷ []) (blocked 1) (done (pos 0 ∷ []))
    -- a removal under a house guard: if v1, remove first child, end
    ∷ by_value (guarded 13 ++ tell_children) (blocked 1) (done (pos 1 ∷ []))
    -- what is read at a covered cursor: print value
    ∷ by_value (covered ++ (one 6 0 value ∷ [])) (blocked 4) (blocked 4)
    -- the same: print children
    ∷ by_value (covered ++ (one 6 0 children ∷ [])) (blocked 4) (blocked 4)
    -- what is written at a covered cursor: set 7, root, print value
    ∷ by_value (covered ++ (one 15 0 (number (pos 7)) ∷ bare 7 ∷ one 6 0 value ∷ [])) (blocked 4) (blocked 4)
    -- and no leak: v0 := v0 plus 1, print v0
    ∷ by_value (covered ++ (both 1 0 1 (v 0) (number (pos 1)) ∷ one 6 0 (v 0) ∷ [])) (done (pos 1 ∷ [])) (done (pos 1 ∷ []))
    ∷ []

pub traps_hold : map (λ t. map seen t.came) traps ≡ map (λ t. t.due) traps
unfolding computed seen done blocked play by_value over_hidden tell covered tell_children traps
traps_hold = refl
