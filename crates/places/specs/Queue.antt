-- The queue of places: which have an unended run, front first. Assumes nothing.
use Rattle.std.specs.Prelude.{◌≡◌, ℕ, ◌+◌, ◌-◌, ◌<◌, ◌≤◌, cond, List, [], ◌∷◌, ◌++◌, map, length, get_or, take, eqb, ltb}
use Rattle.rules.specs.Limits.{max_runs}
use Rattle.places.specs.declared.queue.Queue.{Queue}

-- each of the eight places stands in the order once
pub record Whole (q : Queue) : Type 0 where
  pub few : q.count ≤ max_runs
  pub eight : length q.order ≡ max_runs
  pub places : (i : ℕ) → i < max_runs → get_or q.order i 0 < max_runs
  pub apart : (i j : ℕ) → i < max_runs → j < max_runs → get_or q.order i 0 ≡ get_or q.order j 0 → i ≡ j

-- the places of the unended runs
unfoldable pub ordered : Queue → List ℕ
ordered q = take q.count q.order

-- the place of the run whose turn is next, if there is one
abbrev pub front : Queue → ℕ
front q = get_or q.order 0 0

-- the first free place, if there is one
abbrev pub first_free : Queue → ℕ
first_free q = get_or q.order q.count 0

-- with the first free place at the back
unfoldable pub at_back : Queue → List ℕ
at_back q = ordered q ++ (first_free q ∷ [])

-- without the front
unfoldable pub taken_off : List ℕ → List ℕ
taken_off [] = []
taken_off (i ∷ is) = is

-- with the front at the back
unfoldable pub moved_back : List ℕ → List ℕ
moved_back [] = []
moved_back (i ∷ is) = is ++ (i ∷ [])

-- which entry comes to position k where the first of n goes behind the others of them
unfoldable pub source : ℕ → ℕ → ℕ
source n k = cond (ltb (k + 1) n) (k + 1) (cond (eqb (k + 1) n) 0 k)

-- eight entries after that
unfoldable pub rotated : ℕ → List ℕ → List ℕ
rotated n xs = map (λ k. get_or xs (source n k) 0) (0 ∷ 1 ∷ 2 ∷ 3 ∷ 4 ∷ 5 ∷ 6 ∷ 7 ∷ [])

-- every place is free
abbrev pub all_free : Queue
all_free = record { order = 0 ∷ 1 ∷ 2 ∷ 3 ∷ 4 ∷ 5 ∷ 6 ∷ 7 ∷ []; count = 0 }

-- the first free place is taken
abbrev pub after_join : Queue → Queue
after_join q = record { order = q.order; count = q.count + 1 }

-- the front has gone behind the others
abbrev pub after_pass : Queue → Queue
after_pass q = record { order = rotated q.count q.order; count = q.count }

-- and is free
abbrev pub after_leave : Queue → Queue
after_leave q = record { order = rotated q.count q.order; count = q.count - 1 }
