-- How the blocks of a script are nested, over the command number of each record. A block has one part, or two with an else between them:
-- an if, an else and a while begin a part, an else and an end close one. An if that comes back counts as an if. Assumes nothing.
use Rattle.std.specs.Prelude.{ℕ, zero, suc, ◌-◌, Bool, true, false, ◌&&◌, ◌||◌, cond, length, eqb, ltb}
use mathlib.Core.List.{List, [], ◌∷◌, tail, head_d}
use Rattle.rules.specs.Limits.{max_depth}

-- an if, or an if that comes back
unfoldable pub branches : ℕ → Bool
branches k = eqb k 2 || eqb k 17

-- an if or a while opens a block
unfoldable pub opens : ℕ → Bool
opens k = branches k || eqb k 4

-- an else or an end closes a part
unfoldable pub closes : ℕ → Bool
closes k = eqb k 3 || eqb k 5

-- the open parts after record i of command k, from those before it; each stands as the record that began it, the innermost first
unfoldable pub after : ℕ → ℕ → List ℕ → List ℕ
after k i ps = cond (opens k) (i ∷ ps) (cond (eqb k 3) (i ∷ tail ps) (cond (eqb k 5) (tail ps) ps))

-- the innermost of the open parts was begun by record o
unfoldable pub head_is : ℕ → List ℕ → Bool
head_is o [] = false
head_is o (p ∷ ps) = eqb o p

-- a part is among the open ones
unfoldable pub is_in : ℕ → List ℕ → Bool
is_in p [] = false
is_in p (q ∷ ps) = eqb p q || is_in p ps

-- the first of the n indexes i, i + 1, .. that passes the test, or the one after them
unfoldable pub first_from : (ℕ → Bool) → ℕ → ℕ → ℕ
first_from f zero i = i
first_from f (suc n) i = elim (f i) [ true ↦ i | false ↦ first_from f n (suc i) ]

module _ (code : ℕ → ℕ) where
  -- the parts that are open at record i
  unfoldable pub parts : ℕ → List ℕ
  parts zero = []
  parts (suc i) = after (code i) i (parts i)

  -- the blocks that are open at record i, each as the record that opened it, the innermost first
  unfoldable pub nest : ℕ → List ℕ
  nest zero = []
  nest (suc i) = cond (opens (code i)) (i ∷ nest i) (cond (eqb (code i) 5) (tail (nest i)) (nest i))

  -- the innermost of the open parts was begun by an if
  unfoldable pub head_is_if : List ℕ → Bool
  head_is_if [] = false
  head_is_if (p ∷ ps) = branches (code p)

  -- 8: a command k among the open parts: no "17th nested block", no "else with no block open or whose innermost open block is no if" and no "second else", no "end with none open"
  unfoldable pub placed : ℕ → List ℕ → Bool
  placed k ps = cond (opens k) (ltb (length ps) max_depth) (cond (eqb k 3) (head_is_if ps) (cond (eqb k 5) (ltb 0 (length ps)) true))

  -- 8: each of the n records is placed, and behind them stands no "unclosed block"
  unfoldable pub block_rule : ℕ → ℕ → Bool
  block_rule n i = cond (ltb i n) (placed (code i) (parts i)) (eqb (length (parts i)) 0)

  -- record j closes the part that record o began
  unfoldable pub closes_part : ℕ → ℕ → Bool
  closes_part o j = closes (code j) && head_is o (parts j)

  -- of n records, the one that closes the part begun at o
  unfoldable pub closer : ℕ → ℕ → ℕ
  closer n o = first_from (closes_part o) (n - suc o) (suc o)

  -- where an if goes whose guard is zero: "past else, or to end if none"
  unfoldable pub past_else : ℕ → ℕ
  past_else j = cond (eqb (code j) 3) (suc j) j

  -- where the end i of the part begun at o goes: "of a while: back to it"
  unfoldable pub past_end : ℕ → ℕ → ℕ
  past_end i o = cond (eqb (code o) 4) o (suc i)

  -- where record i of n goes if not to the next: an if with a zero guard, an else "to end", a while with a zero guard "past end", an end
  unfoldable pub goes_to : ℕ → ℕ → ℕ
  goes_to n i =
      cond (branches (code i)) (past_else (closer n i))
      (cond (eqb (code i) 3) (closer n i)
      (cond (eqb (code i) 4) (suc (closer n i))
      (cond (eqb (code i) 5) (past_end i (head_d (parts i) 0)) (suc i))))
