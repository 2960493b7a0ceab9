-- What a word of a plan holds is what was put into it. Assumes nothing.
use mathlib.Core.Path.{◌≡◌, refl}
use mathlib.Core.Bool.{Bool, true, false, cond}
use mathlib.Core.List.{List, head_d}
use Prim.Native.Nat.{ℕ, ◌<◌}
use native.Mathlib.Omega.{arith}
use lib.Dec.{eqb}
use lib.ListN.{get_or}
use Rattle.rules.specs.Blocks.{nest, goes_to}
use Rattle.job.specs.Plan.{entry, code_of, next_of, end_mark, end_back, end_code, plan_code, Whole}

pub code_entry : (c n : ℕ) → c < 256 → code_of (entry c n) ≡ c
unfolding code_of entry
code_entry c n h = omega arith

pub next_entry : (c n : ℕ) → c < 65536 → next_of (entry c n) ≡ n
unfolding next_of entry
next_entry c n h = omega arith

pub code_mark : code_of end_mark ≡ 255
unfolding code_of
code_mark = refl

end_small : (b : Bool) → cond b end_back 5 < 256
end_small true = omega arith
end_small false = omega arith

plan_small : (code : ℕ → ℕ) (k : ℕ) → code k < 256 → plan_code code k < 256
unfolding plan_code end_code
plan_small code k h = go (eqb (code k) 5)
  where
    go : (b : Bool) → cond b (cond (eqb (code (head_d (nest code k) 0)) 17) end_back 5) (code k) < 256
    go true = end_small (eqb (code (head_d (nest code k) 0)) 17)
    go false = h

-- what a run reads in the plan of a script of n records
module _ (code : ℕ → ℕ) (n : ℕ) (p p' : List ℕ) (w : Whole code n p p') where
  module _ (k : ℕ) (l : k < n) (small : code k < 256) where
    pub plan_code_law : code_of (get_or p' k 0) ≡ plan_code code k
    plan_code_law = rw (w.each k l) (code_entry (plan_code code k) (goes_to code n k) (plan_small code k small))

    pub plan_next : next_of (get_or p' k 0) ≡ goes_to code n k
    plan_next = rw (w.each k l) (next_entry (plan_code code k) (goes_to code n k) (let h = plan_small code k small in omega arith))

  pub plan_end : code_of (get_or p' n 0) ≡ 255
  plan_end = rw w.last code_mark
