-- The open blocks of a script, each by its if or while. In a right script they go together with the open parts, as a part is the first of its block
-- or, begun by an else, the second: so their number is within bounds, and none is open at the end. Assumes nothing.
use mathlib.Core.Path.{◌≡◌, refl, sym, ap, ◌∙◌, subst}
use mathlib.Core.Bool.{true}
use mathlib.Core.List.{List, [], ◌∷◌, tail, Forall₂}
use Prim.Native.Nat.{ℕ, zero, suc, ◌≤◌, ◌<◌}
use native.Mathlib.Nat.{le-suc, lt-suc_self, le_of_lt}
use native.Mathlib.Omega.{arith}
use lib.ListN.{length}
use borrow.Author.Tests.{eqb-true, ltb-true, ne_eqb}
use Rattle.rules.specs.Limits.{max_depth}
use Rattle.rules.specs.Blocks.{branches, opens, after, parts, nest, head_is_if, placed, block_rule}
use Rattle.rules.proofs.Tests.{clash}
use Rattle.rules.proofs.Parts.{Plain, Kind, opener, divider, ender, other, kind, plain_opens, after_open, after_else, after_end, after_plain, placed_open, placed_else, rule_inside, rule_end, Falls, empty, next, raise, rest, first, known}

tail_length : (os : List ℕ) → length (tail os) ≤ length os
tail_length [] = omega arith
tail_length (o ∷ os) = le-suc (length os)

pub no_length : (os : List ℕ) → length os ≡ 0 → os ≡ []
no_length [] e = refl
no_length (o ∷ os) e = absurd (omega arith)

module _ (code : ℕ → ℕ) where
  pub nest_open : (i : ℕ) → opens (code i) ≡ true → nest code (suc i) ≡ i ∷ nest code i
  unfolding nest
  nest_open i e = rw e

  pub nest_else : (i : ℕ) → code i ≡ 3 → nest code (suc i) ≡ nest code i
  unfolding nest opens branches
  nest_else i e = rw e

  pub nest_end : (i : ℕ) → code i ≡ 5 → nest code (suc i) ≡ tail (nest code i)
  unfolding nest opens branches
  nest_end i e = rw e

  pub nest_plain : (i : ℕ) → Plain (code i) → nest code (suc i) ≡ nest code i
  unfolding nest
  nest_plain i p = rw (plain_opens (code i) p, ne_eqb (code i) 5 p.not5)

  -- blocks that were opened below a bound, each within those behind it
  abbrev Chain : ℕ → List ℕ → Type 0
  Chain = Falls (λ o os. (opens (code o) ≡ true) × (os ≡ nest code o))

  linked : (i : ℕ) → Chain i (nest code i) → Kind (code i) → Chain (suc i) (nest code (suc i))
  linked i b (opener e) = rw (nest_open i e) (next (lt-suc_self i) (e, refl) b)
  linked i b (divider e) = rw (nest_else i e) (raise (le-suc i) b)
  linked i b (ender e) = rw (nest_end i e) (raise (le-suc i) (rest b))
  linked i b (other p) = rw (nest_plain i p) (raise (le-suc i) b)

  nest_chain : (i : ℕ) → Chain i (nest code i)
  unfolding nest
  nest_chain zero = empty
  nest_chain (suc i) = linked i (nest_chain i) (kind (code i))

  -- the innermost block o at record i, and those around it
  pub record Inner (i o : ℕ) (os : List ℕ) : Type 0 where
    pub around : os ≡ nest code o
    pub earlier : o < i
    pub opening : opens (code o) ≡ true

  pub nest_tail : (i o : ℕ) (os : List ℕ) → nest code i ≡ o ∷ os → Inner i o os
  nest_tail i o os e =
      let b : Chain i (o ∷ os) = subst (Chain i) e (nest_chain i) in record { around = (known b).1; earlier = first b; opening = (known b).0 }

  pub nest_head : (i o : ℕ) (os : List ℕ) → nest code i ≡ o ∷ os → nest code i ≡ o ∷ nest code o
  nest_head i o os e = e ∙ ap (λ (x : List ℕ). o ∷ x) (nest_tail i o os e).around

  -- a part p belongs to the block o: it is its first, or its second after an else
  pub data Owner (p o : ℕ) : Type 0 where
    one : p ≡ o → opens (code o) ≡ true → Owner p o
    two : code p ≡ 3 → nest code p ≡ o ∷ nest code o → Owner p o

  abbrev pub Pairs : List ℕ → List ℕ → Type 0
  Pairs = Forall₂ Owner

  divided : (i : ℕ) {ps os : List ℕ} → code i ≡ 3 → nest code i ≡ os → head_is_if code ps ≡ true → Pairs ps os → Pairs (i ∷ tail ps) os
  unfolding head_is_if
  divided i k e f Forall₂.nil = clash f refl
  divided i k e f (Forall₂.cons {b = o} {l₂ = os} w r) = Forall₂.cons (two k (nest_head i o os e)) r

  ended : {ps os : List ℕ} → Pairs ps os → Pairs (tail ps) (tail os)
  ended Forall₂.nil = Forall₂.nil
  ended (Forall₂.cons w r) = r

  step : (i : ℕ) → placed code (code i) (parts code i) ≡ true → Pairs (parts code i) (nest code i) → Kind (code i)
      → Pairs (after (code i) i (parts code i)) (nest code (suc i))
  step i f w (opener k) = rw (after_open (code i) i (parts code i) k, nest_open i k) (Forall₂.cons (one refl k) w)
  step i f w (divider k) =
      rw (after_else (code i) i (parts code i) k, nest_else i k) (divided i k refl (sym (placed_else code (code i) (parts code i) k) ∙ f) w)
  step i f w (ender k) = rw (after_end (code i) i (parts code i) k, nest_end i k) (ended w)
  step i f w (other k) = rw (after_plain (code i) i (parts code i) k, nest_plain i k) w

  pairs_length : {ps os : List ℕ} → Pairs ps os → length os ≡ length ps
  pairs_length Forall₂.nil = refl
  pairs_length (Forall₂.cons w r) = ap suc (pairs_length r)

  -- of a right script
  module _ (n : ℕ) (right : (i : ℕ) → i < suc n → block_rule code n i ≡ true) where
    pub is_placed : (i : ℕ) → i < n → placed code (code i) (parts code i) ≡ true
    is_placed i h = sym (rule_inside code n i h) ∙ right i (omega arith)

    pub pairs : (i : ℕ) → i ≤ n → Pairs (parts code i) (nest code i)
    unfolding parts nest
    pairs zero h = Forall₂.nil
    pairs (suc i) h = step i (is_placed i h) (pairs i (le_of_lt h)) (kind (code i))

    pub nest_depth : (i : ℕ) → i ≤ n → length (nest code i) ≡ length (parts code i)
    nest_depth i h = pairs_length (pairs i h)

    -- no part and no block is open at the end
    pub parts_done : parts code n ≡ []
    parts_done =
        let m : n ≤ n = omega arith in no_length (parts code n) (eqb-true (length (parts code n)) 0 (sym (rule_end code n n m) ∙ right n (lt-suc_self n)))

    pub nest_done : nest code n ≡ []
    nest_done = no_length (nest code n) (nest_depth n (omega arith) ∙ ap (λ (ps : List ℕ). length ps) parts_done)

    -- room for one more block at an if or while
    pub nest_room : (i : ℕ) → i < n → opens (code i) ≡ true → length (nest code i) < max_depth
    nest_room i h k =
        let l = ltb-true (length (parts code i)) max_depth (sym (placed_open code (code i) (parts code i) k) ∙ is_placed i h) in
        let d = nest_depth i (le_of_lt h) in omega arith

    pub nest_limit : (i : ℕ) → i ≤ n → length (nest code i) ≤ max_depth
    unfolding nest
    nest_limit zero h = omega arith
    nest_limit (suc i) h = go (nest_limit i (le_of_lt h)) (kind (code i))
      where
        go : length (nest code i) ≤ max_depth → Kind (code i) → length (nest code (suc i)) ≤ max_depth
        go l (opener k) = rw (nest_open i k) (nest_room i h k)
        go l (divider k) = rw (nest_else i k) l
        go l (ender k) = let t = tail_length (nest code i) in rw (nest_end i k) (omega arith)
        go l (other k) = rw (nest_plain i k) l
