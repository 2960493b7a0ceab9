-- Where the blocks of a right script are left: as a block has but one end, each jump goes to the beginning, the else or the end of its block, or
-- behind one of them, and keeps to the blocks around it. Assumes nothing.
use mathlib.Core.Path.{◌≡◌, refl, sym, ap, ◌∙◌}
use mathlib.Core.Logic.{◌⊎◌, inl, inr}
use mathlib.Core.Bool.{true, cond}
use mathlib.Core.List.{List, ◌∷◌, tail, head-eq_of_cons-eq}
use Prim.Native.Nat.{ℕ, suc, ◌≤◌, ◌<◌}
use native.Mathlib.Nat.{le_of_lt, lt_trans}
use native.Mathlib.Omega.{arith}
use lib.Dec.{eqb}
use borrow.Author.Tests.{ne_eqb}
use Rattle.rules.specs.Blocks.{branches, opens, block_rule, closer, past_end, goes_to, nest}
use Rattle.rules.proofs.Tests.{Test, holds, fails, test}
use Rattle.rules.proofs.Parts.{before, Kind, opener, divider, ender, other, kind, if_opens, while_opens, if_not_while, else_not_if, while_not_if, else_closes, end_closes, opens_either, closes_either, by_if, by_else, by_while}
use Rattle.rules.proofs.Jumps.{closed_here, goes_plain, goes_past_else, goes_past_end, goes_to_end, goes_back}
use Rattle.rules.proofs.Nests.{nest_else, nest_end, nest_tail, Owner, one, two}
use Rattle.rules.proofs.Ends.{end_of, end_first, end_second, Closes, closing, closed_part, nest_some, by_end, first_inside, else_closer, ends}

-- where the end of the block o goes: of a while back to it, of an if onwards
unfoldable pub exit_of : (ℕ → ℕ) → ℕ → ℕ → ℕ
exit_of code n o = cond (eqb (code o) 4) o (suc (end_of code n o))

module _ (code : ℕ → ℕ) (n : ℕ) where
  -- an if with a zero guard goes behind its else, or to its end if it has none
  pub data IfZero (o : ℕ) : Type 0 where
    behind : code (closer code n o) ≡ 3 → goes_to code n o ≡ suc (closer code n o) → IfZero o
    at_end : goes_to code n o ≡ end_of code n o → IfZero o

  -- of a right script
  module _ (right : (i : ℕ) → i < suc n → block_rule code n i ≡ true) where
    module _ (i o : ℕ) (os : List ℕ) (h : i < n) (k : code i ≡ 5) (e : nest code i ≡ o ∷ os) where
      left : (p : ℕ) → Closes code n i p → (end_of code n o ≡ i) × (goes_to code n i ≡ past_end code i o)
      unfolding past_end
      left p m = go m.owner
        where
          same : m.block ≡ o
          same = head-eq_of_cons-eq (sym m.inside ∙ e)

          c : closer code n p ≡ i
          c = closed_here code n i p _ h m.there m.how

          g : goes_to code n i ≡ past_end code i p
          g = goes_back code n i p _ k m.there

          go : Owner code p m.block → (end_of code n o ≡ i) × (goes_to code n i ≡ past_end code i o)
          go (one z f) = let x : p ≡ o = z ∙ same in (end_first code n o i (rw x at c) k, g ∙ ap (past_end code i) x)
          go (two z f) =
              let r = else_closer code n right p o _ (lt_trans (before code i p _ m.there) h) z (rw same at f) in
              (end_second code n o i p r.0 z c, g ∙ rw (z, ne_eqb (code o) 4 (if_not_while (code o) r.1)))

      both_ways : (end_of code n o ≡ i) × (goes_to code n i ≡ past_end code i o)
      both_ways = let (p, m) = closed_part code n right i h (end_closes (code i) k) in left p m

      -- a block has one end
      pub end_unique : end_of code n o ≡ i
      end_unique = both_ways.0

      pub end_target : goes_to code n i ≡ past_end code i o
      end_target = both_ways.1

      -- an end goes where its block is left
      pub end_goes : goes_to code n i ≡ exit_of code n o
      unfolding exit_of past_end
      end_goes = rw end_unique end_target

    pub one_end : (i j o : ℕ) (is js : List ℕ) → i < n → code i ≡ 5 → nest code i ≡ o ∷ is → j < n → code j ≡ 5 → nest code j ≡ o ∷ js → j ≡ i
    one_end i j o is js h k e l m f = sym (end_unique j o js l m f) ∙ end_unique i o is h k e

    -- a while with a zero guard goes behind its end
    pub while_target : (o : ℕ) → o < n → code o ≡ 4 → goes_to code n o ≡ suc (end_of code n o)
    while_target o h e =
        let d : code (closer code n o) ≡ 5 = by_end code n right o h (by_while e) (while_not_if (code o) e) in
        goes_past_end code n _ o e refl ∙ ap suc (sym (end_first code n o _ refl d))

    -- an else goes to the end of its block
    pub else_target : (p o : ℕ) (os : List ℕ) → p < n → code p ≡ 3 → nest code p ≡ o ∷ os → goes_to code n p ≡ end_of code n o
    else_target p o os h k e =
        let d : code (closer code n p) ≡ 5 = by_end code n right p h (by_else k) (else_not_if (code p) k) in
        let c : closer code n o ≡ p = (else_closer code n right p o os h k e).0 in
        goes_to_end code n _ p (by_else k) (λ (x : code p ≡ 4). omega arith) refl d ∙ sym (end_second code n o _ p c k refl)

    pub if_target : (o : ℕ) → o < n → branches (code o) ≡ true → IfZero o
    if_target o h e = go (closes_either _ (closing code n right o h (by_if e)).how)
      where
        go : (code (closer code n o) ≡ 3) ⊎ (code (closer code n o) ≡ 5) → IfZero o
        go (inl d) = behind d (goes_past_else code n _ o e refl d)
        go (inr d) = at_end (goes_to_end code n _ o (by_if e) (if_not_while (code o) e) refl d ∙ sym (end_first code n o _ refl d))

    -- behind the end of a block the blocks around it are open, and so they are where it is left
    pub past_end_law : (o : ℕ) → o < n → opens (code o) ≡ true → nest code (suc (end_of code n o)) ≡ nest code o
    past_end_law o h k = let d = ends code n right o h k in nest_end code (end_of code n o) d.is_end ∙ ap tail d.inside

    pub exit_nest : (o : ℕ) → o < n → opens (code o) ≡ true → nest code (exit_of code n o) ≡ nest code o
    unfolding exit_of
    exit_nest o h k = go (test (eqb (code o) 4))
      where
        go : Test (eqb (code o) 4) → nest code (exit_of code n o) ≡ nest code o
        go (holds e) = rw e
        go (fails e) = rw e (past_end_law o h k)

    -- a zero guard of a while leaves the block, of an if stays in it
    pub while_exit : (o : ℕ) → o < n → code o ≡ 4 → nest code (goes_to code n o) ≡ nest code o
    while_exit o h e = ap (nest code) (while_target o h e) ∙ past_end_law o h (while_opens (code o) e)

    pub if_exit : (o : ℕ) → o < n → branches (code o) ≡ true → nest code (goes_to code n o) ≡ o ∷ nest code o
    if_exit o h e = go (if_target o h e)
      where
        go : IfZero o → nest code (goes_to code n o) ≡ o ∷ nest code o
        go (behind k d) = ap (nest code) d ∙ nest_else code _ k ∙ first_inside code n right o h (if_opens (code o) e)
        go (at_end d) = ap (nest code) d ∙ (ends code n right o h (if_opens (code o) e)).inside

    -- an else stays in its block, an end leaves it
    pub else_exit : (p : ℕ) → p < n → code p ≡ 3 → nest code (goes_to code n p) ≡ nest code p
    else_exit p h k =
        let (o, e) = nest_some code n right p h (else_closes (code p) k) in
        let b = nest_tail code p o _ e in
        ap (nest code) (else_target p o _ h k e) ∙ (ends code n right o (lt_trans b.earlier h) b.opening).inside ∙ sym e

    pub end_exit : (i : ℕ) → i < n → code i ≡ 5 → nest code (goes_to code n i) ≡ tail (nest code i)
    end_exit i h k =
        let (o, e) = nest_some code n right i h (end_closes (code i) k) in
        let b = nest_tail code i o _ e in
        ap (nest code) (end_goes i o _ h k e) ∙ exit_nest o (lt_trans b.earlier h) b.opening ∙ sym (ap tail e)

    -- no record goes beyond the end of the script
    pub goes_within : (i : ℕ) → i < n → goes_to code n i ≤ n
    unfolding past_end
    goes_within i h = go (kind (code i))
      where
        end : opens (code i) ≡ true → end_of code n i < n
        end k = (ends code n right i h k).range

        zero_guard : (branches (code i) ≡ true) ⊎ (code i ≡ 4) → goes_to code n i ≤ n
        zero_guard (inl e) = branch (if_target i h e)
          where
            branch : IfZero i → goes_to code n i ≤ n
            branch (behind k d) = rw d (closing code n right i h (by_if e)).range
            branch (at_end d) = rw d (le_of_lt (end (if_opens (code i) e)))
        zero_guard (inr e) = rw (while_target i h e) (end (while_opens (code i) e))

        back : (o : ℕ) → o < i → Test (eqb (code o) 4) → past_end code i o ≤ n
        back o l (holds e) = rw e (omega arith)
        back o l (fails e) = rw e h

        go : Kind (code i) → goes_to code n i ≤ n
        go (opener k) = zero_guard (opens_either (code i) k)
        go (divider k) =
            let (o, e) = nest_some code n right i h (else_closes (code i) k) in
            let b = nest_tail code i o _ e in
            rw (else_target i o _ h k e) (le_of_lt (ends code n right o (lt_trans b.earlier h) b.opening).range)
        go (ender k) =
            let (o, e) = nest_some code n right i h (end_closes (code i) k) in
            rw (end_target i o _ h k e) (back o (nest_tail code i o _ e).earlier (test _))
        go (other k) = rw (goes_plain code n i k) h
