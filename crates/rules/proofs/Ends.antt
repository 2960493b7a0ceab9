-- Each block of a right script has an end. The search for the record that closes a part finds one, since no part is open behind the last record;
-- a while's part is closed by its end, an if's by its end or by its else, whose part the end closes. Assumes nothing.
use mathlib.Core.Path.{◌≡◌, refl, sym, ap, ◌∙◌, subst}
use mathlib.Core.Logic.{◌⊎◌, inl, inr}
use mathlib.Core.Bool.{true, false, cond}
use mathlib.Core.List.Forall₂
use mathlib.Core.List.{List, [], ◌∷◌, tail, nil≢cons, head-eq_of_cons-eq}
use Prim.Native.Nat.{ℕ, suc, ◌-◌, ◌<◌}
use native.Mathlib.Nat.{le_of_lt}
use native.Mathlib.Omega.{arith}
use lib.Dec.{eqb}
use borrow.Author.Tests.{eqb-true}
use Rattle.rules.specs.Blocks.{branches, opens, closes, head_is, parts, head_is_if, block_rule, closes_part, closer, nest}
use Rattle.rules.proofs.Tests.{both, clash}
use Rattle.rules.proofs.Search.{search}
use Rattle.rules.proofs.Parts.{else_closes, closes_either, not_else, if_not_else, else_not_if, placed_else, placed_end, Begins, by_else, opens_begins}
use Rattle.rules.proofs.Jumps.{is_in, closed_here, closed}
use Rattle.rules.proofs.Nests.{nest_head, Owner, one, two, Pairs, is_placed, pairs, parts_done}

-- the end of the block o of n records: the record that closes its first part or, if that is an else, its second
unfoldable pub end_of : (ℕ → ℕ) → ℕ → ℕ → ℕ
end_of code n o = cond (eqb (code (closer code n o)) 3) (closer code n (closer code n o)) (closer code n o)

head_is_law : (p : ℕ) (ps : List ℕ) → head_is p ps ≡ true → ps ≡ p ∷ tail ps
unfolding head_is
head_is_law p [] e = clash e refl
head_is_law p (q ∷ ps) e = ap (λ (x : ℕ). x ∷ ps) (sym (eqb-true p q e))

module _ (code : ℕ → ℕ) (n : ℕ) where
  -- a part that no else began is the first of its block
  is_first : (p o : ℕ) → Owner code p o → (code p ≡ 3 → ⊥) → p ≡ o
  is_first p o (one e k) d = e
  is_first p o (two e k) d = absurd (d e)

  module _ (o i : ℕ) where
    pub end_first : closer code n o ≡ i → code i ≡ 5 → end_of code n o ≡ i
    unfolding end_of
    end_first c e = rw (c, e)

    pub end_second : (p : ℕ) → closer code n o ≡ p → code p ≡ 3 → closer code n p ≡ i → end_of code n o ≡ i
    unfolding end_of
    end_second p c e d = rw (c, e, d)

  -- the record j closes the part p of a block
  pub record Closes (j p : ℕ) : Type 0 where
    pub range : j < n
    pub how : closes (code j) ≡ true
    pub there : parts code j ≡ p ∷ tail (parts code j)
    pub block : ℕ
    pub inside : nest code j ≡ block ∷ nest code block
    pub owner : Owner code p block

  -- the end of the block o
  pub record Ends (o j : ℕ) : Type 0 where
    pub range : j < n
    pub is_end : code j ≡ 5
    pub inside : nest code j ≡ o ∷ nest code o

  -- of a right script
  module _ (right : (i : ℕ) → i < suc n → block_rule code n i ≡ true) where
    meet : (j p : ℕ) → j < n → closes (code j) ≡ true → parts code j ≡ p ∷ tail (parts code j) → Closes j p
    meet j p h k e = go refl (subst (λ (ps : List ℕ). Pairs code ps (nest code j)) e (pairs code n right j (le_of_lt h)))
      where
        go : {os : List ℕ} → nest code j ≡ os → Pairs code (p ∷ tail (parts code j)) os → Closes j p
        go d (Forall₂.cons {b = o} {l₂ = os} w r) =
            record { range = h; how = k; there = e; block = o; inside = nest_head code j o os d; owner = w }

    -- each part is closed
    pub closing : (p : ℕ) → p < n → Begins (code p) → Closes (closer code n p) p
    unfolding closer closes_part is_in
    closing p h b =
        let c : closer code n p < n = closed code n n p h b (rw (parts_done code n right)) in
        let z = both (closes (code (closer code n p))) _ ((search (closes_part code p) (n - suc p) (suc p)).found (omega arith)) in
        meet (closer code n p) p c z.0 (head_is_law p _ z.1)

    -- each else and each end closes a part
    pub closed_part : (j : ℕ) → j < n → closes (code j) ≡ true → (p : ℕ) × Closes j p
    unfolding head_is_if
    closed_part j h k = go (parts code j) refl (closes_either (code j) k)
      where
        go : (ps : List ℕ) → parts code j ≡ ps → (code j ≡ 3) ⊎ (code j ≡ 5) → (p : ℕ) × Closes j p
        go (p ∷ ps) e w = (p, meet j p h k (e ∙ ap (λ (x : List ℕ). p ∷ tail x) (sym e)))
        go [] e (inl w) = clash (sym (placed_else code (code j) [] w) ∙ (rw e at (is_placed code n right j h))) refl
        go [] e (inr w) = clash (sym (placed_end code (code j) [] w) ∙ (rw e at (is_placed code n right j h))) refl

    -- at an else and at an end a block is open
    pub nest_some : (j : ℕ) → j < n → closes (code j) ≡ true → (o : ℕ) × (nest code j ≡ o ∷ nest code o)
    nest_some j h k = let (p, m) = closed_part j h k in (m.block, m.inside)

    pub nest_not_empty : (j : ℕ) → j < n → closes (code j) ≡ true → nest code j ≡ [] → ⊥
    nest_not_empty j h k e = nil≢cons (sym e ∙ (nest_some j h k).1)

    -- an else closes a part that an if began
    by_if_law : (j p : ℕ) → Closes j p → code j ≡ 3 → branches (code p) ≡ true
    unfolding head_is_if
    by_if_law j p m e =
        let f = sym (placed_else code (code j) (parts code j) e) ∙ is_placed code n right j m.range in
        sym (ap (head_is_if code) m.there) ∙ f

    -- a part that no if began is closed by an end
    pub by_end : (p : ℕ) → p < n → Begins (code p) → branches (code p) ≡ false → code (closer code n p) ≡ 5
    by_end p h b d = let m = closing p h b in elim (closes_either _ m.how) [ inl e ↦ clash (by_if_law _ p m e) d | inr e ↦ e ]

    -- the first part of a block is closed in it
    pub first_inside : (o : ℕ) → o < n → opens (code o) ≡ true → nest code (closer code n o) ≡ o ∷ nest code o
    first_inside o h k =
        let m = closing o h (opens_begins (code o) k) in
        let z = is_first o m.block m.owner (not_else (code o) k) in
        m.inside ∙ ap (λ (x : ℕ). x ∷ nest code x) (sym z)

    -- an else closes the first part of its block, which is an if
    pub else_closer : (p o : ℕ) (os : List ℕ) → p < n → code p ≡ 3 → nest code p ≡ o ∷ os → (closer code n o ≡ p) × (branches (code o) ≡ true)
    else_closer p o os h k e =
        let (q, m) = closed_part p h (else_closes (code p) k) in
        let i : branches (code q) ≡ true = by_if_law p q m k in
        let z : q ≡ o = is_first q m.block m.owner (if_not_else (code q) i) ∙ head-eq_of_cons-eq (sym m.inside ∙ e) in
        let c : closer code n q ≡ p = closed_here code n p q (tail (parts code p)) h m.there m.how in
        (rw z at c, rw z at i)

    -- its second part ends at the same depth
    second_inside : (p : ℕ) → p < n → code p ≡ 3 → nest code (closer code n p) ≡ nest code p
    second_inside p h k = let m = closing p h (by_else k) in m.inside ∙ own m.block m.owner
      where
        own : (o : ℕ) → Owner code p o → o ∷ nest code o ≡ nest code p
        own o (one e f) = absurd (not_else (code p) (rw (← e) at f) k)
        own o (two e f) = sym f

    -- an if or while has its end
    pub ends : (o : ℕ) → o < n → opens (code o) ≡ true → Ends o (end_of code n o)
    ends o h k = go (closes_either _ m.how)
      where
        m : Closes (closer code n o) o
        m = closing o h (opens_begins (code o) k)

        go : (code (closer code n o) ≡ 3) ⊎ (code (closer code n o) ≡ 5) → Ends o (end_of code n o)
        go (inr e) = rw (end_first o _ refl e) (record { range = m.range; is_end = e; inside = first_inside o h k })
        go (inl e) =
            let r = closing _ m.range (by_else e) in
            let d : code (closer code n (closer code n o)) ≡ 5 = by_end _ m.range (by_else e) (else_not_if _ e) in
            rw (end_second o _ _ refl e refl) (record { range = r.range; is_end = d; inside = second_inside _ m.range e ∙ first_inside o h k })
