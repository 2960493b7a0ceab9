-- The record that closes a part is the one at which the part is innermost: up to there the search for it runs on, since a record closes no part but
-- the innermost; and a part that is no longer open was closed. Then where each kind of record goes. Assumes nothing.
use mathlib.Core.Path.{◌≡◌, refl, ◌∙◌, subst}
use mathlib.Core.Bool.{Bool, true, false, ◌&&◌}
use mathlib.Core.List.{List, [], ◌∷◌, tail, head_d}
use Prim.Native.Nat.{ℕ, zero, suc, ◌-◌, ◌≤◌, ◌<◌}
use native.Mathlib.Nat.{le-suc, lt-suc_self, le_of_lt}
use native.Mathlib.Decide.{ℕ_discrete, dec_lt}
use native.Mathlib.Omega.{arith}
use lib.Dec.{eqb}
use borrow.Author.Tests.{eq-eqb, ne_eqb}
unfoldable pub use Rattle.rules.specs.Blocks.{is_in}
use Rattle.rules.specs.Blocks.{branches, closes, head_is, after, parts, closes_part, first_from, closer, past_else, past_end, goes_to}
use Rattle.rules.proofs.Search.{here, further, search}
use Rattle.rules.proofs.Tests.{clash}
use Rattle.rules.proofs.Parts.{or_true, Plain, Kind, opener, divider, ender, other, kind, after_open, after_else, after_end, after_plain, if_opens, while_opens, else_not_if, while_not_if, end_not_if, else_closes, end_closes, opens_closes, plain_closes, Falls, empty, next, raise, known, Begins, by_if, by_else, by_while}

and_false : (b : Bool) → (b && false) ≡ false
and_false true = refl
and_false false = refl

module _ (code : ℕ → ℕ) (n : ℕ) where
  -- falling parts for which the search for what closes them has come to record i
  abbrev pub Open : ℕ → ℕ → List ℕ → Type 0
  Open i = Falls (λ p ps. closer code n p ≡ first_from (closes_part code p) (n - i) i)

  -- record i closes none of them
  pass : {i j : ℕ} {ps : List ℕ} → i < n → ((p : ℕ) → p < j → closes_part code p i ≡ false) → Open i j ps → Open (suc i) j ps
  pass h f empty = empty
  pass {i} h f (next {o = p} l w r) = next l (w ∙ further (closes_part code p) n i h (f p l)) (pass h (λ q m. f q (omega arith)) r)

  silent : (i p : ℕ) → closes (code i) ≡ false → closes_part code p i ≡ false
  unfolding closes_part
  silent i p e = rw e

  -- of the parts that are open at record i, it closes the innermost only
  inner : (i p q : ℕ) (ps : List ℕ) → parts code i ≡ q ∷ ps → p < q → closes_part code p i ≡ false
  unfolding closes_part head_is
  inner i p q ps e l = rw (e, ne_eqb p q (λ z. omega arith)) (and_false (closes (code i)))

  outer : (i : ℕ) {ps : List ℕ} → i < n → parts code i ≡ ps → Open i i ps → Open (suc i) i (tail ps)
  outer i h e empty = empty
  outer i h e (next {o = q} {os = ps} l w r) = raise (le_of_lt l) (pass h (λ p m. inner i p q ps e m) r)

  step : (i : ℕ) → i < n → Open i i (parts code i) → Kind (code i) → Open (suc i) (suc i) (after (code i) i (parts code i))
  unfolding closer
  step i h w (opener k) =
      rw (after_open (code i) i (parts code i) k) (next (lt-suc_self i) refl (pass h (λ p l. silent i p (opens_closes (code i) k)) w))
  step i h w (divider k) = rw (after_else (code i) i (parts code i) k) (next (lt-suc_self i) refl (outer i h refl w))
  step i h w (ender k) = rw (after_end (code i) i (parts code i) k) (raise (le-suc i) (outer i h refl w))
  step i h w (other k) =
      rw (after_plain (code i) i (parts code i) k) (raise (le-suc i) (pass h (λ p l. silent i p (plain_closes (code i) k)) w))

  pub parts_open : (i : ℕ) → i ≤ n → Open i i (parts code i)
  unfolding parts
  parts_open zero h = empty
  parts_open (suc i) h = step i h (parts_open i (le_of_lt h)) (kind (code i))

  -- the innermost part at a record that closes one is closed there
  pub closed_here : (i p : ℕ) (ps : List ℕ) → i < n → parts code i ≡ p ∷ ps → closes (code i) ≡ true → closer code n p ≡ i
  unfolding closes_part head_is
  closed_here i p ps h e k =
      known (subst (Open i i) e (parts_open i (le_of_lt h))) ∙ here (closes_part code p) n i h (rw (k, e, eq-eqb p p refl))

in_later : (q p : ℕ) (ps : List ℕ) → is_in p ps ≡ true → is_in p (q ∷ ps) ≡ true
unfolding is_in
in_later q p ps e = rw (e, or_true (eqb p q))

in_first : (p : ℕ) (ps : List ℕ) → is_in p (p ∷ ps) ≡ true
unfolding is_in
in_first p ps = rw (eq-eqb p p refl)

module _ (code : ℕ → ℕ) where
  -- a part stays open at a record that closes another
  other_closed : (i p : ℕ) (ps : List ℕ) → parts code i ≡ ps → closes (code i) ≡ true → closes_part code p i ≡ false → is_in p ps ≡ true → is_in p (tail ps) ≡ true
  unfolding closes_part head_is is_in
  other_closed i p [] e k f m = clash m refl
  other_closed i p (q ∷ ps) e k f m = let z : eqb p q ≡ false = rw (k, e) at f in rw z at m

  stays : (i p : ℕ) → is_in p (parts code i) ≡ true → closes_part code p i ≡ false → Kind (code i) → is_in p (after (code i) i (parts code i)) ≡ true
  stays i p m f (opener k) = rw (after_open (code i) i (parts code i) k) (in_later i p (parts code i) m)
  stays i p m f (divider k) =
      rw (after_else (code i) i (parts code i) k) (in_later i p _ (other_closed i p (parts code i) refl (else_closes (code i) k) f m))
  stays i p m f (ender k) = rw (after_end (code i) i (parts code i) k) (other_closed i p (parts code i) refl (end_closes (code i) k) f m)
  stays i p m f (other k) = rw (after_plain (code i) i (parts code i) k) m

  starts : (p : ℕ) → Begins (code p) → is_in p (after (code p) p (parts code p)) ≡ true
  starts p (by_if e) = rw (after_open (code p) p (parts code p) (if_opens (code p) e)) (in_first p _)
  starts p (by_else e) = rw (after_else (code p) p (parts code p) e) (in_first p _)
  starts p (by_while e) = rw (after_open (code p) p (parts code p) (while_opens (code p) e)) (in_first p _)

  remains : (p i : ℕ) → p < i → Begins (code p) → ((j : ℕ) → p < j → j < i → closes_part code p j ≡ false) → is_in p (parts code i) ≡ true
  unfolding parts
  remains p zero h b f = absurd (omega arith)
  remains p (suc i) h b f = go (ℕ_discrete p i) (λ l. remains p i l b (λ j a c. f j a (omega arith)))
    where
      go : Dec (p ≡ i) → (p < i → is_in p (parts code i) ≡ true) → is_in p (parts code (suc i)) ≡ true
      go (yes q) r = rw (← q) (starts p b)
      go (no q) r = let l : p < i = omega arith in stays i p (r l) (f i l (lt-suc_self i)) (kind (code i))

  -- what began before record i and is not open there is closed before it
  pub closed : (n i p : ℕ) → p < i → Begins (code p) → is_in p (parts code i) ≡ false → closer code n p < i
  unfolding closer
  closed n i p h b m = go (dec_lt (closer code n p) i)
    where
      go : Dec (closer code n p < i) → closer code n p < i
      go (yes l) = l
      go (no l) = clash (remains p i h b (λ j a c. (search (closes_part code p) (n - suc p) (suc p)).missed j a (omega arith))) m

-- where the records go, by what they are
module _ (code : ℕ → ℕ) (n : ℕ) where
  pub goes_plain : (i : ℕ) → Plain (code i) → goes_to code n i ≡ suc i
  unfolding goes_to
  goes_plain i p = rw (p.not_if, ne_eqb _ 3 p.not3, ne_eqb _ 4 p.not4, ne_eqb _ 5 p.not5)

  module _ (i o : ℕ) where
    pub goes_past_else : branches (code o) ≡ true → closer code n o ≡ i → code i ≡ 3 → goes_to code n o ≡ suc i
    unfolding goes_to past_else
    goes_past_else a e b = rw (a, e, b)

    pub goes_past_end : code o ≡ 4 → closer code n o ≡ i → goes_to code n o ≡ suc i
    unfolding goes_to
    goes_past_end a e = rw (while_not_if (code o) a, a, e)

    pub goes_to_end : Begins (code o) → (code o ≡ 4 → ⊥) → closer code n o ≡ i → code i ≡ 5 → goes_to code n o ≡ i
    unfolding goes_to past_else
    goes_to_end (by_if a) m e b = rw (a, e, b)
    goes_to_end (by_else a) m e b = rw (else_not_if (code o) a, a, e)
    goes_to_end (by_while a) m e b = absurd (m a)

  pub goes_back : (i p : ℕ) (ps : List ℕ) → code i ≡ 5 → parts code i ≡ p ∷ ps → goes_to code n i ≡ past_end code i p
  unfolding goes_to head_d
  goes_back i p ps a e = rw (end_not_if (code i) a, a, e)
