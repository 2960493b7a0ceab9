-- The words of a plan after a record, from those before it: a record that closes no part stores its own word, one that closes a part its own and
-- that part's, since the record that closes a part is the one at which it is innermost. Assumes nothing.
use mathlib.Core.Path.{◌≡◌, refl, sym, ap, ◌∙◌, subst}
use mathlib.Core.Bool.{Bool, true, false, cond}
use mathlib.Core.List.{List, [], ◌∷◌, tail, head_d}
use Prim.Native.Nat.{ℕ, suc, ◌+◌, ◌≤◌, ◌<◌}
use native.Mathlib.Omega.{arith}
use native.Mathlib.Numerals.{add-one}
use lib.Dec.{eqb}
use lib.ListN.{length, get_or, set, length-set}
use lib.Seq.{get_or-set_same, get_or-set_other}
use borrow.Author.Tests.{eq-eqb, ne_eqb, eqb-true, eqb-false}
use Rattle.rules.specs.Blocks.{branches, parts, nest, goes_to}
use Rattle.rules.proofs.Tests.{Test, holds, fails, test}
use Rattle.rules.proofs.Parts.{Kind, opener, divider, ender, other, kind, after_open, after_else, after_end, after_plain}
use Rattle.rules.proofs.Parts.{Falls, empty, next, else_closes, end_closes, before, begun, begins_not, parts_below}
use Rattle.rules.proofs.Jumps.{is_in, closed_here, goes_plain, goes_past_else, goes_past_end, goes_to_end, goes_back}
use Rattle.job.specs.Plan.{entry, end_mark, end_code, plan_code, planned, Partly, Whole}
use Rattle.job.specs.Parts.{end_stored}

-- a falling list holds nothing from its bound on
absent : {P : ℕ → List ℕ → Type 0} {i : ℕ} {os : List ℕ} (k : ℕ) → i ≤ k → Falls P i os → is_in k os ≡ false
unfolding is_in
absent k h empty = refl
absent k h (next {o = o} l p b) = rw (ne_eqb k o (λ q. omega arith)) (absent k (omega arith) b)

-- what stands behind the first entry falls from it
behind : {P : ℕ → List ℕ → Type 0} {i o : ℕ} {os : List ℕ} → Falls P i (o ∷ os) → Falls P o os
behind (next l p b) = b

-- what is no end stands for itself
own_code : (code : ℕ → ℕ) (k : ℕ) → (code k ≡ 5 → ⊥) → plan_code code k ≡ code k
unfolding plan_code
own_code code k n5 = rw (ne_eqb (code k) 5 n5)

end_code_law : (code : ℕ → ℕ) (k b : ℕ) (bs : List ℕ) → code k ≡ 5 → nest code k ≡ b ∷ bs → plan_code code k ≡ end_code (code b)
unfolding plan_code head_d
end_code_law code k b bs a e = rw (eq-eqb (code k) 5 a, e)

module _ (code : ℕ → ℕ) (n i : ℕ) (p q : List ℕ) (h : i < n) (long : i < length q) (w : Partly code n i p q) where
  -- the word of a record whose part is open, or which goes to the next
  open_word : (k j : ℕ) → (code k ≡ 5 → ⊥) → is_in k (parts code j) ≡ true → entry (code k) (suc k) ≡ planned code n j k
  unfolding planned
  open_word k j n5 e = rw (own_code code k n5, e)

  settled : (k j : ℕ) → is_in k (parts code j) ≡ false → entry (plan_code code k) (goes_to code n k) ≡ planned code n j k
  unfolding planned
  settled k j e = rw e

  same : (k j : ℕ) → is_in k (parts code j) ≡ is_in k (parts code i) → planned code n i k ≡ planned code n j k
  unfolding planned
  same k j e = rw e

  abbrev u : ℕ
  u = entry (code i) (i + 1)

  -- a record that closes no part
  pub fill_first : (code i ≡ 3 → ⊥) → (code i ≡ 5 → ⊥) → Partly code n (suc i) p (set q i (entry (code i) (i + 1)))
  unfolding parts is_in planned
  fill_first n3 n5 =
      record {
        each = λ k l. go k l (kind (code i)) (test (eqb k i));
        spare = λ k l. get_or-set_other q i k _ 0 (λ z. omega arith) ∙ w.spare k (omega arith);
      }
    where
      own : planned code n (suc i) i ≡ u → get_or (set q i u) i 0 ≡ planned code n (suc i) i
      own e = get_or-set_same q i u 0 long ∙ sym e

      earlier : (k : ℕ) → k < suc i → eqb k i ≡ false → is_in k (parts code (suc i)) ≡ is_in k (parts code i)
          → get_or (set q i u) k 0 ≡ planned code n (suc i) k
      earlier k l e s =
          get_or-set_other q i k u 0 (eqb-false k i e) ∙ w.each k (omega (arith, eqb-false k i e)) ∙ same k (suc i) s

      -- whether or not a part is taken to be open at a plain record, it goes to the next
      to_next : (t : Bool) → goes_to code n i ≡ suc i → entry (plan_code code i) (cond t (suc i) (goes_to code n i)) ≡ u
      to_next true e = rw (own_code code i n5, add-one)
      to_next false e = rw (own_code code i n5, e, add-one)

      go : (k : ℕ) → k < suc i → Kind (code i) → Test (eqb k i) → get_or (set q i u) k 0 ≡ planned code n (suc i) k
      go k l (divider a) t = absurd (n3 a)
      go k l (ender a) t = absurd (n5 a)
      go k l (opener a) (fails z) = earlier k l z (rw (after_open (code i) i (parts code i) a, z))
      go k l (opener a) (holds z) =
          rw (eqb-true k i z) (own (sym (open_word i (suc i) n5 (rw (after_open (code i) i (parts code i) a, eq-eqb i i refl))) ∙ rw add-one))
      go k l (other a) (fails z) = earlier k l z (rw (after_plain (code i) i (parts code i) a))
      go k l (other a) (holds z) = rw (eqb-true k i z) (own (to_next (is_in i (parts code (suc i))) (goes_plain code n i a)))

  -- a record that closes the innermost part, begun at o
  module _ (o : ℕ) (os : List ℕ) (e : parts code i ≡ o ∷ os) where
    below : o < i
    below = before code i o os e

    -- neither the record nor the part is among the parts around it
    outside : (k : ℕ) → o ≤ k → is_in k os ≡ false
    outside k l = absent k l (behind (rw e at (parts_below code i)))

    -- it stores the words u and v, and leaves the parts ps
    closing : (u v : ℕ) (ps : List ℕ) → parts code (suc i) ≡ ps → ((k : ℕ) → eqb k i ≡ false → is_in k ps ≡ is_in k os)
        → u ≡ planned code n (suc i) i → v ≡ planned code n (suc i) o → Partly code n (suc i) p (set (set q i u) o v)
    unfolding is_in
    closing u v ps a others own its =
        record {
          each = λ k l. go k l (test (eqb k i)) (test (eqb k o));
          spare = λ k l.
              get_or-set_other (set q i u) o k v 0 (λ z. omega (arith, below)) ∙ get_or-set_other q i k u 0 (λ z. omega arith) ∙ w.spare k (omega arith);
        }
      where
        go : (k : ℕ) → k < suc i → Test (eqb k i) → Test (eqb k o) → get_or (set (set q i u) o v) k 0 ≡ planned code n (suc i) k
        go k l t (holds z) =
            rw (eqb-true k o z) (get_or-set_same (set q i u) o v 0 (simp length-set (omega (arith, below))) ∙ its)
        go k l (holds r) (fails z) =
            rw (eqb-true k i r) (get_or-set_other (set q i u) o i v 0 (λ x. omega (arith, below)) ∙ get_or-set_same q i u 0 long ∙ own)
        go k l (fails r) (fails z) =
            get_or-set_other (set q i u) o k v 0 (eqb-false k o z) ∙ get_or-set_other q i k u 0 (eqb-false k i r)
            ∙ w.each k (omega (arith, eqb-false k i r)) ∙ same k (suc i) (rw a (others k r ∙ rw (e, z)))

    -- a record that begins a part is no end
    begins : code o ≡ 5 → ⊥
    begins z = begins_not (begun code i o os e) z

    pub fill_else : code i ≡ 3 → branches (code o) ≡ true → Partly code n (suc i) p (set (set q i (entry 3 (i + 1))) o (entry (code o) (i + 1)))
    unfolding parts is_in
    fill_else a b =
        let s : parts code (suc i) ≡ i ∷ os = after_else (code i) i (parts code i) a ∙ ap (λ (r : List ℕ). i ∷ tail r) e in
        let u : entry 3 (i + 1) ≡ entry (code i) (suc i) = rw (a, add-one i) in
        let v : entry (code o) (i + 1) ≡ entry (plan_code code o) (goes_to code n o) =
        rw (own_code code o begins, goes_past_else code n i o b (closed_here code n i o os h e (else_closes (code i) a)) a, add-one i) in
        closing _ _ (i ∷ os) s (λ k z. rw z) (u ∙ open_word i (suc i) (λ z. omega arith) (rw (s, eq-eqb i i refl)))
        (v ∙ settled o (suc i) (rw (s, ne_eqb o i (λ z. omega (arith, below))) (outside o (omega arith))))

    ended : code i ≡ 5 → parts code (suc i) ≡ os
    unfolding parts
    ended a = after_end (code i) i (parts code i) a ∙ ap tail e

    -- where the part begun at o goes
    part_goes : code i ≡ 5 → Test (eqb (code o) 4) → cond (eqb (code o) 4) (suc i) i ≡ goes_to code n o
    part_goes a (holds z) = rw z (sym (goes_past_end code n i o (eqb-true _ 4 z) (closed_here code n i o os h e (end_closes (code i) a))))
    part_goes a (fails z) =
        rw z (sym (goes_to_end code n i o (begun code i o os e) (eqb-false _ 4 z) (closed_here code n i o os h e (end_closes (code i) a)) a))

    pub fill_end : (b : ℕ) (bs : List ℕ) → nest code i ≡ b ∷ bs → code i ≡ 5 → Partly code n (suc i) p (end_stored code i o b q)
    unfolding end_stored
    fill_end b bs z a =
        closing _ _ os (ended a) (λ k z. refl)
        (rw (← goes_back code n i o os a e, ← end_code_law code i b bs a z) (settled i (suc i) (rw (ended a) (outside i (omega (arith, below))))))
        (rw (part_goes a (test (eqb (code o) 4)), ← own_code code o begins) (settled o (suc i) (rw (ended a) (outside o (omega arith)))))

-- behind the last record no part is open, and the end mark makes the plan whole
pub completed : (code : ℕ → ℕ) (n i : ℕ) (p q : List ℕ) → i ≡ n → n < length q → parts code i ≡ [] → Partly code n i p q → Whole code n p (set q n end_mark)
unfolding planned is_in
completed code n i p q e h d w =
    record {
      each = λ k l. get_or-set_other q n k end_mark 0 (λ z. omega arith) ∙ w.each k (omega arith) ∙ rw d;
      last = get_or-set_same q n end_mark 0 h;
      spare = λ k l. get_or-set_other q n k end_mark 0 (λ z. omega arith) ∙ w.spare k (omega arith);
    }

-- the same of as many records
pub as_many : {code : ℕ → ℕ} {n i j : ℕ} {p q : List ℕ} → i ≡ j → Partly code n i p q → Partly code n j p q
as_many {code} {n} {i} {j} {p} {q} e w = subst (λ (m : ℕ). Partly code n m p q) e w
