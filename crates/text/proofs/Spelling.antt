-- Laws of texts: what a character stands for, what is left of a text behind one character or one repeat, and what is left to be stored. Assumes nothing.
use mathlib.Core.List.{List, [], ◌∷◌, ◌++◌, append_assoc}
use mathlib.Core.Path.{◌≡◌, refl, sym, ◌∙◌, ap, subst}
use native.Mathlib.Numerals.{add-one}
use native.Mathlib.Omega.{arith}
use Prim.Native.Nat.{ℕ, zero, suc, ◌+◌, ◌-◌, ◌*◌, ◌≤◌, ◌<◌, min}
use lib.ListN.{length, length-drop, take, drop, get_or, set, length-set, drop_of_length-le}
use lib.Seq.{take_all, drop-nil, drop-cons, set_out}
use borrow.Author.Tests.{ltb-false}
use Rattle.std.specs.Prelude.{Bool, true, false, not, cond, ◌==◌, ltb, Option, Some, None, option_to_list}
use Rattle.std.specs.List.{position}
use Rattle.std.proofs.lemmas.List.Sums.{prefix_len-le-length}
use Rattle.std.proofs.lemmas.Option.{none-some}
use Rattle.text.specs.Hex.{first_of, digit_of, digits, number_of, bytes_of, plain, times, expanded, spelled, placed, Leaves}

-- a text that has a character nowhere from place i on
pub absent : (c i : ℕ) (t : List ℕ) → i ≤ length t → None ≡ position (λ x. x == c) (take (length t - i) (drop i t)) → length t ≡ i + first_of c (drop i t)
absent c i t le e = nowhere (ltb (first_of c rest) (length rest)) refl
  where
    rest : List ℕ
    rest = drop i t

    whole : take (length t - i) rest ≡ rest
    whole = take_all (length t - i) rest (omega (arith, length-drop i t))

    nowhere : (b : Bool) → ltb (first_of c rest) (length rest) ≡ b → length t ≡ i + first_of c rest
    nowhere true h = absurd (none-some _ (e ∙ ap (position (λ x. x == c)) whole ∙ ap (λ z. cond z (Some (first_of c rest)) None) h))
    nowhere false h = omega (arith, length-drop i t, ltb-false (first_of c rest) (length rest) h, prefix_len-le-length (λ x. not (x == c)) rest)

-- a text from place i on: one character, or nothing
module _ (t : List ℕ) (i : ℕ) where
  from_here : i < length t → drop i t ≡ get_or t i 0 ∷ drop (i + 1) t
  from_here h = rw add-one (drop-cons t i 0 h)

  module _ (h : i < length t) where
    pub digits_past : {d : ℕ} → Some d ≡ digit_of (get_or t i 0) → digits (drop i t) ≡ d ∷ digits (drop (i + 1) t)
    unfolding digits
    digits_past e = ap digits (from_here h) ∙ ap (λ o. option_to_list o ++ digits (drop (i + 1) t)) (sym e)

    pub digits_pass : None ≡ digit_of (get_or t i 0) → digits (drop i t) ≡ digits (drop (i + 1) t)
    unfolding digits
    digits_pass e = ap digits (from_here h) ∙ ap (λ o. option_to_list o ++ digits (drop (i + 1) t)) (sym e)

  module _ (h : length t ≤ i) where
    pub number_end : (v : ℕ) → number_of v (digits (drop i t)) ≡ v
    unfolding number_of digits
    number_end v = rw (drop_of_length-le t h)

    pub bytes_end : (o : Option ℕ) → bytes_of (option_to_list o ++ digits (drop i t)) ≡ []
    unfolding bytes_of digits
    bytes_end None = rw (drop_of_length-le t h)
    bytes_end (Some x) = rw (drop_of_length-le t h)

-- what is left to be stored
pub then : {b₁ b₂ b₃ l₁ l₂ l₃ : List ℕ} {n₁ n₂ n₃ : ℕ} → Leaves b₁ n₁ l₁ b₂ n₂ l₂ → Leaves b₂ n₂ l₂ b₃ n₃ l₃ → Leaves b₁ n₁ l₁ b₃ n₃ l₃
then h k = record { same = h.same ∙ k.same; count = h.count ∙ k.count }

pub nothing_yet : (b : List ℕ) (n : ℕ) (l : List ℕ) → Leaves b n l b n l
nothing_yet b n l = record { same = refl; count = refl }

pub instead : {b b' l l₁ l₂ : List ℕ} {n n' : ℕ} → l₁ ≡ l₂ → Leaves b n l b' n' l₁ → Leaves b n l b' n' l₂
instead {b} {b'} {l} {n = n} {n'} e h = subst (λ k. Leaves b n l b' n' k) e h

pub instead_of : {b b' l₁ l₂ l' : List ℕ} {n n' : ℕ} → l₁ ≡ l₂ → Leaves b n l₁ b' n' l' → Leaves b n l₂ b' n' l'
instead_of {b} {b'} {l' = l'} {n} {n'} e h = subst (λ k. Leaves b n k b' n' l') e h

placed_full : (b : List ℕ) (n : ℕ) (l : List ℕ) → length b ≤ n → placed b n l ≡ b
unfolding placed
placed_full b n [] h = refl
placed_full b n (x ∷ l) h = ap (λ a. placed a (suc n) l) (set_out b n x h) ∙ placed_full b (suc n) l (omega arith)

-- a full buffer takes nothing more
pub full : {b : List ℕ} {n : ℕ} → n ≡ length b → (l k : List ℕ) → Leaves b n l b n k
full {b} {n} e l k =
    let le : length b ≤ n = omega arith in record {
      same = placed_full b n l le ∙ sym (placed_full b n k le);
      count = omega arith;
    }

-- one digit more
module _ (b : List ℕ) (n x d : ℕ) (ds k : List ℕ) where
  pub byte_lost : n ≡ length b → Leaves b n (bytes_of (x ∷ d ∷ ds) ++ k) b n (bytes_of ds ++ k)
  unfolding placed bytes_of
  byte_lost e =
      let le : length b ≤ n = omega arith in record {
        same = placed_full b n ((x * 16 + d) ∷ (bytes_of ds ++ k)) le ∙ sym (placed_full b n (bytes_of ds ++ k) le);
        count = omega arith;
      }

  pub byte_stored : Leaves b n (bytes_of (x ∷ d ∷ ds) ++ k) (set b n (x * 16 + d)) (n + 1) (bytes_of ds ++ k)
  unfolding placed bytes_of
  byte_stored =
      record {
        same = ap (λ m. placed (set b n (x * 16 + d)) m (bytes_of ds ++ k)) (sym (add-one n));
        count = omega (arith, length-set b n (x * 16 + d));
      }

-- so many times
pub times_past : (n m : ℕ) (l k : List ℕ) → n ≡ suc m → times n l ++ k ≡ l ++ (times m l ++ k)
unfolding times
times_past n m l k e = ap (λ j. times j l ++ k) e ∙ append_assoc l (times m l) k

pub times_end : (n : ℕ) (l k : List ℕ) → n ≡ 0 → times n l ++ k ≡ k
unfolding times
times_end n l k e = ap (λ j. times j l ++ k) e

-- a text part by part
drops : (a b : ℕ) (l : List ℕ) → drop a (drop b l) ≡ drop (b + a) l
drops a zero l = let e : a ≡ zero + a = omega arith in ap (λ n. drop n l) e
drops a (suc b) [] = drop-nil a ∙ sym (drop-nil (suc b + a))
drops a (suc b) (x ∷ l) = let e : suc b + a ≡ suc (b + a) = omega arith in drops a b l ∙ sym (ap (λ n. drop n (x ∷ l)) e)

pub expanded_nil : (m : ℕ) → expanded m [] ≡ []
unfolding expanded plain bytes_of digits number_of times
expanded_nil zero = refl
expanded_nil (suc m) = expanded_nil m

module _ (t : List ℕ) (m i start star close : ℕ) (isStart : start ≡ i + first_of 91 (drop i t)) (isStar : star ≡ start + first_of 42 (drop start t))
    (isClose : close ≡ star + first_of 93 (drop star t)) where
  pub expanded_past :
      expanded (suc m) (drop i t) ≡ plain (take (start - i) (drop i t))
      ++ (times (number_of 0 (digits (take (star - start) (drop start t)))) (plain (take (close - star) (drop star t))) ++ expanded m (drop (close + 1) t))
  unfolding expanded
  expanded_past =
      let to_start : first_of 91 (drop i t) ≡ start - i = omega arith in
      let at-start : drop (first_of 91 (drop i t)) (drop i t) ≡ drop start t = drops _ i t ∙ ap (λ n. drop n t) (sym isStart) in
      let to-star : first_of 42 (drop start t) ≡ star - start = omega arith in
      let at-star : drop (first_of 42 (drop start t)) (drop start t) ≡ drop star t = drops _ start t ∙ ap (λ n. drop n t) (sym isStar) in
      let to-close : first_of 93 (drop star t) ≡ close - star = omega arith in
      let past : star + suc (first_of 93 (drop star t)) ≡ close + 1 = omega arith in
      let at-close : drop (suc (first_of 93 (drop star t))) (drop star t) ≡ drop (close + 1) t = drops _ star t ∙ ap (λ n. drop n t) past in
      ap (λ r. plain (take (first_of 91 (drop i t)) (drop i t)) ++ rest r) at-start
      ∙ ap (λ s. plain (take (first_of 91 (drop i t)) (drop i t)) ++ (times (number_of 0 (digits (take (first_of 42 (drop start t)) (drop start t)))) (plain (take (first_of 93 s) s)) ++ expanded m (drop (suc (first_of 93 s)) s))) at-star
      ∙ (λ j. plain (take (to_start j) (drop i t)) ++ (times (number_of 0 (digits (take (to-star j) (drop start t)))) (plain (take (to-close j) (drop star t))) ++ expanded m (at-close j)))
    where
      rest : List ℕ → List ℕ
      rest r = let part = drop (first_of 42 r) r in times (number_of 0 (digits (take (first_of 42 r) r))) (plain (take (first_of 93 part) part)) ++ expanded m (drop (suc (first_of 93 part)) part)

-- all of a list is stored from the start on, and n bytes are
pub record Stored (l b₀ b : List ℕ) (n : ℕ) : Type 0 where
  pub same : b ≡ placed b₀ 0 l
  pub count : min (n + 0) (length b) ≡ min (0 + length l) (length b₀)

-- the turns that are left, spell what is left to be stored of a text from place i on
pub record Expanding (t b₀ b : List ℕ) (n i : ℕ) : Type 0 where
  pub turns : ℕ
  pub enough : length t ≤ i + turns
  pub leaves : Leaves b₀ 0 (spelled t) b n (expanded turns (drop i t))

pub expanding : (t b : List ℕ) → Expanding t b b 0 0
unfolding spelled
expanding t b = record { turns = length t; enough = omega arith; leaves = nothing_yet b 0 (expanded (length t) t) }

pub turned : {t b₀ b b₁ b₂ : List ℕ} {n n₁ n₂ i start star close often : ℕ} → Expanding t b₀ b n i → i < length t → start ≡ i + first_of 91 (drop i t)
    → star ≡ start + first_of 42 (drop start t) → close ≡ star + first_of 93 (drop star t) → often ≡ number_of 0 (digits (take (star - start) (drop start t)))
    → ((k : List ℕ) → Leaves b n (plain (take (start - i) (drop i t)) ++ k) b₁ n₁ k)
    → ((k : List ℕ) → Leaves b₁ n₁ (times often (plain (take (close - star) (drop star t))) ++ k) b₂ n₂ k) → Expanding t b₀ b₂ n₂ (close + 1)
turned {t} {b₀} {b} {b₁} {b₂} {n} {n₁} {n₂} {i} {start} {star} {close} {often} e h isStart isStar isClose isOften front back = go e.turns e.enough e.leaves
  where
    go : (m : ℕ) → length t ≤ i + m → Leaves b₀ 0 (spelled t) b n (expanded m (drop i t)) → Expanding t b₀ b₂ n₂ (close + 1)
    go zero enough leaves = absurd (omega arith)
    go (suc m) enough leaves =
        let tail = expanded m (drop (close + 1) t) in
        let one = plain (take (close - star) (drop star t)) in
        let whole = expanded_past t m i start star close isStart isStar isClose
        ∙ ap (λ j. plain (take (start - i) (drop i t)) ++ (times j one ++ tail)) (sym isOften) in
        record { turns = m; enough = omega arith; leaves = then (instead whole leaves) (then (front (times often one ++ tail)) (back tail)) }

-- where nothing is left of the text
pub ended : {t b₀ b : List ℕ} {n i : ℕ} → Expanding t b₀ b n i → length t ≤ i → Stored (spelled t) b₀ b n
unfolding placed
ended {t} {i = i} e h =
    let l = instead (ap (expanded e.turns) (drop_of_length-le t h) ∙ expanded_nil e.turns) e.leaves in
    record { same = sym l.same; count = sym l.count }
