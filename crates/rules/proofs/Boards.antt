-- What boards can tell: of lists that begin one another the longest has all as beginnings, and two are equal where they are equally long, so there are
-- no more of them than lengths. Assumes nothing.
use mathlib.Core.Path.{◌≡◌, sym, ◌∙◌, ap}
use mathlib.Core.Logic.{inl, inr}
use Prim.Native.Nat.{ℕ, suc, ◌≤◌}
use native.Mathlib.Omega.{arith}
use mathlib.Core.List.{List, [], ◌∷◌, ◌++◌, map, IsPrefix, append-nil, append_assoc}
use lib.ListN.{length, length-append, length-map}
use Rattle.rules.specs.Level.{Level}
use Rattle.rules.specs.Outcome.{board_lines}
use Rattle.rules.specs.Public.{Comparable, seen_lines, Indistinguishable, Noninterference}
use Rattle.rules.specs.Board.{Begin, Differs, Different, Bounded, Family, outcome, board, Finished, BoardBound}
use Rattle.rules.proofs.Distinct.{Apart, Distinct, at_most}
use Rattle.rules.proofs.Noninterference.{noninterference}
use Rattle.rules.proofs.Endings.{finishes}

module _ {A : Type 0} where
  none_more : (xs zs : List A) → length (xs ++ zs) ≡ length xs → xs ++ zs ≡ xs
  none_more xs [] e = append-nil xs
  none_more xs (z ∷ zs) e = let k = length-append xs (z ∷ zs) in absurd (omega arith)

  -- a beginning that is as long as the whole is the whole
  whole_prefix : (xs ys : List A) → IsPrefix xs ys → length xs ≡ length ys → xs ≡ ys
  whole_prefix xs ys p e = sym (none_more xs p.0 (ap length p.1 ∙ sym e)) ∙ p.1

  pub comparable_equal : (xs ys : List A) → Comparable xs ys → length xs ≡ length ys → xs ≡ ys
  comparable_equal xs ys (inl p) e = whole_prefix xs ys p e
  comparable_equal xs ys (inr p) e = sym (whole_prefix ys xs p (sym e))

  prefix_trans : (xs ys zs : List A) → IsPrefix xs ys → IsPrefix ys zs → IsPrefix xs zs
  prefix_trans xs ys zs p q = (p.0 ++ q.0, sym (append_assoc xs _ _) ∙ ap (λ w. w ++ q.0) p.1 ∙ q.1)

-- boards that begin one another, and that are equal where they have as many lines
module _ {ℓ} {I : Type ℓ} {A : Type 0} (board : I → List A) (lines : I → ℕ) (chain : (i j : I) → Comparable (board i) (board j))
    (by_lines : (i j : I) → lines i ≡ lines j → board i ≡ board j) where
  longer : (xs ys : List A) (is : List I) → IsPrefix xs ys → Begin board lines xs is → Begin board lines ys is
  longer xs ys [] p h = tt
  longer xs ys (i ∷ is) p h = (prefix_trans (board i) xs ys h.0 p, longer xs ys is p h.1)

  -- the longest of them
  longest : (i : I) (is : List I) → (j : I) × Begin board lines (board j) (i ∷ is)
  longest i [] = (i, (([], append-nil (board i)), tt))
  longest i (k ∷ is) = let r = longest k is in pick r.0 r.1 (chain i r.0)
    where
      pick : (j : I) → Begin board lines (board j) (k ∷ is) → Comparable (board i) (board j) → (j : I) × Begin board lines (board j) (i ∷ k ∷ is)
      pick j h (inl p) = (j, (p, h))
      pick j h (inr p) = (i, (([], append-nil (board i)), longer (board j) (board i) (k ∷ is) p h))

  pub all_begin : (is : List I) → (w : List A) × Begin board lines w is
  all_begin [] = ([], tt)
  all_begin (i ∷ is) = let r = longest i is in (board r.0, r.1)

  counts : List I → List ℕ
  counts is = map lines is

  apart : (i : I) (js : List I) → Differs board lines i js → Apart (lines i) (counts js)
  unfolding counts
  apart i [] h = tt
  apart i (j ∷ js) h = (λ e. h.0 (by_lines i j e), apart i js h.1)

  distinct : (n : ℕ) (is : List I) → Different board lines n is → Distinct (suc n) (counts is)
  unfolding counts
  distinct n [] h = tt
  distinct n (i ∷ is) h = (let l = h.0 in omega arith, apart i is h.1, distinct n is h.2)

  pub few_boards : (n : ℕ) (is : List I) → Different board lines n is → length is ≤ suc n
  unfolding counts
  few_boards n is h = let q = length-map is lines in let p = at_most (suc n) (counts is) (distinct n is h) in omega (arith, q, p)

module _ {ℓ} (o : Level) {I : Type ℓ} (F : Family o I) where
  untold : (i j : I) → Indistinguishable o (outcome F i) (outcome F j)
  unfolding outcome Noninterference
  untold i j =
      noninterference o (F.job i) (F.job j) (F.budget i) (F.budget j) (F.lent i) (F.lent j) (F.taken i) (F.taken j) (F.alike i j)

  pub chained : (i j : I) → Comparable (board F i) (board F j)
  unfolding board
  chained i j = (untold i j).lines

  pub finished_alike : (i j : I) → Finished F i → Finished F j → board F i ≡ board F j
  unfolding board outcome board_lines
  finished_alike i j a b =
      let p = finishes (F.job i) (F.budget i) (F.lent i) a in
      let q = finishes (F.job j) (F.budget j) (F.lent j) b in
      ap (λ w. seen_lines o (board_lines w)) p.1 ∙ ((untold i j).finish p.0 q.0 p.1 q.1).lines ∙ sym (ap (λ w. seen_lines o (board_lines w)) q.1)

  by_length : (i j : I) → length (board F i) ≡ length (board F j) → board F i ≡ board F j
  by_length i j e = comparable_equal _ _ (chained i j) e

  pub bounded : Bounded (board F) (λ i. length (board F i)) (Finished F)
  bounded =
      record {
        whole = all_begin (board F) _ chained by_length;
        few = few_boards (board F) _ chained by_length;
        finish = finished_alike;
      }

pub board_bound {ℓ} : (o : Level) → BoardBound {ℓ} o
unfolding BoardBound
board_bound o I F = bounded o F
