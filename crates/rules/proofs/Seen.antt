-- What a reader sees of board lines, as lines are added. Nothing else opens `seenLines`. Assumes nothing.
use mathlib.Core.Path.{◌≡◌, refl, sym, ◌∙◌, ap}
use mathlib.Core.Bool.{Bool, true, false, cond}
use mathlib.Core.List.{List, [], ◌∷◌, ◌++◌, append-nil}
use lib.IntN.{ℤ}
use Rattle.rules.specs.Level.{Level, visible}
use Rattle.rules.specs.Run.{Line}
use Rattle.rules.specs.Public.{seen_lines}
use Rattle.rules.proofs.Tests.{Test, holds, fails, test}

cond_append : (b : Bool) (l : Line) (xs ys : List Line) → cond b (l ∷ (xs ++ ys)) (xs ++ ys) ≡ cond b (l ∷ xs) xs ++ ys
cond_append true l xs ys = refl
cond_append false l xs ys = refl

-- a line
abbrev pub line : ℤ → Level → Line
line z r = record { number = z; readers = r }

module _ (o : Level) where
  pub seen_none : seen_lines o [] ≡ []
  unfolding seen_lines
  seen_none = refl

  pub seen_append : (xs ys : List Line) → seen_lines o (xs ++ ys) ≡ seen_lines o xs ++ seen_lines o ys
  unfolding seen_lines
  seen_append [] ys = refl
  seen_append (x ∷ xs) ys =
      ap (λ zs. cond (visible o x.readers) (x ∷ zs) zs) (seen_append xs ys)
      ∙ cond_append (visible o x.readers) x (seen_lines o xs) (seen_lines o ys)

  -- a line that is not seen
  pub seen_hidden : (xs : List Line) (z : ℤ) (r : Level) → visible o r ≡ false → seen_lines o (xs ++ (line z r ∷ [])) ≡ seen_lines o xs
  unfolding seen_lines
  seen_hidden xs z r e = seen_append xs (line z r ∷ []) ∙ rw e (append-nil (seen_lines o xs))

  -- a line more in two runs, the same where it is seen
  pub seen_same : (xs ys : List Line) (y z : ℤ) (r : Level) → seen_lines o xs ≡ seen_lines o ys → (visible o r ≡ true → y ≡ z)
      → seen_lines o (xs ++ (line y r ∷ [])) ≡ seen_lines o (ys ++ (line z r ∷ []))
  unfolding seen_lines
  seen_same xs ys y z r h k =
      seen_append xs (line y r ∷ []) ∙ (λ i. h i ++ one (test (visible o r)) i) ∙ sym (seen_append ys (line z r ∷ []))
    where
      one : Test (visible o r) → seen_lines o (line y r ∷ []) ≡ seen_lines o (line z r ∷ [])
      one (holds e) = rw (k e)
      one (fails e) = rw e
