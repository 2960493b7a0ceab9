-- What boards can tell of what the house owns: where they end, and nothing at all if only finished boards are shown. Follows from demand 3. Assumes nothing.
use Rattle.std.specs.Prelude.{◌≡◌, ℕ, suc, ◌≤◌, length}
use mathlib.Core.List.{List, [], ◌∷◌, IsPrefix}
use Rattle.rules.specs.Level.{Level}
use Rattle.rules.specs.Check.{accepted, check_bytes}
use Rattle.rules.specs.Run.{Line, Buffers}
use Rattle.rules.specs.Outcome.{Outcome, answer, run_job, board_lines}
use Rattle.rules.specs.Public.{Alike, seen_lines}

-- boards, each with its number of lines
module _ {ℓ} {I : Type ℓ} {A : Type 0} (board : I → List A) (lines : I → ℕ) where
  -- the boards of is are all beginnings of one list
  abbrev pub Begin : List A → List I → Type 0
  Begin whole [] = Unit {0}
  Begin whole (i ∷ is) = IsPrefix (board i) whole × Begin whole is

  -- the board of i is none of those of js
  abbrev pub Differs : I → List I → Type 0
  Differs i [] = Unit {0}
  Differs i (j ∷ js) = (board i ≡ board j → ⊥) × Differs i js

  -- boards of at most n lines, no two the same
  abbrev pub Different : ℕ → List I → Type 0
  Different n [] = Unit {0}
  Different n (i ∷ is) = (lines i ≤ n) × Differs i is × Different n is

  -- how much the boards tell: they are all beginnings of one list, of at most n lines there are at most n + 1, and those that are finished are the same
  pub record Bounded (Finished : I → Type 0) : Type ℓ where
    pub whole : (is : List I) → (w : List A) × Begin w is
    pub few : (n : ℕ) (is : List I) → Different n is → length is ≤ suc n
    pub finish : (i j : I) → Finished i → Finished j → board i ≡ board j

-- accepted jobs that are alike for the reader o, each with its own budget and buffers
pub record Family {ℓ} (o : Level) (I : Type ℓ) : Type ℓ where
  pub job : I → List ℕ
  pub budget : I → ℕ
  pub lent : I → Buffers
  pub taken : (i : I) → check_bytes (job i) ≡ accepted
  pub alike : (i j : I) → Alike o (job i) (job j)

module _ {ℓ} {o : Level} {I : Type ℓ} (F : Family o I) where
  -- what becomes of a job of the family
  unfoldable pub outcome : I → Outcome
  outcome i = run_job (F.job i) (F.budget i) (F.lent i)

  -- its board, as the reader sees it
  unfoldable pub board : I → List Line
  board i = seen_lines o (board_lines (outcome i))

  -- it finishes
  abbrev pub Finished : I → Type 0
  Finished i = (answer (outcome i)).ending ≡ 0

-- the boards of every such family are bounded
unfoldable pub BoardBound {ℓ} : Level → Type (ℓ + 1)
BoardBound o = (I : Type ℓ) (F : Family o I) → Bounded (board F) (λ i. length (board F i)) (Finished F)
