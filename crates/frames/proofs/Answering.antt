-- What became of a job, from what its calls put. Assumes nothing.
use mathlib.Core.List.{List, [], ◌∷◌}
use mathlib.Core.Path.{◌≡◌, ◌∙◌, subst}
use Prim.Native.Nat.{ℕ, ◌/◌, min}
use lib.IntN.{ℤ}
use lib.ListN.{length}
use Rattle.rules.specs.Outcome.{Answer}
use Rattle.rules.specs.Tree.{Forest}
use Rattle.print.specs.Answers.{Says}
use Rattle.print.specs.Waiting.{Output, Listed}
use Rattle.frames.specs.Pieces.{Writes, more}
use Rattle.frames.specs.Answers.{answer_line, answer_on, board_lines, variable_rows, tree_rows, run_pieces}
use Rattle.frames.proofs.Putting.{joined}

module _ {ending index steps lines : ℕ} {a : Answer} (says : Says ending index steps lines a) {o p : Output} where
  -- the line of an answer
  pub said : Writes (answer_line ending index steps lines) o p → Writes (answer_on a) o p
  said = subst (λ ps. Writes ps o p) (λ i. answer_line (says.0 i) (says.1 i) (says.2 i) (says.3 i))

  -- all of a run
  pub shown : (n : ℕ) (levels : List ℕ) (values : List ℤ) {area : List ℕ} (t : Forest) {q r s : Output} → Writes (answer_line ending index steps lines) o p
      → q.fd ≡ p.fd → Listed (108 ∷ 105 ∷ 110 ∷ 101 ∷ 32 ∷ []) area p.waits (min lines (length area / 5)) q.waits
      → Writes (variable_rows n levels values) q r → Writes (tree_rows 0 t) r s → Writes (run_pieces a n levels values area t) o s
  unfolding board_lines run_pieces
  shown n levels values {area} t {q} answer same listed variables rows =
      record {
        same = rows.same ∙ variables.same ∙ same ∙ answer.same;
        puts = joined (said answer).puts (more
            (subst (λ k. Listed (108 ∷ 105 ∷ 110 ∷ 101 ∷ 32 ∷ []) area p.waits (min k (length area / 5)) q.waits) says.3 listed)
            (joined variables.puts rows.puts));
      }
