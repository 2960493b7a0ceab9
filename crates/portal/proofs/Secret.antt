-- Demand 3 of two calls, from their contract alone and demand 3 of the rules' run: a call's two halves and the bytes of its lines are those of the rules'
-- outcome. Assumes nothing.
use mathlib.Core.Path.{◌≡◌, refl, sym, ◌∙◌, ap}
use mathlib.Core.Logic.{⊎_map}
use mathlib.Core.List.{List}
use Prim.Native.Nat.{ℕ, ◌+◌, ◌*◌, ◌/◌, ◌%◌, ◌≤◌}
use native.Mathlib.Omega.{arith}
use lib.ListN.{length}
use Rattle.rules.specs.Limits.{max_budget}
use Rattle.rules.specs.Level.{Level}
use Rattle.rules.specs.Number.{range}
use Rattle.rules.specs.Check.{accepted, check_bytes}
use Rattle.rules.specs.Run.{Line, State}
use Rattle.rules.specs.Outcome.{Outcome, rejected, ran, answer, run_job, board_lines}
use Rattle.rules.specs.Public.{Finishes, Alike, seen_lines, Indistinguishable, Noninterference}
use Rattle.rules.proofs.Noninterference.{noninterference}
use Rattle.rules.proofs.Endings.{finishes}
use Rattle.actions.specs.Board.{spell, seen_board}
use Rattle.actions.proofs.Board.{written_seen, spell_prefix}
use Rattle.portal.specs.Portal.{buffers_for, number_of, Handed, hand_back, portal}
use Rattle.portal.specs.Secrecy.{ending_in, count_in, lines_in, Unseen, SecretPortal}
use Rattle.portal.proofs.Counted.{few_lines}

-- the halves of a number whose lower one is small
pub upper : (e l : ℕ) → l ≤ max_budget → (e * range + l) / range ≡ e
upper e l h = omega arith

pub lower : (e l : ℕ) → l ≤ max_budget → (e * range + l) % range ≡ l
lower e l h = omega arith

-- the line count is that of the lines
counted : (o : Outcome) → (answer o).lines ≡ length (board_lines o)
unfolding answer board_lines
counted (rejected k i) = refl
counted (ran e) = refl

-- a call, and what becomes of its job
module _ (b : List ℕ) (n : ℕ) (area : List ℕ) (h : Handed) (is : h ≡ portal b n area) where
  abbrev outcome : Outcome
  outcome = run_job b n (buffers_for area)

  pub ending_is : ending_in h ≡ (answer outcome).ending
  unfolding ending_in portal hand_back number_of
  ending_is = ap ending_in is ∙ upper _ _ (few_lines b n (buffers_for area))

  pub count_is : count_in h ≡ length (board_lines outcome)
  unfolding count_in portal hand_back number_of
  count_is = ap count_in is ∙ lower _ _ (few_lines b n (buffers_for area)) ∙ counted outcome

  pub lines_are : (o : Level) → lines_in o h ≡ spell (seen_lines o (board_lines outcome))
  unfolding lines_in portal hand_back
  lines_are o =
      ap (λ (k : ℕ). seen_board o k h.area) count_is ∙ ap (λ k. seen_board o (length (board_lines outcome)) k.area) is
      ∙ written_seen (board_lines outcome) area o

  pub finish : ending_in h ≡ 0 → (s : State) × Finishes outcome s
  finish z = finishes b n (buffers_for area) (sym ending_is ∙ z)

module _ (o : Level) (a b : List ℕ) (n m : ℕ) (x y : List ℕ) (h k : Handed) (p : h ≡ portal a n x) (q : k ≡ portal b m y)
    (ha : check_bytes a ≡ accepted) (hb : check_bytes b ≡ accepted) (alike : Alike o a b) where
  untold : Indistinguishable o (outcome a n x h p) (outcome b m y k q)
  unfolding Noninterference
  untold = noninterference o a b n m (buffers_for x) (buffers_for y) ha hb alike

  unseen : Unseen o h k
  unfolding board_lines
  unseen =
      record {
        lines = rw (lines_are a n x h p o, lines_are b m y k q o) (⊎_map (spell_prefix _ _) (spell_prefix _ _) untold.lines);
        finish = λ z w.
            let f = finish a n x h p z in
            let g = finish b m y k q w in
            let seen : Outcome → List Line = λ v. seen_lines o (board_lines v) in
            lines_are a n x h p o
            ∙ ap spell (ap seen f.1 ∙ (untold.finish f.0 g.0 f.1 g.1).lines ∙ sym (ap seen g.1))
            ∙ sym (lines_are b m y k q o);
      }

pub secret_portal : (o : Level) → SecretPortal o
unfolding SecretPortal
secret_portal o a b n m x y h k p q ha hb alike = unseen o a b n m x y h k p q ha hb alike
