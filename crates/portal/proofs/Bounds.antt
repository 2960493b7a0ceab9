-- The bound on boards, of calls: their lines are those of the rules' outcomes, spelled out. Assumes nothing.
use mathlib.Core.Path.{◌≡◌, sym, ◌∙◌, ap}
use Prim.Native.Nat.{◌/◌}
use native.Mathlib.Omega.{arith}
use lib.ListN.{length}
use Rattle.rules.specs.Level.{Level}
use Rattle.rules.specs.Board.{Bounded, Family, outcome, board}
use Rattle.rules.proofs.Boards.{comparable_equal, all_begin, few_boards, chained}
use Rattle.actions.specs.Board.{spell}
use Rattle.actions.proofs.Board.{spell_long}
use Rattle.portal.specs.Portal.{buffers_for}
use Rattle.portal.specs.Secrecy.{ending_in, lines_in, seen_in, Unseen, SecretPortal}
use Rattle.portal.specs.Bound.{Calls, PortalBound}
use Rattle.portal.proofs.Secret.{lines_are, secret_portal}

module _ {ℓ} (o : Level) {I : Type ℓ} (C : Calls o I) where
  -- the family of their jobs
  abbrev family : Family o I
  family = record { job = C.job; budget = C.budget; lent = λ i. buffers_for (C.area i); taken = C.taken; alike = C.alike }

  unseen : (i j : I) → Unseen o (C.back i) (C.back j)
  unfolding SecretPortal
  unseen i j =
      secret_portal o (C.job i) (C.job j) (C.budget i) (C.budget j) (C.area i) (C.area j) (C.back i) (C.back j) (C.kept i) (C.kept j)
      (C.taken i) (C.taken j) (C.alike i j)

  lines_of : (i : I) → lines_in o (C.back i) ≡ spell (board family i)
  unfolding board outcome
  lines_of i = lines_are (C.job i) (C.budget i) (C.area i) (C.back i) (C.kept i) o

  count_of : (i : I) → seen_in o (C.back i) ≡ length (board family i)
  unfolding seen_in
  count_of i = ap (λ bs. length bs / 5) (lines_of i) ∙ omega (arith, spell_long (board family i))

  -- as many lines, so the same lines
  by_count : (i j : I) → seen_in o (C.back i) ≡ seen_in o (C.back j) → lines_in o (C.back i) ≡ lines_in o (C.back j)
  by_count i j e =
      lines_of i ∙ ap spell (comparable_equal _ _ (chained o family i j) (sym (count_of i) ∙ e ∙ count_of j)) ∙ sym (lines_of j)

  pub bounded : Bounded (λ i. lines_in o (C.back i)) (λ i. seen_in o (C.back i)) (λ i. ending_in (C.back i) ≡ 0)
  bounded =
      record {
        whole = all_begin (λ i. lines_in o (C.back i)) (λ i. seen_in o (C.back i)) (λ i j. (unseen i j).lines) by_count;
        few = few_boards (λ i. lines_in o (C.back i)) (λ i. seen_in o (C.back i)) (λ i j. (unseen i j).lines) by_count;
        finish = λ i j a b. (unseen i j).finish a b;
      }

pub portal_bound {ℓ} : (o : Level) → PortalBound {ℓ} o
unfolding PortalBound
portal_bound o I C = bounded o C
