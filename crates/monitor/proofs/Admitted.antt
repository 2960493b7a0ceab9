-- The checks 11 of the section, 7, 8, 9 and 10, one link after another. Assumes nothing.
use Rattle.std.specs.Prelude.{Result, Ok, Err}
use mathlib.Core.Path.{◌≡◌, refl, sym, ◌∙◌, ap, subst}
use mathlib.Core.Bool.{Bool, true, false}
use mathlib.Core.List.{List}
use Prim.Native.Nat.{ℕ, ◌<◌, ◌≤◌}
use native.Mathlib.Omega.{arith}
use lib.Dec.{leb}
use lib.ListN.{length}
use borrow.Author.Tests.{le-leb, lt-leb}
use Rattle.rules.specs.Limits.{max_nodes, bad_budget, bad_buffers}
use Rattle.rules.specs.Check.{accepted, refused, require, code}
use Rattle.rules.specs.Run.{Buffers}
use Rattle.rules.specs.Outcome.{budget_rule}
use Rattle.rules.specs.History.{Store, FollowOn, section_count, store_rule, check_follow_on}
use Rattle.job.specs.declared.checks.Refusal.{Refusal}
use Rattle.job.specs.Answer as Answer
use Rattle.job.specs.Plan.{Whole}
use Rattle.job.specs.FollowOn.{check_section}
use Rattle.job.proofs.FollowOns.{follow_refused, follow_on_law}
use Rattle.monitor.specs.Follow.{Admits}

abbrev faulty : ℕ → ℕ → Result (Unit {0}) Refusal
faulty k i = Err (record { number = k; index = i })

module _ (b : List ℕ) (budget places vs : ℕ) (p p' : List ℕ) where
  abbrev given_by : Buffers → FollowOn
  given_by lent = record { section = b; budget = budget; lent = lent }

  -- a fault has no plan to speak of
  no_plan : (k i : ℕ) → faulty k i ≡ Ok tt → Whole (code b 0) (section_count b) p p'
  no_plan k i e = let z : ◌≡◌ {A = ℕ} 0 1 = cc in absurd (omega arith)

  no_few : (k i : ℕ) → faulty k i ≡ Ok tt → places ≤ max_nodes
  no_few k i e = let z : ◌≡◌ {A = ℕ} 0 1 = cc in absurd (omega arith)

  pub by_section : (k i : ℕ) → check_section b vs ≡ refused k i → Admits b budget places vs p p' (faulty k i)
  unfolding Answer.told
  by_section k i c =
      record {
        answered = λ s lent h e q. sym (ap Answer.told (follow_refused s (given_by lent) h k i (subst (λ n. check_section b n ≡ refused k i) (sym e) c)));
        whole = no_plan k i;
        few = no_few k i;
      }

  module _ (c : check_section b vs ≡ accepted) where
    rest : (t u : Bool) → budget_rule budget ≡ t → leb places max_nodes ≡ u → (s : Store) (lent : Buffers) → store_rule s ≡ true
        → length s.variables ≡ vs → lent.places ≡ places
        → check_follow_on s (given_by lent) ≡ require bad_budget t (require bad_buffers u accepted)
    rest t u x y s lent h e q =
        follow_on_law s (given_by lent) h (subst (λ n. check_section b n ≡ accepted) (sym e) c)
        ∙ ap (λ z. require bad_budget z (require bad_buffers (leb lent.places max_nodes) accepted)) x
        ∙ ap (λ z. require bad_budget t (require bad_buffers z accepted)) (ap (λ n. leb n max_nodes) q ∙ y)

    pub by_budget : budget_rule budget ≡ false → Admits b budget places vs p p' (faulty bad_budget 0)
    unfolding Answer.told require
    by_budget x =
        record {
          answered = λ s lent h e q. sym (ap Answer.told (rest false (leb places max_nodes) x refl s lent h e q));
          whole = no_plan bad_budget 0;
          few = no_few bad_budget 0;
        }

    pub by_places : budget_rule budget ≡ true → max_nodes < places → Admits b budget places vs p p' (faulty bad_buffers 0)
    unfolding Answer.told require
    by_places x y =
        record {
          answered = λ s lent h e q. sym (ap Answer.told (rest true false x (lt-leb places max_nodes y) s lent h e q));
          whole = no_plan bad_buffers 0;
          few = no_few bad_buffers 0;
        }

    pub all_passed : budget_rule budget ≡ true → places ≤ max_nodes → Whole (code b 0) (section_count b) p p' → Admits b budget places vs p p' (Ok tt)
    unfolding Answer.told require
    all_passed x y w =
        record {
          answered = λ s lent h e q. sym (ap Answer.told (rest true true x (le-leb places max_nodes y) s lent h e q));
          whole = λ z. w;
          few = λ z. y;
        }
