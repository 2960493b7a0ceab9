-- Calls of portal_write: the laws of all that keeps the promise of writing back, of the number that C sees. A number that is none of those of the checks is a
-- length, and no length is one of them. Assumes nothing.
use Rattle.std.specs.Prelude.{Result, Ok, Err}
use mathlib.Core.Path.{◌≡◌, refl, sym, ap, subst, ◌∙◌}
use mathlib.Core.List.{List}
use Prim.Native.Nat.{ℕ, ◌+◌, ◌<◌, ◌≤◌}
use native.Mathlib.Omega.{arith}
use lib.ListN.{length}
use Rattle.rules.specs.Limits.{trailer_size, bad_follow_on, bad_area}
use Rattle.rules.specs.Level.{Level, public}
use Rattle.rules.specs.Check.{Checked, accepted, refused}
use Rattle.rules.specs.History.{Store}
use Rattle.rules.specs.Write.{written_size, check_write, write_answer}
use Rattle.rules.proofs.Written.{write_told, write_refused, write_accepted, writer_right}
use Rattle.lent.proofs.Resuming.{stands_one}
use Rattle.monitor.specs.Promises.{places_in, Tree}
use Rattle.monitor.specs.Follow.{HoldsStore, StandsIn}
use Rattle.monitor.proofs.Histories.{one_store}
use Rattle.writer.specs.Writes.{answer, WritesBack, over, none}
use Rattle.writer.specs.Secrecy.{WritesJob, AreaKept, SameJobs, SecretWrites}
use Rattle.writer.proofs.Secret.{is_length, is_number, writes_job, area_kept, same_jobs, secret_writes}
use Rattle.portal.specs.Standing.{Words}
use Rattle.portal.specs.Written.{number_in, PortalWriteAnswer, PortalWritesJob, PortalAreaKept, PortalSameJobs, SecretPortalWrites}

-- however the places of a table are counted
module _ (places : List ℕ → ℕ) (x : Words) (a : List ℕ) where
  length_told : (r : Result ℕ ℕ) → WritesBack places StandsIn x a r → bad_area < number_in r → r ≡ Ok (number_in r)
  length_told (Ok n) p lt = refl
  length_told (Err k) (over s h e f g) lt =
      let n = is_number s _ k (sym e) in
      let c = write_told s (places x.table) x.board (subst (λ m. bad_area < m) (sym (write_refused s (places x.table) x.board k n.0 n.1).0) lt) in
      absurd (let z : refused k n.0 ≡ accepted = sym n.1 ∙ c in let y : ◌≡◌ {A = ℕ} 0 1 = cc in omega arith)
  length_told (Err k) (none g e f) lt = let z : k ≡ 11 = cc in absurd (omega arith)

  wrote : (r : Result ℕ ℕ) {n : ℕ} → WritesBack places StandsIn x a r → n ≡ number_in r → bad_area < n → WritesBack places StandsIn x a (Ok n)
  wrote r p e lt = subst (WritesBack places StandsIn x a) (length_told r p (subst (λ m. bad_area < m) e lt) ∙ ap Ok (sym e)) p

  length_far : (n : ℕ) → WritesBack places StandsIn x a (Ok n) → bad_area < n
  length_far n (over s h e f g) =
      let (c, all) = is_length s _ n (sym e) in
      subst (λ m. bad_area < m) ((write_accepted s (places x.table) x.board c).0 ∙ sym all) (writer_right.apart s (places x.table) (length x.board) c)
  length_far n (none g e f) = absurd (let z : ◌≡◌ {A = ℕ} 0 1 = cc in omega arith)

pub secret_portal_writes : (o : Level) → SecretPortalWrites o
unfolding SecretPortalWrites SecretWrites
secret_portal_writes o x y a b n m p q lt lt' agree =
    secret_writes o x y a b n m (wrote places_in x a p.answer p.promise p.number lt) (wrote places_in y b q.answer q.promise q.number lt') agree

pub portal_write_answer : PortalWriteAnswer
unfolding PortalWriteAnswer answer write_answer
portal_write_answer x a n w = (λ s h. w.number ∙ held w.answer w.promise s h, λ g. w.number ∙ nothing w.answer w.promise g)
  where
    -- by the checks
    answered : (s : Store) (c : Checked) → number_in (answer s c) ≡ elim c [ accepted ↦ written_size s + trailer_size | refused k i ↦ k ]
    answered s accepted = refl
    answered s (refused k i) = refl

    held : (r : Result ℕ ℕ) → WritesBack places_in StandsIn x a r → (s : Store) → HoldsStore StandsIn x s
        → number_in r ≡ write_answer s (places_in x.table) (length x.board)
    held r (over t k e f g) s h =
        ap number_in e ∙ answered t (check_write t (places_in x.table) (length x.board))
        ∙ ap (λ v. write_answer v (places_in x.table) (length x.board))
        (one_store places_in Tree StandsIn (λ w t u h k. stands_one (omega arith) h k) public x t s k h)
    held r (none g e f) s h = absurd (g s h)

    nothing : (r : Result ℕ ℕ) → WritesBack places_in StandsIn x a r → ((s : Store) → HoldsStore StandsIn x s → ⊥) → number_in r ≡ bad_follow_on
    nothing r (over t k e f g) h = absurd (h t k)
    nothing r (none g e f) h = ap number_in e

pub portal_writes_job : PortalWritesJob
unfolding PortalWritesJob WritesJob
portal_writes_job x a n w lt = writes_job x a n (wrote places_in x a w.answer w.promise w.number lt)

pub portal_area_kept : PortalAreaKept
unfolding PortalAreaKept AreaKept
portal_area_kept x a n w =
    (λ le. away w.answer w.promise (subst (λ m. m ≤ bad_area) w.number le), λ lt. (area_kept x a n).1 (wrote places_in x a w.answer w.promise w.number lt))
  where
    away : (r : Result ℕ ℕ) → WritesBack places_in StandsIn x a r → number_in r ≤ bad_area → a ≡ x.board
    away (Ok m) p le = absurd (let far = length_far places_in x a m p in omega arith)
    away (Err k) p le = (area_kept x a k).0 p

pub portal_same_jobs : PortalSameJobs
unfolding PortalSameJobs SameJobs
portal_same_jobs x y a b n m p q lt lt' =
    same_jobs x y a b n m (wrote places_in x a p.answer p.promise p.number lt) (wrote places_in y b q.answer q.promise q.number lt')
