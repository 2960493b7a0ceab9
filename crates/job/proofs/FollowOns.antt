-- What a caller learns from the checks of a follow-on script: over a store that a job could hold they are those of the rules, and a sound section has the
-- plan of its script. Assumes nothing.
use mathlib.Core.Path.{◌≡◌, refl, sym, ◌∙◌}
use mathlib.Core.Bool.{Bool, true, false, ◌&&◌}
use mathlib.Core.List.{List}
use Prim.Native.Nat.{ℕ, suc, ◌≤◌, ◌%◌}
use lib.Dec.{leb, ltb, eqb}
use lib.ListN.{length}
use borrow.Author.Tests.{leb-true}
use Rattle.rules.specs.Limits.{max_nodes, max_records, record_size, bad_record, bad_block, bad_spare, bad_budget, bad_buffers, bad_follow_on}
use Rattle.rules.specs.Script.{number_at}
use Rattle.rules.specs.Check.{Checked, accepted, refused, first_fault, require, require_each, require_if, today, check_script, code}
use Rattle.rules.specs.Outcome.{budget_rule}
use Rattle.rules.specs.History.{Store, FollowOn, section_count, section_script, section_rule, store_rule, check_follow_on}
use Rattle.rules.proofs.Tests.{Test, holds, fails, test, both}
use Rattle.rules.proofs.Checks.{passed_one}
use Rattle.rules.proofs.Accepted.{script_right}
use Rattle.job.specs.Plan.{Whole}
use Rattle.job.specs.FollowOn.{check_section}
use Rattle.job.proofs.Answers.{never_both, section_plan}

pub section_few : (b : List ℕ) → section_rule b ≡ true → section_count b ≤ max_records
unfolding section_rule
section_few b e = leb-true (section_count b) max_records (both (eqb (length b % record_size) 0) (leb (section_count b) max_records) e).1

-- a chain of checks by what follows it: what refuses does so whatever follows, and what accepts leaves it
data Chain (f : Checked → Checked) : Type 0 where
  goes_on_law : ((c : Checked) → f c ≡ c) → Chain f
  ends : (k i : ℕ) → ((c : Checked) → f c ≡ refused k i) → Chain f

one_link : (k : ℕ) (t : Bool) → Chain (require k t)
unfolding require
one_link k true = goes_on_law (λ c. refl)
one_link k false = ends k 0 (λ c. refl)

each_link : (k : ℕ) (good : ℕ → Bool) (n : ℕ) → Chain (require_each k good n)
unfolding require_each
each_link k good n = go (test (ltb (first_fault good n 0) n))
  where
    go : Test (ltb (first_fault good n 0) n) → Chain (require_each k good n)
    go (holds z) = ends k (first_fault good n 0) (λ c. rw z)
    go (fails z) = goes_on_law (λ c. rw z)

if_link : (asked : Bool) (k : ℕ) (good : ℕ → Bool) (n : ℕ) → Chain (require_if asked k good n)
unfolding require_if
if_link true k good n = each_link k good n
if_link false k good n = goes_on_law (λ c. refl)

-- one link behind another
linked : {f g : Checked → Checked} → Chain f → Chain g → Chain (λ c. f (g c))
linked {f} {g} (ends k i e) d = ends k i (λ c. e (g c))
linked {f} {g} (goes_on_law e) (ends k i d) = ends k i (λ c. e (g c) ∙ d c)
linked {f} {g} (goes_on_law e) (goes_on_law d) = goes_on_law (λ c. e (g c) ∙ d c)

refuses : {f : Checked → Checked} (k i : ℕ) (c : Checked) → Chain f → f accepted ≡ refused k i → f c ≡ refused k i
refuses {f} k i c (goes_on_law e) h = never_both k i (f accepted) (e accepted) h
refuses {f} k i c (ends m j e) h = e c ∙ sym (e accepted) ∙ h

accepts : {f : Checked → Checked} (c : Checked) → Chain f → f accepted ≡ accepted → f c ≡ c
accepts {f} c (goes_on_law e) h = e c
accepts {f} c (ends m j e) h = never_both m j (f accepted) h (e accepted)

module _ (s : Store) (f : FollowOn) (h : store_rule s ≡ true) where
  -- the checks 11, 7, 12 and 8, and what follows them
  abbrev checks : Checked → Checked
  checks c = require bad_follow_on (section_rule f.section) (check_script today f.section (length s.variables) 0 0 0 0 (section_count f.section) c)

  chain : Chain checks
  unfolding check_script
  chain =
      linked (one_link bad_follow_on (section_rule f.section))
      (linked (each_link bad_record _ (section_count f.section))
      (linked (if_link today.spare bad_spare _ 0)
      (linked (if_link today.spare bad_spare _ 0)
      (linked (if_link today.spare bad_spare _ (section_count f.section)) (each_link bad_block _ (suc (section_count f.section)))))))

  -- the checks 9 and 10
  abbrev rest : Checked
  rest = require bad_budget (budget_rule f.budget) (require bad_buffers (leb f.lent.places max_nodes) accepted)

  and_store : (t : Bool) → t && store_rule s ≡ t
  and_store true = h
  and_store false = refl

  same : check_follow_on s f ≡ checks rest
  unfolding check_follow_on
  same = rw (and_store (section_rule f.section))

  pub follow_refused : (k i : ℕ) → check_section f.section (length s.variables) ≡ refused k i → check_follow_on s f ≡ refused k i
  unfolding check_section
  follow_refused k i e = same ∙ refuses k i rest chain e

  pub follow_on_law : check_section f.section (length s.variables) ≡ accepted
      → check_follow_on s f ≡ require bad_budget (budget_rule f.budget) (require bad_buffers (leb f.lent.places max_nodes) accepted)
  unfolding check_section
  follow_on_law e = same ∙ accepts rest chain e

-- the plan of a sound section is that of its script
pub follow_plan : (b : List ℕ) (vs : ℕ) (p p' : List ℕ) → check_section b vs ≡ accepted → Whole (code b 0) (section_count b) p p' → Whole (number_at (section_script b)) (section_count b) p p'
unfolding check_section section_script
follow_plan b vs p p' e w =
    let x = passed_one bad_follow_on _ _ e in
    let y = (script_right today b vs 0 0 0 0 (section_count b) accepted x.1).0 in section_plan b vs 0 (section_count b) y.records y.blocks p p' w
