-- What a caller learns from the answer of the checks: an accepted job meets all eight rules and has the layout of its trailer. Assumes nothing.
use mathlib.Core.Path.{◌≡◌, refl, sym, ◌∙◌, ap₂, subst}
use mathlib.Core.Bool.{true}
use mathlib.Core.List.{List, [], ◌∷◌, head_d}
use Prim.Native.Nat.{ℕ, suc, ◌<◌}
use native.Mathlib.Nat.{le_of_lt}
use native.Mathlib.Omega.{arith}
use lib.ListN.{length}
use Rattle.rules.specs.Limits.{bad_block}
use Rattle.rules.specs.Bytes.{script_at, variable_count, node_count, record_count, record_place}
use Rattle.rules.specs.Check as Check
use Rattle.rules.specs.Check.{code, length_rule, offset_rule, count_rule, record_rule}
use Rattle.rules.specs.Blocks.{nest, block_rule}
use Rattle.rules.specs.Script.{number_at}
use Rattle.rules.specs.Job.{script_of, script, script_by}
use Rattle.rules.proofs.Nests.{nest_tail}
use Rattle.rules.proofs.SameNumbers.{nest_agree}
use Rattle.rules.proofs.Checks.{long_enough, sections, counts}
use Rattle.rules.proofs.Accepted.{Right, section_numbered, section_jumps}
use Rattle.fields.specs.declared.sections.Layout.{Layout}
use Rattle.std.specs.Prelude.{Result, Ok, Err}
use Rattle.job.specs.declared.checks.Refusal.{Refusal}
use Rattle.fields.specs.Layout.{layout_of, Inside}
use Rattle.job.specs.Plan.{entry, plan_code, Partly, Whole, Plans}
use Rattle.job.specs.Answer.{answer, told, JobTold, from_variables}

pub is_accepted : (l m : Layout) (c : Check.Checked) → answer l c ≡ Ok m → (c ≡ Check.accepted) × (m ≡ l)
unfolding answer
is_accepted l m Check.accepted e = (refl, cc)
is_accepted l m (Check.refused k i) e = let z : ◌≡◌ {A = ℕ} 0 1 = cc in absurd (omega arith)

pub is_refused : (l : Layout) (r : Refusal) (c : Check.Checked) → answer l c ≡ Err r → c ≡ Check.refused r.number r.index
unfolding answer
is_refused l r Check.accepted e = let z : ◌≡◌ {A = ℕ} 0 1 = cc in absurd (omega arith)
is_refused l r (Check.refused m j) e = let z : ◌≡◌ {A = Refusal} (record { number = m; index = j }) r = cc in rw (← z)

pub never_both : {P : Type 0} (k i : ℕ) (c : Check.Checked) → c ≡ Check.accepted → c ≡ Check.refused k i → P
never_both k i c e h = let z : ◌≡◌ {A = ℕ} 0 1 = cc in absurd (omega arith)

-- the sections of a job that passes the checks 1 to 3 lie within its bytes
pub inside : (b : List ℕ) → length_rule (length b) ≡ true → offset_rule b ≡ true → count_rule (variable_count b) (node_count b) (record_count b) ≡ true
    → Inside b (layout_of b)
unfolding layout_of
inside b d e f =
    let h = long_enough (length b) d in
    let s = sections b e in
    let n = counts (variable_count b) (node_count b) (record_count b) f in
    record { variables = omega arith; nodes = omega arith; records = omega arith; few = n.nodes; short = n.records }

-- what stands for a record follows from the commands of all
codes_agree : (f g : ℕ → ℕ) (n : ℕ) → ((j : ℕ) → j < n → f j ≡ g j) → (k : ℕ) → k < n → plan_code f k ≡ plan_code g k
unfolding plan_code head_d
codes_agree f g n same k h = rw (same k h, nest_agree f g n same k (le_of_lt h), same (head_d (nest g k) 0) (inner (nest g k) refl))
  where
    inner : (os : List ℕ) → nest g k ≡ os → head_d os 0 < n
    inner [] e = omega arith
    inner (o ∷ os) e = let l = (nest_tail g k o os e).earlier in omega arith

-- a plan by the bytes of n records from base on is one by their script
pub section_plan : (b : List ℕ) (vars base n : ℕ) → ((i : ℕ) → i < n → record_rule b vars (record_place base i) ≡ true)
    → ((i : ℕ) → i < suc n → block_rule (code b base) n i ≡ true) → (p p' : List ℕ) → Whole (code b base) n p p' → Whole (number_at (script_of b base n)) n p p'
section_plan b vars base n records blocks p p' w =
    record {
      each = λ k l.
          w.each k l
          ∙ ap₂ entry (codes_agree _ _ n (section_numbered b vars base n records blocks) k l) (section_jumps b vars base n records blocks k l);
      last = w.last;
      spare = w.spare;
    }

-- that of an accepted job
pub script_plan : (b p p' : List ℕ) → Right b → Whole (code b (script_at b)) (record_count b) p p' → Whole (number_at (script b)) (record_count b) p p'
unfolding script_by
script_plan b p p' r w = section_plan b (variable_count b) (script_at b) (record_count b) r.records r.blocks p p' w

pub is_sound : (u : Unit {0}) (c : Check.Checked) → told c ≡ Ok u → c ≡ Check.accepted
unfolding told
is_sound u Check.accepted e = refl
is_sound u (Check.refused k i) e = let z : ◌≡◌ {A = ℕ} 0 1 = cc in absurd (omega arith)

pub is_faulty : (r : Refusal) (c : Check.Checked) → told c ≡ Err r → c ≡ Check.refused r.number r.index
unfolding told
is_faulty r Check.accepted e = let z : ◌≡◌ {A = ℕ} 0 1 = cc in absurd (omega arith)
is_faulty r (Check.refused m j) e = let z : ◌≡◌ {A = Refusal} (record { number = m; index = j }) r = cc in rw (← z)

-- what the checks have made of the words of a plan, by what they say
module _ (code : ℕ → ℕ) (n : ℕ) (c : Check.Checked) (p p' : List ℕ) where
  pub plans_whole : c ≡ Check.accepted → Whole code n p p' → Plans code n c p p'
  plans_whole e w =
      record { whole = λ f. w; partly = λ i f. never_both bad_block i c e f; untouched = λ k i m f. never_both k i c e f }

  pub plans_partly : (i : ℕ) → c ≡ Check.refused bad_block i → Partly code n i p p' → Plans code n c p p'
  plans_partly i e w =
      record {
        whole = λ f. never_both bad_block i c f e;
        partly = λ j f. let z : i ≡ j = cc in rw z at w;
        untouched = λ k j m f. let z : k ≡ bad_block = cc in absurd (m z);
      }

  pub plans_not : (k i : ℕ) → (k ≡ bad_block → ⊥) → c ≡ Check.refused k i → p' ≡ p → Plans code n c p p'
  plans_not k i m e q =
      record {
        whole = λ f. never_both k i c f e;
        partly = λ j f. let z : k ≡ bad_block = cc in absurd (m z);
        untouched = λ l j o f. q;
      }

-- the same of what is equal
pub plans_along : {code : ℕ → ℕ} {n : ℕ} {c d : Check.Checked} {p p' : List ℕ} → d ≡ c → Plans code n c p p' → Plans code n d p p'
plans_along {code} {n} {c} {d} {p} {p'} e w = subst (λ (v : Check.Checked). Plans code n v p p') (sym e) w

pub told_along : (rules : Check.Edition) {b p p' : List ℕ} {l m : Layout} {r : Result Layout Refusal} → l ≡ m → JobTold b l (from_variables b l rules) p p' r
    → JobTold b m (from_variables b m rules) p p' r
told_along rules {b} {p} {p'} {l} {m} {r} e w = subst (λ (k : Layout). JobTold b k (from_variables b k rules) p p' r) e w
