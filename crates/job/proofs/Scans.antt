-- What the scan of a section comes to, by the searches that it makes: where all records are right, the first that is not both right and clean is the first that is
-- not clean. Assumes nothing.
use mathlib.Core.Path.{◌≡◌, refl, sym, ap, ◌∙◌}
use mathlib.Core.Bool.{Bool, true, false, cond, ◌&&◌}
use mathlib.Core.List.{List}
use Prim.Native.Nat.{ℕ, ◌≤◌, ◌<◌}
use native.Mathlib.Omega.{arith}
use lib.Dec.{leb, ltb}
use borrow.Author.Tests.{lt-ltb, le-ltb, ltb-true, ltb-false, leb-true, le-leb}
use Rattle.rules.specs.Limits.{command_count, bad_node, bad_order}
use Rattle.rules.specs.Level.{is_level}
use Rattle.rules.specs.Bytes.{byte, variable_place, record_place}
use Rattle.rules.specs.Check.{Checked, refused, Edition, first_fault, require_each, require_if, first, unordered, ordered, today, order_rule, variable_rule, existence, content, structure, label_rule, node_rule, house_rule, variable_rule_in, node_rule_in, record_rule, record_rule_in}
use Rattle.rules.specs.Check.{variable_clean, node_clean, record_clean}
use Rattle.rules.proofs.Tests.{Test, holds, fails, test, both, joined, clash}
use Rattle.rules.proofs.Lattice.{byte_level, level_byte}
use Rattle.rules.proofs.Ranges.{all_three}
use Rattle.rules.proofs.Search.{search, fault, fault_first, fault_agree, all_pass, none_faulty}
use Rattle.rules.proofs.Checks.{stopped, through}
use Rattle.job.specs.declared.checks.Edition as Named
use Rattle.job.specs.declared.checks.Edition.TheVariants.{First, Unordered, Today}
use Rattle.std.specs.Prelude.{Option, Some, None, Result, Ok, Err}
use Rattle.job.specs.declared.checks.Refusal.{Refusal}
use Rattle.fields.specs.Fields.{known_rule}
use Rattle.fields.specs.Fits.{variable_in, label_in, node_in, record_fits}
use Rattle.job.specs.Hanging.{AllFit}
use Rattle.std.specs.Option.{option_or}
use Rattle.job.specs.Answer.{edition_of, highest_of, record_rules, asked, found, scan_of, scanned}
use Rattle.fields.proofs.Fits.{same_tests}

-- right and clean
abbrev pub fit : (ℕ → Bool) → (ℕ → Bool) → ℕ → Bool
fit right clean i = right i && clean i

-- a search ends among the records or behind them
within : (good : ℕ → Bool) (n : ℕ) → first_fault good n 0 ≤ n
within good n = rw (fault_first good n 0) (let l = (search (fault good) n 0).to in omega arith)

module _ (number : ℕ) (rules : Edition) (right clean : ℕ → Bool) (n : ℕ) where
  pub not_asked : rules.spare ≡ false → {k : ℕ} → k ≡ first_fault right n 0 → scan_of number k None n ≡ scanned number rules right clean n
  unfolding scanned asked
  not_asked a {k} e = rw (a, ← e)

  pub all_fit : rules.spare ≡ true → {r : ℕ} → r ≡ first_fault (fit right clean) n 0 → r ≡ n → Ok None ≡ scanned number rules right clean n
  unfolding scanned asked found scan_of
  all_fit a {r} e h =
      let all = all_pass (fit right clean) n e (omega arith) in
      rw (a, none_faulty right n (λ i l. (both (right i) (clean i) (all i l)).0), none_faulty clean n (λ i l. (both (right i) (clean i) (all i l)).1), le-ltb n n (omega arith))

  pub first_unclean : rules.spare ≡ true → {r k : ℕ} → r ≡ first_fault (fit right clean) n 0 → (r ≡ n → ⊥) → k ≡ first_fault right n 0
      → scan_of number k (Some r) n ≡ scanned number rules right clean n
  unfolding scanned asked found scan_of
  first_unclean a {r} {k} e m f = by (test (ltb k n))
    where
      by : Test (ltb k n) → scan_of number k (Some r) n ≡ scanned number rules right clean n
      by (holds t) = rw (a, ← f, t)
      by (fails t) =
          let all = all_pass right n f (ltb-false k n t) in
          let g : r ≡ first_fault clean n 0 = e ∙ fault_agree (fit right clean) clean n 0 (λ i l m. rw (all i (omega arith))) in
          let l = within (fit right clean) n in
          rw (a, ← f, t, ← g, lt-ltb r n (omega (arith, e)))

  pub one_faulty : {k : ℕ} → k ≡ first_fault right n 0 → k < n → Err (record { number = number; index = k }) ≡ scanned number rules right clean n
  unfolding scanned scan_of
  one_faulty {k} e h = rw (← e, lt-ltb k n h)

  pub none_wrong : {k : ℕ} {u : Option ℕ} → k ≡ first_fault right n 0 → n ≤ k → u ≡ asked rules.spare clean n → Ok u ≡ scanned number rules right clean n
  unfolding scanned scan_of
  none_wrong {k} {u} e h a = rw (← e, le-ltb k n h, ← a)

-- what a scan that has come to something says
module _ (number fault : ℕ) (unclean : Option ℕ) (n : ℕ) where
  pub was_faulty : (r : Refusal) → scan_of number fault unclean n ≡ Err r → (r ≡ record { number = number; index = fault }) × (fault < n)
  unfolding scan_of
  was_faulty r e = by (test (ltb fault n))
    where
      by : Test (ltb fault n) → (r ≡ record { number = number; index = fault }) × (fault < n)
      by (holds t) = let f : Err (record { number = number; index = fault }) ≡ Err r = rw t at e in (cc, ltb-true fault n t)
      by (fails t) = let f : Ok unclean ≡ Err r = rw t at e in let z : ◌≡◌ {A = ℕ} 0 1 = cc in absurd (omega arith)

  pub was_passed : (i : Option ℕ) → scan_of number fault unclean n ≡ Ok i → (n ≤ fault) × (i ≡ unclean)
  unfolding scan_of
  was_passed i e = by (test (ltb fault n))
    where
      by : Test (ltb fault n) → (n ≤ fault) × (i ≡ unclean)
      by (holds t) = let f : ◌≡◌ {A = Result (Option ℕ) Refusal} (Err (record { number = number; index = fault })) (Ok i) = rw t at e in let z : ◌≡◌ {A = ℕ} 0 1 = cc in absurd (omega arith)
      by (fails t) = let f : ◌≡◌ {A = Result (Option ℕ) Refusal} (Ok unclean) (Ok i) = rw t at e in (ltb-false fault n t, cc)

-- what a check makes of a chain, by the first record that fails it
abbrev pub refusing : ℕ → Option ℕ → Checked → Checked
refusing number None c = c
refusing number (Some k) c = refused number k

pub refusing_or : (number : ℕ) (o p : Option ℕ) (c : Checked) → refusing number (option_or o p) c ≡ refusing number o (refusing number p c)
refusing_or number None p c = refl
refusing_or number (Some k) p c = refl

-- a check that an edition may not have
pub asked_law : (number : ℕ) (on : Bool) (good : ℕ → Bool) (n : ℕ) (c : Checked) → require_if on number good n c ≡ refusing number (asked on good n) c
unfolding require_if asked found
asked_law number true good n c = by (test (ltb (first_fault good n 0) n))
  where
    by : Test (ltb (first_fault good n 0) n) → require_each number good n c ≡ refusing number (cond (ltb (first_fault good n 0) n) (Some (first_fault good n 0)) None) c
    by (holds t) = rw t (stopped number good n c refl (ltb-true (first_fault good n 0) n t))
    by (fails t) = rw t (through number good n c refl (ltb-false (first_fault good n 0) n t))
asked_law number false good n c = refl

module _ (number : ℕ) (on : Bool) (good : ℕ → Bool) (n : ℕ) (c : Checked) where
  pub asked_stopped : {k : ℕ} → Some k ≡ asked on good n → require_if on number good n c ≡ refused number k
  asked_stopped e = asked_law number on good n c ∙ ap (λ (o : Option ℕ). refusing number o c) (sym e)

  pub asked_through : None ≡ asked on good n → require_if on number good n c ≡ c
  asked_through e = asked_law number on good n c ∙ ap (λ (o : Option ℕ). refusing number o c) (sym e)

-- a level is no higher than the highest

low_level : (n : ℕ) → leb n 1 ≡ true → is_level n ≡ true
low_level n h = byte_level n (omega (arith, leb-true n 1 h))

top_level : (n : ℕ) → leb n 255 ≡ is_level n
top_level n =
    same_tests (leb n 255) (is_level n) (λ h. byte_level n (omega (arith, leb-true n 255 h))) (λ h. le-leb n 255 (omega (arith, level_byte n h)))

variable_top : (rules : Edition) (b : List ℕ) (i : ℕ) → variable_in (highest_of rules) b i ≡ variable_rule_in rules b i
unfolding variable_in highest_of variable_rule_in variable_rule
variable_top rules b i = by (test rules.sets)
  where
    by : Test rules.sets → variable_in (highest_of rules) b i ≡ variable_rule_in rules b i
    by (holds t) = rw t (top_level (byte b (variable_place i)))
    by (fails t) =
        rw t
        (same_tests (leb (byte b (variable_place i)) 1) (leb (byte b (variable_place i)) 1 && is_level (byte b (variable_place i)))
        (λ h. joined h (low_level (byte b (variable_place i)) h)) (λ h. (both (leb (byte b (variable_place i)) 1) (is_level (byte b (variable_place i))) h).0))

-- five tests, and three of them again
with_levels : (e c s : ℕ) (x y z : Bool)
    → ((leb e 1 && leb c 1 && leb s 1 && x && y) && z)
    ≡ ((leb e 1 && leb c 1 && leb s 1) && ((is_level e && is_level c && is_level s && x && y) && z))
with_levels e c s x y z =
    same_tests _ _
    (λ h.
    let p = both (leb e 1 && leb c 1 && leb s 1 && x && y) z h in
    let q = both (leb e 1 && leb c 1 && leb s 1 && x) y p.0 in
    let r = both (leb e 1 && leb c 1 && leb s 1) x q.0 in
    let t = all_three (leb e 1) (leb c 1) (leb s 1) r.0 in
    joined r.0
    (joined (joined (joined (joined (joined (low_level e t.0) (low_level c t.1)) (low_level s t.2)) r.1) q.1) p.1))
    (λ h.
    let p = both (leb e 1 && leb c 1 && leb s 1) ((is_level e && is_level c && is_level s && x && y) && z) h in
    let q = both (is_level e && is_level c && is_level s && x && y) z p.1 in
    let r = both (is_level e && is_level c && is_level s && x) y q.0 in
    let t = both (is_level e && is_level c && is_level s) x r.0 in joined (joined (joined p.0 t.1) r.1) q.1)

node_top : (rules : Edition) (b : List ℕ) (base i : ℕ) → node_in (highest_of rules) b base i ≡ node_rule_in rules b base i
unfolding node_in label_in highest_of node_rule_in node_rule house_rule label_rule
node_top rules b base i = by (test rules.sets)
  where
    by : Test rules.sets → node_in (highest_of rules) b base i ≡ node_rule_in rules b base i
    by (holds t) = rw (t, top_level (existence b base i), top_level (content b base i), top_level (structure b base i))
    by (fails t) = rw t (with_levels (existence b base i) (content b base i) (structure b base i) _ _ _)

-- the searches of variables, nodes and records, as the rules have them
module _ (rules : Edition) (b : List ℕ) (n : ℕ) {top : ℕ} (e : top ≡ highest_of rules) where
  pub variables_right : first_fault (variable_in top b) n 0 ≡ first_fault (variable_rule_in rules b) n 0
  variables_right = fault_agree _ _ n 0 (λ i l m. rw e (variable_top rules b i))

  pub variables_fit : first_fault (λ i. variable_in top b i && variable_clean b i) n 0 ≡ first_fault (fit (variable_rule_in rules b) (variable_clean b)) n 0
  variables_fit = fault_agree _ _ n 0 (λ i l m. rw (e, variable_top rules b i))

  pub nodes_right : (base : ℕ) → first_fault (node_in top b base) n 0 ≡ first_fault (node_rule_in rules b base) n 0
  nodes_right base = fault_agree _ _ n 0 (λ i l m. rw e (node_top rules b base i))

-- an edition that has check 12 has the commands of the table
twice : (a c : Bool) → (a && (a && c)) ≡ (a && c)
twice true c = refl
twice false c = refl

all_known : (rules : Named.Edition) (b : List ℕ) (vars at : ℕ) → (edition_of rules).spare ≡ true → record_rule_in (edition_of rules) b vars at ≡ record_rule b vars at
unfolding edition_of first unordered ordered today record_rule_in record_rule
all_known First b vars at s = clash s refl
all_known Unordered b vars at s = twice (ltb (byte b at) command_count) _
all_known Today b vars at s = twice (ltb (byte b at) command_count) _

module _ (rules : Named.Edition) (b : List ℕ) (vars base n : ℕ) where
  pub records_right : {k : ℕ} → k ≡ (edition_of rules).commands
      → first_fault (λ i. known_rule k b vars (record_place base i)) n 0 ≡ first_fault (record_rules (edition_of rules) b vars base) n 0
  unfolding known_rule record_rule_in
  records_right e = rw e

  pub records_fit : {sets : Bool} → sets ≡ (edition_of rules).sets → (edition_of rules).spare ≡ true
      → first_fault (λ i. record_fits sets b vars (record_place base i)) n 0
      ≡ first_fault (fit (record_rules (edition_of rules) b vars base) (record_clean (edition_of rules).sets b base)) n 0
  unfolding record_fits record_clean
  records_fit e s = fault_agree _ _ n 0 (λ i l m. rw (e, all_known rules b vars (record_place base i) s))

-- where all n nodes pass 13, 6 and 12, an edition finds no fault in them
module _ (rules : Edition) (b : List ℕ) (base n : ℕ) (f : AllFit (highest_of rules) b base n) where
  none_asked : (on : Bool) (good : ℕ → Bool) → ((i : ℕ) → i < n → good i ≡ true) → None ≡ asked on good n
  unfolding asked found
  none_asked true good h = rw (none_faulty good n h, le-ltb n n (omega arith))
  none_asked false good h = refl

  pub fit_clean : None ≡ asked rules.spare (node_clean b base) n
  fit_clean = none_asked rules.spare (node_clean b base) (λ i h. (f.each i h).clean)

  pub fit_through : (c : Checked) → require_if rules.order bad_order (order_rule b base) n (require_each bad_node (node_rule_in rules b base) n c) ≡ c
  fit_through c =
      asked_through bad_order rules.order (order_rule b base) n _ (none_asked rules.order (order_rule b base) (λ i h. (f.each i h).order))
      ∙ through bad_node (node_rule_in rules b base) n c
      (sym (none_faulty (node_rule_in rules b base) n (λ i h. sym (node_top rules b base i) ∙ (f.each i h).node))) (omega arith)
