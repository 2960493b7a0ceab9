-- A follow-on script, by how far the checks let it come: what is lent holds no store; it holds one that no accepted job could hold; 7 to 10 turn the
-- script away; or it is run. Assumes nothing.
use Rattle.std.specs.Prelude.{Result, Ok, Err}
use mathlib.Core.Path.{◌≡◌, refl, sym, ◌∙◌, ap, subst}
use mathlib.Core.Bool.{Bool, true, false, ◌&&◌}
use mathlib.Core.List.{List, [], ◌∷◌}
use Prim.Native.Nat.{ℕ, zero, suc, ◌+◌, ◌<◌, ◌≤◌, min}
use native.Mathlib.Omega.{arith}
use lib.ListN.{length, get_or}
use Rattle.rules.specs.Limits.{max_variables, max_nodes, bad_follow_on}
use Rattle.rules.specs.Level.{is_level}
use Rattle.rules.specs.Tree.{Forest, Place, count, size, TreeRules}
use Rattle.rules.specs.Check.{accepted, refused, require}
use Rattle.rules.specs.Job.{Variable, all_levels, listed}
use Rattle.rules.specs.Run.{no_variable, variable_at}
use Rattle.rules.specs.Outcome as Rules
use Rattle.rules.specs.Outcome.{answer}
use Rattle.rules.specs.History.{Store, FollowOn, section_rule, store_rule, check_follow_on, follow, leaves, after}
use Rattle.rules.proofs.Tests.{Test, holds, fails, test, both, clash}
use Rattle.rules.proofs.Decode.{listed_length, listed_from_zero}
use Rattle.rules.proofs.Loaded.{all_levels_law}
use Rattle.rules.proofs.Stores.{Holdable, holdable, holdable_rule, turned_away}
use Rattle.job.specs.declared.checks.Refusal.{Refusal}
use Rattle.job.specs.Answer as Answer
use Rattle.job.proofs.Answers.{is_sound, is_faulty}
use Rattle.actions.specs.Board.{capacity}
use Rattle.actions.specs.Shows.{Variables}
use Rattle.monitor.specs.declared.entry.Outcome.{Outcome}
use Rattle.monitor.specs.declared.entry.Outcome.TheVariants.{Refused}
use Rattle.monitor.specs.Promises.{answer_of, told, Lent, lent_by, Ran, Leaves}
use Rattle.monitor.specs.Secrecy.{variable_in}
use Rattle.monitor.specs.Follow.{HoldsStore, follow_on, Tells, Follows, over, none, Storable, treeless, uneven, many, unlevelled, storable, Admits, Declined, by_store, by_script}

-- a list with the elements of a function
listed_is : (f : ℕ → Variable) (vs : List Variable) (n i : ℕ) → length vs ≡ n → ((k : ℕ) → k < n → get_or vs k no_variable ≡ f (i + k)) → vs ≡ listed f n i
unfolding listed
listed_is f [] zero i e h = refl
listed_is f [] (suc n) i e h = absurd (omega arith)
listed_is f (v ∷ vs) zero i e h = absurd (omega arith)
listed_is f (v ∷ vs) (suc n) i e h =
    ap (λ w. w ∷ vs) (h 0 (omega arith) ∙ ap f {x = i + 0} {y = i} (omega arith))
    ∙ ap (λ l. f i ∷ l)
    (listed_is f vs n (suc i) (omega arith) (λ k q. h (suc k) (omega arith) ∙ ap f {x = i + suc k} {y = suc i + k} (omega arith)))

-- all levels of a list are levels, so each is
level_at_law : (f : ℕ → Variable) (n i k : ℕ) → k < n → all_levels (listed f n i) ≡ true → is_level (f (i + k)).level ≡ true
unfolding listed all_levels
level_at_law f zero i k q e = absurd (omega arith)
level_at_law f (suc n) i zero q e =
    ap (λ m. is_level (f m).level) {x = i + 0} {y = i} (omega arith) ∙ (both (is_level (f i).level) (all_levels (listed f n (suc i))) e).0
level_at_law f (suc n) i (suc k) q e =
    ap (λ m. is_level (f m).level) {x = i + suc k} {y = suc i + k} (omega arith)
    ∙ level_at_law f n (suc i) k (omega arith) (both (is_level (f i).level) (all_levels (listed f n (suc i))) e).1

-- a store that no accepted job could hold
and_false : (t : Bool) → (t && false) ≡ false
and_false true = refl
and_false false = refl

unheld : (s : Store) (f : FollowOn) → (Holdable s → ⊥) → check_follow_on s f ≡ refused bad_follow_on 0
unfolding check_follow_on require
unheld s f never = go (test (store_rule s))
  where
    go : Test (store_rule s) → check_follow_on s f ≡ refused bad_follow_on 0
    go (holds e) = absurd (never (holdable s e))
    go (fails e) = rw (e, and_false (section_rule f.section))

-- the variables that are lent
module _ {T : Type 0} (x : Lent T) where
  abbrev pub lent_variables : List Variable
  lent_variables = listed (variable_in x) (length x.levels) 0

  pub many_lent : length lent_variables ≡ length x.levels
  many_lent = listed_length (variable_in x) (length x.levels) 0

  pub shown : Variables x.levels x.values (length x.levels) lent_variables
  unfolding variable_at
  shown =
      record {
        many = many_lent;
        level = λ i q. ap (λ w. w.level) (listed_from_zero (variable_in x) no_variable (length x.levels) i q);
        value = λ i q. ap (λ w. w.value) (listed_from_zero (variable_in x) no_variable (length x.levels) i q);
      }

  pub no_others : (vs : List Variable) → Variables x.levels x.values (length x.levels) vs → vs ≡ lent_variables
  unfolding variable_at
  no_others vs h =
      listed_is (variable_in x) vs (length x.levels) 0 h.many
      (λ k q. (λ j. record { level = h.level k q j; value = h.value k q j }) ∙ ap (variable_in x) {x = k} {y = 0 + k} (omega arith))

-- the rules of a tree that a job could hold
pub record Fair (t : Forest) : Type 0 where
  pub alone : count t ≡ 1
  pub small : size t ≤ max_nodes
  pub rules : TreeRules t

module _ {T : Type 0} {StandsIn : T → Forest → Type 0} (x : Lent T) (s : Store) (h : HoldsStore StandsIn x s) where
  pub many_held : length s.variables ≡ length x.levels
  many_held = ap length h.variables ∙ many_lent x

  good_store : {stands : Bool} → Fair s.tree → Storable stands x.levels (length x.values) true → store_rule s ≡ true
  good_store f (storable a e few each) =
      holdable_rule s
      (record {
        few = omega (arith, many_held, few);
        levels = ap all_levels h.variables ∙ all_levels_law (variable_in x) (length x.levels) 0 (λ k a b. each k (omega arith));
        rooted = f.alone;
        small = f.small;
        rules = f.rules;
      })

  -- no accepted job could hold a store with more variables, or with one whose level is none
  pub not_few : max_variables < length x.levels → Holdable s → ⊥
  not_few lt k = omega (arith, many_held, k.few)

  pub not_level : (i : ℕ) → i < length x.levels → is_level (get_or x.levels i 0) ≡ false → Holdable s → ⊥
  not_level i lt z k =
      clash (level_at_law (variable_in x) (length x.levels) 0 i lt (sym (ap all_levels h.variables) ∙ k.levels))
      (ap (λ m. is_level (get_or x.levels m 0)) {x = 0 + i} {y = i} (omega arith) ∙ z)

-- whether a tree stands in a table
pub record Decides {T : Type 0} (StandsIn : T → Forest → Type 0) (table : T) (stands : Bool) : Type 0 where
  pub sound : stands ≡ true → (t : Forest) × StandsIn table t
  pub exact : (t : Forest) → StandsIn table t → stands ≡ true

module _ {T : Type 0} {StandsIn : T → Forest → Type 0} (x : Lent T) {stands : Bool} (d : Decides StandsIn x.table stands) where
  -- the store that is held where a tree stands
  pub stored : stands ≡ true → length x.levels ≡ length x.values → (s : Store) × HoldsStore StandsIn x s
  stored a e =
      let t = d.sound a in
      (record { variables = lent_variables x; tree = t.0 }, record { even = e; variables = refl; tree = t.1 })

  module _ (fair : (t : Forest) → StandsIn x.table t → Fair t) (good : Storable stands x.levels (length x.values) true) where
    -- it keeps the rules
    pub held_store : (s : Store) × HoldsStore StandsIn x s
    held_store = of good
      where
        of : Storable stands x.levels (length x.values) true → (s : Store) × HoldsStore StandsIn x s
        of (storable a e few each) = stored a e

    pub kept_rule : store_rule held_store.0 ≡ true
    kept_rule = good_store x held_store.0 held_store.1 (fair held_store.0.tree held_store.1.tree) good

module _ {T : Type 0} (places : T → ℕ) (HoldsTree : T → ℕ → Forest → Place → Type 0) (StandsIn : T → Forest → Type 0) (b : List ℕ) (budget : ℕ) (x : Lent T) where
  abbrev f : FollowOn
  f = follow_on places b budget x

  -- turned away, and nothing has changed
  tells_rejected : (o : Rules.Outcome) (k i : ℕ) → o ≡ Rules.rejected k i → Tells places HoldsTree x x o (Refused k i)
  unfolding told answer answer_of
  tells_rejected o k i e =
      record { outcome = sym (ap told e); answered = sym (ap answer e); leaves = subst (Leaves places HoldsTree (length x.levels) x x) (sym e) refl }

  pub away : (s : Store) → HoldsStore StandsIn x s → (k i : ℕ) → check_follow_on s f ≡ refused k i → Follows places HoldsTree StandsIn b budget x x (Refused k i)
  unfolding after leaves
  away s h k i e =
      let o = turned_away s f e in
      over s h (tells_rejected (follow s f) k i o) (subst (λ (o : Rules.Outcome). HoldsStore StandsIn x (leaves s o)) (sym o) h)

  module _ {stands : Bool} (d : Decides StandsIn x.table stands) where
    -- no accepted job could hold what is held
    never : stands ≡ true → length x.levels ≡ length x.values → ((s : Store) → HoldsStore StandsIn x s → Holdable s → ⊥)
        → Follows places HoldsTree StandsIn b budget x x (Refused bad_follow_on 0)
    never a e ill = let s = stored x d a e in away s.0 s.1 bad_follow_on 0 (unheld s.0 f (ill s.0 s.1))

    not_storable : Storable stands x.levels (length x.values) false → Follows places HoldsTree StandsIn b budget x x (Refused bad_follow_on 0)
    not_storable (treeless e) = none (λ s h. clash (d.exact s.tree h.tree) e) (tells_rejected _ bad_follow_on 0 refl)
    not_storable (uneven e) = none (λ s h. e h.even) (tells_rejected _ bad_follow_on 0 refl)
    not_storable (many a e lt) = never a e (λ s h. not_few x s h lt)
    not_storable (unlevelled i a e lt z) = never a e (λ s h. not_level x s h i lt z)

    module _ (fair : (t : Forest) → StandsIn x.table t → Fair t) (good : Storable stands x.levels (length x.values) true) where
      abbrev here : (s : Store) × HoldsStore StandsIn x s
      here = held_store x d fair good

      checked : {p p' : List ℕ} {r : Result (Unit {0}) Refusal} → Admits b budget (places x.table) (length x.levels) p p' r → r ≡ Answer.told (check_follow_on here.0 f)
      unfolding lent_by
      checked a = a.answered here.0 (lent_by places x) (kept_rule x d fair good) (many_held x here.0 here.1) refl

      faulty : {p p' : List ℕ} (k i : ℕ) → Admits b budget (places x.table) (length x.levels) p p' (Err (record { number = k; index = i }))
          → Follows places HoldsTree StandsIn b budget x x (Refused k i)
      faulty k i a = away here.0 here.1 k i (is_faulty (record { number = k; index = i }) _ (sym (checked a)))

      pub sound : {p p' : List ℕ} → Admits b budget (places x.table) (length x.levels) p p' (Ok tt)
          → (s : Store) × (HoldsStore StandsIn x s × (check_follow_on s f ≡ accepted))
      sound a = (here.0, (here.1, is_sound _ _ (sym (checked a))))

    pub declined : ((t : Forest) → StandsIn x.table t → Fair t) → (r : Outcome)
        → Declined b budget (places x.table) stands x.levels (length x.values) r → Follows places HoldsTree StandsIn b budget x x r
    declined fair r (by_store h e) = subst (Follows places HoldsTree StandsIn b budget x x) (sym e) (not_storable h)
    declined fair r (by_script k i good a e) = subst (Follows places HoldsTree StandsIn b budget x x) (sym e) (faulty fair good k i a)

-- the promise rests on how many places the table lent has and on which tree stands in it, and on nothing else of how both are told
module _ {T : Type 0} (HoldsTree : T → ℕ → Forest → Place → Type 0) (places counted : T → ℕ) (StandsIn Standing : T → Forest → Type 0) (b : List ℕ) (budget : ℕ)
    (x x' : Lent T) (r : Outcome) (e : places x.table ≡ counted x.table) where
  same_lent : lent_by places x ≡ lent_by counted x
  unfolding lent_by
  same_lent = λ i. record { places = e i; variables = min (length x.levels) (length x.values); lines = capacity x.board }

  same_leaves : (o : Rules.Outcome) → Leaves places HoldsTree (length x.levels) x x' o → Leaves counted HoldsTree (length x.levels) x x' o
  same_leaves (Rules.rejected k i) h = h
  same_leaves (Rules.ran a) h = subst (λ k. Ran HoldsTree (length x.levels) k x x' a) e h

  same_tells : (o : Rules.Outcome) → Tells places HoldsTree x x' o r → Tells counted HoldsTree x x' o r
  same_tells o h = record { outcome = h.outcome; answered = h.answered; leaves = same_leaves o h.leaves }

  also : (y : Lent T) (s : Store) → ((t : Forest) → StandsIn y.table t → Standing y.table t) → HoldsStore StandsIn y s → HoldsStore Standing y s
  also y s to h = record { even = h.even; variables = h.variables; tree = to s.tree h.tree }

  back : (y : Lent T) (s : Store) → ((t : Forest) → Standing y.table t → StandsIn y.table t) → HoldsStore Standing y s → HoldsStore StandsIn y s
  back y s to h = record { even = h.even; variables = h.variables; tree = to s.tree h.tree }

  pub recount : ((t : Forest) → StandsIn x.table t → Standing x.table t) → ((t : Forest) → Standing x.table t → StandsIn x.table t)
      → ((t : Forest) → StandsIn x'.table t → Standing x'.table t)
      → Follows places HoldsTree StandsIn b budget x x' r → Follows counted HoldsTree Standing b budget x x' r
  recount to from to' (over s h t k) =
      over s (also x s to h) (subst (λ l. Tells counted HoldsTree x x' (follow s (record { section = b; budget = budget; lent = l })) r) same_lent (same_tells _ t))
      (also x' _ to' (subst (λ l. HoldsStore StandsIn x' (after s (record { section = b; budget = budget; lent = l }))) same_lent k))
  recount to from to' (none n t) = none (λ s h. n s (back x s from h)) (same_tells _ t)
