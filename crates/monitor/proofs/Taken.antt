-- A script that is taken, run over the words whose free places were made ready. Assumes nothing.
use mathlib.Core.Path.{◌≡◌, refl, sym, ◌∙◌, ap, subst}
use mathlib.Core.Bool.{Bool, true}
use mathlib.Core.List.{List, [], ◌∷◌}
use Prim.Native.Nat.{ℕ, ◌*◌, ◌/◌, ◌<◌, ◌≤◌, min}
use native.Mathlib.Omega.{arith}
use lib.Dec.{leb}
use lib.IntN.{ℤ}
use lib.ListN.{length}
use borrow.Author.Tests.{leb-true, leb-false}
use Rattle.rules.specs.Limits.{max_nodes, max_budget, record_size}
use Rattle.rules.specs.Bytes.{record_place}
use Rattle.rules.specs.Tree.{Forest, root}
use Rattle.rules.specs.Check.{accepted, record_rule, code}
use Rattle.rules.specs.Run.{Ended, start, run}
use Rattle.rules.specs.Outcome as Rules
use Rattle.rules.specs.Outcome.{answer, budget_rule}
use Rattle.rules.specs.History.{Store, FollowOn, section_count, section_script, check_follow_on, follow, leaves, after, after_all}
use Rattle.rules.proofs.Tests.{Test, holds, fails, test, both}
use Rattle.rules.proofs.Accepted.{section_blocks}
use Rattle.rules.proofs.Control.{Valid}
use Rattle.rules.proofs.Starts.{start_valid}
use Rattle.rules.proofs.Stores.{Holdable, holdable_kept, Taken, taken, followed, all_holdable}
use Rattle.std.specs.Prelude.{Ok}
use Rattle.job.specs.Plan.{Whole}
use Rattle.job.proofs.Answers.{section_plan}
use Rattle.job.proofs.FollowOns.{section_few}
use Rattle.table.specs.Cells.{Table, cell_size, cells, gone}
use Rattle.table.specs.Holds.{Holds}
use Rattle.lent.specs.Stands.{Stands, Decided, Marked, Reclaimed}
use Rattle.lent.proofs.Resuming.{holds_stands}
use Rattle.actions.specs.Shows.{Slices, slices, Variables}
use Rattle.interpreter.specs.declared.step.Frame.{Frame}
use Rattle.monitor.specs.declared.entry.Outcome.{Outcome}
use Rattle.interpreter.specs.Steps.{held, Script, Lent}
use Rattle.monitor.specs.Promises as Promises
use Rattle.monitor.specs.Promises.{answer_of, told, lent, lent_by, places_in, Tree, Ran, Leaves}
use Rattle.monitor.specs.Starting.{as_lent}
use Rattle.monitor.specs.FromRoot.{Rooted, FromRoot}
use Rattle.monitor.specs.Follow.{HoldsStore, follow_on, Follows, over, Storable, storable, Admits, Surveyed, Declined, FollowsOver, StandsAmong, linkable, StandsIn}
use Rattle.monitor.proofs.Answered.{answers}
use Rattle.monitor.proofs.Followed.{many_held, shown, no_others, Fair, Decides, sound, declined, recount}

-- the frame of a bare section
abbrev pub frame : List ℕ → ℕ → ℕ → Frame
frame b vars places = record { script = 0; records = length b / record_size; vars = vars; places = places }

module _ (b : List ℕ) (budget places : ℕ) (x : Slices) (s : Store) (h : HoldsStore (StandsAmong places) (as_lent x) s)
    (ok : check_follow_on s (follow_on (λ _. places) b budget (as_lent x)) ≡ accepted) where
  abbrev f : FollowOn
  f = follow_on (λ _. places) b budget (as_lent x)

  abbrev vars : ℕ
  vars = length x.levels

  -- what the checks have shown
  passed : Taken s f
  passed = taken s f ok

  within : budget ≤ max_budget
  unfolding budget_rule
  within = leb-true _ _ (both (leb 1 budget) (leb budget max_budget) passed.spend).1

  module _ (w : List ℕ) (free : ℕ) (holds : Holds (cells w) places places free 0 s.tree root) (p p' : List ℕ) where
    scripted : Whole (code b 0) (section_count b) p p' → section_count b < length p' → Script (held b p' (frame b vars places))
    unfolding section_count
    scripted plan long =
        let c = passed.checked in
        let whole = section_plan b (length s.variables) 0 (section_count b) c.records c.blocks p p' plan in
        record {
          inside = omega arith;
          few = section_few b passed.whole;
          fields = subst (λ (n : ℕ). (i : ℕ) → i < section_count b → record_rule b n (record_place 0 i) ≡ true) (many_held (as_lent x) s h) c.records;
          blocks = section_blocks b (length s.variables) 0 (section_count b) c.records c.blocks;
          long = long;
          plan = record { each = whole.each; last = whole.last };
        }

    pub rooted : cell_size * places ≤ length w → places ≤ max_nodes → Whole (code b 0) (section_count b) p p'
        → Rooted (held b p' (frame b vars places)) (slices w x.levels x.values x.board) budget
    unfolding section_count
    rooted words few plan =
        record {
          short = section_few b passed.whole;
          script = scripted plan;
          spend = within;
          words = words;
          some = holds.live;
          few = few;
          levelled = omega arith;
          valued = omega (arith, h.even);
        }

    module _ (w' : List ℕ) (v' : List ℤ) (b' : List ℕ) (same : length v' ≡ length x.values) (r : Outcome)
        (run_of : FromRoot (held b p' (frame b vars places)) places free budget (slices w x.levels x.values x.board) (slices w' x.levels v' b') r) where
      abbrev e : Ended
      e = run f.lent (section_script b) budget (start s.variables s.tree)

      valid : Valid (section_script b) (start s.variables s.tree)
      valid = start_valid s.variables s.tree (holdable_kept s passed.store) (section_script b)

      variables : Variables x.levels x.values vars s.variables
      variables = subst (Variables x.levels x.values vars) (sym h.variables) (shown (as_lent x))

      lent_so : Lent (held b p' (frame b vars places)) (slices w x.levels x.values x.board) f.lent
      unfolding lent_by
      lent_so = record { places = refl; board = refl }

      outcome : r ≡ told (Rules.ran e)
      unfolding section_script section_count
      outcome = run_of.outcome f.lent s.variables s.tree lent_so valid variables holds

      ran : Ran Tree vars places (as_lent x) (as_lent (slices w' x.levels v' b')) e
      unfolding section_script section_count
      ran =
          let l = run_of.leaves f.lent s.variables s.tree lent_so valid variables holds in
          record { board = l.board; variables = l.variables; spare_levels = l.spare_levels; spare_values = l.spare_values; tree = l.tree }

      is_ran : follow s f ≡ Rules.ran e
      is_ran = followed s f ok

      -- what is lent holds the store that the script leaves
      rules : Holdable (leaves s (Rules.ran e))
      unfolding after after_all
      rules = subst (λ (o : Rules.Outcome). Holdable (leaves s o)) is_ran (all_holdable (f ∷ []) s passed.store)

      next : HoldsStore (StandsAmong places) (as_lent (slices w' x.levels v' b')) (leaves s (Rules.ran e))
      unfolding leaves
      next =
          record {
            even = h.even ∙ sym same;
            variables = no_others (as_lent (slices w' x.levels v' b')) _ ran.variables;
            tree = holds_stands ran.tree.holds rules.rules;
          }

      pub taken_over : Follows (λ _. places) Tree (StandsAmong places) b budget (as_lent x) (as_lent (slices w' x.levels v' b')) r
      unfolding after
      taken_over =
          over s h
          (record {
            outcome = outcome ∙ sym (ap told is_ran);
            answered = ap answer_of outcome ∙ answers (Rules.ran e) ∙ sym (ap answer is_ran);
            leaves = subst (Leaves (λ _. places) Tree vars (as_lent x) (as_lent (slices w' x.levels v' b'))) (sym is_ran) ran;
          })
          (subst (λ (o : Rules.Outcome). HoldsStore (StandsAmong places) (as_lent (slices w' x.levels v' b')) (leaves s o)) (sym is_ran) next)

-- the decision over words, for the promise
decides : {words : List ℕ} {n : ℕ} {stands : Bool} → Decided (cells words) n stands → Decides (StandsAmong n) words stands
decides d = record { sound = d.sound; exact = d.exact }

-- a tree that stands in words is one that a job could hold
pub fair : {m : Table} {n : ℕ} {t : Forest} → Stands m n t → Fair t
fair h = record { alone = h.alone; small = h.few; rules = h.rules }

-- a script that is turned away
pub turned_from : {b : List ℕ} {budget places : ℕ} {stands : Bool} {marks : List ℕ} {r : Outcome} (x : Promises.Lent (List ℕ))
    → (places ≤ max_nodes → Surveyed x.table places stands marks) → Declined b budget places stands x.levels (length x.values) r
    → FollowsOver b budget places stands x x r
turned_from {b} {budget} {places} {stands} {marks} {r} x known d =
    record {
      few = λ le. declined (λ _. places) Tree (StandsAmong places) b budget x (decides (known le).decided) (λ t h. fair h) r d;
      many = λ _. (d, refl);
      behind = record { same = λ y h. refl };
    }

-- what is known of a script that is taken
pub record Reached (b : List ℕ) (budget places : ℕ) (x : Slices) : Type 0 where
  pub s : Store
  pub held : HoldsStore (StandsAmong places) (as_lent x) s
  pub ok : check_follow_on s (follow_on (λ _. places) b budget (as_lent x)) ≡ accepted

pub reached : {p p' marks : List ℕ} (b : List ℕ) (budget places : ℕ) (x : Slices) (stands : Bool) → Surveyed x.words places stands marks
    → Storable stands x.levels (length x.values) true → Admits b budget places (length x.levels) p p' (Ok tt) → Reached b budget places x
reached b budget places x stands known good ad =
    let k = sound (λ _. places) Tree (StandsAmong places) b budget (as_lent x) (decides known.decided) (λ t h. fair h) good ad in
    record { s = k.0; held = k.1.0; ok = k.1.1 }

-- a tree stands where variables and table are such as a job could hold
stood : {stands : Bool} {levels : List ℕ} {values : ℕ} → Storable stands levels values true → stands ≡ true
stood (storable a e few each) = a

-- the words whose free places were made ready
pub ready : {w : List ℕ} {m' : Table} {places free : ℕ} {t : Forest} {stands : Bool} {levels : List ℕ} {values : ℕ} (marks : List ℕ)
    → Surveyed w places stands marks → Storable stands levels values true → Reclaimed (cells w) m' places marks free → Stands (cells w) places t
    → Holds m' places places free 0 t root
unfolding Reclaimed
ready {t = t} marks known good r h = r (known.marked (stood good)) t h

-- words that were asked for a tree in n places, all that a link can lead to
pub asked_all : {w marks : List ℕ} {n : ℕ} {stands : Bool} → n ≡ linkable w → Decided (cells w) n stands → (stands ≡ true → Marked (cells w) n marks)
    → Surveyed w (linkable w) stands marks
asked_all {w} {marks} {n} {stands} asked d marked =
    subst (λ k. Surveyed w k stands marks) asked (record { long = omega (arith, asked); decided = d; marked = marked })

-- a table of words alone, which was asked for a tree
module _ (w w' : List ℕ) (stands : Bool) {marks : List ℕ} (asked : Surveyed w (linkable w) stands marks) where
  pub surveyed : places_in w ≤ max_nodes → Surveyed w (places_in w) stands marks
  surveyed few = subst (λ k. Surveyed w k stands marks) (omega (arith, few)) asked

  -- words of one length have the same places
  same_places : length w' ≡ length w → (t : Forest) → StandsAmong (min (places_in w) gone) w' t → StandsIn w' t
  same_places e t h = subst (λ (l : ℕ). Stands (cells w') (min (l / cell_size) gone) t) (sym e) h

  module _ (b : List ℕ) (budget : ℕ) (levels : List ℕ) (values values' : List ℤ) (board board' : List ℕ) (r : Outcome) where
    abbrev x : Promises.Lent (List ℕ)
    x = lent w levels values board

    abbrev x' : Promises.Lent (List ℕ)
    x' = lent w' levels values' board'

    pub over_words : length w' ≡ length w → FollowsOver b budget (places_in w) stands x x' r → Follows places_in Tree StandsIn b budget x x' r
    over_words same h = go (test (leb (places_in w) max_nodes))
      where
        go : Test (leb (places_in w) max_nodes) → Follows places_in Tree StandsIn b budget x x' r
        go (holds e) =
            let few = leb-true (places_in w) max_nodes e in
            let q : min (places_in w) gone ≡ places_in w = omega (arith, few) in
            recount Tree (λ _. places_in w) places_in (StandsAmong (places_in w)) StandsIn b budget x x' r refl
            (λ t k. subst (λ m. Stands (cells w) m t) (sym q) k) (λ t k. subst (λ m. Stands (cells w) m t) q k)
            (λ t k. same_places same t (subst (λ m. Stands (cells w') m t) (sym q) k)) (h.few few)
        go (fails e) =
            let k = h.many (leb-false (places_in w) max_nodes e) in
            let all = asked.decided in
            subst (λ (y : Promises.Lent (List ℕ)). Follows places_in Tree StandsIn b budget x y r) (sym k.1)
            (declined places_in Tree StandsIn b budget x (record { sound = all.sound; exact = all.exact }) (λ t g. fair g) r k.0)
