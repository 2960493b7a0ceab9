-- Writing back, by how far the checks let it come, over what is lent: 11, 10, 14, or the job. And what is promised over words holds of all that
-- spells the same tree. Assumes nothing.
use mathlib.Core.Path.{◌≡◌, refl, sym, ap, subst, ◌∙◌}
use mathlib.Core.Bool.{Bool, true, false}
use mathlib.Core.List.{List, ◌++◌}
use Prim.Native.Nat.{ℕ, ◌+◌, ◌<◌, ◌≤◌, min}
use native.Mathlib.Omega.{arith}
use lib.ListN.{length, drop}
use lib.IntN.{ℤ}
use Rattle.std.specs.Prelude.{Result, Ok, Err}
use Rattle.rules.specs.Limits.{max_nodes, trailer_size, bad_buffers, bad_follow_on, bad_area}
use Rattle.rules.specs.Tree.{Forest}
use Rattle.rules.specs.Check.{accepted, refused}
use Rattle.rules.specs.History.{Store, store_rule}
use Rattle.rules.specs.Write.{written, written_size, check_write, left_written, Ranged}
use Rattle.rules.proofs.Tests.{Test, holds, fails, test, clash}
use Rattle.rules.proofs.Stores.{Holdable, holdable}
use Rattle.rules.proofs.Written.{write_refused, write_accepted, no_store, many_places, no_room, has_room}
use Rattle.table.specs.Cells.{cells, gone}
use Rattle.lent.specs.Stands.{Stands, Decided}
use Rattle.monitor.specs.Promises.{Lent, lent, places_in}
use Rattle.monitor.specs.Follow.{HoldsStore, Surveyed, StandsAmong, linkable, StandsIn, Storable, treeless, uneven, many, unlevelled}
use Rattle.monitor.proofs.Followed.{Fair, Decides, not_few, not_level, stored, held_store, kept_rule}
use Rattle.monitor.proofs.Taken.{fair}
use Rattle.writer.specs.Writes.{answer, WritesBack, over, none, WritesOver, unstorable, crowded, known}

unruly : (s : Store) → (Holdable s → ⊥) → store_rule s ≡ false
unruly s ill = go (test (store_rule s))
  where
    go : Test (store_rule s) → store_rule s ≡ false
    go (holds e) = absurd (ill (holdable s e))
    go (fails e) = e

module _ {T : Type 0} (places : T → ℕ) (Standing : T → Forest → Type 0) (x : Lent T) where
  -- turned away with a number, and nothing has changed
  away : (s : Store) → HoldsStore Standing x s → (k : ℕ) → check_write s (places x.table) (length x.board) ≡ refused k 0
      → WritesBack places Standing x x.board (Err k)
  unfolding answer
  away s h k e =
      let r = write_refused s (places x.table) x.board k 0 e in
      over s h (sym (ap (answer s) e)) (sym r.1) (λ a. absurd (let z : refused k 0 ≡ accepted = sym e ∙ a in let y : ◌≡◌ {A = ℕ} 0 1 = cc in omega arith))

  module _ {stands : Bool} (d : Decides Standing x.table stands) where
    never : stands ≡ true → length x.levels ≡ length x.values → ((s : Store) → HoldsStore Standing x s → Holdable s → ⊥)
        → WritesBack places Standing x x.board (Err bad_follow_on)
    never a e ill =
        let s = stored x d a e in
        away s.0 s.1 bad_follow_on (no_store s.0 (places x.table) x.board (unruly s.0 (ill s.0 s.1)))

    pub not_storable : Storable stands x.levels (length x.values) false → WritesBack places Standing x x.board (Err bad_follow_on)
    not_storable (treeless e) = none (λ s h. clash (d.exact s.tree h.tree) e) refl refl
    not_storable (uneven e) = none (λ s h. e h.even) refl refl
    not_storable (many a e lt) = never a e (λ s h. not_few x s h lt)
    not_storable (unlevelled i a e lt z) = never a e (λ s h. not_level x s h i lt z)

    module _ (all_fair : (t : Forest) → Standing x.table t → Fair t) (good : Storable stands x.levels (length x.values) true) where
      abbrev pub here : (s : Store) × HoldsStore Standing x s
      here = held_store x d all_fair good

      pub not_few_places : max_nodes < places x.table → WritesBack places Standing x x.board (Err bad_buffers)
      not_few_places lt =
          away here.0 here.1 bad_buffers (many_places here.0 (places x.table) x.board (kept_rule x d all_fair good) lt)

      module _ (few : places x.table ≤ max_nodes) where
        pub too_short : length x.board < written_size here.0 + trailer_size → WritesBack places Standing x x.board (Err bad_area)
        too_short lt =
            away here.0 here.1 bad_area (no_room here.0 (places x.table) x.board (kept_rule x d all_fair good) few lt)

        pub long_enough : {area' : List ℕ} {r : Result ℕ ℕ} → r ≡ Ok (written_size here.0 + trailer_size) → written_size here.0 + trailer_size ≤ length x.board
            → (area' ≡ written here.0 ++ drop (written_size here.0 + trailer_size) x.board) × Ranged here.0 → WritesBack places Standing x area' r
        unfolding answer
        long_enough {area'} {r} e le h =
            let c = has_room here.0 (places x.table) x.board (kept_rule x d all_fair good) few le in
            let w = write_accepted here.0 (places x.table) x.board c in
            over here.0 here.1 (e ∙ sym (ap (answer here.0) c)) (h.0 ∙ sym w.1) (λ _. h.1)

-- one promise for two tables with the same tree and as many places
module _ {T U : Type 0} (places : T → ℕ) (counted : U → ℕ) (Here : T → Forest → Type 0) (There : U → Forest → Type 0)
    (a : T) (b : U) (levels : List ℕ) (values : List ℤ) (board : List ℕ) (same : places a ≡ counted b)
    (to : (t : Forest) → Here a t → There b t) (from : (t : Forest) → There b t → Here a t) where
  pub carried : {area' : List ℕ} {r : Result ℕ ℕ} → WritesBack places Here (lent a levels values board) area' r
      → WritesBack counted There (lent b levels values board) area' r
  carried {area'} {r} (over s h e f g) =
      over s (record { even = h.even; variables = h.variables; tree = to s.tree h.tree }) (subst (λ k. r ≡ answer s (check_write s k (length board))) same e)
      (subst (λ k. area' ≡ left_written s k board) same f) (λ c. g (subst (λ k. check_write s k (length board) ≡ accepted) (sym same) c))
  carried (none g e f) = none (λ s h. g s (record { even = h.even; variables = h.variables; tree = from s.tree h.tree })) e f

-- a tree stands among places
pub decides : {w : List ℕ} {n : ℕ} {stands : Bool} → Decided (cells w) n stands → Decides (StandsAmong n) w stands
decides d = record { sound = d.sound; exact = d.exact }

-- words that were asked for a tree in all places that a link can lead to
module _ (w : List ℕ) {stands : Bool} {marks : List ℕ} (asked : Surveyed w (linkable w) stands marks) (levels : List ℕ) (values : List ℤ) (board : List ℕ) where
  decided : Decides StandsIn w stands
  decided = record { sound = asked.decided.sound; exact = asked.decided.exact }

  pub over_words : {area' : List ℕ} {r : Result ℕ ℕ} → WritesOver (places_in w) stands (lent w levels values board) area' r
      → WritesBack places_in StandsIn (lent w levels values board) area' r
  over_words (unstorable z e f) = rw (e, f) (not_storable places_in StandsIn (lent w levels values board) decided z)
  over_words (crowded z lt e f) = rw (e, f) (not_few_places places_in StandsIn (lent w levels values board) decided (λ t h. fair h) z lt)
  over_words (known few h) =
      let q : min (places_in w) gone ≡ places_in w = omega arith in
      carried (λ _. places_in w) places_in (StandsAmong (places_in w)) StandsIn w w levels values board refl (λ t k. subst (λ m. Stands (cells w) m t) (sym q) k)
      (λ t k. subst (λ m. Stands (cells w) m t) q k) h
