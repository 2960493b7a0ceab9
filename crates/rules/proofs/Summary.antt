-- The summary, record by record: the nodes of an accepted job stand in the order of its tree. And no byte is refused as a level: check 4 passes every variable. Assumes nothing.
use mathlib.Core.Path.{◌≡◌, refl, sym, ap, ◌∙◌}
use Prim.Native.Nat.{ℕ, zero, suc, ◌<◌}
use native.Mathlib.Omega.{arith}
use mathlib.Core.Bool.{true}
use mathlib.Core.List.{List, [], ◌∷◌, map}
use Rattle.rules.specs.Limits.{bad_variable}
use Rattle.rules.specs.Level.{is_level, parties}
use Rattle.rules.specs.Bytes.{byte, nodes_at, node_count, variable_place}
use Rattle.rules.specs.Check.{today, check_bytes, check_bytes_by, check_records, check_script, variable_rule, variable_rule_in, existence, content, structure, label_rule}
use Rattle.rules.specs.Job.{listed, job_tree}
use Rattle.rules.specs.Arrange.{moves}
use Rattle.rules.specs.Summary.{carried, summary, SummaryInOrder, LevelsTaken}
use Rattle.rules.proofs.Lattice.{byte_level}
use Rattle.rules.proofs.Checks.{Refuses, refuses_with, refuses_one, refuses_each, refuses_if, all_met}
use Rattle.rules.proofs.Accepted.{right_by}
use Rattle.rules.proofs.SameReads.{laid}
use Rattle.rules.proofs.Moved.{entry_from, moves_listing}
use Rattle.rules.proofs.Stays.{self, moves_same}

map_listed : {A B : Type 0} (g : A → B) (f : ℕ → A) (n i : ℕ) → map g (listed f n i) ≡ listed (λ k. g (f k)) n i
unfolding listed
map_listed g f zero i = refl
map_listed g f (suc n) i = ap (λ xs. g (f i) ∷ xs) (map_listed g f n (suc i))

map_twice : {A B C : Type 0} (g : B → C) (f : A → B) (xs : List A) → map g (map f xs) ≡ map (λ x. g (f x)) xs
map_twice g f [] = refl
map_twice g f (x ∷ xs) = ap (λ ys. g (f x) ∷ ys) (map_twice g f xs)

pub summary_in_order : SummaryInOrder
unfolding SummaryInOrder summary job_tree today entry_from self
summary_in_order b e =
    let s = right_by today b e in
    let r = s.right in
    let n = node_count b in
    let base = nodes_at b in
    ap (map (λ x. parties (carried x.label))) (sym (moves_listing b base n))
    ∙ map_twice (λ x. parties (carried x.label)) (entry_from b base) (moves b base n)
    ∙ ap (map (λ m. parties (carried (entry_from b base m).label))) (moves_same b base n r.parents (s.order refl) (laid b r).some)
    ∙ map_listed (λ m. parties (carried (entry_from b base m).label)) (self b base) n 0

-- not the number 4
NotFour : ℕ → Type 0
NotFour k = k ≡ 4 → ⊥

never_four : (b : List ℕ) → ((at : ℕ) → byte b at < 256) → Refuses NotFour (check_bytes b)
unfolding NotFour check_bytes_by check_records check_script variable_rule_in variable_rule today
never_four b small =
    refuses_one NotFour _ (λ e. omega arith) _ _
    (refuses_one NotFour _ (λ e. omega arith) _ _
    (refuses_one NotFour _ (λ e. omega arith) _ _
    (rw (all_met bad_variable _ _ _ (λ i l. byte_level (byte b (variable_place i)) (small (variable_place i))))
    (refuses_each NotFour _ (λ e. omega arith) _ _ _
    (refuses_if NotFour _ (λ e. omega arith) _ _ _ _
    (refuses_each NotFour _ (λ e. omega arith) _ _ _
    (refuses_each NotFour _ (λ e. omega arith) _ _ _
    (refuses_if NotFour _ (λ e. omega arith) _ _ _ _
    (refuses_if NotFour _ (λ e. omega arith) _ _ _ _
    (refuses_if NotFour _ (λ e. omega arith) _ _ _ _ (refuses_each NotFour _ (λ e. omega arith) _ _ _ tt)))))))))))

module _ (b : List ℕ) (small : (at : ℕ) → byte b at < 256) (base i : ℕ) where
  existence_level : is_level (existence b base i) ≡ true
  unfolding existence
  existence_level = byte_level _ (small _)

  content_level : is_level (content b base i) ≡ true
  unfolding content
  content_level = byte_level _ (small _)

  structure_level : is_level (structure b base i) ≡ true
  unfolding structure
  structure_level = byte_level _ (small _)

pub levels_taken : LevelsTaken
unfolding NotFour label_rule
levels_taken =
    record {
      four = λ b small i e. refuses_with NotFour (check_bytes b) bad_variable i e (never_four b small) refl;
      six = λ b small base i. rw (existence_level b small base i, content_level b small base i, structure_level b small base i);
    }
