-- Demand 3 of the public run, from its promise alone and from demand 3 of the rules' run. Assumes nothing.
use mathlib.Core.Path.{◌≡◌, sym, ◌∙◌, ap, subst}
use mathlib.Core.Logic.{⊎_map}
use mathlib.Core.List.{List}
use Prim.Native.Nat.{ℕ, ◌<◌}
use lib.ListN.{length, get_or, get_or-map, length-map}
use Rattle.rules.specs.Level.{Level}
use Rattle.rules.specs.Tree.{Forest, Place}
use Rattle.rules.specs.Bytes.{variable_count}
use Rattle.rules.specs.Check.{accepted, check_bytes}
use Rattle.rules.specs.Job.{Variable, variables}
use Rattle.rules.specs.Run.{State, finished, variable_at, no_variable}
use Rattle.rules.specs.Outcome as Rules
use Rattle.rules.specs.Outcome.{answer, run_job, board_lines}
use Rattle.rules.specs.Public.{Finishes, seen_lines, seen_variable, AgreeVariables, Alike, Same, Indistinguishable, Noninterference}
use Rattle.rules.proofs.Decode.{listed_length}
use Rattle.rules.proofs.Noninterference.{noninterference}
use Rattle.rules.proofs.Endings.{finishes}
use Rattle.table.proofs.Unique.{one_tree}
use Rattle.monitor.specs.declared.entry.Outcome.{Outcome}
use Rattle.actions.specs.Board.{spell, seen_board}
use Rattle.monitor.specs.Promises.{answer_of, Lent, lent_by, places_in, Tree, Ran, Leaves, Promises}
use Rattle.monitor.specs.Secrecy.{seen_of, variable_in, SameLeft, Unseen, SecretCalls}
use Rattle.actions.proofs.Board.{spell_prefix, written_seen}

-- what a call leaves, with a node table of any kind
module _ {T : Type 0} {places : T → ℕ} {HoldsTree : T → ℕ → Forest → Place → Type 0} (b : List ℕ) (n : ℕ) (x x' : Lent T) (r : Outcome)
    (p : Promises places HoldsTree b n x x' r) where
  abbrev pub outcome : Rules.Outcome
  outcome = run_job b n (lent_by places x)

  board_of : (o : Level) (w : Rules.Outcome) → answer_of r ≡ answer w → Leaves places HoldsTree (variable_count b) x x' w
      → seen_of o r x' ≡ spell (seen_lines o (board_lines w))
  unfolding seen_of seen_board answer board_lines seen_lines spell
  board_of o (Rules.rejected k i) e l = ap (λ a. seen_board o a.lines x'.board) e
  board_of o (Rules.ran f) e l =
      ap (λ a. seen_board o a.lines x'.board) e ∙ ap (seen_board o (length f.last.memory.lines)) l.board
      ∙ written_seen f.last.memory.lines x.board o

  board : (o : Level) → seen_of o r x' ≡ spell (seen_lines o (board_lines outcome))
  board o = board_of o outcome p.answered p.leaves

  pub finish : (answer_of r).ending ≡ 0 → (s : State) × Finishes outcome s
  finish h = finishes b n (lent_by places x) (sym (ap (λ a. a.ending) p.answered) ∙ h)

  module _ (s : State) (f : Finishes outcome s) where
    pub left : Ran HoldsTree (variable_count b) (places x.table) x x' (record { ending = finished; last = s })
    left = subst (Leaves places HoldsTree (variable_count b) x x') f p.leaves

    last_lines : board_lines outcome ≡ s.memory.lines
    unfolding board_lines
    last_lines = ap board_lines f

    shows : (i : ℕ) → i < variable_count b → variable_at s.memory.variables i ≡ variable_in x' i
    shows i h = λ j. record { level = left.variables.level i h j; value = left.variables.value i h j }

-- pointwise
at_place : (o : Level) (vs ws : List Variable) (i : ℕ) → AgreeVariables o vs ws → seen_variable o (variable_at vs i) ≡ seen_variable o (variable_at ws i)
unfolding AgreeVariables variable_at
at_place o vs ws i e =
    sym (get_or-map (seen_variable o) vs i no_variable) ∙ ap (λ us. get_or us i (seen_variable o no_variable)) e
    ∙ get_or-map (seen_variable o) ws i no_variable

-- jobs that are alike have as many variables
pub same_count : (o : Level) (a b : List ℕ) → Alike o a b → variable_count a ≡ variable_count b
unfolding AgreeVariables variables
same_count o a b h =
    sym (listed_length _ (variable_count a) 0) ∙ sym (length-map (variables a) (seen_variable o)) ∙ ap length h.parts.variables
    ∙ length-map (variables b) (seen_variable o) ∙ listed_length _ (variable_count b) 0

module _ {T : Type 0} {places : T → ℕ} {HoldsTree : T → ℕ → Forest → Place → Type 0}
    (one : (w : T) (k m : ℕ) (t u : Forest) (p q : Place) → HoldsTree w k t p → HoldsTree w m u q → t ≡ u) (o : Level) (a b : List ℕ) (n m : ℕ)
    (x x' y y' : Lent T) (r s : Outcome) (p : Promises places HoldsTree a n x x' r) (q : Promises places HoldsTree b m y y' s)
    (ha : check_bytes a ≡ accepted) (hb : check_bytes b ≡ accepted) (alike : Alike o a b) where
  untold : Indistinguishable o (outcome a n x x' r p) (outcome b m y y' s q)
  unfolding Noninterference
  untold = noninterference o a b n m (lent_by places x) (lent_by places y) ha hb alike

  -- both finish, in the states g and h
  module _ (g h : State) (f : Finishes (outcome a n x x' r p) g) (k : Finishes (outcome b m y y' s q) h) where
    same : Same o g h
    same = untold.finish g h f k

    same_left : SameLeft places HoldsTree o (variable_count a) x' y' r s
    same_left =
        record {
          lines =
              board a n x x' r p o
              ∙ ap spell (ap (seen_lines o) (last_lines a n x x' r p g f) ∙ same.lines ∙ ap (seen_lines o) (sym (last_lines b m y y' s q h k)))
              ∙ sym (board b m y y' s q o);
          variables = λ i l.
              ap (seen_variable o) (sym (shows a n x x' r p g f i l)) ∙ at_place o _ _ i same.parts.variables
              ∙ ap (seen_variable o) (shows b m y y' s q h k i (subst (λ c. i < c) (same_count o a b alike) l));
          trees = λ c d t u v w e z.
              rw (one _ _ _ _ _ _ _ e (left a n x x' r p g f).tree, one _ _ _ _ _ _ _ z (left b m y y' s q h k).tree) same.parts.trees;
        }

  unseen : Unseen places HoldsTree o (variable_count a) x' y' r s
  unseen =
      record {
        lines = rw (board a n x x' r p o, board b m y y' s q o) (⊎_map (spell_prefix _ _) (spell_prefix _ _) untold.lines);
        finish = λ e z. let f = finish a n x x' r p e in let k = finish b m y y' s q z in same_left f.0 k.0 f.1 k.1;
      }

-- for every kind of node table that holds at most one tree
pub secret_of : {T : Type 0} (places : T → ℕ) (HoldsTree : T → ℕ → Forest → Place → Type 0)
    → ((w : T) (k m : ℕ) (t u : Forest) (p q : Place) → HoldsTree w k t p → HoldsTree w m u q → t ≡ u) → (o : Level) → SecretCalls places HoldsTree o
unfolding SecretCalls
secret_of places HoldsTree one o a b n m x x' y y' r s p q ha hb alike = unseen one o a b n m x x' y y' r s p q ha hb alike

pub secret_calls : (o : Level) → SecretCalls places_in Tree o
secret_calls o = secret_of places_in Tree (λ w k m t u p q h g. one_tree h.holds g.holds) o
