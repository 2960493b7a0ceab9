-- The secrecy rule for calls, from their promise alone and from that rule for the rules' histories. Assumes nothing.
use mathlib.Core.Path.{◌≡◌, refl, sym, ◌∙◌, ap, subst}
use mathlib.Core.Logic.{inl, inr, ⊎_map}
use mathlib.Core.List.{List, [], ◌∷◌}
use Prim.Native.Nat.{ℕ}
use native.Mathlib.Omega.{arith}
use lib.ListN.{length}
use Rattle.rules.specs.Limits.{bad_follow_on}
use Rattle.rules.specs.Level.{Level}
use Rattle.rules.specs.Tree.{Forest, Place}
use Rattle.rules.specs.Run.{State, finished}
use Rattle.rules.specs.Outcome as Rules
use Rattle.rules.specs.Outcome.{answer, board_lines}
use Rattle.rules.specs.Public.{Finishes, seen_lines, Same, Comparable, Indistinguishable}
use Rattle.rules.specs.History.{Store, FollowOn, section_script, follow, leaves, after, history, SameScripts as SameFollowOns, AgreeStores, HistorySecrecy}
use Rattle.rules.proofs.History.{history_secrecy}
use Rattle.rules.proofs.Stores.{follow_finishes}
use Rattle.lent.proofs.Resuming.{stands_one}
use Rattle.actions.specs.Board.{spell, seen_board}
use Rattle.actions.proofs.Board.{spell_prefix, written_seen}
use Rattle.monitor.specs.declared.entry.Outcome.{Outcome}
use Rattle.monitor.specs.Promises.{answer_of, Lent, places_in, Tree, Leaves}
use Rattle.monitor.specs.Secrecy.{seen_of}
use Rattle.monitor.specs.Follow.{HoldsStore, follow_on, Tells, Follows, over, none, StandsIn}
use Rattle.monitor.specs.Histories.{Call, SameScripts, Stays, CallHistory, AgreeLent, SameAfter, UnseenHistory, SecretHistories}

module _ (o : Level) {T : Type 0} (places : T → ℕ) (HoldsTree : T → ℕ → Forest → Place → Type 0) where
  -- the lines of a call that the reader o sees
  board_of : (x x' : Lent T) (r : Outcome) (w : Rules.Outcome) → answer_of r ≡ answer w → Leaves places HoldsTree (length x.levels) x x' w
      → seen_of o r x' ≡ spell (seen_lines o (board_lines w))
  unfolding seen_of seen_board answer board_lines seen_lines spell
  board_of x x' r (Rules.rejected k i) e l = ap (λ a. seen_board o a.lines x'.board) e
  board_of x x' r (Rules.ran f) e l =
      ap (λ a. seen_board o a.lines x'.board) e ∙ ap (seen_board o (length f.last.memory.lines)) l.board
      ∙ written_seen f.last.memory.lines x.board o

  board : (x x' : Lent T) (r : Outcome) (w : Rules.Outcome) → Tells places HoldsTree x x' w r → seen_of o r x' ≡ spell (seen_lines o (board_lines w))
  board x x' r w t = board_of x x' r w t.answered t.leaves

  -- the lines of two calls, from those of the rules' outcomes
  spelled : (x x' y y' : Lent T) (r q : Outcome) (w v : Rules.Outcome) → Tells places HoldsTree x x' w r → Tells places HoldsTree y y' v q
      → Comparable (seen_lines o (board_lines w)) (seen_lines o (board_lines v)) → Comparable (seen_of o r x') (seen_of o q y')
  spelled x x' y y' r q w v t u h = rw (board x x' r w t, board y y' q v u) (⊎_map (spell_prefix _ _) (spell_prefix _ _) h)

  -- a call that was turned away with 11 has not finished
  unfinished : {X : Type 0} (x x' : Lent T) (r : Outcome) → Tells places HoldsTree x x' (Rules.rejected bad_follow_on 0) r → (answer_of r).ending ≡ 0 → X
  unfolding answer
  unfinished x x' r t e = absurd (let h = sym (ap (λ a. a.ending) t.answered) ∙ e in omega arith)

-- and has no lines
no_lines : (o : Level) (k i : ℕ) (v : Rules.Outcome) → Comparable (seen_lines o (board_lines (Rules.rejected k i))) (seen_lines o (board_lines v))
unfolding board_lines seen_lines
no_lines o k i v = inl (seen_lines o (board_lines v), refl)

lines_no : (o : Level) (k i : ℕ) (v : Rules.Outcome) → Comparable (seen_lines o (board_lines v)) (seen_lines o (board_lines (Rules.rejected k i)))
unfolding board_lines seen_lines
lines_no o k i v = inr (seen_lines o (board_lines v), refl)

-- what is lent anew holds what was held
again : {T : Type 0} {StandsIn : T → Forest → Type 0} (x y : Lent T) (s : Store) → Stays StandsIn x y → HoldsStore StandsIn y s → HoldsStore StandsIn x s
again x y s st h =
    record {
      even = ap length (sym st.levels) ∙ h.even ∙ ap length st.values;
      variables = h.variables ∙ rw (st.levels, st.values);
      tree = st.tree s.tree h.tree;
    }

module _ {T : Type 0} (places : T → ℕ) (HoldsTree : T → ℕ → Forest → Place → Type 0) (StandsIn : T → Forest → Type 0)
    (one : (w : T) (t u : Forest) → StandsIn w t → StandsIn w u → t ≡ u) (o : Level) where
  -- at most one store is held
  pub one_store : (x : Lent T) (s t : Store) → HoldsStore StandsIn x s → HoldsStore StandsIn x t → s ≡ t
  one_store x s t h k =
      let v = h.variables ∙ sym k.variables in
      let f = one x.table s.tree t.tree h.tree k.tree in
      λ i. record { variables = v i; tree = f i }

  -- two calls with the same script, over stores that agree
  module _ (c d : Call T) (s t : Store) (same : section_script c.section ≡ section_script d.section) (agree : AgreeStores o s t) where
    abbrev f : FollowOn
    f = follow_on places c.section c.budget c.given

    abbrev g : FollowOn
    g = follow_on places d.section d.budget d.given

    untold : Indistinguishable o (follow s f) (follow t g)
    unfolding HistorySecrecy SameFollowOns history
    untold = (history_secrecy o s t (f ∷ []) (g ∷ []) agree (ap (λ z. z ∷ []) same)).0

    module _ (tc : Tells places HoldsTree c.given c.left (follow s f) c.outcome)
        (td : Tells places HoldsTree d.given d.left (follow t g) d.outcome) where
      lines : Comparable (seen_of o c.outcome c.left) (seen_of o d.outcome d.left)
      lines = spelled o places HoldsTree _ _ _ _ _ _ _ _ tc td untold.lines

      module _ (nc : HoldsStore StandsIn c.left (after s f)) (nd : HoldsStore StandsIn d.left (after t g)) (ec : (answer_of c.outcome).ending ≡ 0)
          (ed : (answer_of d.outcome).ending ≡ 0) where
        fc : (z : State) × Finishes (follow s f) z
        fc = follow_finishes s f (sym (ap (λ a. a.ending) tc.answered) ∙ ec)

        fd : (z : State) × Finishes (follow t g) z
        fd = follow_finishes t g (sym (ap (λ a. a.ending) td.answered) ∙ ed)

        equal : Same o fc.0 fd.0
        equal = untold.finish fc.0 fd.0 fc.1 fd.1

        equal_lines : seen_lines o (board_lines (follow s f)) ≡ seen_lines o (board_lines (follow t g))
        unfolding board_lines
        equal_lines = ap (λ w. seen_lines o (board_lines w)) fc.1 ∙ equal.lines ∙ sym (ap (λ w. seen_lines o (board_lines w)) fd.1)

        after_agree : AgreeStores o (after s f) (after t g)
        unfolding after leaves
        after_agree =
            subst (λ w. AgreeStores o (leaves s w) (leaves t (follow t g))) (sym fc.1)
            (subst (λ w. AgreeStores o (leaves s (Rules.ran (record { ending = finished; last = fc.0 }))) (leaves t w)) (sym fd.1) equal.parts)

        same_after : SameAfter places HoldsTree StandsIn o c d
        unfolding AgreeLent
        same_after =
            record {
              lines = board o places HoldsTree _ _ _ _ tc ∙ ap spell equal_lines ∙ sym (board o places HoldsTree _ _ _ _ td);
              agree = λ u v h k.
                  subst (λ w. AgreeStores o w v) (one_store c.left (after s f) u nc h)
                  (subst (λ w. AgreeStores o (after s f) w) (one_store d.left (after t g) v nd k) after_agree);
            }

  -- a call in each history, and the rest after it
  abbrev Next : Call T → Call T → Type 0 → Type 0
  Next c d X =
      Comparable (seen_of o c.outcome c.left) (seen_of o d.outcome d.left)
      × ((answer_of c.outcome).ending ≡ 0 → (answer_of d.outcome).ending ≡ 0 → SameAfter places HoldsTree StandsIn o c d × X)

  calls : (X : Type 0) (c d : Call T) → section_script c.section ≡ section_script d.section → AgreeLent places HoldsTree StandsIn o c.given d.given
      → Follows places HoldsTree StandsIn c.section c.budget c.given c.left c.outcome
      → Follows places HoldsTree StandsIn d.section d.budget d.given d.left d.outcome
      → (AgreeLent places HoldsTree StandsIn o c.left d.left → X) → Next c d X
  unfolding AgreeLent
  calls X c d same agree (over s h tc nc) (over t k td nd) rest =
      let a = agree s t h k in (
        lines c d s t same a tc td,
        λ e z. let w = same_after c d s t same a tc td nc nd e z in (w, rest w.agree),
      )
  calls X c d same agree (none h tc) (over t k td nd) rest = (spelled o places HoldsTree _ _ _ _ _ _ _ _ tc td (no_lines o bad_follow_on 0 _), λ e z. unfinished o places HoldsTree _ _ _ tc e)
  calls X c d same agree (over s h tc nc) (none k td) rest = (spelled o places HoldsTree _ _ _ _ _ _ _ _ tc td (lines_no o bad_follow_on 0 _), λ e z. unfinished o places HoldsTree _ _ _ td z)
  calls X c d same agree (none h tc) (none k td) rest = (spelled o places HoldsTree _ _ _ _ _ _ _ _ tc td (no_lines o bad_follow_on 0 _), λ e z. unfinished o places HoldsTree _ _ _ tc e)

  histories : (cs ds : List (Call T)) (x y : Lent T) → AgreeLent places HoldsTree StandsIn o x y
      → SameScripts cs ds → CallHistory places HoldsTree StandsIn x cs → CallHistory places HoldsTree StandsIn y ds → UnseenHistory places HoldsTree StandsIn o cs ds
  unfolding AgreeLent
  histories [] ds x y agree same p q = tt
  histories (c ∷ cs) [] x y agree same p q = tt
  histories (c ∷ cs) (d ∷ ds) x y agree same p q =
      calls (UnseenHistory places HoldsTree StandsIn o cs ds) c d (cc)
      (λ s t h k. agree s t (again x c.given s p.0 h) (again y d.given t q.0 k)) p.1.0 q.1.0
      (λ next. histories cs ds c.left d.left next (cc) p.1.1 q.1.1)

  pub secret_histories_of : SecretHistories places HoldsTree StandsIn o
  unfolding SecretHistories
  secret_histories_of x y cs ds agree same p q = histories cs ds x y agree same p q

pub secret_histories : (o : Level) → SecretHistories places_in Tree StandsIn o
secret_histories o = secret_histories_of places_in Tree StandsIn (λ w t u h k. stands_one (omega arith) h k) o
