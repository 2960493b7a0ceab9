-- Two runs of one script from states that look the same. In a context that the reader sees they go in lockstep; at a guard that is not seen
-- each ends in its block or comes to the record behind it, still looking the same. By induction on the sum of the budgets. Assumes nothing.
use mathlib.Core.Path.{◌≡◌, refl, sym, ◌∙◌, ap, subst}
use mathlib.Core.Logic.{inl, inr}
use mathlib.Core.Option.{Option, none, some, some-injective}
use Rattle.std.specs.Prelude.{Some}
use Rattle.std.proofs.lemmas.Option.{same_Some}
use Prim.Native.Nat.{ℕ, zero, suc, ◌+◌, ◌<◌}
use native.Mathlib.Omega.{arith}
use mathlib.Core.Bool.{Bool, true, false, cond}
use mathlib.Core.List.{List, [], ◌∷◌, tail, map, nil≢cons, cons≢nil, head-eq_of_cons-eq}
use lib.ListN.{length}
use lib.IntN.{ℤ}
use borrow.Author.Tests.{ltb-true}
use Rattle.rules.specs.Level.{Level, join, visible}
use Rattle.rules.specs.Tree.{Place}
use Rattle.rules.specs.Number.{is_zero}
use Rattle.rules.specs.Script.{Expression, Action, Command, act, fetch, number_at}
use Rattle.rules.specs.Blocks.{goes_to}
use Rattle.rules.specs.Run.{Memory, Saved, Block, State, Buffers, Stop, spent, Result, next, stop, context, value, level_of, with_cursor, position, effect, relocate, on_block, restore, leave, stepped, onward, relocated, pushed, saving, raised, enter_if, enter_while, enter_back, leave_block, carried, step, finished, stopped, Ended, run}
use Rattle.rules.specs.Outcome.{Outcome, rejected, ran, board_lines}
use Rattle.rules.specs.Public.{AgreeVariables, seen_lines, Finishes, Same, Indistinguishable}
use Rattle.rules.proofs.Tests.{Test, holds, fails, test, clash}
use Rattle.rules.proofs.Lattice.{vis_both, vis_right, hid_left, hid_right}
use Rattle.rules.proofs.ByPlace.{places_agree}
use Rattle.rules.proofs.Results.{Good₂, good₂_given, good₂_onward, good₂_next, good_next}
use Rattle.rules.proofs.View.{view, seen_at, seen_cursor, seen_saved, seen_block, looks}
use Rattle.rules.proofs.Places.{no_some}
use Rattle.rules.proofs.Relocate.{context_on, looks_kept, looks_alike}
use Rattle.rules.proofs.Alike.{agree_value, agree_level, agree_hidden, expressions, tree_eq, variables_eq, Cursors, seen_both, seen_neither, cursors}
use Rattle.rules.proofs.Lockstep.{SameView, lockstep}
use Rattle.rules.proofs.Runs.{more, halted, run_spent, run_over, Turn, stops, goes, turn}
use Rattle.rules.proofs.Lines.{Extends, extends_refl, extends_trans, run_lines}
use Rattle.rules.proofs.Control.{Closed, Valid, step_valid}
use Rattle.rules.proofs.Region.{guards, guards_context, Leaves, ends, leaves, IsGuard, is_if, is_while, is_back, skips}

module _ (o : Level) where
  -- two runs that have ended
  abbrev Unseen : Ended → Ended → Type 0
  Unseen e f = Indistinguishable o (ran e) (ran f)

  ended : Ended → Outcome → Ended
  ended d (ran e) = e
  ended d (rejected k i) = d

  same_end : (e f : Ended) → ran e ≡ ran f → e ≡ f
  unfolding ended
  same_end e f p = ap (ended e) p

  not_stopped : (e : Ended) (k : Stop) (s : State) → e.ending ≡ stopped k → Finishes (ran e) s → ⊥
  not_stopped e k s h p =
      let q : stopped k ≡ finished = sym h ∙ ap (λ d. d.ending) (same_end e _ p) in
      let z : true ≡ false = cc in
      clash refl z

  -- a run that has stopped, with lines that begin the other's
  stopped_left : (e f : Ended) (k : Stop) → e.ending ≡ stopped k → Extends (seen_lines o e.last.memory.lines) (seen_lines o f.last.memory.lines) → Unseen e f
  unfolding board_lines
  stopped_left e f k h x = record { lines = inl x.prefix; finish = λ s t a b. absurd (not_stopped e k s h a) }

  stopped_right : (e f : Ended) (k : Stop) → f.ending ≡ stopped k → Extends (seen_lines o f.last.memory.lines) (seen_lines o e.last.memory.lines) → Unseen e f
  unfolding board_lines
  stopped_right e f k h x = record { lines = inr x.prefix; finish = λ s t a b. absurd (not_stopped f k t h b) }

  -- two runs that have finished
  both_finished : (s t : State) → Same o s t → Unseen (record { ending = finished; last = s }) (record { ending = finished; last = t })
  unfolding board_lines
  both_finished s t h =
      record {
        lines = inl (extends_refl h.lines).prefix;
        finish = λ s' t' a b.
            subst (λ u. Same o s' u) (ap (λ e. e.last) (same_end _ _ b)) (subst (λ u. Same o u t) (ap (λ e. e.last) (same_end _ _ a)) h);
      }

  -- two states at one record, with blocks that look the same and the same view, in a context that is seen
  pub record Twins (s t : State) : Type 0 where
    pub seen : view o s.memory ≡ view o t.memory
    pub blocks : looks o s.blocks ≡ looks o t.blocks
    pub at : s.at ≡ t.at
    pub light : visible o (context s.blocks) ≡ true

  lines_same : (s t : State) → Twins s t → seen_lines o s.memory.lines ≡ seen_lines o t.memory.lines
  unfolding view
  lines_same s t w = ap (λ v. v.lines) w.seen

  -- a guard, if the command has one, is seen
  abbrev Light : Memory → Command → Type 0
  Light m (act a) = Unit {0}
  Light m (Command.if e) = visible o (level_of m e) ≡ true
  Light m (Command.while e) = visible o (level_of m e) ≡ true
  Light m (Command.ifBack e) = visible o (level_of m e) ≡ true
  Light m Command.else = Unit {0}
  Light m Command.end = Unit {0}

  -- or it is not
  data Sort (m : Memory) (c : Command) : Type 0 where
    dark : (e : Expression) → IsGuard c e → visible o (level_of m e) ≡ false → Sort m c
    light : Light m c → Sort m c

  sort : (m : Memory) (c : Command) → Sort m c
  sort m (act a) = light tt
  sort m (Command.if e) = pick (test (visible o (level_of m e)))
    where
      pick : Test (visible o (level_of m e)) → Sort m (Command.if e)
      pick (holds v) = light v
      pick (fails v) = dark e (is_if refl) v
  sort m (Command.while e) = pick (test (visible o (level_of m e)))
    where
      pick : Test (visible o (level_of m e)) → Sort m (Command.while e)
      pick (holds v) = light v
      pick (fails v) = dark e (is_while refl) v
  sort m (Command.ifBack e) = pick (test (visible o (level_of m e)))
    where
      pick : Test (visible o (level_of m e)) → Sort m (Command.ifBack e)
      pick (holds v) = light v
      pick (fails v) = dark e (is_back refl) v
  sort m Command.else = light tt
  sort m Command.end = light tt

  -- one step of each, with a guard that is seen
  module _ (lent₁ lent₂ : Buffers) (cs : List Command) (s t : State) (hs : Valid cs s) (ht : Valid cs t) (w : Twins s t) where
    guard_eq : (e : Expression) → visible o (level_of s.memory e) ≡ true → level_of s.memory e ≡ level_of t.memory e
    guard_eq e = agree_level o (expressions o s.memory t.memory hs.memory ht.memory w.seen e)

    value_eq : (e : Expression) → visible o (level_of s.memory e) ≡ true → (y z : ℤ) → value s.memory e ≡ Some y → value t.memory e ≡ Some z → y ≡ z
    value_eq e v y z a b =
        same_Some y z (sym a ∙ agree_value o (expressions o s.memory t.memory hs.memory ht.memory w.seen e) v ∙ b)

    -- one context
    guards_eq : context s.blocks ≡ context t.blocks
    guards_eq = sym (guards_context o s.blocks) ∙ ap guards w.blocks ∙ guards_context o t.blocks

    pushed_eq : (e : Expression) → visible o (level_of s.memory e) ≡ true → looks o (pushed s e) ≡ looks o (pushed t e)
    unfolding pushed looks seen_block seen_saved
    pushed_eq e v = λ i. record { guard = guard_eq e v i; saved = none } ∷ w.blocks i

    pushed_light : (e : Expression) → visible o (level_of s.memory e) ≡ true → visible o (context (pushed s e)) ≡ true
    unfolding pushed context
    pushed_light e v = vis_both o _ _ v w.light

    either_light : (z : Bool) (e : Expression) → visible o (level_of s.memory e) ≡ true → visible o (context (cond z s.blocks (pushed s e))) ≡ true
    either_light true e v = w.light
    either_light false e v = pushed_light e v

    either_eq : (z : Bool) (e : Expression) → visible o (level_of s.memory e) ≡ true
        → looks o (cond z s.blocks (pushed s e)) ≡ looks o (cond z t.blocks (pushed t e))
    either_eq true e v = w.blocks
    either_eq false e v = pushed_eq e v

    -- an if that comes back: where the cursor was seen both remember it, where it was not neither is seen to
    saving_eq : (e : Expression) → visible o (level_of s.memory e) ≡ true → looks o (saving s e) ≡ looks o (saving t e)
    unfolding saving looks seen_block seen_saved view seen_cursor
    saving_eq e v = λ i. record { guard = guard_eq e v i; saved = some (w.seen i).cursor } ∷ w.blocks i

    saving_light : (e : Expression) → visible o (level_of s.memory e) ≡ true → visible o (context (saving s e)) ≡ true
    unfolding saving context
    saving_light e v = vis_both o _ _ v w.light

    raised_eq : (e : Expression) → visible o (level_of s.memory e) ≡ true → view o (raised s e) ≡ view o (raised t e)
    unfolding raised with_cursor view seen_cursor seen_at
    raised_eq e v =
        λ i. record { variables = (w.seen i).variables; tree = (w.seen i).tree; cursor = pick (cursors o _ _ hs.memory ht.memory w.seen) i; lines = (w.seen i).lines }
      where
        g : context (saving s e) ≡ context (saving t e)
        g = sym (guards_context o (saving s e)) ∙ ap guards (saving_eq e v) ∙ guards_context o (saving t e)

        pick : Cursors o s.memory t.memory hs.memory ht.memory w.seen
            → seen_at o (some s.memory.cursor) (join s.memory.level (context (saving s e)))
            ≡ seen_at o (some t.memory.cursor) (join t.memory.level (context (saving t e)))
        pick (seen_both x p l) = λ i. seen_at o (some (p i)) (join (l i) (g i))
        pick (seen_neither x y) = rw (hid_left o s.memory.level (context (saving s e)) x, hid_left o t.memory.level (context (saving t e)) y)

    -- an action, with what it makes of the blocks
    relocated_eq : (a : Action) (m n : Memory) → effect lent₁ (context s.blocks) s.memory a ≡ next m
        → effect lent₂ (context t.blocks) t.memory a ≡ next n → looks o (relocated s a) ≡ looks o (relocated t a)
    unfolding relocated position
    relocated_eq a m n e f = pick (cursors o _ _ hs.memory ht.memory w.seen)
      where
        pick : Cursors o s.memory t.memory hs.memory ht.memory w.seen → looks o (relocated s a) ≡ looks o (relocated t a)
        pick (seen_both x p l) =
            looks_alike o (relocate a s.memory.cursor) s.blocks t.blocks w.blocks
            ∙ ap (λ c. looks o (map (on_block (relocate a c)) t.blocks)) p
        pick (seen_neither x y) =
            looks_kept lent₁ _ s.memory hs.memory a m e o (hid_right o _ _ x) s.blocks hs.restorable ∙ w.blocks
            ∙ sym (looks_kept lent₂ _ t.memory ht.memory a n f o (hid_right o _ _ y) t.blocks ht.restorable)

    act_twins : (a : Action) (r q : Result Memory) → effect lent₁ (context s.blocks) s.memory a ≡ r
        → effect lent₂ (context t.blocks) t.memory a ≡ q → Good₂ (SameView o) r q
        → Good₂ Twins (onward s (relocated s a) (suc s.at) r) (onward t (relocated t a) (suc t.at) q)
    unfolding onward stepped SameView relocated
    act_twins a (stop k) q e f h = tt
    act_twins a (next m) (stop k) e f h = tt
    act_twins a (next m) (next n) e f h =
        record {
          seen = h;
          blocks = relocated_eq a m n e f;
          at = ap suc w.at;
          light = rw (context_on (relocate a s.memory.cursor) s.blocks) w.light;
        }

    -- an end: where both come back, each comes to what was seen
    leave_twins : (r q : Option Saved) → seen_saved o r ≡ seen_saved o q → Good₂ (SameView o) (leave s.memory r) (leave t.memory q)
    unfolding seen_saved leave restore SameView view with_cursor seen_cursor
    leave_twins none none h = w.seen
    leave_twins none (some q) h = no_some h
    leave_twins (some r) none h = no_some (sym h)
    leave_twins (some r) (some q) h = go r.place q.place (some-injective _ _ h)
      where
        go : (x y : Option Place) → seen_at o x r.level ≡ seen_at o y q.level
            → Good₂ (SameView o) (restore s.memory x r.level) (restore t.memory y q.level)
        go none y h = tt
        go (some x) none h = tt
        go (some x) (some y) h =
            λ i. record { variables = (w.seen i).variables; tree = (w.seen i).tree; cursor = h i; lines = (w.seen i).lines }

    end_twins : (j : ℕ) (bs cs : List Block) → looks o bs ≡ looks o cs → visible o (context bs) ≡ true → Good₂ Twins (leave_block s j bs) (leave_block t j cs)
    unfolding leave_block looks seen_block stepped SameView context
    end_twins j [] [] h l = record { seen = w.seen; blocks = refl; at = refl; light = l }
    end_twins j [] (c ∷ cs) h l = absurd (nil≢cons h)
    end_twins j (b ∷ bs) [] h l = absurd (cons≢nil h)
    end_twins j (b ∷ bs) (c ∷ cs) h l =
        good₂_onward (SameView o) Twins s t bs cs j j
        (λ m n v. record { seen = v; blocks = ap tail h; at = refl; light = vis_right o b.guard (context bs) l }) _ _
        (leave_twins b.saved c.saved (ap (λ x. x.saved) (head-eq_of_cons-eq h)))

    carried_twins : (j : ℕ) (c : Command) → Light s.memory c → Good₂ Twins (carried s lent₁ j c) (carried t lent₂ j c)
    unfolding carried enter_if enter_while enter_back stepped
    carried_twins j (act a) l =
        act_twins a _ _ refl refl
        (subst (λ k. Good₂ (SameView o) (effect lent₁ (context s.blocks) s.memory a) (effect lent₂ k t.memory a)) guards_eq
        (lockstep o lent₁ lent₂ (context s.blocks) w.light s.memory t.memory hs.memory ht.memory w.seen a))
    carried_twins j (Command.if e) v =
        good₂_given Twins _ _ _ _ λ y z a b.
        record {
          seen = w.seen;
          blocks = pushed_eq e v;
          at = λ i. cond (is_zero (value_eq e v y z a b i)) j (suc (w.at i));
          light = pushed_light e v;
        }
    carried_twins j (Command.while e) v =
        good₂_given Twins _ _ _ _ λ y z a b.
        record {
          seen = w.seen;
          blocks = either_eq (is_zero y) e v ∙ ap (λ x. looks o (cond (is_zero x) t.blocks (pushed t e))) (value_eq e v y z a b);
          at = λ i. cond (is_zero (value_eq e v y z a b i)) j (suc (w.at i));
          light = either_light (is_zero y) e v;
        }
    carried_twins j (Command.ifBack e) v =
        good₂_given Twins _ _ _ _ λ y z a b.
        record {
          seen = raised_eq e v;
          blocks = saving_eq e v;
          at = λ i. cond (is_zero (value_eq e v y z a b i)) j (suc (w.at i));
          light = saving_light e v;
        }
    carried_twins j Command.else l = record { seen = w.seen; blocks = w.blocks; at = refl; light = w.light }
    carried_twins j Command.end l = end_twins j s.blocks t.blocks w.blocks w.light

    step_twins : Light s.memory (fetch cs s.at) → Good₂ Twins (step lent₁ cs s) (step lent₂ cs t)
    unfolding step
    step_twins l =
        subst (λ i. Good₂ Twins (step lent₁ cs s) (carried t lent₂ (goes_to (number_at cs) (length cs) i) (fetch cs i))) w.at
        (carried_twins _ (fetch cs s.at) l)

  -- whole runs
  module _ (lent₁ lent₂ : Buffers) (cs : List Command) (closed : Closed cs) where
    Claim : ℕ → ℕ → Type 0
    Claim n₁ n₂ = (s t : State) → Valid cs s → Valid cs t → Twins s t → Unseen (run lent₁ cs n₁ s) (run lent₂ cs n₂ t)

    -- the claim for budgets that sum to less
    Smaller : ℕ → Type 0
    Smaller k = (n₁ n₂ : ℕ) → n₁ + n₂ < k → Claim n₁ n₂

    module _ (n₁ n₂ : ℕ) (s t : State) (hs : Valid cs s) (ht : Valid cs t) (w : Twins s t) where
      Told : Type 0
      Told = Unseen (run lent₁ cs n₁ s) (run lent₂ cs n₂ t)

      -- one run has stopped without a seen line more
      left_stops : (k : Stop) (s' : State) → run lent₁ cs n₁ s ≡ halted k s' → seen_lines o s'.memory.lines ≡ seen_lines o s.memory.lines → Told
      unfolding Told
      left_stops k s' q l =
          stopped_left _ _ k (ap (λ e. e.ending) q)
          (extends_trans (extends_refl (ap (λ e. seen_lines o e.last.memory.lines) q ∙ l ∙ lines_same s t w)) (run_lines lent₂ cs o n₂ t))

      right_stops : (k : Stop) (t' : State) → run lent₂ cs n₂ t ≡ halted k t' → seen_lines o t'.memory.lines ≡ seen_lines o t.memory.lines → Told
      unfolding Told
      right_stops k t' q l =
          stopped_right _ _ k (ap (λ e. e.ending) q)
          (extends_trans (extends_refl (ap (λ e. seen_lines o e.last.memory.lines) q ∙ l ∙ sym (lines_same s t w))) (run_lines lent₁ cs o n₁ s))

      -- both scripts are over
      both_over : more lent₁ cs s ≡ false → Told
      unfolding Told AgreeVariables
      both_over e =
          let f : more lent₂ cs t ≡ false = rw w.at at e in
          rw (run_over lent₁ cs n₁ s e, run_over lent₂ cs n₂ t f)
          (both_finished s t
          (record {
            lines = lines_same s t w;
            parts =
                record {
                  variables = variables_eq o s.memory t.memory hs.memory ht.memory w.seen;
                  trees = places_agree o s.memory.tree t.memory.tree hs.memory.rules ht.memory.rules
                      (tree_eq o s.memory t.memory hs.memory ht.memory w.seen);
                };
          }))

      -- a guard that is not seen
      at_guard : Smaller (n₁ + n₂) → (e : Expression) → IsGuard (fetch cs s.at) e → more lent₁ cs s ≡ true → visible o (level_of s.memory e) ≡ false → Told
      unfolding Told Smaller Claim view
      at_guard r e g h d =
          pick (skips o lent₁ cs closed s.at e n₁ s hs refl inside g d)
          (skips o lent₂ cs closed s.at e n₂ t ht (sym w.at) inside g
          (agree_hidden o (expressions o s.memory t.memory hs.memory ht.memory w.seen e) d))
        where
          inside : s.at < length cs
          inside = ltb-true s.at (length cs) h

          context_left : (s' : State) → looks o s'.blocks ≡ looks o s.blocks → context s'.blocks ≡ context s.blocks
          context_left s' b = sym (guards_context o s'.blocks) ∙ ap guards b ∙ guards_context o s.blocks

          pick : {i : ℕ} → Leaves o lent₁ cs closed n₁ s (view o s.memory) (looks o s.blocks) i
              → Leaves o lent₂ cs closed n₂ t (view o t.memory) (looks o t.blocks) i → Unseen (run lent₁ cs n₁ s) (run lent₂ cs n₂ t)
          pick (ends k s' q l) y = left_stops k s' q l
          pick (leaves j₁ s' a q v b c x) (ends k t' p l) = right_stops k t' p l
          pick (leaves j₁ s' a q v b c x) (leaves j₂ t' a' q' v' b' c' x') =
              rw (q, q')
              (r j₁ j₂ (omega arith) s' t' x x'
              (record { seen = v ∙ w.seen ∙ sym v'; blocks = b ∙ w.blocks ∙ sym b'; at = c ∙ sym c'; light = rw (context_left s' b) w.light }))

    -- one record in both runs, in lockstep
    both_step : (n₁ n₂ : ℕ) → Smaller (suc n₁ + suc n₂) → (s t : State) → Valid cs s → Valid cs t → Twins s t → more lent₁ cs s ≡ true
        → Light s.memory (fetch cs s.at) → Unseen (run lent₁ cs (suc n₁) s) (run lent₂ cs (suc n₂) t)
    unfolding Told Smaller Claim
    both_step n₁ n₂ r s t hs ht w h l = pick (turn lent₁ cs n₁ s h) (turn lent₂ cs n₂ t h')
      where
        h' : more lent₂ cs t ≡ true
        h' = rw w.at at h

        pick : Turn lent₁ cs n₁ s → Turn lent₂ cs n₂ t → Unseen (run lent₁ cs (suc n₁) s) (run lent₂ cs (suc n₂) t)
        pick (stops k q) y = left_stops (suc n₁) (suc n₂) s t hs ht w k s q refl
        pick (goes s' f q) (stops k p) = right_stops (suc n₁) (suc n₂) s t hs ht w k t p refl
        pick (goes s' f q) (goes t' g p) =
            rw (q, p)
            (r n₁ n₂ (omega arith) s' t' (good_next (Valid cs) _ s' f (step_valid lent₁ cs closed s hs h))
            (good_next (Valid cs) _ t' g (step_valid lent₂ cs closed t ht h')) (good₂_next Twins _ _ s' t' f g (step_twins lent₁ lent₂ cs s t hs ht w l)))

    one : (n₁ n₂ : ℕ) → Smaller (n₁ + n₂) → Claim n₁ n₂
    unfolding Told Claim
    one n₁ n₂ r s t hs ht w = pick (test (more lent₁ cs s))
      where
        lit : (m₁ m₂ : ℕ) → Smaller (m₁ + m₂) → more lent₁ cs s ≡ true → Light s.memory (fetch cs s.at)
            → Unseen (run lent₁ cs m₁ s) (run lent₂ cs m₂ t)
        lit zero m₂ r h l = left_stops zero m₂ s t hs ht w spent s (run_spent lent₁ cs s h) refl
        lit (suc m₁) zero r h l = right_stops (suc m₁) zero s t hs ht w spent t (run_spent lent₂ cs t (rw w.at at h)) refl
        lit (suc m₁) (suc m₂) r h l = both_step m₁ m₂ r s t hs ht w h l

        by : more lent₁ cs s ≡ true → Sort s.memory (fetch cs s.at) → Unseen (run lent₁ cs n₁ s) (run lent₂ cs n₂ t)
        by h (dark e g d) = at_guard n₁ n₂ s t hs ht w r e g h d
        by h (light l) = lit n₁ n₂ r h l

        pick : Test (more lent₁ cs s) → Unseen (run lent₁ cs n₁ s) (run lent₂ cs n₂ t)
        pick (holds h) = by h (sort s.memory (fetch cs s.at))
        pick (fails h) = both_over n₁ n₂ s t hs ht w h

    below : (k : ℕ) → Smaller k
    unfolding Smaller
    below zero n₁ n₂ h = absurd (omega arith)
    below (suc k) n₁ n₂ h = one n₁ n₂ (λ m₁ m₂ l. below k m₁ m₂ (omega arith))

    pub indistinguishable : (n₁ n₂ : ℕ) (s t : State) → Valid cs s → Valid cs t → Twins s t
        → Indistinguishable o (ran (run lent₁ cs n₁ s)) (ran (run lent₂ cs n₂ t))
    unfolding Claim Smaller
    indistinguishable n₁ n₂ = below (suc (n₁ + n₂)) n₁ n₂ (omega arith)
