-- How many steps a run takes. Each record carried out is one step, and no record stops with 25: so a run takes no more steps than its budget, and where
-- it ends with 25 it has taken them all and can be taken up again where it stands. Assumes nothing.
use mathlib.Core.Path.{◌≡◌, refl, sym, ◌∙◌, ap, subst}
use Prim.Native.Nat.{ℕ, zero, suc, ◌+◌, ◌≤◌}
use native.Mathlib.Nat.{zero-add, suc-add}
use native.Mathlib.Omega.{arith}
use mathlib.Core.Bool.{Bool, true, false}
use mathlib.Core.Option.{Option, none, some}
use Rattle.std.specs.Prelude.{None, Some}
use mathlib.Core.List.{List, [], ◌∷◌}
use lib.IntN.{ℤ}
use lib.Dec.{eqb}
use Rattle.rules.specs.Number.{Value}
use Rattle.rules.specs.Level.{Level}
use Rattle.rules.specs.Tree.{Place}
use Rattle.rules.specs.Script.{Expression, Action, Command, act, fetch}
use Rattle.rules.specs.Run.{Memory, Saved, Block, State, Buffers, Stop, flow, absent, tableFull, boardFull, spent, stop_number, Result, next, stop, need, given, context, assign, output, move_to, go_joining, go_to, go_to_last, insert_at, remove_at, write, effect, restore, leave, stepped, onward, enter_if, enter_while, enter_back, leave_block, carried, step, finished, stopped, run}
use Rattle.rules.proofs.Tests.{Test, holds, fails, test, clash}
use Rattle.rules.proofs.Runs.{more, halted, run_spent, run_over, run_next, run_stop, Turn, stops, goes, turn}

-- a stop other than 25
abbrev pub Other : Stop → Type 0
Other k = eqb (stop_number k) (stop_number spent) ≡ false

module _ {A : Type 0} where
  -- P holds of what a result goes on with, and where it stops it is not with 25
  abbrev pub Unspent : (A → Type 0) → Result A → Type 0
  Unspent P (next a) = P a
  Unspent P (stop k) = Other k

  module _ (P : A → Type 0) where
    need_unspent : (k : Stop) (b : Bool) (r : Result A) → Other k → Unspent P r → Unspent P (need k b r)
    unfolding need
    need_unspent k true r q h = h
    need_unspent k false r q h = q

    given_unspent : (v : Value) (r : ℤ → Result A) → ((z : ℤ) → Unspent P (r z)) → Unspent P (given v r)
    unfolding given stop_number
    given_unspent (Some z) r h = h z
    given_unspent None r h = refl

    unspent_next : (r : Result A) (a : A) → r ≡ next a → Unspent P r → P a
    unspent_next r a e h = rw e at h

    unspent_stop : (r : Result A) (k : Stop) → r ≡ stop k → Unspent P r → Other k
    unspent_stop r k e h = rw e at h

-- any memory
abbrev Any : Memory → Type 0
Any m = Unit {0}

module _ (pc : Level) (m : Memory) where
  go_unspent : (l : Place → Level) (q : Option Place) → Unspent Any (go_joining pc m l q)
  unfolding go_joining move_to stop_number
  go_unspent l none = refl
  go_unspent l (some p) = need_unspent Any absent _ _ refl (need_unspent Any flow _ _ refl tt)

  insert_unspent : (places : ℕ) (p : Place) (q : Option Place) (c l : Level) (e : Expression) → Unspent Any (insert_at pc m places p q c l e)
  unfolding insert_at stop_number
  insert_unspent places p none c l e = refl
  insert_unspent places p (some q) c l e =
      need_unspent Any flow _ _ refl
      (need_unspent Any flow _ _ refl (given_unspent Any _ _ λ z. need_unspent Any tableFull _ _ refl tt))

  effect_unspent : (lent : Buffers) (a : Action) → Unspent Any (effect lent pc m a)
  unfolding effect assign output move_to go_to go_to_last remove_at write stop_number
  effect_unspent lent Action.skip = tt
  effect_unspent lent (Action.assign i e) = need_unspent Any flow _ _ refl (given_unspent Any _ _ λ z. tt)
  effect_unspent lent (Action.output r e) =
      need_unspent Any flow _ _ refl (given_unspent Any _ _ λ z. need_unspent Any boardFull _ _ refl tt)
  effect_unspent lent Action.goRoot = need_unspent Any flow _ _ refl tt
  effect_unspent lent Action.goParent = go_unspent _ _
  effect_unspent lent (Action.go d) = go_unspent _ _
  effect_unspent lent Action.goLeft = go_unspent _ _
  effect_unspent lent Action.goLast = go_unspent _ _
  effect_unspent lent (Action.insert d c l e) = insert_unspent _ _ _ c l e
  effect_unspent lent (Action.remove d) = need_unspent Any absent _ _ refl (need_unspent Any flow _ _ refl tt)
  effect_unspent lent (Action.write e) = need_unspent Any flow _ _ refl (given_unspent Any _ _ λ z. tt)
  effect_unspent lent (Action.raise l) = need_unspent Any flow _ _ refl tt

leave_unspent : (m : Memory) (r : Option Saved) → Unspent Any (leave m r)
unfolding leave restore stop_number
leave_unspent m none = tt
leave_unspent m (some r) = pick r.place
  where
    pick : (q : Option Place) → Unspent Any (restore m q r.level)
    pick none = refl
    pick (some p) = tt

module _ (lent : Buffers) (s : State) where
  -- "Each record carried out is one step."
  abbrev pub Counts : State → Type 0
  Counts s' = s'.steps ≡ suc s.steps

  onward_counts : (bs : List Block) (i : ℕ) (r : Result Memory) → Unspent Any r → Unspent Counts (onward s bs i r)
  unfolding onward stepped
  onward_counts bs i (next m) h = refl
  onward_counts bs i (stop k) h = h

  leave_counts : (j : ℕ) (bs : List Block) → Unspent Counts (leave_block s j bs)
  unfolding leave_block stepped
  leave_counts j [] = refl
  leave_counts j (b ∷ bs) = onward_counts bs j _ (leave_unspent s.memory b.saved)

  carried_counts : (j : ℕ) (c : Command) → Unspent Counts (carried s lent j c)
  unfolding carried stepped enter_if enter_while enter_back
  carried_counts j (act a) = onward_counts _ _ _ (effect_unspent (context s.blocks) s.memory lent a)
  carried_counts j (Command.if e) = given_unspent Counts _ _ λ z. refl
  carried_counts j (Command.while e) = given_unspent Counts _ _ λ z. refl
  carried_counts j (Command.ifBack e) = given_unspent Counts _ _ λ z. refl
  carried_counts j Command.else = refl
  carried_counts j Command.end = leave_counts j s.blocks

  pub step_counts : (cs : List Command) → Unspent Counts (step lent cs s)
  unfolding step
  step_counts cs = carried_counts _ (fetch cs s.at)

module _ (lent : Buffers) (cs : List Command) where
  pub next_counts : (s s' : State) → step lent cs s ≡ next s' → s'.steps ≡ suc s.steps
  next_counts s s' e = unspent_next (Counts lent s) _ s' e (step_counts lent s cs)

  -- a run with n steps left takes no more than these
  pub record Within (n : ℕ) (s t : State) : Type 0 where
    pub least : s.steps ≤ t.steps
    pub most : t.steps ≤ s.steps + n

  stays : (n : ℕ) (s : State) → Within n s s
  stays n s = record { least = omega arith; most = omega arith }

  within_zero : (s : State) → Test (more lent cs s) → Within zero s (run lent cs zero s).last
  within_zero s (holds e) = rw (run_spent lent cs s e) (stays zero s)
  within_zero s (fails e) = rw (run_over lent cs zero s e) (stays zero s)

  within_suc : (n : ℕ) (s : State) → ((s' : State) → Within n s' (run lent cs n s').last) → Test (more lent cs s)
      → Within (suc n) s (run lent cs (suc n) s).last
  within_suc n s r (fails e) = rw (run_over lent cs (suc n) s e) (stays (suc n) s)
  within_suc n s r (holds e) = pick (turn lent cs n s e)
    where
      after : (s' : State) → s'.steps ≡ suc s.steps → Within n s' (run lent cs n s').last → Within (suc n) s (run lent cs n s').last
      after s' k w = let a = w.least in let b = w.most in record { least = omega arith; most = omega arith }

      pick : Turn lent cs n s → Within (suc n) s (run lent cs (suc n) s).last
      pick (stops k q) = rw q (stays (suc n) s)
      pick (goes s' f q) = rw q (after s' (next_counts s s' f) (r s'))

  pub run_within : (n : ℕ) (s : State) → Within n s (run lent cs n s).last
  run_within zero s = within_zero s (test _)
  run_within (suc n) s = within_suc n s (run_within n) (test _)

  -- a run from s that has used up n steps and stands in t
  pub record Used (n : ℕ) (s t : State) : Type 0 where
    pub steps : t.steps ≡ s.steps + n
    pub resumes : (k : ℕ) → run lent cs (n + k) s ≡ run lent cs k t
    pub unfinished : more lent cs t ≡ true

  never_over : {X : Type 0} (s t : State) → record { ending = finished; last = s } ≡ halted spent t → X
  never_over s t e = let q = ap (λ x. x.ending) e in let z : true ≡ false = cc in clash refl z

  used_zero : (s t : State) → run lent cs zero s ≡ halted spent t → Test (more lent cs s) → Used zero s t
  used_zero s t h (fails e) = never_over s t (sym (run_over lent cs zero s e) ∙ h)
  used_zero s t h (holds e) =
      let q : s ≡ t = ap (λ x. x.last) (sym (run_spent lent cs s e) ∙ h) in
      record {
        steps = let p = ap (λ x. x.steps) q in omega arith;
        resumes = λ k. ap (λ n. run lent cs n s) (zero-add k) ∙ ap (run lent cs k) q;
        unfinished = subst (λ x. more lent cs x ≡ true) q e;
      }

  used_suc : (n : ℕ) → ((s t : State) → run lent cs n s ≡ halted spent t → Used n s t) → (s t : State) → run lent cs (suc n) s ≡ halted spent t
      → Test (more lent cs s) → Used (suc n) s t
  unfolding stop_number
  used_suc n r s t h (fails e) = never_over s t (sym (run_over lent cs (suc n) s e) ∙ h)
  used_suc n r s t h (holds e) = pick (step lent cs s) refl
    where
      after : (s' : State) → step lent cs s ≡ next s' → Used n s' t → Used (suc n) s t
      after s' q u =
          record {
            steps = let a = next_counts s s' q in let b = u.steps in omega (arith, a, b);
            resumes = λ k. ap (λ m. run lent cs m s) (suc-add n k) ∙ run_next lent cs (n + k) s s' e q ∙ u.resumes k;
            unfinished = u.unfinished;
          }

      pick : (x : Result State) → step lent cs s ≡ x → Used (suc n) s t
      pick (next s') q = after s' q (r s' t (sym (run_next lent cs n s s' e q) ∙ h))
      pick (stop k) q =
          let z : stopped k ≡ stopped spent = ap (λ x. x.ending) (sym (run_stop lent cs n s k e q) ∙ h) in
          let y : k ≡ spent = cc in
          clash refl (rw y at (unspent_stop (Counts lent s) _ k q (step_counts lent s cs)))

  pub used : (n : ℕ) (s t : State) → run lent cs n s ≡ halted spent t → Used n s t
  used zero s t h = used_zero s t h (test _)
  used (suc n) s t h = used_suc n (used n) s t h (test _)
