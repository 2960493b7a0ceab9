-- The four laws of a run: its budget is used up, its script is over, it goes on, it stops. Nothing else opens `run`. From them by induction on the
-- budget: a run with a larger budget goes on where one with a smaller budget was spent, and is the same otherwise; what every step keeps, a run
-- keeps; what every action keeps of the memory, a run keeps. Assumes nothing.
use mathlib.Core.Path.{◌≡◌, refl, sym, ◌∙◌, ap}
use Prim.Native.Nat.{ℕ, zero, suc, ◌+◌}
use native.Mathlib.Nat.{zero-add, suc-add}
use mathlib.Core.Bool.{Bool, true, false}
use mathlib.Core.List.{List, [], ◌∷◌}
use lib.ListN.{length}
use lib.Dec.{ltb}
use Rattle.rules.specs.Level.{Level}
use Rattle.rules.specs.Tree.{Place}
use Rattle.rules.specs.Script.{Action, Command, act, fetch}
use Rattle.rules.specs.Run.{Memory, Block, State, Buffers, Stop, spent, Result, next, stop, with_cursor, effect, stepped, raised, enter_if, enter_while, enter_back, leave_block, carried, finished, stopped, Ended, step, run}
use Rattle.rules.proofs.Tests.{Test, holds, fails, test}
use Rattle.rules.proofs.Results.{Good, good_given, good_next, good_onward, good_leave}

-- a run that a number ends, in a state
abbrev pub halted : Stop → State → Ended
halted k s = record { ending = stopped k; last = s }

module _ (lent : Buffers) (cs : List Command) where
  -- whether a record comes next
  abbrev pub more : State → Bool
  more s = ltb s.at (length cs)

  pub run_spent : (s : State) → more s ≡ true → run lent cs zero s ≡ halted spent s
  unfolding run
  run_spent s e = rw e

  pub run_over : (n : ℕ) (s : State) → more s ≡ false → run lent cs n s ≡ record { ending = finished; last = s }
  unfolding run
  run_over zero s e = rw e
  run_over (suc n) s e = rw (e, run)

  pub run_next : (n : ℕ) (s s' : State) → more s ≡ true → step lent cs s ≡ next s' → run lent cs (suc n) s ≡ run lent cs n s'
  unfolding run
  run_next n s s' e h = rw (e, run, h, run)

  pub run_stop : (n : ℕ) (s : State) (k : Stop) → more s ≡ true → step lent cs s ≡ stop k → run lent cs (suc n) s ≡ halted k s
  unfolding run
  run_stop n s k e h = rw (e, run, h, run)

  -- a record that comes next stops the run, or the run goes on
  pub data Turn (n : ℕ) (s : State) : Type 0 where
    stops : (k : Stop) → run lent cs (suc n) s ≡ halted k s → Turn n s
    goes : (s' : State) → step lent cs s ≡ next s' → run lent cs (suc n) s ≡ run lent cs n s' → Turn n s

  pub turn : (n : ℕ) (s : State) → more s ≡ true → Turn n s
  turn n s e = pick (step lent cs s) refl
    where
      pick : (r : Result State) → step lent cs s ≡ r → Turn n s
      pick (next s') h = goes s' h (run_next n s s' e h)
      pick (stop k) h = stops k (run_stop n s k e h)

  -- a run with k steps more
  pub data Longer (n k : ℕ) (s : State) : Type 0 where
    same : run lent cs (n + k) s ≡ run lent cs n s → Longer n k s
    further : (s' : State) → run lent cs n s ≡ halted spent s' → run lent cs (n + k) s ≡ run lent cs k s' → Longer n k s

  longer_zero : (k : ℕ) (s : State) → Test (more s) → Longer zero k s
  longer_zero k s (holds e) = further s (run_spent s e) (ap (λ m. run lent cs m s) (zero-add k))
  longer_zero k s (fails e) = same (run_over (zero + k) s e ∙ sym (run_over zero s e))

  longer_suc : (n k : ℕ) (s : State) → ((s' : State) → Longer n k s') → Test (more s) → Longer (suc n) k s
  longer_suc n k s r (fails e) = same (run_over (suc n + k) s e ∙ sym (run_over (suc n) s e))
  longer_suc n k s r (holds e) = pick (step lent cs s) refl
    where
      grown : run lent cs (suc n + k) s ≡ run lent cs (suc (n + k)) s
      grown = ap (λ m. run lent cs m s) (suc-add n k)

      after : (s' : State) → step lent cs s ≡ next s' → Longer n k s' → Longer (suc n) k s
      after s' h (same q) = same (grown ∙ run_next (n + k) s s' e h ∙ q ∙ sym (run_next n s s' e h))
      after s' h (further t p q) = further t (run_next n s s' e h ∙ p) (grown ∙ run_next (n + k) s s' e h ∙ q)

      pick : (x : Result State) → step lent cs s ≡ x → Longer (suc n) k s
      pick (next s') h = after s' h (r s')
      pick (stop x) h = same (grown ∙ run_stop (n + k) s x e h ∙ sym (run_stop n s x e h))

  pub longer : (n k : ℕ) (s : State) → Longer n k s
  longer zero k s = longer_zero k s (test _)
  longer (suc n) k s = longer_suc n k s (λ s'. longer n k s') (test _)

-- what every step keeps, a run keeps
module _ (lent : Buffers) (cs : List Command) (P : State → Type 0) (keep : (s : State) → more lent cs s ≡ true → P s → Good P (step lent cs s)) where
  keeps_zero : (s : State) → P s → Test (more lent cs s) → P (run lent cs zero s).last
  keeps_zero s h (holds e) = rw (run_spent lent cs s e) h
  keeps_zero s h (fails e) = rw (run_over lent cs zero s e) h

  keeps_suc : (n : ℕ) → ((s : State) → P s → P (run lent cs n s).last) → (s : State) → P s → Test (more lent cs s)
      → P (run lent cs (suc n) s).last
  keeps_suc n r s h (fails e) = rw (run_over lent cs (suc n) s e) h
  keeps_suc n r s h (holds e) = pick (turn lent cs n s e)
    where
      pick : Turn lent cs n s → P (run lent cs (suc n) s).last
      pick (stops k q) = rw q h
      pick (goes s' f q) = rw q (r s' (good_next P _ s' f (keep s e h)))

  pub run_keeps : (n : ℕ) (s : State) → P s → P (run lent cs n s).last
  run_keeps zero s h = keeps_zero s h (test _)
  run_keeps (suc n) s h = keeps_suc n (run_keeps n) s h (test _)

-- what every action keeps of the memory, wherever the cursor is, a run keeps
module _
    (lent : Buffers) (cs : List Command) (P : Memory → Type 0) (keep : (pc : Level) (m : Memory) (a : Action) → P m → Good P (effect lent pc m a))
    (anywhere : (m : Memory) (p : Place) (l : Level) → P m → P (with_cursor m p l))
  where
    On : State → Type 0
    On s = P s.memory

    end_keeps : (s : State) (j : ℕ) (bs : List Block) → P s.memory → Good On (leave_block s j bs)
    unfolding On leave_block stepped
    end_keeps s j [] h = h
    end_keeps s j (b ∷ bs) h =
        good_onward P On s bs j (λ m k. k) _ (good_leave P s.memory b.saved h (λ x e p f. anywhere s.memory p x.level h))

    carried_keeps : (s : State) (j : ℕ) (c : Command) → P s.memory → Good On (carried s lent j c)
    unfolding On carried enter_if enter_while enter_back raised stepped
    carried_keeps s j (act a) h = good_onward P On s _ _ (λ m k. k) _ (keep _ s.memory a h)
    carried_keeps s j (Command.if e) h = good_given On _ _ λ _. h
    carried_keeps s j (Command.while e) h = good_given On _ _ λ _. h
    carried_keeps s j (Command.ifBack e) h = good_given On _ _ λ _. anywhere s.memory _ _ h
    carried_keeps s j Command.else h = h
    carried_keeps s j Command.end h = end_keeps s j s.blocks h

    step_keeps : (s : State) → more lent cs s ≡ true → On s → Good On (step lent cs s)
    unfolding On step
    step_keeps s e h = carried_keeps s _ (fetch cs s.at) h

    pub memory_keeps : (n : ℕ) (s : State) → P s.memory → P (run lent cs n s).last.memory
    unfolding On
    memory_keeps n s h = run_keeps lent cs On step_keeps n s h
