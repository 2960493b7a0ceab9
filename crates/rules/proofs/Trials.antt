-- The twelve trials, those of the if that comes back, of left sibling and last child and of sets of parties, from job bytes to outcome, by computation. Assumes nothing.
use mathlib.Core.Path.{◌≡◌, refl}
use mathlib.Core.List.{map}
use Rattle.rules.specs.Trials.{shown, trials, back_trials, move_trials, set_trials}
use Rattle.rules.proofs.Computed.{computed}

pub trials_hold : map (λ t. shown t.came) trials ≡ map (λ t. t.due) trials
unfolding computed
trials_hold = refl

pub back_trials_hold : map (λ t. shown t.came) back_trials ≡ map (λ t. t.due) back_trials
unfolding computed
back_trials_hold = refl

pub move_trials_hold : map (λ t. shown t.came) move_trials ≡ map (λ t. t.due) move_trials
unfolding computed
move_trials_hold = refl

pub set_trials_hold : map (λ t. shown t.came) set_trials ≡ map (λ t. t.due) set_trials
unfolding computed
set_trials_hold = refl
