-- R-6: the statement that an if that comes back does come back where its guard raised the cursor level. Assumes nothing.
use Rattle.std.specs.Prelude.{◌≡◌, ℕ, suc, ◌<◌, List, length}
use Rattle.rules.specs.Script.{Expression, Command, fetch}
use Rattle.rules.specs.Check.{accepted, check_bytes}
use Rattle.rules.specs.Job.{script}
use Rattle.rules.specs.Run.{State, Buffers, absent, next, stop, step, run, start}
use Rattle.rules.specs.Outcome.{begin}
use Rattle.rules.specs.History.{Store, FollowOn, section_script, check_follow_on}

module _ (lent : Buffers) (cs : List Command) where
  -- step by step from s to a state, with more than d blocks open after each step
  pub data Within (d : ℕ) (s : State) : State → Type 0 where
    here : Within d s s
    on : {t u : State} → Within d s t → step lent cs t ≡ next u → d < length u.blocks → Within d s u

  -- a state u at the end of the block that was opened at s, which s' comes after: the block stayed open, and is innermost
  pub record AtEnd (s s' u : State) : Type 0 where
    pub way : Within (length s.blocks) s' u
    pub end : fetch cs u.at ≡ Command.end
    pub innermost : length u.blocks ≡ suc (length s.blocks)

-- 22 at its end "cannot happen where the guard raised the cursor level": in a run of cs from a start, at any state s of it, which a budget n fixes
unfoldable pub ComesBack : List Command → State → Type 0
ComesBack cs begin =
    (lent : Buffers) (n : ℕ) (s s' u : State) (e : Expression)
    → (run lent cs n begin).last ≡ s → fetch cs s.at ≡ Command.ifBack e → step lent cs s ≡ next s'
    → (s'.memory.level ≡ s.memory.level → ⊥) → AtEnd lent cs s s' u → step lent cs u ≡ stop absent → ⊥

-- in the runs of every accepted job and of every follow-on script that is not turned away
pub record Returns : Type 0 where
  pub jobs : (b : List ℕ) → check_bytes b ≡ accepted → ComesBack (script b) (begin b)
  pub scripts :
      (s : Store) (f : FollowOn) → check_follow_on s f ≡ accepted → ComesBack (section_script f.section) (start s.variables s.tree)
