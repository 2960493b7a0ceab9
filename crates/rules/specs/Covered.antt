-- R-9: "The cursor level is never below the existence of the working node", over all runs: so no command asks. Assumes nothing.
use Rattle.std.specs.Prelude.{◌≡◌, ℕ, true, List}
use Rattle.rules.specs.Level.{not_above}
use Rattle.rules.specs.Tree.{label}
use Rattle.rules.specs.Script.{Command}
use Rattle.rules.specs.Check.{accepted, check_bytes}
use Rattle.rules.specs.Job.{script}
use Rattle.rules.specs.Run.{State, Buffers, context, current, position, run, start}
use Rattle.rules.specs.Outcome.{begin}
use Rattle.rules.specs.History.{Store, FollowOn, section_script, check_follow_on}

-- the working node's existence is not above the cursor level, and so not above C, which a new node gets
pub record Covers (s : State) : Type 0 where
  pub level : not_above (label (current s.memory)).existence s.memory.level ≡ true
  pub position : not_above (label (current s.memory)).existence (position (context s.blocks) s.memory) ≡ true

-- in a run of cs from a start: in every state of it, which a budget n fixes
unfoldable pub Covered : List Command → State → Type 0
Covered cs begin = (lent : Buffers) (n : ℕ) → Covers (run lent cs n begin).last

-- in the runs of every accepted job and of every follow-on script that is not turned away, so in every history
pub record CursorCovers : Type 0 where
  pub jobs : (b : List ℕ) → check_bytes b ≡ accepted → Covered (script b) (begin b)
  pub scripts :
      (s : Store) (f : FollowOn) → check_follow_on s f ≡ accepted → Covered (section_script f.section) (start s.variables s.tree)
