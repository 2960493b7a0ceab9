-- The cursor level is never below the existence of the working node: every command keeps that, a move by joining the new node's existence, and an if that
-- comes back by remembering a level that covers its node. Assumes nothing.
use mathlib.Core.List.{List}
use Rattle.rules.specs.Script.{Command}
use Rattle.rules.specs.Job.{script}
use Rattle.rules.specs.Run.{State}
use Rattle.rules.specs.Outcome.{begin}
use Rattle.rules.specs.History.{section_script}
use Rattle.rules.specs.Covered.{Covers, Covered, CursorCovers}
use Rattle.rules.proofs.Sound.{position_covers}
use Rattle.rules.proofs.Control.{Closed, Valid}
use Rattle.rules.proofs.Starts.{start_valid}
use Rattle.rules.proofs.Noninterference.{loads, begin_valid}
use Rattle.rules.proofs.Invariants.{run_valid}
use Rattle.rules.proofs.Stores.{holdable_kept, taken}

valid_covers : (cs : List Command) (s : State) → Valid cs s → Covers s
valid_covers cs s h = record { level = h.memory.covered; position = position_covers s.memory h.memory _ h.guards }

-- over all runs of a script from a valid start
from_start : (cs : List Command) → Closed cs → (begin : State) → Valid cs begin → Covered cs begin
unfolding Covered
from_start cs closed begin valid lent n = valid_covers cs _ (run_valid lent cs closed n begin valid)

pub cursor_covers : CursorCovers
cursor_covers =
    record {
      jobs = λ b ok. let l = loads b ok in from_start (script b) l.script (begin b) (begin_valid b l);
      scripts = λ s f ok.
          let w = taken s f ok in from_start (section_script f.section) w.script _ (start_valid _ _ (holdable_kept s w.store) _);
    }
