-- For a run: the fields read at record i of the script spell command i. Assumes nothing.
use mathlib.Core.Path.{◌≡◌, sym, ap, ◌∙◌}
use mathlib.Core.List.{List}
use Prim.Native.Nat.{ℕ, ◌<◌}
use lib.ListN.{get_or}
use Rattle.rules.specs.Bytes.{script_at, record_count, record_place}
use Rattle.rules.specs.Script.{act, Action, fetch}
use Rattle.rules.specs.Job.{script, set_at, command_by, expression_of}
use Rattle.rules.proofs.Decode.{spelled}
use Rattle.fields.specs.declared.records.Fields.{Fields}
use Rattle.fields.specs.Fields.{fields_of, expression_from, commands_from, command_from}

-- what `fields_at` hands back
pub spells : (b : List ℕ) (i : ℕ) (r : Fields) → i < record_count b → r ≡ fields_of b (record_place (script_at b) i) → fetch (script b) i ≡ command_from r
unfolding command_from commands_from expression_from fields_of command_by set_at expression_of
spells b i r h e = spelled b i h ∙ sym (ap command_from e)

-- in the arm of a command's number
pub in_arm : (r : Fields) (k : ℕ) → r.command ≡ k → command_from r ≡ get_or (commands_from r) k (act Action.skip)
unfolding command_from
in_arm r k e = ap (λ (n : ℕ). get_or (commands_from r) n (act Action.skip)) e
