-- `record_ok` meets its contract: a command that is known has the row of its number. Assumes nothing.
use mathlib.Core.Path.{◌≡◌, refl, ap, ◌∙◌}
use mathlib.Core.Bool.{Bool, false}
use native.Mathlib.Omega.{arith}
use lib.ListN.{get_or, get_or-map}
use borrow.Author.Tests.{lt-ltb, le-ltb}
use Rattle.rules.specs.Limits.{command_count}
use Rattle.rules.specs.Script as Script
use Rattle.rules.specs.Script.{rows, row, row_of}
use Rattle.rules.specs.Check.{fields_rule, record_rule}
use Rattle.fields.specs.declared.rows.Row.{Row}
use Rattle.fields.specs.Fields.{known_rule, row_held}
use Rattle.fields.proofs.records.record_ok.Goals as goal

abbrev nothing : Script.Row
nothing = row false false false false false false

-- a row of the program, as one of the rules
abbrev read : Row → Script.Row
read r = row r.target r.mark r.expression r.readers r.fifth r.sixth

pub returns-then-command-commands : goal.returns-then-command-commands
unfolding known_rule record_rule row_held
returns-then-command-commands c =
    let a = c.args in
    let k = c.byte_at-command.result in
    let tested : Row → Bool = λ r. fields_rule a.job.now a.variables (read r) a.at in
    let h : get_or a.reads.now k (row_held nothing) ≡ row_held (row_of k) = rw c.requires.table (get_or-map row_held rows k nothing) in
    let e : c.fields_ok.result ≡ tested (get_or a.reads.now k (row_held nothing)) = c.fields_ok.ensures in
    let l = c.if-command-commands.true in
    rw (← c.byte_at-command.ensures.0, lt-ltb k a.commands l, lt-ltb k command_count (omega (arith, c.requires.known)))
    (e ∙ ap tested h)

pub returns-else-command-commands : goal.returns-else-command-commands
unfolding known_rule
returns-else-command-commands c =
    let a = c.args in
    let k = c.byte_at-command.result in
    rw (← c.byte_at-command.ensures.0, le-ltb k a.commands c.if-command-commands.false) refl
