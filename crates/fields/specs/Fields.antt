-- Numbers of three and eight bytes; what a node's levels, the table's rows and a script record's fields stand for. Assumes nothing.
use Rattle.std.specs.Prelude.{ℕ, ◌+◌, ◌*◌, ◌%◌, List, Bool, ◌&&◌, ltb, get_or}
use Rattle.rules.specs.Bytes.{byte, full}
use Rattle.rules.specs.Script as Script
use Rattle.rules.specs.Check.{existence, content, structure, record_rule}
use Rattle.rules.specs.Job.{operand, expression}
use Rattle.fields.specs.declared.nodes.Levels.{Levels}
use Rattle.fields.specs.declared.rows.Row.{Row}
use Rattle.fields.specs.declared.records.Fields.{Fields}

-- the three bytes behind the one at a place, as a number
unfoldable pub rest : List ℕ → ℕ → ℕ
rest b at = byte b (at + 1) + byte b (at + 2) * 256 + byte b (at + 3) * 65536

-- eight bytes, as a number
unfoldable pub double : List ℕ → ℕ → ℕ
double b at = full b at + full b (at + 4) * 4294967296

-- the levels of node i, in the section that starts at base
unfoldable pub levels_of : List ℕ → ℕ → ℕ → Levels
levels_of b base i = record { existence = existence b base i; content = content b base i; structure = structure b base i }

-- check 7 of the record at a place, where there are so many commands
unfoldable pub known_rule : ℕ → List ℕ → ℕ → ℕ → Bool
known_rule commands b vars at = ltb (byte b at) commands && record_rule b vars at

-- a row of the rules as the program holds it
unfoldable pub row_held : Script.Row → Row
row_held r =
    record { target = r.target; mark = r.mark; expression = r.expression; readers = r.readers; fifth = r.fifth; sixth = r.sixth }

-- a row of the rules as the program uses it, where records hold sets or do not
unfoldable pub row_used : Bool → Script.Row → Row
row_used sets r =
    record {
      target = r.target;
      mark = r.mark;
      expression = r.expression;
      readers = sets && r.readers;
      fifth = sets && r.fifth;
      sixth = sets && r.sixth;
    }

-- the fields of the record at a place
unfoldable pub fields_of : List ℕ → ℕ → Fields
fields_of b at =
    record {
      command = byte b at;
      target = byte b (at + 1);
      operator = byte b (at + 2);
      leftkind = byte b (at + 3);
      rightkind = byte b (at + 4);
      fifth = byte b (at + 5);
      sixth = byte b (at + 6);
      left = full b (at + 8);
      right = full b (at + 12);
    }

-- the expression that fields spell
unfoldable pub expression_from : Fields → Script.Expression
expression_from r = expression r.operator (operand r.leftkind r.left) (operand r.rightkind r.right)

-- the commands that fields spell, by number; a set has eight parties
unfoldable pub commands_from : Fields → List Script.Command
commands_from r = Script.commands r.target (r.target % 256) (r.fifth % 256) (r.sixth % 256) (expression_from r)

-- the command that fields spell
unfoldable pub command_from : Fields → Script.Command
command_from r = get_or (commands_from r) r.command (Script.act Script.Action.skip)
