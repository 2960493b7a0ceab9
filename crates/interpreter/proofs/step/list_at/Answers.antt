-- The fields read are the record's, and a byte is a set. Assumes nothing.
use mathlib.Core.Path.{◌≡◌, ap, ◌∙◌}
use Prim.Native.Nat.{◌%◌}
use native.Mathlib.Omega.{arith}
use Rattle.rules.specs.Script.{list_set}
use Rattle.interpreter.proofs.step.list_at.Goals as goal

pub list_set-requires : goal.list_set-requires
list_set-requires c = omega (arith, c.requires.1, ap (λ x. x.target) c.fields_at-f.ensures)

pub returns : goal.returns
returns c = let f = c.fields_at-f.result in
    let e : f.sixth ≡ f.sixth % 256 = omega arith in
    c.list_set.ensures ∙ ap (list_set f.target) e ∙ ap (λ x. list_set x.target (x.sixth % 256)) c.fields_at-f.ensures

pub fields_at-f-requires : goal.fields_at-f-requires
fields_at-f-requires c = c.requires.0
