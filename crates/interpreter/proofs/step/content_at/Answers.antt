-- The fields read are the record's, and a byte is a set. Assumes nothing.
use mathlib.Core.Path.{◌≡◌, ap, ◌∙◌}
use Prim.Native.Nat.{◌%◌}
use native.Mathlib.Omega.{arith}
use Rattle.rules.specs.Script.{content_set}
use Rattle.interpreter.proofs.step.content_at.Goals as goal

pub returns : goal.returns
returns c = let f = c.fields_at-f.result in
    let e : f.fifth ≡ f.fifth % 256 = omega arith in
    c.content_set.ensures ∙ ap (content_set f.target) e ∙ ap (λ x. content_set x.target (x.fifth % 256)) c.fields_at-f.ensures
