-- The field read is the record's, and a byte is a set. Assumes nothing.
use mathlib.Core.Path.{◌≡◌, ap, ◌∙◌}
use Prim.Native.Nat.{◌%◌}
use native.Mathlib.Omega.{arith}
use Rattle.rules.specs.Script.{cover_set}
use Rattle.interpreter.proofs.step.cover_at.Goals as goal

pub returns : goal.returns
returns c = let f = c.fields_at-f.result in
    let e : f.fifth ≡ f.fifth % 256 = omega arith in
    c.cover_set.ensures ∙ ap cover_set e ∙ ap (λ x. cover_set (x.fifth % 256)) c.fields_at-f.ensures
