-- `byte` meets its contract: it stores at the end of what waits, or at the start where the buffer is full. Assumes nothing.
use Rattle.std.proofs.Common.{◌≡◌, ◌∙◌, ap, sym, ◌<◌, length, arith}
use Rattle.print.specs.Waiting.{size, Output}
use Rattle.print.proofs.Pushing.{stored, waiting, emptied}
use Rattle.print.proofs.Padding.{many, longer}
use Rattle.print.proofs.Out.byte.Goals as goal
use Rattle.print.proofs.Out.byte.Goals.{then-self-eq-SIZE, else-self-eq-SIZE}

pub returns : goal.returns
returns c =
    let whole : size ≡ length c.self-2.inside.buf = sym c.self-2.told in
    let long : length c.args.self.now.waits ≡ c.self.inside.used =
    waiting _ _ _ (sym c.self.told) c.self.invariant.room (ap (λ (o : Output). o.waits) c.self.view_is) in
    elim c.if-self-eq-SIZE.branch [
      | then-self-eq-SIZE w ↦
          let v = c.self-2.view_is ∙ w.self-is in
          let none : length w.flush.new.self.waits ≡ 0 = ap length w.flush.ensures.1 in (
            ap (λ (o : Output). o.fd) v ∙ w.flush.ensures.0,
            stored _ _ _ _ whole c.self-2.invariant.room (ap (λ (o : Output). o.waits) v) (omega arith)
                ∙ emptied _ _ _ (omega (arith, w.if-self-eq-SIZE.true)) w.flush.ensures.1,
          )
      | else-self-eq-SIZE w ↦
          let v = c.self-2.view_is ∙ w.self-is in (
            ap (λ (o : Output). o.fd) v,
            stored _ _ _ _ whole c.self-2.invariant.room (ap (λ (o : Output). o.waits) v) (omega (arith, w.if-self-eq-SIZE.false, c.self.invariant.room)),
          )
    ]

pub invariant_of-self : goal.invariant_of-self
invariant_of-self c =
    let before : length c.args.self.now.waits ≡ c.self.inside.used = many c.self.invariant (ap (λ (o : Output). o.waits) c.self.view_is) in
    let room : c.self-2.inside.used < size =
    elim c.if-self-eq-SIZE.branch [
      | then-self-eq-SIZE w ↦ omega (arith, many c.self-2.invariant (ap (λ (o : Output). o.waits) (c.self-2.view_is ∙ w.self-is)), ap length w.flush.ensures.1)
      | else-self-eq-SIZE w ↦
          omega
          (arith, many c.self-2.invariant (ap (λ (o : Output). o.waits) (c.self-2.view_is ∙ w.self-is)), before, w.if-self-eq-SIZE.false, c.self.invariant.room)
    ] in
    longer c.self-2.invariant _ room
