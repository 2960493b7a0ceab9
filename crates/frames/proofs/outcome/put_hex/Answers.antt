-- `put_hex` meets its contract: each turn puts one byte more. Assumes nothing.
use Rattle.std.proofs.Common.{ℕ, get_or, refl, subst, arith}
use Rattle.frames.specs.Pieces.{Writes, none, first}
use Rattle.frames.specs.Answers.{hex_byte, hex_bytes}
use Rattle.frames.proofs.Putting.{onward}
use Rattle.frames.proofs.outcome.put_hex.Goals as goal

pub loop-b-init : goal.loop-b-init
unfolding first
loop-b-init c = record { same = refl; puts = none }

pub loop-b-preserved : goal.loop-b-preserved
loop-b-preserved c = onward _ _ c.loop-b.invariant c.put_byte.ensures

pub returns : goal.returns
unfolding hex_bytes
returns c =
    subst (λ (k : ℕ). Writes (first (λ j. hex_byte (get_or c.args.bytes.now j 0)) k) c.args.out.now c.loop-b.out) (omega (arith, c.loop-b-test.false, c.loop-b.auto.b-index-end)) c.loop-b.invariant
