-- The low and the high byte of the low two. Assumes nothing.
use Rattle.std.proofs.Common.{◌≡◌, ◌∙◌, ◌%◌, ◌/◌, arith}
use Rattle.rules.specs.Bytes.{two}
use Rattle.writer.proofs.put.two.Goals as goal

pub returns : goal.returns
unfolding two
returns c = let x = c.args.x in
    let low : x % 65536 % 256 ≡ x % 256 = omega arith in
    let high : x % 65536 / 256 % 256 ≡ x / 256 % 256 = omega arith in
    c.to_le_bytes.ensures ∙ rw (low, high)
