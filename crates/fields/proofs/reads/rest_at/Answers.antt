-- `rest_at` meets its contract: of four bytes, divided by 256, three are left. Assumes nothing.
use native.Mathlib.Omega.{arith}
use Rattle.rules.specs.Bytes.{full}
use Rattle.fields.specs.Fields.{rest}
use Rattle.fields.proofs.reads.rest_at.Goals as goal

pub returns : goal.returns
unfolding rest full
returns c = omega (arith, c.full_at.ensures, c.type_inv.job c.args.at)
