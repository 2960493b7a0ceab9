-- The five stores are those of the number's bytes, the lowest first, and of the readers. Assumes nothing.
use mathlib.Core.Path.{refl, sym, ap, ◌∙◌}
use Prim.Native.Nat.{ℕ, ◌*◌, ◌/◌, ◌%◌}
use mir.Syntax.{w32}
use mir.Val.{of_z}
use mir.Facts.{to_z-of_z}
use Rattle.rules.proofs.Number.{bits_of_z}
use Rattle.actions.specs.Board.{replaced}
use Rattle.actions.proofs.Board.{line_put}
use Rattle.actions.proofs.variables.put_line.Goals as goal

pub returns : goal.returns
unfolding replaced
returns c = let e = ap (of_z w32) (to_z-of_z c.ranges.v) ∙ sym (bits_of_z c.ranges.v) in
    rw c.to_le_bytes.ensures
    (line_put c.args.lines.now (5 * c.args.n) (record { number = c.args.v; readers = c.args.readers })
    (ap (λ (w : ℕ). w % 256) e) (ap (λ (w : ℕ). w / 256 % 256) e) (ap (λ (w : ℕ). w / 65536 % 256) e) (ap (λ (w : ℕ). w / 16777216 % 256) e) refl c.requires)
