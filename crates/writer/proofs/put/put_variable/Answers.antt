-- The eight bytes are the record's. Assumes nothing.
use Rattle.std.proofs.Common.{refl, ◌∙◌, ap, List, ◌∷◌, [], ℕ, get_or}
use Rattle.rules.specs.Bytes.{two}
use Rattle.rules.specs.Write.{four, variable}
use Rattle.writer.proofs.Area.{put_replaced, four_told}
use Rattle.writer.proofs.put.put_variable.Goals as goal

pub returns : goal.returns
unfolding variable four two
returns c =
    put_replaced c.args.area.now c.args.at 8 _ (variable c.args.level c.args.value)
    (c.copy_from_slice.ensures.after
    ∙ ap (λ (r : List ℕ). c.args.level ∷ 0 ∷ 0 ∷ 0 ∷ get_or r 0 0 ∷ get_or r 1 0 ∷ get_or r 2 0 ∷ get_or r 3 0 ∷ [])
    (four_told c.args.value c.ranges.value c.to_le_bytes.result c.to_le_bytes.ensures)) refl
