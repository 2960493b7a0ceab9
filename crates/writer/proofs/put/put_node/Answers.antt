-- The twelve bytes are the record's. Assumes nothing.
use Rattle.std.proofs.Common.{refl, ◌∙◌, ◌∷◌, [], get_or}
use Rattle.rules.specs.Bytes.{two}
use Rattle.rules.specs.Write.{four, node, node_bytes}
use Rattle.lent.specs.Lent.{cell_of}
use Rattle.writer.specs.Area.{entry}
use Rattle.writer.proofs.Area.{put_replaced, four_told}
use Rattle.writer.proofs.put.put_node.Goals as goal

pub returns : goal.returns
unfolding node_bytes node four two
returns c = let d = c.args.d in
    put_replaced c.args.area.now c.args.at 12 _ (node_bytes (entry c.args.parent (cell_of d).label))
    (c.copy_from_slice.ensures.after
    ∙ (λ i. get_or (c.two.ensures i) 0 0 ∷ get_or (c.two.ensures i) 1 0 ∷ d.existence ∷ d.content ∷ d.structure ∷ 0 ∷ 0 ∷ 0
    ∷ get_or (four_told d.value (record { sfits = c.struct_told-1.given.1.1.1.1.1.1.0.1 }) c.to_le_bytes.result c.to_le_bytes.ensures i) 0 0
    ∷ get_or (four_told d.value (record { sfits = c.struct_told-1.given.1.1.1.1.1.1.0.1 }) c.to_le_bytes.result c.to_le_bytes.ensures i) 1 0
    ∷ get_or (four_told d.value (record { sfits = c.struct_told-1.given.1.1.1.1.1.1.0.1 }) c.to_le_bytes.result c.to_le_bytes.ensures i) 2 0
    ∷ get_or (four_told d.value (record { sfits = c.struct_told-1.given.1.1.1.1.1.1.0.1 }) c.to_le_bytes.result c.to_le_bytes.ensures i) 3 0 ∷ [])) refl
