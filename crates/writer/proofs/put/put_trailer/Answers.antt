-- The eight bytes are the trailer's. Assumes nothing.
use Rattle.std.proofs.Common.{refl, ◌∙◌, ◌∷◌, [], get_or}
use Rattle.rules.specs.Bytes.{two}
use Rattle.rules.specs.Write.{trailer}
use Rattle.writer.proofs.Area.{put_replaced}
use Rattle.writer.proofs.put.put_trailer.Goals as goal

pub returns : goal.returns
unfolding trailer two
returns c =
    put_replaced c.args.area.now c.args.at 8 _ (trailer c.args.nodes c.args.at c.args.at)
    (c.copy_from_slice.ensures.after
    ∙ (λ i. 0 ∷ 0 ∷ get_or (c.two.ensures i) 0 0 ∷ get_or (c.two.ensures i) 1 0 ∷ get_or (c.two-2.ensures i) 0 0 ∷ get_or (c.two-2.ensures i) 1 0
    ∷ get_or (c.two-2.ensures i) 0 0 ∷ get_or (c.two-2.ensures i) 1 0 ∷ [])) refl
