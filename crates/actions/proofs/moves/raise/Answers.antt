-- It is a move to the cursor's own place, with its level joined. Assumes nothing.
use mathlib.Core.Path.{refl, sym, ap, ◌∙◌}
use Rattle.rules.specs.Level.{join}
use Rattle.actions.proofs.Moved.{acts_move}
use Rattle.actions.proofs.moves.raise.Goals as goal

pub returns : goal.returns
returns c = λ w l v b vars.
    acts_move _ c.requires.1 c.requires.1 c.move_to.ensures
    (λ μ h. record {
      p = μ.cursor;
      l = join μ.level c.args.set;
      tree = h.tree;
      same = sym (c.join.ensures ∙ ap (λ z. join z c.args.set) (c.level_of.ensures ∙ sym h.level));
      is = refl;
    })
