-- The three parts of the job are stored one behind the other. Assumes nothing.
use mathlib.Core.Path.{sym, subst}
use Rattle.writer.specs.Nodes.{Listable}
use Rattle.writer.proofs.Stores.{whole_put}
use Rattle.writer.proofs.write.put_job.Goals as goal

pub put_nodes-requires : goal.put_nodes-requires
put_nodes-requires c = subst (Listable _ _ _ _) (sym c.area-1.given) c.requires.tree

pub returns : goal.returns
returns c = whole_put c.args.words.now c.args.places c.args.nodes c.args.levels.now c.args.values.now c.args.end c.args.area.now _ _ _ c.requires
    c.put_variables.ensures c.put_nodes.ensures c.put_trailer.ensures
