-- The checks in their order; the marks tell how many nodes there are. Assumes nothing.
use mathlib.Core.Path.{refl, subst}
use native.Mathlib.Omega.{arith}
use Rattle.monitor.specs.Promises.{lent}
use Rattle.monitor.specs.Follow.{Storable}
use Rattle.writer.specs.Writes.{unstorable, crowded}
use Rattle.writer.proofs.Checked.{sound, short_over, whole, long_over}
use Rattle.writer.proofs.write.write_places.Goals as goal

pub returns-then-not-storable : goal.returns-then-not-storable
returns-then-not-storable c = unstorable (subst (Storable _ _ _) c.if-not-storable.true c.storable.ensures) refl refl

pub returns-then-places-gt-MAX_NODES : goal.returns-then-places-gt-MAX_NODES
returns-then-places-gt-MAX_NODES c = crowded (subst (Storable _ _ _) c.if-not-storable.false c.storable.ensures) c.if-places-gt-MAX_NODES.true refl refl

pub overflow_mul-end : goal.overflow_mul-end
overflow_mul-end c = omega (arith, (sound (subst (Storable _ _ _) c.if-not-storable.false c.storable.ensures)).few)

pub overflow_add-end : goal.overflow_add-end
overflow_add-end c = omega (arith, (sound (subst (Storable _ _ _) c.if-not-storable.false c.storable.ensures)).few, c.count-nodes.ensures.few, c.if-places-gt-MAX_NODES.false)

pub overflow_add-end-2 : goal.overflow_add-end-2
overflow_add-end-2 c = omega (arith, (sound (subst (Storable _ _ _) c.if-not-storable.false c.storable.ensures)).few, c.count-nodes.ensures.few, c.if-places-gt-MAX_NODES.false)

pub returns-then-area-end : goal.returns-then-area-end
returns-then-area-end c = let x = lent c.args.words.now c.args.levels.now c.args.values.now c.args.area.now in
    short_over c.args.places x c.if-places-gt-MAX_NODES.false (c.requires.0 c.if-places-gt-MAX_NODES.false)
    (subst (Storable _ _ _) c.if-not-storable.false c.storable.ensures) _ c.count-nodes.ensures c.if-area-end.true

pub put_job-requires : goal.put_job-requires
put_job-requires c = let x = lent c.args.words.now c.args.levels.now c.args.values.now c.args.area.now in
    whole c.args.places x c.if-places-gt-MAX_NODES.false (c.requires.0 c.if-places-gt-MAX_NODES.false)
    (subst (Storable _ _ _) c.if-not-storable.false c.storable.ensures) _ c.count-nodes.ensures _ refl c.if-area-end.false

pub returns : goal.returns
returns c = let x = lent c.args.words.now c.args.levels.now c.args.values.now c.args.area.now in
    long_over c.args.places x c.if-places-gt-MAX_NODES.false (c.requires.0 c.if-places-gt-MAX_NODES.false)
    (subst (Storable _ _ _) c.if-not-storable.false c.storable.ensures) _ c.count-nodes.ensures _ refl c.if-area-end.false
    c.put_job.ensures
