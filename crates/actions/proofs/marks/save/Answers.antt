-- What is kept, the place, the level and the count, each stored once; with sixteen blocks open nothing. Assumes nothing.
use borrow.Author.Tests.{lt-ltb, le-ltb}
use Rattle.table.specs.Since.{number}
use Rattle.actions.specs.Marks.{count_at, saving}
use Rattle.actions.proofs.marks.save.Goals as goal

pub returns-then-k-lt-MAX_DEPTH : goal.returns-then-k-lt-MAX_DEPTH
unfolding saving
returns-then-k-lt-MAX_DEPTH c = let e = c.from-k.ensures in
    rw (lt-ltb (number c.args.marks.now count_at) 16 (rw e at c.if-k-lt-MAX_DEPTH.true), e, c.from.ensures, c.keep.ensures)

pub returns-else-k-lt-MAX_DEPTH : goal.returns-else-k-lt-MAX_DEPTH
unfolding saving
returns-else-k-lt-MAX_DEPTH c = rw (le-ltb (number c.args.marks.now count_at) 16 (rw c.from-k.ensures at c.if-k-lt-MAX_DEPTH.false))
