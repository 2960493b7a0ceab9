-- One word is one part of one cell. Assumes nothing.
use native.Mathlib.Omega.{arith}
use Rattle.table.proofs.Words.{put_word}
use Rattle.table.proofs.cells.store.Goals as goal

pub returns : goal.returns
returns c = let a = c.args in put_word a.words.now a.x (omega arith) a.j a.v c.requires.1
