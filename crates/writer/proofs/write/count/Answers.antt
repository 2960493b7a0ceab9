-- So many of the first places have a mark. Assumes nothing.
use Rattle.std.proofs.Common.{◌≡◌, ◌∙◌, take, rules, arith}
use Rattle.std.specs.List.{count_by}
use Rattle.writer.proofs.Tally.{is_mark, counted, tallied}
use Rattle.writer.proofs.write.count.Goals as goal

pub returns : goal.returns
returns c = let e : c.count.result ≡ count_by is_mark (take c.args.places c.args.marks.now) = search rules in
    counted c.args.places c.args.marks.now _ c.requires.0 (e ∙ tallied c.args.marks.now c.args.places (omega (arith, c.requires.0, c.requires.1)))
