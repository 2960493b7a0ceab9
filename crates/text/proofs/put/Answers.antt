-- `put` meets its contract: a byte that finds no room, or one that is stored. Assumes nothing.
use Rattle.std.proofs.Common.{◌∷◌, ◌++◌, ℕ, Option, ap, sym, option_to_list}
use Rattle.text.specs.Hex.{bytes_of}
use Rattle.text.proofs.Spelling.{instead_of, byte_lost, byte_stored}
use Rattle.text.proofs.put.Goals as goal

pub returns-then-count-bytes-clause-by_index : goal.returns-then-count-bytes-clause-by_index
returns-then-count-bytes-clause-by_index c = λ ds k. instead_of
    (ap (λ (o : Option ℕ). bytes_of (option_to_list o ++ (c.args.d ∷ ds)) ++ k) (sym c.in-Some.is))
    (byte_lost c.args.bytes.now c.args.s.count c.in-Some.high c.args.d ds k c.if-count-bytes.true)

pub returns-clause-by_index : goal.returns-clause-by_index
returns-clause-by_index c = λ ds k. instead_of
    (ap (λ (o : Option ℕ). bytes_of (option_to_list o ++ (c.args.d ∷ ds)) ++ k) (sym c.in-Some.is))
    (byte_stored c.args.bytes.now c.args.s.count c.in-Some.high c.args.d ds k)
