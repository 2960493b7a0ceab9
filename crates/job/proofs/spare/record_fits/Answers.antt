-- `record_fits` meets its contract: a command that is known has the row of its number, and what its target is below. Assumes nothing.
use mathlib.Core.Path.{◌≡◌, refl, ap, ◌∙◌}
use mathlib.Core.Bool.{false}
use mathlib.Core.List.{List, [], ◌∷◌, map}
use Prim.Native.Nat.{ℕ, zero, suc, ◌<◌}
use native.Mathlib.Omega.{arith}
use lib.ListN.{length, get_or}
use borrow.Author.Tests.{le-ltb}
use Rattle.rules.specs.Limits.{command_count}
use Rattle.rules.specs.Script.{Row, rows, row, row_of}
use Rattle.rules.specs.Check.{record_rule}
use Rattle.fields.specs.Fields.{row_held, row_used}
use Rattle.fields.specs.Fits.{target_limit, record_fits}
use Rattle.job.proofs.spare.record_fits.Goals as goal

abbrev nothing : Row
nothing = row false false false false false false

-- what is made of each row of the table, at a command
made : {B : Type 0} (f : Row → B) {xs : List B} (k : ℕ) (e : B) → xs ≡ map f rows → k < command_count → get_or xs k e ≡ f (row_of k)
unfolding rows
made f k e q h = ap (λ xs. get_or xs k e) q ∙ at rows k h
  where
    at : (l : List Row) (k : ℕ) → k < length l → get_or (map f l) k e ≡ f (get_or l k nothing)
    at [] k h = absurd (omega arith)
    at (x ∷ l) zero h = refl
    at (x ∷ l) (suc k) h = at l k (omega arith)

pub fields_fit-requires : goal.fields_fit-requires
unfolding row_held
fields_fit-requires c = let a = c.args in
    let q = c.requires in
    let k = c.byte_at-command.result in
    let e = c.byte_at-command.ensures.0 in
    let l = c.if-command-lt-COMMANDS.true in (
      q.inside,
      rw (← e) l,
      rw (← e) (made (row_used a.sets) k (row_held nothing) q.table l),
      rw (← e) (made (target_limit a.sets a.variables) k 0 q.below.0 l),
      q.below.1,
    )

pub returns-else-command-lt-COMMANDS : goal.returns-else-command-lt-COMMANDS
unfolding record_fits record_rule
returns-else-command-lt-COMMANDS c = rw (← c.byte_at-command.ensures.0, le-ltb _ command_count c.if-command-lt-COMMANDS.false)
