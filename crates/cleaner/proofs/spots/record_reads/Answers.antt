-- `record_reads` meets its contract: it is the definition. Assumes nothing.
use mathlib.Core.Path.{◌≡◌, refl, ◌∙◌, ap}
use mathlib.Core.Bool.{Bool, true, false, ◌||◌}
use Prim.Native.Nat.{ℕ}
use Rattle.rules.specs.Bytes.{byte}
use Rattle.rules.specs.Script.{row_of}
use Rattle.rules.specs.Check.{reads_target, record_reads, field_reads}
use Rattle.fields.specs.Fields.{row_held}
use Rattle.cleaner.proofs.spots.record_reads.Goals as goal

pub reads_right-right-requires : goal.reads_right-right-requires
reads_right-right-requires c = (c.requires, c.row_at-reads.ensures ∙ ap (λ (k : ℕ). row_held (row_of k)) c.byte_at.ensures.0)

or_none : (a : Bool) → (a || false) ≡ a
or_none true = refl
or_none false = refl

pub returns : goal.returns
unfolding record_reads reads_target field_reads row_held
returns c = let a = c.args in
    let r = row_of (byte a.job.now a.at) in
    rw (c.has_number-2.ensures, c.has_number.ensures, c.reads_right-right.ensures, c.row_at-reads.ensures, c.byte_at.ensures.0, or_none (r.target || r.mark))
