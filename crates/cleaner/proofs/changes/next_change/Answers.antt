-- `next_change` meets its contract: the checks 1 and 2, then the next place that is dirty. Assumes nothing.
use mathlib.Core.Path.{◌≡◌, sym, ap, ◌∙◌}
use mathlib.Core.Bool.{true}
use Prim.Native.Nat.{ℕ, suc}
use Rattle.std.specs.Prelude.{Some}
use Rattle.rules.specs.Clean.{change_at}
use Rattle.cleaner.specs.Cleaner.{found}
use lib.ListN.{length}
use Rattle.rules.specs.Check.{length_rule, offset_rule}
use Rattle.rules.proofs.Checks.{long_enough, sections}
use Rattle.cleaner.proofs.Handed.{not_long, not_laid, is_found, is_end_law}
use Rattle.cleaner.proofs.changes.next_change.Goals as goal
use Rattle.cleaner.proofs.changes.next_change.Goals.{Else-not-length_ok, Else-not-offsets_ok}

-- what each test that was passed says
lengths : (c : Else-not-length_ok) → length_rule (length c.args.job.now) ≡ true
lengths c = sym c.length_ok.ensures ∙ c.if-not-length_ok.false

offsets : (c : Else-not-offsets_ok) → offset_rule c.args.job.now ≡ true
offsets c = sym c.offsets_ok.ensures ∙ c.if-not-offsets_ok.false

pub returns-then-not-length_ok : goal.returns-then-not-length_ok
returns-then-not-length_ok c = sym (not_long _ _ (sym c.length_ok.ensures ∙ c.if-not-length_ok.true))

pub offsets_ok-requires : goal.offsets_ok-requires
offsets_ok-requires c = long_enough _ (lengths c)

pub returns-then-not-offsets_ok : goal.returns-then-not-offsets_ok
returns-then-not-offsets_ok c = sym (not_laid _ _ (lengths (goal.at.returns-then-not-offsets_ok c).Else-not-length_ok) (sym c.offsets_ok.ensures ∙ c.if-not-offsets_ok.true))

pub layout_of-l-requires : goal.layout_of-l-requires
layout_of-l-requires c = let s = sections _ (offsets c) in record { trailer = long_enough _ (lengths (goal.at.layout_of-l-requires c).Else-not-length_ok); nodes = s.ordered; script = s.ended }

pub next_dirty-requires : goal.next_dirty-requires
next_dirty-requires c = record { layout = c.layout_of-l.ensures; lengths = lengths (goal.at.next_dirty-requires c).Else-not-length_ok; offsets = offsets (goal.at.next_dirty-requires c).Else-not-offsets_ok }

pub change_at-requires : goal.change_at-requires
change_at-requires c = (record { layout = c.layout_of-l.ensures; lengths = lengths (goal.at.change_at-requires c).Else-not-length_ok; offsets = offsets (goal.at.change_at-requires c).Else-not-offsets_ok }, c.in_ok-at.ensures.1)

pub returns-in_err-at : goal.returns-in_err-at
returns-in_err-at c = rw c.from_residual.ensures
    (sym (is_end_law _ (lengths (goal.at.returns-in_err-at c).Else-not-length_ok) (offsets (goal.at.returns-in_err-at c).Else-not-offsets_ok) _ c.in_err-at.ensures))

pub returns : goal.returns
returns c = let b = c.args.job.now in
    let e = c.in_ok-at.ensures in
    ap Some c.change_at.ensures ∙ ap (λ (k : ℕ). Some (found (change_at b k) (suc k))) e.0
    ∙ sym (is_found _ (lengths (goal.at.returns c).Else-not-length_ok) (offsets (goal.at.returns c).Else-not-offsets_ok) _ (rw e.0 at e.1))
