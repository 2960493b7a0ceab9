-- `check_bytes` meets its contract: the chain of checks, one link at a time. Assumes nothing.
use mathlib.Core.Path.{◌≡◌, refl, sym, ap, ◌∙◌, subst}
use mathlib.Core.Bool.{true}
use mathlib.Core.List.{List}
use Prim.Native.Nat.{ℕ}
use native.Mathlib.Omega.{arith}
use lib.ListN.{length}
use Rattle.rules.specs.Limits.{bad_length, bad_offsets, bad_count}
use Rattle.rules.specs.Bytes.{nodes_at, script_at, variable_count, node_count, record_count}
use Rattle.rules.specs.Check.{Checked, require, length_rule, offset_rule, count_rule, Edition, check_records, check_bytes_by}
use Rattle.rules.proofs.Checks.{turned, met, long_enough, sections}
use Rattle.fields.specs.declared.sections.Layout.{Layout}
use Rattle.fields.specs.Layout.{layout_of, Inside}
use Rattle.job.specs.Answer.{answer, edition_of}
use Rattle.job.proofs.Answers.{inside, plans_not, plans_along, told_along}
use borrow.Author.Rules.{rules}
use Rattle.job.proofs.checks.check_bytes.Goals as goal
use Rattle.job.proofs.checks.check_bytes.Goals.{After-counts_ok, Else-not-length_ok, Else-not-offsets_ok}

-- what each test that was passed says
lengths : (c : Else-not-length_ok) → length_rule (length c.args.job.now) ≡ true
lengths c = sym c.length_ok.ensures ∙ c.if-not-length_ok.false

offsets : (c : Else-not-offsets_ok) → offset_rule c.args.job.now ≡ true
offsets c = sym c.offsets_ok.ensures ∙ c.if-not-offsets_ok.false

counts : (c : After-counts_ok) → let b = c.args.job.now in
    count_rule (variable_count b) (node_count b) (record_count b) ≡ c.counts_ok.result
unfolding layout_of
counts c =
    sym (c.counts_ok.ensures ∙ ap (λ (l : Layout). count_rule l.variables l.nodes l.records) c.layout_of-l.ensures)

-- what is left of the chain from check 3 on
abbrev from3 : Edition → List ℕ → Checked
from3 rules b =
    require bad_count (count_rule (variable_count b) (node_count b) (record_count b))
    (check_records rules b (variable_count b) (nodes_at b) (node_count b) (script_at b) (record_count b))

past2 : (c : Else-not-offsets_ok) → let b = c.args.job.now in check_bytes_by (edition_of c.args.rules) b ≡ from3 (edition_of c.args.rules) b
unfolding check_bytes_by
past2 c = met bad_length _ ((sym c.length_ok.ensures ∙ c.if-not-length_ok.false)) ∙ met bad_offsets _ (offsets c)

pub returns-then-not-length_ok : goal.returns-then-not-length_ok
unfolding check_bytes_by answer
returns-then-not-length_ok c = let e = turned bad_length _ (sym c.length_ok.ensures ∙ c.if-not-length_ok.true) in
    record { answered = sym (ap (answer _) e); plans = plans_not _ _ _ _ _ bad_length _ (λ q. omega arith) e refl }

pub offsets_ok-requires : goal.offsets_ok-requires
offsets_ok-requires c = long_enough _ (lengths c)

pub returns-then-not-offsets_ok : goal.returns-then-not-offsets_ok
unfolding check_bytes_by answer
returns-then-not-offsets_ok c = let e = met bad_length _ (lengths (goal.at.returns-then-not-offsets_ok c).Else-not-length_ok) ∙ turned bad_offsets _ (sym c.offsets_ok.ensures ∙ c.if-not-offsets_ok.true) in
    record { answered = sym (ap (answer _) e); plans = plans_not _ _ _ _ _ bad_offsets _ (λ q. omega arith) e refl }

pub layout_of-l-requires : goal.layout_of-l-requires
layout_of-l-requires c = let s = sections _ (offsets c) in record { trailer = long_enough _ (lengths (goal.at.layout_of-l-requires c).Else-not-length_ok); nodes = s.ordered; script = s.ended }

pub returns-then-not-counts_ok : goal.returns-then-not-counts_ok
unfolding answer
returns-then-not-counts_ok c = let e = past2 (goal.at.returns-then-not-counts_ok c).Else-not-offsets_ok ∙ turned bad_count _ (counts (goal.at.returns-then-not-counts_ok c).After-counts_ok ∙ c.if-not-counts_ok.true) in
    record { answered = sym (ap (answer _) e); plans = plans_not _ _ _ _ _ bad_count _ (λ q. omega arith) e refl }

pub check_records-requires : goal.check_records-requires
check_records-requires c = let e = counts (goal.at.check_records-requires c).After-counts_ok ∙ c.if-not-counts_ok.false in
    (subst (Inside _) (sym c.layout_of-l.ensures) (inside _ (lengths (goal.at.check_records-requires c).Else-not-length_ok) (offsets (goal.at.check_records-requires c).Else-not-offsets_ok) e), c.requires)

pub returns : goal.returns
unfolding layout_of
returns c = let f = past2 (goal.at.returns c).Else-not-offsets_ok ∙ met bad_count _ (counts (goal.at.returns c).After-counts_ok ∙ c.if-not-counts_ok.false) in
    let g = told_along _ c.layout_of-l.ensures c.check_records.ensures in
    record { answered = g.answered ∙ sym (ap (answer _) f); plans = plans_along f g.plans }
