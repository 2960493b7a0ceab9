-- `put_summary` meets its contract: the lines so far stand behind what waited. Assumes nothing.
use mathlib.Core.Path.{◌≡◌, sym, ap, ◌∙◌, subst}
use native.Mathlib.Omega.{arith}
use Prim.Native.Nat.{ℕ, ◌+◌, ◌≤◌, ◌<◌}
use lib.ListN.{length}
use Rattle.rules.specs.Limits.{node_size}
use Rattle.rules.specs.Level.{parties}
use Rattle.rules.specs.Bytes.{node_count, node_place}
use Rattle.rules.specs.Job.{label_of}
use Rattle.rules.specs.Summary.{carried, summary}
use Rattle.summary.specs.Summed.{Summed, none}
use Rattle.summary.proofs.Summing.{within, summary_length, summed}
use Rattle.summary.proofs.put_summary.Goals as goal

pub loop-i-init : goal.loop-i-init
loop-i-init c = none

pub parties_at-requires : goal.parties_at-requires
parties_at-requires c = let a = c.args in
    let p = c.requires in
    let few : c.loop-i.i < node_count a.job.now = omega (arith, c.loop-i-test.true, p.2) in
    subst (λ (n : ℕ). node_place n c.loop-i.i + node_size ≤ length a.job.now) (sym p.1) (within a.job.now p.0 c.loop-i.i few)

pub loop-i-preserved : goal.loop-i-preserved
loop-i-preserved c = let a = c.args in
    let p = c.requires in
    let few : c.loop-i.i < node_count a.job.now = omega (arith, c.loop-i-test.true, p.2) in
    summed a.job.now p.0 _ _ _ _ c.loop-i.i _ few c.loop-i.invariant
    (c.from.ensures ∙ c.parties_at.ensures ∙ ap (λ (n : ℕ). parties (carried (label_of a.job.now n c.loop-i.i))) p.1)
    c.number.ensures.number c.byte.ensures.1

pub returns : goal.returns
returns c = let a = c.args in
    let p = c.requires in
    let all : c.loop-i.i ≡ node_count a.job.now = omega (arith, c.loop-i-test.false, p.2) in
    subst (λ (n : ℕ). Summed (summary a.job.now) a.out.now.waits n c.loop-i.out.waits) (all ∙ sym (summary_length a.job.now p.0)) c.loop-i.invariant
