-- A first part of the records is lent to the run of a script or of a job, and then all are copied into the words. Assumes nothing.
use Rattle.std.proofs.Common.{◌≡◌, ◌∙◌, ap, sym, subst, not, replicate}
use lib.Dec.{T}
use Rattle.monitor.specs.Promises.{lent}
use Rattle.lent.specs.Lent.{blank, stored}
use Rattle.own.specs.Own.{own_places, own_records}
use Rattle.own.proofs.Owning.{as_follow, as_run, owned_of}
use Rattle.own.proofs.own.Goals as goal
use Rattle.own.proofs.own.Goals.{After-store, then-follows, else-follows}

-- the records at first
at_first : (c : After-store) → c.store.new.table ≡ own_records c.args.follows c.args.words.now
at_first c =
    c.store.ensures ∙ ap (λ d. stored c.args.words.now c.copied-first.result (replicate own_places d)) c.blank-record.ensures
    ∙ ap (λ k. stored c.args.words.now k (replicate own_places blank)) c.copied-first.ensures

pub returns : goal.returns
returns c =
    elim c.if-follows.branch [
      | then-follows w ↦
          rw (w.levels-is, w.values-is, w.lines-is, w.outcome-is)
          (owned_of c.args.places c.min-n.result c.min-n.ensures c.args.follows (lent _ _ _ _) c.store.new.table c.if-follows.own
          w.follow_job-outcome.new.table (at_first (goal.at.returns c).After-store) w.own-is w.follow_job-outcome.auto.table c.args.bytes.now c.args.budget (lent _ _ _ _) _
          (as_follow c.args.follows (subst T (sym w.if-follows.true) tt) w.follow_job-outcome.ensures) c.load.ensures.words)
      | else-follows w ↦
          rw (w.levels-is, w.values-is, w.lines-is, w.outcome-is)
          (owned_of c.args.places c.min-n.result c.min-n.ensures c.args.follows (lent _ _ _ _) c.store.new.table c.if-follows.own
          w.run_job-outcome.new.table (at_first (goal.at.returns c).After-store) w.own-is w.run_job-outcome.auto.table c.args.bytes.now c.args.budget (lent _ _ _ _) _
          (as_run c.args.follows (subst (λ y. T (not y)) (sym w.if-follows.false) tt) w.run_job-outcome.ensures) c.load.ensures.words)
    ]
