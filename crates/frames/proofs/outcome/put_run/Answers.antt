-- `put_run` meets its contract: the answer, and where the job was run what it left. Assumes nothing.
use Rattle.std.proofs.Common.{sym, ◌∙◌}
use mathlib.Core.Bool.{true≢false}
use Rattle.frames.proofs.Answering.{said, shown}
use Rattle.frames.proofs.outcome.put_run.Goals as goal

pub returns-then-not-was_run : goal.returns-then-not-was_run
returns-then-not-was_run c = record {
  refused = λ e. said c.of-a.ensures c.put_answer.ensures;
  run = λ e. absurd (true≢false (sym (c.was_run.ensures ∙ e) ∙ c.if-not-was_run.true));
}

pub returns : goal.returns
returns c = record {
  refused = λ e. absurd (true≢false (sym c.if-not-was_run.false ∙ (c.was_run.ensures ∙ e)));
  run = λ e used free x t p h.
      shown c.of-a.ensures _ _ _ t c.put_answer.ensures c.lines.ensures.same c.lines.ensures.listed c.put_variables.ensures (c.put_lent_tree.ensures used free x t p h);
}
