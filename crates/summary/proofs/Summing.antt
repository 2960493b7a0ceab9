-- Of an accepted job: its summary has a number for each record of its nodes, and those records lie within its bytes; one line more. Assumes nothing.
use mathlib.Core.List.{List}
use mathlib.Core.Path.{◌≡◌, sym, ap, ◌∙◌, subst}
use native.Mathlib.Numerals.{add-one}
use native.Mathlib.Omega.{arith}
use Prim.Native.Nat.{ℕ, suc, ◌+◌, ◌≤◌, ◌<◌}
use lib.ListN.{length, get_or}
use Rattle.rules.specs.Limits.{node_size}
use Rattle.rules.specs.Level.{parties}
use Rattle.rules.specs.Bytes.{nodes_at, node_count, node_place}
use Rattle.rules.specs.Check.{accepted, check_bytes}
use Rattle.rules.specs.Job.{label_of}
use Rattle.rules.specs.Summary.{carried, summary, SummaryInOrder}
use Rattle.rules.proofs.Accepted.{right}
use Rattle.rules.proofs.Decode.{listed_length, listed_from_zero}
use Rattle.rules.proofs.Summary.{summary_in_order}
use Rattle.fields.specs.declared.sections.Layout.{Layout}
use Rattle.fields.specs.Layout.{layout_of}
use Rattle.job.proofs.Answers.{inside}
use Rattle.print.specs.Waiting.{push, Number}
use Rattle.summary.specs.Summed.{Summed, more}

pub node_sections : (b : List ℕ) (l : Layout) → l ≡ layout_of b → (l.tree ≡ nodes_at b) × (l.nodes ≡ node_count b)
unfolding layout_of
node_sections b l e = (ap (λ m. m.tree) e, ap (λ m. m.nodes) e)

module _ (b : List ℕ) (e : check_bytes b ≡ accepted) where
  pub within : (i : ℕ) → i < node_count b → node_place (nodes_at b) i + node_size ≤ length b
  unfolding layout_of
  within i h =
      let r = right b e in
      let s = inside b r.lengths r.offsets r.counts in
      omega (arith, s.nodes)

  pub summary_length : length (summary b) ≡ node_count b
  unfolding SummaryInOrder
  summary_length = ap length (summary_in_order b e) ∙ listed_length _ (node_count b) 0

  summary_at : (i : ℕ) → i < node_count b → get_or (summary b) i 0 ≡ parties (carried (label_of b (nodes_at b) i))
  unfolding SummaryInOrder
  summary_at i h = ap (λ (l : List ℕ). get_or l i 0) (summary_in_order b e) ∙ listed_from_zero _ 0 (node_count b) i h

  pub summed : (w u v x : List ℕ) (n k : ℕ) → n < node_count b → Summed (summary b) w n u → k ≡ parties (carried (label_of b (nodes_at b) n)) → Number k u v → x ≡ push v 10
      → Summed (summary b) w (n + 1) x
  summed w u v x n k few h is number ended =
      subst (λ (m : ℕ). Summed (summary b) w m x) (sym (add-one n))
      (subst (λ (l : List ℕ). Summed (summary b) w (suc n) l) (sym ended)
      (more h (subst (λ (m : ℕ). Number m u v) (is ∙ sym (summary_at n few)) number)))
