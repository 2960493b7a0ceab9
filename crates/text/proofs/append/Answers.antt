-- `append` meets its contract: a full area stays, else what is left to be stored is what the rest of the text spells. Assumes nothing.
use Rattle.std.proofs.Common.{ap, ◌+◌, ◌++◌, drop, arith, rules, option_to_list}
use Rattle.text.specs.Hex.{digits, bytes_of, plain}
use Rattle.text.proofs.Spelling.{full, then, nothing_yet, instead, digits_past, digits_pass, bytes_end}
use Rattle.text.proofs.append.Goals as goal
use Rattle.text.proofs.append.Goals.{in-Some, in_default}

pub returns-then-n-bytes-clause-by_index : goal.returns-then-n-bytes-clause-by_index
returns-then-n-bytes-clause-by_index c = λ k. full c.if-n-bytes.true (plain c.args.text.now ++ k) k

pub loop-c-init : goal.loop-c-init
unfolding plain
loop-c-init c = (search rules, search rules, search rules, λ k. nothing_yet _ _ _)

pub loop-c-preserved : goal.loop-c-preserved
loop-c-preserved c =
    let t = c.args.text.now in
    let i = c.loop-c.c-index in
    elim c.match-digit.branch [
      | in-Some w ↦ rw (w.bytes-is, w.s-is) (
        search rules,
        search rules,
        search rules,
        λ k.
            let rest = digits (drop (i + 1) t) in
            let whole = digits_past t i c.loop-c-test.true w.in-Some.ensures.value in
            then (instead (ap (λ ds. bytes_of (option_to_list c.loop-c.s.high ++ ds) ++ k) whole) (c.loop-c.invariant.3 k)) (w.put-s.ensures.by_index rest k),
      )
      | in_default w ↦ rw (w.bytes-is, w.s-is) (
        search rules,
        search rules,
        search rules,
        λ k.
            let whole = digits_pass t i c.loop-c-test.true w.in_default.ensures.value in
            instead (ap (λ ds. bytes_of (option_to_list c.loop-c.s.high ++ ds) ++ k) whole) (c.loop-c.invariant.3 k),
      )
    ]

pub returns-clause-by_index : goal.returns-clause-by_index
returns-clause-by_index c = λ k. instead (ap (λ l. l ++ k) (bytes_end c.args.text.now c.loop-c.c-index (omega (arith, c.loop-c-test.false)) c.loop-c.s.high)) (c.loop-c.invariant.3 k)
