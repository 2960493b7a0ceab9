-- `pool::turn` meets its contract: the front's place is ready for a turn, and what comes of it is what comes of the front of the rules' queue. Assumes nothing.
use mathlib.Core.Path.{refl, subst}
use native.Mathlib.Omega.{arith}
use Rattle.turns.specs.Turn.{TakesTurn}
use Rattle.turns.proofs.Housing.{ready, idle_turn, on_turn, out_turn}
use borrow.Author.Rules.{rules}
use Rattle.turns.proofs.pool.turn.Goals as goal

pub returns-then-q-eq0 : goal.returns-then-q-eq0
returns-then-q-eq0 c = idle_turn _ _ c.if-q-eq0.true

pub first-i-requires : goal.first-i-requires
first-i-requires c = c.requires.1.whole

pub bounds-p-i : goal.bounds-p-i
bounds-p-i c = let l = c.first-i.ensures.1 in let e = c.requires.1.eight in search (rules, l, e)

pub turn_at-turned-requires : goal.turn_at-turned-requires
turn_at-turned-requires c = let h = c.requires.1 in
    let l = c.first-i.ensures.1 in
    let n = c.if-q-eq0.false in
    (l, h.sized _ l, h.long, h.lines, ready _ _ _ _ c.requires (omega (arith, n)) c.first-i.ensures.0 refl)

pub passed-requires : goal.passed-requires
passed-requires c = let h = c.requires.1 in let n = c.if-q-eq0.false in (h.whole, omega (arith, n), h.eight, c.first-i.ensures.1)

pub left-requires : goal.left-requires
left-requires c = let h = c.requires.1 in
    let n = c.if-q-eq0.false in
    (h.whole, omega (arith, n), (ready _ _ _ _ c.requires (omega (arith, n)) c.first-i.ensures.0 refl).left)

pub returns-in-GoesOn : goal.returns-in-GoesOn
returns-in-GoesOn c = let n = c.if-q-eq0.false in
    on_turn _ _ _ _ _ _ _ _ _ _ _ _ _ _ _ (omega (arith, n)) c.first-i.ensures.0 refl c.first-i.ensures.1 _
    (subst (TakesTurn _ _ _ _ _ _ _) c.in-GoesOn.is c.turn_at-turned.ensures.0) c.turn_at-turned.ensures.1 c.passed.ensures

pub returns-in-Ends : goal.returns-in-Ends
returns-in-Ends c = let n = c.if-q-eq0.false in
    out_turn _ _ _ _ _ _ _ _ _ _ _ _ _ _ _ (omega (arith, n)) c.first-i.ensures.0 refl c.first-i.ensures.1 _
    (subst (TakesTurn _ _ _ _ _ _ _) c.in-Ends.is c.turn_at-turned.ensures.0) c.turn_at-turned.ensures.1 c.left.ensures
