-- Each arm asks what the checks of the script give, and gives what the rules' command does. Assumes nothing.
use mathlib.Core.Path.{refl, ap}
use Prim.Native.Nat.{ℕ}
use native.Mathlib.Omega.{arith}
use Rattle.rules.specs.Script.{rows, row_of}
use Rattle.actions.proofs.Doing.{passes_on}
use Rattle.interpreter.proofs.Commands.{timely, at_cursor, record_there, known_by, outside_by, plain_end, known_back, inner_back, goal_by, as_step, as_end, expressed, target_by, mark_by, insert_row, from_seven, from_twenty, skips, assigns, ifs, elses, whiles, ends, backs, comes_back, outputs, goes, goes_left, goes_last, inserts, removes, writes, raises}
use Rattle.interpreter.proofs.step.carry_out.Goals as goal

pub bounds-plan-at : goal.bounds-plan-at
bounds-plan-at c = let p = c.requires in
    omega (arith, p.0.long, p.1.0.within)

pub onward-requires : goal.onward-requires
onward-requires c = let p = c.requires in
    let i = known_by _ p.0 _ _ _ p.1.0 _ c.code-command.ensures (omega (arith, c.in-0.is)) in
    timely _ p.0 _ _ _ p.1.0 i.inside p.1.1

pub value_at-requires : goal.value_at-requires
unfolding rows
value_at-requires c = let p = c.requires in
    let i = known_by _ p.0 _ _ _ p.1.0 _ c.code-command.ensures (omega (arith, c.in-1.is)) in
    (record_there _ p.0 _ _ _ p.1.0 i.inside, expressed _ p.0 _ _ _ p.1.0 i.inside _ i.coded (ap (λ (n : ℕ). (row_of n).expression) c.in-1.is))

pub target-requires : goal.target-requires
target-requires c = let p = c.requires in
    let i = known_by _ p.0 _ _ _ p.1.0 _ c.code-command.ensures (omega (arith, c.in-1.is)) in
    record_there _ p.0 _ _ _ p.1.0 i.inside

pub assign-requires : goal.assign-requires
assign-requires c = let p = c.requires in
    let i = known_by _ p.0 _ _ _ p.1.0 _ c.code-command.ensures (omega (arith, c.in-1.is)) in
    let l = target_by _ p.0 _ _ _ p.1.0 i.inside _ i.coded c.in-1.is in
    (timely _ p.0 _ _ _ p.1.0 i.inside p.1.1, (omega (arith, l, c.target.ensures, p.1.0.levelled), omega (arith, l, c.target.ensures, p.1.0.valued)))

pub value_at-requires-in-2 : goal.value_at-requires-in-2
unfolding rows
value_at-requires-in-2 c = let p = c.requires in
    let i = known_by _ p.0 _ _ _ p.1.0 _ c.code-command.ensures (omega (arith, c.in-2.is)) in
    (record_there _ p.0 _ _ _ p.1.0 i.inside, expressed _ p.0 _ _ _ p.1.0 i.inside _ i.coded (ap (λ (n : ℕ). (row_of n).expression) c.in-2.is))

pub enter_if-requires : goal.enter_if-requires
enter_if-requires c = let p = c.requires in
    let i = known_by _ p.0 _ _ _ p.1.0 _ c.code-command.ensures (omega (arith, c.in-2.is)) in
    timely _ p.0 _ _ _ p.1.0 i.inside p.1.1

pub jump-requires : goal.jump-requires
jump-requires c = let p = c.requires in
    let i = known_by _ p.0 _ _ _ p.1.0 _ c.code-command.ensures (omega (arith, c.in-3.is)) in
    timely _ p.0 _ _ _ p.1.0 i.inside p.1.1

pub value_at-requires-in-4 : goal.value_at-requires-in-4
unfolding rows
value_at-requires-in-4 c = let p = c.requires in
    let i = known_by _ p.0 _ _ _ p.1.0 _ c.code-command.ensures (omega (arith, c.in-4.is)) in
    (record_there _ p.0 _ _ _ p.1.0 i.inside, expressed _ p.0 _ _ _ p.1.0 i.inside _ i.coded (ap (λ (n : ℕ). (row_of n).expression) c.in-4.is))

pub enter_while-requires : goal.enter_while-requires
enter_while-requires c = let p = c.requires in
    let i = known_by _ p.0 _ _ _ p.1.0 _ c.code-command.ensures (omega (arith, c.in-4.is)) in
    timely _ p.0 _ _ _ p.1.0 i.inside p.1.1

pub leave-requires : goal.leave-requires
leave-requires c = let p = c.requires in
    let i = known_by _ p.0 _ _ _ p.1.0 _ c.code-command.ensures (omega (arith, c.in-5.is)) in
    timely _ p.0 _ _ _ p.1.0 i.inside p.1.1

pub value_at-requires-in-6 : goal.value_at-requires-in-6
unfolding rows
value_at-requires-in-6 c = let p = c.requires in
    let i = known_by _ p.0 _ _ _ p.1.0 _ c.code-command.ensures (omega (arith, c.in-6.is)) in
    (record_there _ p.0 _ _ _ p.1.0 i.inside, expressed _ p.0 _ _ _ p.1.0 i.inside _ i.coded (ap (λ (n : ℕ). (row_of n).expression) c.in-6.is))

pub target-requires-in-6 : goal.target-requires-in-6
target-requires-in-6 c = let p = c.requires in
    let i = known_by _ p.0 _ _ _ p.1.0 _ c.code-command.ensures (omega (arith, c.in-6.is)) in
    record_there _ p.0 _ _ _ p.1.0 i.inside

pub output-requires : goal.output-requires
output-requires c = let p = c.requires in
    let i = known_by _ p.0 _ _ _ p.1.0 _ c.code-command.ensures (omega (arith, c.in-6.is)) in
    (timely _ p.0 _ _ _ p.1.0 i.inside p.1.1, p.1.0.room)

pub value_at-requires-in-15 : goal.value_at-requires-in-15
unfolding rows
value_at-requires-in-15 c = let p = c.requires in
    let i = known_by _ p.0 _ _ _ p.1.0 _ c.code-command.ensures (omega (arith, c.in-15.is)) in
    (record_there _ p.0 _ _ _ p.1.0 i.inside, expressed _ p.0 _ _ _ p.1.0 i.inside _ i.coded (ap (λ (n : ℕ). (row_of n).expression) c.in-15.is))

pub write-requires : goal.write-requires
write-requires c = let p = c.requires in
    let i = known_by _ p.0 _ _ _ p.1.0 _ c.code-command.ensures (omega (arith, c.in-15.is)) in
    (timely _ p.0 _ _ _ p.1.0 i.inside p.1.1, at_cursor _ p.0 _ _ _ p.1.0 i.inside)

pub cover_at-requires : goal.cover_at-requires
cover_at-requires c = let p = c.requires in
    let i = known_by _ p.0 _ _ _ p.1.0 _ c.code-command.ensures (omega (arith, c.in-16.is)) in
    record_there _ p.0 _ _ _ p.1.0 i.inside

pub raise-requires : goal.raise-requires
raise-requires c = let p = c.requires in
    let i = known_by _ p.0 _ _ _ p.1.0 _ c.code-command.ensures (omega (arith, c.in-16.is)) in
    (timely _ p.0 _ _ _ p.1.0 i.inside p.1.1, p.1.0.cursor)

pub value_at-requires-in-17 : goal.value_at-requires-in-17
unfolding rows
value_at-requires-in-17 c = let p = c.requires in
    let i = known_by _ p.0 _ _ _ p.1.0 _ c.code-command.ensures (omega (arith, c.in-17.is)) in
    (record_there _ p.0 _ _ _ p.1.0 i.inside, expressed _ p.0 _ _ _ p.1.0 i.inside _ i.coded (ap (λ (n : ℕ). (row_of n).expression) c.in-17.is))

pub enter_back-requires : goal.enter_back-requires
enter_back-requires c = let p = c.requires in
    let i = known_by _ p.0 _ _ _ p.1.0 _ c.code-command.ensures (omega (arith, c.in-17.is)) in
    (timely _ p.0 _ _ _ p.1.0 i.inside p.1.1, (p.1.0.marks, (p.1.0.cursor, p.1.0.few)))

pub go_left-requires : goal.go_left-requires
go_left-requires c = let p = c.requires in
    let i = known_by _ p.0 _ _ _ p.1.0 _ c.code-command.ensures (omega (arith, c.in-18.is)) in
    (timely _ p.0 _ _ _ p.1.0 i.inside p.1.1, at_cursor _ p.0 _ _ _ p.1.0 i.inside)

pub go_last-requires : goal.go_last-requires
go_last-requires c = let p = c.requires in
    let i = known_by _ p.0 _ _ _ p.1.0 _ c.code-command.ensures (omega (arith, c.in-19.is)) in
    (timely _ p.0 _ _ _ p.1.0 i.inside p.1.1, at_cursor _ p.0 _ _ _ p.1.0 i.inside)

pub come_back-requires : goal.come_back-requires
come_back-requires c = let p = c.requires in
    let i = known_back _ p.0 _ _ _ p.1.0 _ c.code-command.ensures c.in-254.is in
    (timely _ p.0 _ _ _ p.1.0 i.inside p.1.1, (p.1.0.marks, p.1.0.few))

pub go-requires : goal.go-requires
go-requires c = let p = c.requires in
    let i = known_by _ p.0 _ _ _ p.1.0 _ c.code-command.ensures (omega (arith, c.in-7-to-10.if-command-lt11-own.true)) in
    let m = c.in-7-to-10.in_default-own.rest in
    (timely _ p.0 _ _ _ p.1.0 i.inside p.1.1, (at_cursor _ p.0 _ _ _ p.1.0 i.inside, (from_seven _ m.0.0.0.0.0.0.0.0.0.0.0.0.1 m.0.0.0.0.0.0.0.0.0.0.0.1 m.0.0.0.0.0.0.0.0.0.0.1 m.0.0.0.0.0.0.0.0.0.1 m.0.0.0.0.0.0.0.0.1 m.0.0.0.0.0.0.0.1 m.0.0.0.0.0.0.1, omega (arith, c.in-7-to-10.if-command-lt11-own.true))))

pub value_at-requires-in-11-to-12 : goal.value_at-requires-in-11-to-12
value_at-requires-in-11-to-12 c = let p = c.requires in
    let i = known_by _ p.0 _ _ _ p.1.0 _ c.code-command.ensures (omega (arith, c.in-11-to-12.if-command-lt13-own.true)) in
    (record_there _ p.0 _ _ _ p.1.0 i.inside, expressed _ p.0 _ _ _ p.1.0 i.inside _ i.coded (insert_row _ c.in-11-to-12.if-command-lt11-own.false c.in-11-to-12.if-command-lt13-own.true).1)

pub content_at-requires : goal.content_at-requires
content_at-requires c = let p = c.requires in
    let i = known_by _ p.0 _ _ _ p.1.0 _ c.code-command.ensures (omega (arith, c.in-11-to-12.if-command-lt13-own.true)) in
    record_there _ p.0 _ _ _ p.1.0 i.inside

pub list_at-requires : goal.list_at-requires
list_at-requires c = let p = c.requires in
    let i = known_by _ p.0 _ _ _ p.1.0 _ c.code-command.ensures (omega (arith, c.in-11-to-12.if-command-lt13-own.true)) in (
      record_there _ p.0 _ _ _ p.1.0 i.inside,
      mark_by _ p.0 _ _ _ p.1.0 i.inside _ i.coded (insert_row _ c.in-11-to-12.if-command-lt11-own.false c.in-11-to-12.if-command-lt13-own.true).0,
    )

pub insert_on-requires : goal.insert_on-requires
insert_on-requires c = let p = c.requires in
    let i = known_by _ p.0 _ _ _ p.1.0 _ c.code-command.ensures (omega (arith, c.in-11-to-12.if-command-lt13-own.true)) in
    (timely _ p.0 _ _ _ p.1.0 i.inside p.1.1, at_cursor _ p.0 _ _ _ p.1.0 i.inside)

pub remove-requires : goal.remove-requires
remove-requires c = let p = c.requires in
    let i = known_by _ p.0 _ _ _ p.1.0 _ c.code-command.ensures (omega (arith, c.in-13-to-14.if-command-lt15-own.true)) in
    (timely _ p.0 _ _ _ p.1.0 i.inside p.1.1, (at_cursor _ p.0 _ _ _ p.1.0 i.inside, p.1.0.marks))

pub returns-in-0 : goal.returns-in-0
returns-in-0 c = let p = c.requires in
    let i = known_by _ p.0 _ _ _ p.1.0 _ c.code-command.ensures (omega (arith, c.in-0.is)) in
    as_step _ _ _ _ _ _ _ i.inside (skips _ p.0 _ _ _ p.1.0 i.inside _ i.coded _ refl _ _ _ c.top-pc.ensures (record { words = refl; levels = refl; values = refl; board = refl }) c.in-0.is
    (passes_on p.1.0.cursor c.onward.ensures (λ μ s. refl)))

pub returns-in-1 : goal.returns-in-1
returns-in-1 c = let p = c.requires in
    let i = known_by _ p.0 _ _ _ p.1.0 _ c.code-command.ensures (omega (arith, c.in-1.is)) in
    let k = i.coded in
    let l = target_by _ p.0 _ _ _ p.1.0 i.inside _ k c.in-1.is in
    as_step _ _ _ _ _ _ _ i.inside (assigns _ p.0 _ _ _ p.1.0 i.inside _ k _ refl _ _ _ c.top-pc.ensures (record { words = refl; levels = refl; values = c.values-1.given; board = refl }) _ c.target.ensures c.in-1.is
    (c.assign.ensures _ _ _ _ _ p.1.0.cursor (omega (arith, l, c.target.ensures)) p.1.0.valued c.value_at.ensures))

pub returns-in-2 : goal.returns-in-2
returns-in-2 c = let p = c.requires in
    let i = known_by _ p.0 _ _ _ p.1.0 _ c.code-command.ensures (omega (arith, c.in-2.is)) in
    as_step _ _ _ _ _ _ _ i.inside (ifs _ p.0 _ _ _ p.1.0 i.inside _ i.coded _ (goal_by _ p.0 _ _ _ p.1.0 _ c.code-command.ensures i.inside _ c.next.ensures) _ _ c.value_at-in-2.ensures c.in-2.is c.enter_if.ensures)

pub returns-in-3 : goal.returns-in-3
returns-in-3 c = let p = c.requires in
    let i = known_by _ p.0 _ _ _ p.1.0 _ c.code-command.ensures (omega (arith, c.in-3.is)) in
    as_step _ _ _ _ _ _ _ i.inside (elses _ p.0 _ _ _ p.1.0 i.inside _ i.coded _ (goal_by _ p.0 _ _ _ p.1.0 _ c.code-command.ensures i.inside _ c.next-in-3.ensures) _ c.in-3.is c.jump.ensures)

pub returns-in-4 : goal.returns-in-4
returns-in-4 c = let p = c.requires in
    let i = known_by _ p.0 _ _ _ p.1.0 _ c.code-command.ensures (omega (arith, c.in-4.is)) in
    as_step _ _ _ _ _ _ _ i.inside (whiles _ p.0 _ _ _ p.1.0 i.inside _ i.coded _ (goal_by _ p.0 _ _ _ p.1.0 _ c.code-command.ensures i.inside _ c.next-in-4.ensures) _ _ c.value_at-in-4.ensures c.in-4.is c.enter_while.ensures)

pub returns-in-5 : goal.returns-in-5
returns-in-5 c = let p = c.requires in
    let i = known_by _ p.0 _ _ _ p.1.0 _ c.code-command.ensures (omega (arith, c.in-5.is)) in
    as_step _ _ _ _ _ _ _ i.inside (ends _ p.0 _ _ _ p.1.0 i.inside _ i.coded _ (goal_by _ p.0 _ _ _ p.1.0 _ c.code-command.ensures i.inside _ c.next-in-5.ensures) _ c.in-5.is (plain_end _ p.0 _ _ _ p.1.0 _ c.code-command.ensures c.in-5.is) c.leave.ensures)

pub returns-in-6 : goal.returns-in-6
returns-in-6 c = let p = c.requires in
    let i = known_by _ p.0 _ _ _ p.1.0 _ c.code-command.ensures (omega (arith, c.in-6.is)) in
    as_step _ _ _ _ _ _ _ i.inside (outputs _ p.0 _ _ _ p.1.0 i.inside _ i.coded _ refl _ _ _ c.top-pc.ensures (record { words = refl; levels = refl; values = refl; board = c.lines-1.given }) _ (omega (arith, c.target-in-6.ensures, c.target-in-6.type_inv)) c.in-6.is
    (c.output.ensures _ _ _ _ _ _ p.1.0.cursor c.value_at-in-6.ensures))

pub returns-in-15 : goal.returns-in-15
returns-in-15 c = let p = c.requires in
    let i = known_by _ p.0 _ _ _ p.1.0 _ c.code-command.ensures (omega (arith, c.in-15.is)) in
    as_step _ _ _ _ _ _ _ i.inside (writes _ p.0 _ _ _ p.1.0 i.inside _ i.coded _ refl _ _ _ c.top-pc.ensures (record { words = c.words-1.given; levels = refl; values = refl; board = refl }) c.in-15.is
    (c.write.ensures _ _ _ _ _ c.value_at-in-15.ensures))

pub returns-in-16 : goal.returns-in-16
returns-in-16 c = let p = c.requires in
    let i = known_by _ p.0 _ _ _ p.1.0 _ c.code-command.ensures (omega (arith, c.in-16.is)) in
    as_step _ _ _ _ _ _ _ i.inside (raises _ p.0 _ _ _ p.1.0 i.inside _ i.coded _ refl _ _ _ c.top-pc.ensures (record { words = refl; levels = refl; values = refl; board = refl }) _ c.cover_at.ensures c.in-16.is (c.raise.ensures _ _ _ _ _))

pub returns-in-17 : goal.returns-in-17
returns-in-17 c = let p = c.requires in
    let i = known_by _ p.0 _ _ _ p.1.0 _ c.code-command.ensures (omega (arith, c.in-17.is)) in
    as_step _ _ _ _ _ _ _ i.inside (backs _ p.0 _ _ _ p.1.0 i.inside _ i.coded _ (goal_by _ p.0 _ _ _ p.1.0 _ c.code-command.ensures i.inside _ c.next-in-17.ensures) _ _
    c.value_at-in-17.ensures _ c.in-17.is c.enter_back.ensures)

pub returns-in-18 : goal.returns-in-18
returns-in-18 c = let p = c.requires in
    let i = known_by _ p.0 _ _ _ p.1.0 _ c.code-command.ensures (omega (arith, c.in-18.is)) in
    as_step _ _ _ _ _ _ _ i.inside (goes_left _ p.0 _ _ _ p.1.0 i.inside _ i.coded _ refl _ _ _ c.top-pc.ensures (record { words = refl; levels = refl; values = refl; board = refl }) c.in-18.is (c.go_left.ensures _ _ _ _))

pub returns-in-19 : goal.returns-in-19
returns-in-19 c = let p = c.requires in
    let i = known_by _ p.0 _ _ _ p.1.0 _ c.code-command.ensures (omega (arith, c.in-19.is)) in
    as_step _ _ _ _ _ _ _ i.inside (goes_last _ p.0 _ _ _ p.1.0 i.inside _ i.coded _ refl _ _ _ c.top-pc.ensures (record { words = refl; levels = refl; values = refl; board = refl }) c.in-19.is (c.go_last.ensures _ _ _ _))

pub returns-in-254 : goal.returns-in-254
returns-in-254 c = let p = c.requires in
    let i = known_back _ p.0 _ _ _ p.1.0 _ c.code-command.ensures c.in-254.is in
    as_step _ _ _ _ _ _ _ i.inside (comes_back _ p.0 _ _ _ p.1.0 i.inside _ i.coded _ (goal_by _ p.0 _ _ _ p.1.0 _ c.code-command.ensures i.inside _ c.next-in-254.ensures) _ _ refl
    (inner_back _ p.0 _ _ _ p.1.0 _ c.code-command.ensures c.in-254.is) c.come_back.ensures)

pub returns-in-7-to-10 : goal.returns-in-7-to-10
returns-in-7-to-10 c = let p = c.requires in
    let i = known_by _ p.0 _ _ _ p.1.0 _ c.code-command.ensures (omega (arith, c.in-7-to-10.if-command-lt11-own.true)) in
    let m = c.in-7-to-10.in_default-own.rest in
    as_step _ _ _ _ _ _ _ i.inside (goes _ p.0 _ _ _ p.1.0 i.inside _ i.coded _ refl _ _ _ c.top-pc.ensures (record { words = refl; levels = refl; values = refl; board = refl })
    (from_seven _ m.0.0.0.0.0.0.0.0.0.0.0.0.1 m.0.0.0.0.0.0.0.0.0.0.0.1 m.0.0.0.0.0.0.0.0.0.0.1 m.0.0.0.0.0.0.0.0.0.1 m.0.0.0.0.0.0.0.0.1 m.0.0.0.0.0.0.0.1 m.0.0.0.0.0.0.1) (omega (arith, c.in-7-to-10.if-command-lt11-own.true)) (c.go.ensures _ _ _ _))

pub returns-in-11-to-12 : goal.returns-in-11-to-12
returns-in-11-to-12 c = let p = c.requires in
    let i = known_by _ p.0 _ _ _ p.1.0 _ c.code-command.ensures (omega (arith, c.in-11-to-12.if-command-lt13-own.true)) in
    as_step _ _ _ _ _ _ _ i.inside (inserts _ p.0 _ _ _ p.1.0 i.inside _ i.coded _ refl _ _ _ c.top-pc.ensures (record { words = c.insert_on.auto.words; levels = refl; values = refl; board = refl }) _ _ _ c.content_at.ensures c.list_at.ensures
    c.side.ensures (c.insert_on.ensures _ _ _ _ _ c.value_at-in-11-to-12.ensures))

pub returns-in-13-to-14 : goal.returns-in-13-to-14
returns-in-13-to-14 c = let p = c.requires in
    let i = known_by _ p.0 _ _ _ p.1.0 _ c.code-command.ensures (omega (arith, c.in-13-to-14.if-command-lt15-own.true)) in
    as_step _ _ _ _ _ _ _ i.inside (removes _ p.0 _ _ _ p.1.0 i.inside _ i.coded _ refl _ _ _ c.top-pc.ensures (record { words = c.remove.auto.words; levels = refl; values = refl; board = refl }) _ _
    c.side-in-13-to-14.ensures c.remove.auto.marks (c.remove.ensures _ _ _ _))

pub returns-in_default : goal.returns-in_default
returns-in_default c = let p = c.requires in
    let m = c.in_default.in_default-own.rest in
    as_end _ _ _ _ _ (outside_by _ p.0 _ _ _ p.1.0 _ c.code-command.ensures (from_twenty _ c.in_default.if-command-lt15-own.false m.0.0.0.0.0.1 m.0.0.0.0.1 m.0.0.0.1 m.0.0.1 m.0.1) m.1) c.halt.ensures
