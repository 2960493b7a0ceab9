-- `pool::arrive` meets its contract: turned back for want of a place or by its checks, or taken in at the first free place. Assumes nothing.
use mathlib.Core.Path.{refl, sym, subst}
use native.Mathlib.Omega.{arith}
use Rattle.monitor.specs.Starting.{AdmitsJob}
use Rattle.turns.specs.Pool.{Arrives}
use Rattle.turns.proofs.Housing.{full_arrive, back_arrive, job_short, has_room, long_any, join_arrive}
use Rattle.turns.proofs.pool.arrive.Goals as goal

pub returns-then-q-eq-MAX_RUNS : goal.returns-then-q-eq-MAX_RUNS
returns-then-q-eq-MAX_RUNS c = λ lines. subst (Arrives _ _ _ _) (sym c.refuse.ensures) (full_arrive _ _ _ c.if-q-eq-MAX_RUNS.true)

pub free-i-requires : goal.free-i-requires
free-i-requires c = let w = c.requires.0.whole in
    let f = w.few in
    let n = c.if-q-eq-MAX_RUNS.false in
    (w, omega (arith, f, n))

pub keep-requires : goal.keep-requires
keep-requires c = let l = c.requires.0.long in
    let a = subst (AdmitsJob _ _ _ _ _ _) c.in-Ok.is c.admit-admitted.ensures in
    (c.free-i.ensures.1, job_short _ _ _ _ _ _ a, l.jobs, l.plans)

pub fresh_at-running-requires : goal.fresh_at-running-requires
fresh_at-running-requires c = let l = c.requires.0.long in
    let i = c.free-i.ensures.1 in
    let a = subst (AdmitsJob _ _ _ _ _ _) c.in-Ok.is c.admit-admitted.ensures in
    (i, l.words, l.levels, l.values, l.marks, has_room _ _ _ _ _ _ a _ _ _ _ i l.levels l.words l.values)

pub joined-requires : goal.joined-requires
joined-requires c = let o = c.requires.0 in
    let w = o.whole in
    let f = w.few in
    let n = c.if-q-eq-MAX_RUNS.false in
    (w, omega (arith, f, n), o.eight, c.free-i.ensures.1)

pub returns-in-Err : goal.returns-in-Err
returns-in-Err c = λ lines.
    let w = c.requires.0.whole in
    let f = w.few in
    let n = c.if-q-eq-MAX_RUNS.false in
    subst (Arrives _ _ _ _) (sym c.refuse-in-Err.ensures)
    (back_arrive _ _ _ _ _ _ (omega (arith, f, n)) refl (subst (AdmitsJob _ _ _ _ _ _) c.in-Err.is c.admit-admitted.ensures))

pub returns-in-Ok : goal.returns-in-Ok
returns-in-Ok c = λ lines.
    let o = c.requires.0 in
    let w = o.whole in
    let f = w.few in
    let n = c.if-q-eq-MAX_RUNS.false in
    let i = c.free-i.ensures in
    let e = c.fresh_at-running.ensures in
    let d = c.joined.ensures in
    join_arrive _ _ _ _ _ _ _ _ _ _ _ _ _ _ _ _ _ _ _ lines _ _ _ _ _ w (omega (arith, f, n)) o.eight i.0 i.1 c.requires.1
    (subst (AdmitsJob _ _ _ _ _ _) c.in-Ok.is c.admit-admitted.ensures) c.keep.ensures.2 (long_any _ _ _ _ _ _ _ _ o.long) c.keep.ensures.0
    c.keep.ensures.1 e.0 e.1 e.2 e.3 e.4
    _ c.frame_of.ensures d

pub shape_of-jobs : goal.shape_of-jobs
shape_of-jobs c = c.jobs-1.given

pub shape_of-plans : goal.shape_of-plans
shape_of-plans c = c.plans-1.given

pub shape_of-levels : goal.shape_of-levels
shape_of-levels c = c.levels-1.given

pub shape_of-words : goal.shape_of-words
shape_of-words c = c.words-1.given

pub shape_of-values : goal.shape_of-values
shape_of-values c = c.values-1.given

pub shape_of-marks : goal.shape_of-marks
shape_of-marks c = c.marks-1.given
