-- `clean_all` meets its contract: behind each byte the job is cleaned as far as there. Assumes nothing.
use native.Mathlib.Omega.{arith}
use native.Mathlib.Numerals.{add-one}
use Rattle.rules.proofs.Cleaned.{partly_start, partly_done}
use Rattle.cleaner.proofs.Halfway.{halfway_laid, halfway_next}
use Rattle.cleaner.proofs.cleaning.clean_all.Goals as goal

pub loop-at-init : goal.loop-at-init
loop-at-init c = partly_start _

pub clean_at-requires : goal.clean_at-requires
clean_at-requires c = let e = c.loop-at.auto.job in
    (halfway_laid _ _ c.requires.0 c.requires.1 _ _ c.loop-at.invariant, omega (arith, c.loop-at-test.true, e))

pub loop-at-preserved : goal.loop-at-preserved
loop-at-preserved c = let e = c.loop-at.auto.job in
    rw add-one (halfway_next _ _ c.requires.0 c.requires.1 _ _ c.loop-at.invariant (omega (arith, c.loop-at-test.true, e)) c.clean_at.ensures)

pub returns : goal.returns
returns c = partly_done _ _ _ c.loop-at.invariant (omega (arith, c.loop-at-test.false))
