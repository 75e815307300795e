-- Hand-written answers for `Units::restore_one`.
use Rattle.lapd_line.proofs.Vocabulary.{arith}
use Rattle.lapd_line.proofs.RestoredUnits.{too_long}
use Rattle.lapd_line.proofs.units.Units.restore_one.Goals as goal

pub returns-then-contents-from-clause-none : goal.returns-then-contents-from-clause-none
returns-then-contents-from-clause-none g c = λ u rest saved room e.
    too_long c.in_ok-contents.contents.now c.contents.new.self u rest (omega (arith, c.ranges.n201.fits)) c.in_ok-receivers.ensures.read c.in_ok-contents.ensures.read c.in_ok-contents.ensures.small
    (omega (arith, c.if-contents-from.true, c.from.ensures)) saved e
