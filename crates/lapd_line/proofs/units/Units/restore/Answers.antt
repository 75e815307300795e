-- Hand-written answers for `Units::restore`.
use Rattle.lapd_line.proofs.Vocabulary.{arith, ◌∙◌}
use Rattle.lapd_image.proofs.Reading.{on_err}
use Rattle.lapd_line.proofs.RestoredUnits.{none_yet, one_more, no_more, all_read}
use Rattle.lapd_line.proofs.units.Units.restore.Goals as goal

pub loop-init : goal.loop-init
loop-init g c = none_yet c.requires.empty c.requires.used

pub restore_one-requires-clause-room : goal.restore_one-requires-clause-room
restore_one-requires-clause-room g c = omega (arith, c.loop.invariant.waiting, c.loop.invariant.capacity, c.loop-test.true, c.if-count-capacity.false, c.capacity.ensures)

pub restore_one-requires-clause-wide : goal.restore_one-requires-clause-wide
restore_one-requires-clause-wide g c = omega (arith, c.requires.wide, c.loop.invariant.limits.width)

pub restore_one-requires-clause-slots : goal.restore_one-requires-clause-slots
restore_one-requires-clause-slots g c = omega (arith, c.requires.slots, c.loop.invariant.limits.slots)

pub restore_one-requires-clause-used : goal.restore_one-requires-clause-used
restore_one-requires-clause-used g c = c.loop.invariant.within

pub returns-in_err-restore_one-clause-none : goal.returns-in_err-restore_one-clause-none
returns-in_err-restore_one-clause-none g c =
    on_err c.from_residual-in_err-restore_one.result
    (no_more (omega (arith, c.ranges.n201.fits)) c.in_ok-octet.ensures.read c.loop.invariant (omega (arith, c.loop-test.true, c.from-count.ensures)) c.in_err-restore_one.ensures.none)

pub returns-in_err-restore_one-clause-capacity : goal.returns-in_err-restore_one-clause-capacity
returns-in_err-restore_one-clause-capacity g c = c.restore_one.ensures.capacity ∙ c.loop.invariant.capacity

pub returns-in_err-restore_one-clause-limits : goal.returns-in_err-restore_one-clause-limits
returns-in_err-restore_one-clause-limits g c = record {
  slots = c.restore_one.ensures.limits.slots ∙ c.loop.invariant.limits.slots;
  width = c.restore_one.ensures.limits.width ∙ c.loop.invariant.limits.width;
}

pub loop-preserved : goal.loop-preserved
loop-preserved g c = one_more (omega (arith, c.ranges.n201.fits)) c.loop.invariant (omega (arith, c.loop-test.true, c.if-count-capacity.false, c.capacity.ensures)) c.in_ok-restore_one.ensures.read c.restore_one.ensures.capacity c.restore_one.ensures.limits c.restore_one.ensures.used

pub returns-clause-read : goal.returns-clause-read
returns-clause-read g c =
    all_read c.in_ok-octet.ensures.read c.loop.invariant (omega (arith, c.loop-test.false, c.loop.auto.counter-end, c.from-count.ensures))

pub returns-clause-capacity : goal.returns-clause-capacity
returns-clause-capacity g c = c.loop.invariant.capacity

pub returns-clause-limits : goal.returns-clause-limits
returns-clause-limits g c = c.loop.invariant.limits

pub returns-clause-used : goal.returns-clause-used
returns-clause-used g c = c.loop.invariant.within
