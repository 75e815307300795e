-- The marks of lines are written, one after the other.
use Rattle.std.proofs.Common.{add-one, arith, ap, take}
use Rattle.std.specs.Prelude.{flat_map}
use Rattle.lapd_image.specs.Numbers.{number}
use Rattle.lapd_image.proofs.Puts.{puts-next, puts-none, puts-same}
use Rattle.lapd_timed.proofs.saved.save_waits.Goals as goal

pub loop-line-init : goal.loop-line-init
loop-line-init c = puts-none c.requires.within

pub loop-line-preserved : goal.loop-line-preserved
loop-line-preserved c = rw add-one (puts-next (number 2) c.args.waits.now c.loop-line.line 0 (omega (arith, c.loop-line-test.true, c.requires.lines, c.told-waits)) c.loop-line.invariant
    (puts-same (ap (number 2) c.from.ensures) c.put_number-end.ensures))

pub returns : goal.returns
returns c = puts-same (ap (λ count. flat_map (number 2) (take count c.args.waits.now)) (omega (arith, c.loop-line-test.false, c.loop-line.auto.line-end))) c.loop-line.invariant
