-- Hand-written answers for `number_of`.
use Rattle.std.proofs.Common.{arith}
use Rattle.lapd_image.proofs.Spelled.{none_read, one_more, fits_more}
use Rattle.lapd_image.proofs.reader.number_of.Goals as goal

pub loop-place-init : goal.loop-place-init
loop-place-init c = none_read c.args.octets.now

pub overflow_mul-n : goal.overflow_mul-n
overflow_mul-n c =
    omega (arith, fits_more c.args.octets.now c.loop-place.place c.loop-place.n c.loop-place-test.true c.loop-place.auto.place c.requires c.loop-place.invariant)

pub overflow_add-n : goal.overflow_add-n
overflow_add-n c =
    omega (arith, fits_more c.args.octets.now c.loop-place.place c.loop-place.n c.loop-place-test.true c.loop-place.auto.place c.requires c.loop-place.invariant)

pub loop-place-preserved : goal.loop-place-preserved
loop-place-preserved c =
    one_more c.args.octets.now c.loop-place.place _ c.loop-place.n c.from.result (omega arith) c.loop-place.auto.place (omega arith) c.from.ensures c.loop-place.invariant
