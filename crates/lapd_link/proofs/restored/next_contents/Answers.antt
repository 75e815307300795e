-- Hand-written answers for `next_contents`.
use Rattle.std.proofs.Common.{arith}
use Rattle.lapd_image.proofs.Reading.{on_err}
use Rattle.lapd_link.proofs.ReadContents.{contents-cut, contents-long, contents-short, contents-whole}
use Rattle.lapd_link.proofs.restored.next_contents.Goals as goal

pub returns-in_err-count-clause-none : goal.returns-in_err-count-clause-none
returns-in_err-count-clause-none c = on_err c.from_residual.result (contents-short c.in_err-count.ensures.short)

pub returns-then-count-from-clause-none : goal.returns-then-count-from-clause-none
returns-then-count-from-clause-none c =
    contents-long _ c.ranges.most.fits c.in_ok-count.ensures.small c.in_ok-count.ensures.read (omega (arith, c.if-count-from.true, c.from.ensures))

pub returns-in_err-octets-clause-none : goal.returns-in_err-octets-clause-none
returns-in_err-octets-clause-none c =
    on_err c.from_residual-in_err-octets.result (contents-cut _ c.ranges.most.fits c.in_ok-count.ensures.small c.in_ok-count.ensures.read c.in_err-octets.ensures.short)

pub returns-clause-read : goal.returns-clause-read
returns-clause-read c =
    contents-whole c.in_ok-octets.octets.now c.in_ok-count.ensures.read c.in_ok-octets.ensures.read c.in_ok-octets.ensures.count
    (omega (arith, c.if-count-from.false, c.from.ensures)) c.in_ok-octets.ensures.range
