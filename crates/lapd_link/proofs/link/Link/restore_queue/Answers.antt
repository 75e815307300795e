-- Hand-written answers for `Link::restore_queue`.
use Rattle.std.proofs.Common.{arith}
use Rattle.lapd_image.proofs.Reading.{on_err}
use Rattle.lapd_link.proofs.ReadContents.{taken-more, taken-none, used-taken}
use Rattle.lapd_link.proofs.link.Link.restore_queue.Goals as goal

pub returns-in_err-octets-clause-none : goal.returns-in_err-octets-clause-none
returns-in_err-octets-clause-none g c =
    on_err c.from_residual-in_err-octets.result
    (taken-none (omega (arith, c.requires.n201)) c.loop.invariant c.in_ok-count.ensures.read c.loop-test.true c.in_err-octets.ensures.none)

pub returns-in_err-octets-clause-used : goal.returns-in_err-octets-clause-used
returns-in_err-octets-clause-used g c =
    omega (arith, (used-taken c.loop.invariant c.requires.empty.1).0, c.loop-test.true, c.if-from-saturating_sub.false, c.from.ensures, c.saturating_sub.ensures, c.used.ensures.count, c.requires.used)

pub keep-requires : goal.keep-requires
keep-requires g c =
    let used = used-taken c.loop.invariant c.requires.empty.1 in (
      omega (arith, c.in_ok-octets.ensures.read.saved.size, c.requires.width, c.loop.invariant.limits.width),
      omega (arith, used.1, c.loop-test.true, c.if-count-self.false, c.requires.capacity, c.loop.invariant.stays.capacity),
      omega (arith, used.0, c.loop-test.true, c.if-from-saturating_sub.false, c.from.ensures, c.saturating_sub.ensures, c.used.ensures.count, c.requires.used, c.requires.slots, c.loop.invariant.limits.slots),
    )

pub loop-preserved : goal.loop-preserved
loop-preserved g c =
    taken-more (omega (arith, c.requires.n201)) c.loop.invariant
    (omega (arith, c.loop-test.true, c.if-from-saturating_sub.false, c.from.ensures, c.saturating_sub.ensures, c.used.ensures.count))
    (omega (arith, c.loop-test.true, c.if-count-self.false)) c.in_ok-octets.ensures.read c.keep.ensures.kept c.keep.ensures.entity c.keep.ensures.stays c.keep.ensures.limits

pub returns-clause-used : goal.returns-clause-used
returns-clause-used g c =
    omega (arith, (used-taken c.loop.invariant c.requires.empty.1).0, c.loop.auto.counter-end, c.if-from-saturating_sub.false, c.from.ensures, c.saturating_sub.ensures, c.used.ensures.count, c.requires.used)
