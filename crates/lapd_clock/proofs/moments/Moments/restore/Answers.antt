-- A moment that was read is not too late; or none was read.
use Rattle.lapd_image.proofs.Reading.{on_err}
use Rattle.lapd_clock.proofs.MomentRead.{none-late, none-short}
use Rattle.lapd_clock.proofs.moments.Moments.restore.Goals as goal

pub returns-in_err-moment-clause-none : goal.returns-in_err-moment-clause-none
returns-in_err-moment-clause-none c = on_err c.from_residual.result (none-short c.args.reader.now c.in_err-moment.ensures.short)

pub returns-then-moment-latest-clause-none : goal.returns-then-moment-latest-clause-none
returns-then-moment-latest-clause-none c = none-late _ _ c.in_ok-moment.moment c.requires.some_time c.in_ok-moment.ensures.small c.if-moment-latest.true c.in_ok-moment.ensures.read
