-- The moments of lines are written, one after the other.
use Rattle.std.proofs.Common.{arith, ap}
use Rattle.lapd_image.proofs.Puts.{puts-none, puts-same}
use Rattle.lapd_timed.specs.MomentsImage.{all_moments, line_moments}
use Rattle.lapd_timed.proofs.Passing.{puts-number}
use Rattle.lapd_timed.proofs.card_timers.CardTimers.save_moments.Goals as goal

pub loop-line-init : goal.loop-line-init
loop-line-init c = puts-none c.requires

pub loop-line-preserved : goal.loop-line-preserved
loop-line-preserved c = puts-number (line_moments c.args.self.now.terminals c.args.self.now.moments) c.loop-line.line c.loop-line.invariant c.save_line-end.ensures

pub returns : goal.returns
returns c =
    puts-same (ap (λ count. all_moments count c.args.self.now.terminals c.args.self.now.moments) (omega (arith, c.loop-line-test.false, c.loop-line.auto.line-end))) c.loop-line.invariant
