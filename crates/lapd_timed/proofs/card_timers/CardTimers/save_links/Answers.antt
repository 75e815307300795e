-- The moments of links are written, one after the other.
use Rattle.std.proofs.Common.{arith, ap}
use Rattle.lapd_image.proofs.Puts.{puts-none, puts-same}
use Rattle.lapd_timed.specs.MomentsImage.{link_moments, links_moments}
use Rattle.lapd_timed.proofs.Passing.{puts-number}
use Rattle.lapd_timed.proofs.card_timers.CardTimers.save_links.Goals as goal

pub loop-number-init : goal.loop-number-init
loop-number-init c = puts-none c.requires.within

pub loop-number-preserved : goal.loop-number-preserved
loop-number-preserved c =
    puts-number (link_moments c.args.self.now.terminals c.args.line c.args.self.now.moments) c.loop-number.number c.loop-number.invariant c.save_link-end.ensures

pub returns : goal.returns
returns c =
    puts-same (ap (links_moments c.args.self.now.terminals c.args.line c.args.self.now.moments) (omega (arith, c.loop-number-test.false, c.loop-number.auto.number-end))) c.loop-number.invariant
