-- The moments of a link are written.
use Rattle.std.proofs.Common.{arith, ap}
use Rattle.lapd_image.proofs.Puts.{puts-same, puts-then}
use Rattle.lapd_clock.specs.MomentImage.{moment_at}
use Rattle.lapd_timed.proofs.card_timers.CardTimers.save_link.Goals as goal

pub returns : goal.returns
returns c =
    puts-then (puts-same (ap (λ i. moment_at i c.args.self.now.moments) (omega (arith, c.slot.ensures))) c.save-at.ensures)
    (puts-same (ap (λ i. moment_at i c.args.self.now.moments) (omega (arith, c.slot-2.ensures))) c.save.ensures)
