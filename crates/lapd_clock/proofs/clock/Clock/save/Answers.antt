-- Hand-written answers for `Clock::save`.
use Rattle.std.proofs.Common.{arith, ap, subst}
use Rattle.lapd_image.specs.Puts.{Puts}
use Rattle.lapd_image.proofs.Puts.{puts-then}
use Rattle.lapd_clock.specs.Image.{image, AreItsTimers}
use Rattle.lapd_clock.specs.Kept.{held_by_lines}
use Rattle.lapd_clock.specs.Places.{in_order}
use Rattle.lapd_clock.specs.Timers.{Timers}
use Rattle.lapd_clock.proofs.Images.{all-run, length-lists}
use Rattle.lapd_clock.proofs.clock.Clock.save.Goals as goal

pub returns : goal.returns
returns c =
    let lists = held_by_lines c.self.inside.places c.self.inside.lines c.self.inside.moments in
    let run = all-run c.self.inside.lines c.self.inside.places c.self.inside.moments c.self.invariant.count c.self.invariant.of_line (omega (arith, c.self.invariant.of_card.places_are)) in
    let whole = puts-then c.put_octets-end.ensures (puts-then c.put_octet-end.ensures (puts-then c.put_octet-end-2.ensures (puts-then c.put_lengths-end.ensures c.put_lines.ensures))) in (
      lists,
      subst (λ (t : Timers). AreItsTimers t lists) c.self.view_is (record { each = length-lists c.self.inside.places c.self.inside.lines c.self.inside.moments; running = ap in_order run }),
      subst (λ (t : Timers). Puts (image t lists) 0 c.args.out.now c.put_lines.result c.put_lines.new.out) c.self.view_is whole,
    )
