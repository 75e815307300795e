-- Four lengths are written.
use Rattle.std.proofs.Common.{ap}
use Rattle.lapd_image.specs.Numbers.{number}
use Rattle.lapd_image.proofs.Puts.{puts-same, puts-then}
use Rattle.lapd_timed.proofs.saving.save_lengths.Goals as goal

pub returns : goal.returns
returns c =
    puts-then (puts-same (ap (number 4) c.of.ensures.is) c.put_number-at.ensures)
    (puts-then (puts-same (ap (number 4) c.of-2.ensures.is) c.put_number-at-2.ensures)
    (puts-then (puts-same (ap (number 4) c.of-3.ensures.is) c.put_number-at-3.ensures)
    (puts-same (ap (number 4) c.of-4.ensures.is) c.put_number.ensures)))
