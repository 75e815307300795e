-- Hand-written answers for `put_timer`.
use Rattle.std.proofs.Common.{◌∷◌, ap}
use Rattle.lapd_image.specs.Numbers.{number}
use Rattle.lapd_image.proofs.Puts.{puts-same, puts-then}
use Rattle.lapd_clock.proofs.clock.saved.put_timer.Goals as goal

pub returns : goal.returns
returns c =
    puts-same
    (ap (λ r. r.0 ∷ r.1 ∷ r.2 ∷ number 8 c.args.held.now.moment) c.ranks-which.ensures)
    (puts-then c.put_octet-end.ensures (puts-then c.put_octet-end-2.ensures (puts-then c.put_octet-end-3.ensures c.put_number.ensures)))
