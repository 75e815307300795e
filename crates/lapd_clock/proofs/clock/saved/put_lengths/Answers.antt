-- Hand-written answers for `put_lengths`.
use Rattle.std.proofs.Common.{◌++◌}
use Rattle.lapd_image.specs.Numbers.{number}
use Rattle.lapd_image.proofs.Puts.{puts-same, puts-then}
use Rattle.lapd_clock.proofs.clock.saved.put_lengths.Goals as goal

pub returns : goal.returns
returns c =
    puts-same
    (λ i. number 4 (c.of.ensures.is i) ++ (number 4 (c.of-2.ensures.is i) ++ (number 4 (c.of-3.ensures.is i) ++ number 4 (c.of-4.ensures.is i))))
    (puts-then c.put_number-end.ensures (puts-then c.put_number-end-2.ensures (puts-then c.put_number-end-3.ensures c.put_number.ensures)))
