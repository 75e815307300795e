-- Hand-written answers for `counters_are_numbers`.
use Rattle.lapd_count.proofs.Numbers.{counters_are_numbers}
use Rattle.lapd_count.proofs.laws.counters_are_numbers.Goals as goal

pub returns : goal.returns
returns c = counters_are_numbers
