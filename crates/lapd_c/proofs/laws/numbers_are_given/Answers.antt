-- Hand-written answers for `numbers_are_given`.
use Rattle.lapd_c.proofs.Numbers.{numbers_are_given_by}
use Rattle.lapd_c.proofs.laws.numbers_are_given.Goals as goal

pub returns : goal.returns
returns c = numbers_are_given_by
