-- Hand-written answers for `number_of`.
use Rattle.lapd_card.proofs.Configs.{two_octets}
use Rattle.lapd_card.proofs.saved.configs.number_of.Goals as goal

pub returns-clause-octets : goal.returns-clause-octets
returns-clause-octets c = two_octets c.from.ensures c.from-2.ensures c.ranges.low.fits c.ranges.high.fits
