-- Hand-written answers for `AnyCard::restore`.
use Rattle.lapd_card.proofs.KindsRestored.{octets_past, octets_restored}
use Rattle.lapd_card.proofs.kinds.AnyCard.restore.Goals as goal

pub invariant_of-result : goal.invariant_of-result
invariant_of-result c = octets_past c.in_ok-frames.ensures.config c.in_ok-frames.ensures.read c.in_ok-ports-in-Octets.ensures

pub returns-in_ok-ports-in-Octets-clause-read : goal.returns-in_ok-ports-in-Octets-clause-read
returns-in_ok-ports-in-Octets-clause-read c = octets_restored c.in-Octets.is c.in_ok-frames.ensures.config c.in_ok-frames.ensures.read c.in_ok-ports-in-Octets.ensures
