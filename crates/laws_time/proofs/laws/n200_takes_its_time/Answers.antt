-- Hand-written answers for `n200_takes_its_time`.
use Rattle.laws_time.proofs.ArrivalsOfOctets.{n200-takes-its-time-of-octets}
use Rattle.laws_time.proofs.ArrivalsUsedUp.{n200-takes-its-time}
use Rattle.laws_time.proofs.laws.n200_takes_its_time.Goals as goal

pub returns-clause-frames : goal.returns-clause-frames
returns-clause-frames c = n200-takes-its-time

pub returns-clause-octets : goal.returns-clause-octets
returns-clause-octets c = n200-takes-its-time-of-octets
