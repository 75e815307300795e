-- Hand-written answers for `a_dead_line_is_told`.
use Rattle.laws_time.proofs.DeadLine.{a-dead-line-is-told}
use Rattle.laws_time.proofs.ArrivalsOfOctets.{a-dead-line-is-told-of-octets}
use Rattle.laws_time.proofs.laws.a_dead_line_is_told.Goals as goal

pub returns-clause-frames : goal.returns-clause-frames
returns-clause-frames c = a-dead-line-is-told

pub returns-clause-octets : goal.returns-clause-octets
returns-clause-octets c = a-dead-line-is-told-of-octets
