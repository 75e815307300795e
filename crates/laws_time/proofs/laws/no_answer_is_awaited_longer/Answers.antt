-- Hand-written answers for `no_answer_is_awaited_longer`.
use Rattle.laws_time.proofs.ArrivalsAwaited.{no-answer-is-awaited-longer}
use Rattle.laws_time.proofs.ArrivalsOfOctets.{no-answer-is-awaited-longer-of-octets}
use Rattle.laws_time.proofs.laws.no_answer_is_awaited_longer.Goals as goal

pub returns-clause-frames : goal.returns-clause-frames
returns-clause-frames c = no-answer-is-awaited-longer

pub returns-clause-octets : goal.returns-clause-octets
returns-clause-octets c = no-answer-is-awaited-longer-of-octets
