-- Hand-written answers for `falling_due_ends`.
use Rattle.laws_time.proofs.TimedCards.{falling-due-ends}
use Rattle.model_timed.specs.Frames.{frames}
use Rattle.model_timed.specs.Octets.{octets}
use Rattle.laws_time.proofs.falling.falling_due_ends.Goals as goal

pub returns-clause-frames : goal.returns-clause-frames
returns-clause-frames c = falling-due-ends frames

pub returns-clause-octets : goal.returns-clause-octets
returns-clause-octets c = falling-due-ends octets
