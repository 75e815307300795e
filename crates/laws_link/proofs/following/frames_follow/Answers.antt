-- Hand-written answers for `frames_follow`.
use Rattle.laws_link.proofs.Follows.{event-follows}
use Rattle.laws_link.proofs.following.frames_follow.Goals as goal

pub returns-clause-waiting : goal.returns-clause-waiting
returns-clause-waiting c = λ t e l. (event-follows t e l).leaves.waiting

pub returns-clause-lost : goal.returns-clause-lost
returns-clause-lost c = λ t e l. (event-follows t e l).leaves.lost_is
