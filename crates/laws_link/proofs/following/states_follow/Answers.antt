-- Hand-written answers for `states_follow`.
use Rattle.laws_link.proofs.Follows.{event-follows}
use Rattle.laws_link.proofs.following.states_follow.Goals as goal

pub returns-clause-state : goal.returns-clause-state
returns-clause-state c = λ t e l. (event-follows t e l).leaves.state

pub returns-clause-numbers : goal.returns-clause-numbers
returns-clause-numbers c = λ t e l. (event-follows t e l).numbers
