-- Hand-written answers for `flags_follow`.
use Rattle.laws_link.proofs.Follows.{event-follows}
use Rattle.laws_link.proofs.following.flags_follow.Goals as goal

pub returns-clause-peer_busy : goal.returns-clause-peer_busy
returns-clause-peer_busy c = λ t e l. (event-follows t e l).leaves.peer_busy

pub returns-clause-own_busy : goal.returns-clause-own_busy
returns-clause-own_busy c = λ t e l. (event-follows t e l).leaves.own_busy

pub returns-clause-rejecting : goal.returns-clause-rejecting
returns-clause-rejecting c = λ t e l. (event-follows t e l).leaves.rejecting

pub returns-clause-pending : goal.returns-clause-pending
returns-clause-pending c = λ t e l. (event-follows t e l).leaves.pending

pub returns-clause-asked : goal.returns-clause-asked
returns-clause-asked c = λ t e l. (event-follows t e l).leaves.asked

pub returns-clause-owed : goal.returns-clause-owed
returns-clause-owed c = λ t e l. (event-follows t e l).leaves.owed

pub returns-clause-repeats : goal.returns-clause-repeats
returns-clause-repeats c = λ t e l. (event-follows t e l).leaves.repeats
