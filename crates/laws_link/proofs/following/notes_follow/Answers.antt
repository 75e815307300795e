-- Hand-written answers for `notes_follow`.
use Rattle.laws_link.proofs.Follows.{event-follows}
use Rattle.laws_link.proofs.following.notes_follow.Goals as goal

pub returns : goal.returns
returns c = record { notes = λ t e l. (event-follows t e l).leaves.tells }
