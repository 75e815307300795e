-- Hand-written answers for `cards_deliver`.
use Rattle.laws_wire.proofs.Delivering.{cards-deliver, cards-face_again, calls-face}
use Rattle.laws_wire.proofs.laws.cards_deliver.Goals as goal

pub returns-clause-cards : goal.returns-clause-cards
returns-clause-cards c = cards-deliver

pub returns-clause-again : goal.returns-clause-again
returns-clause-again c = cards-face_again

pub returns-clause-calls : goal.returns-clause-calls
returns-clause-calls c = calls-face
