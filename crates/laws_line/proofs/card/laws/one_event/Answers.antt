-- Hand-written answers for `one_event`.
use Rattle.laws_line.proofs.OfCard.OneEvent.{one-all}
use Rattle.laws_line.proofs.card.laws.one_event.Goals as goal

pub returns : goal.returns
returns c = λ card events s all. one-all card events s all
