-- Hand-written answers for `ends_are_timed_cards`.
use Rattle.laws_time.proofs.OfCircuit.Ends.{ends-are-timed-cards}
use Rattle.laws_time.proofs.circuit.ends_are_timed_cards.Goals as goal

pub returns : goal.returns
returns c = ends-are-timed-cards
